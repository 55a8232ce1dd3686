-- What a loop of stores leaves in an array: one store after the other, each at a place of its own.
-- The laws say what each place holds afterwards.
use Rattle.std.specs.Prelude.{◌≡◌, Bool, true, false, cond, List, [], ◌∷◌, ◌++◌, map, length, get_or, set, take, drop}
use Rattle.std.proofs.Math.Path.{refl, ap}
use Rattle.std.proofs.Common.{◌∙◌, eq-or-lt_of_le, length-append}
use Rattle.std.proofs.Math.Logic.{⊎_elim}
use Prim.Native.Nat.{ℕ, zero, suc, ◌+◌, ◌-◌, ◌<◌, ◌≤◌}
use Rattle.std.proofs.Math.Nat.{sub-zero}
use Rattle.std.proofs.Math.Numerals.{add-one}
use native.Mathlib.Omega.{arith}
use Rattle.std.proofs.Math.ListN.{length-set}
use Rattle.std.proofs.Math.Seq.{get_or-set_same, get_or-set_other, get_or-append_seam, set-append_seam, append_snoc}
use Rattle.std.proofs.lemmas.List.{set-get_or}

-- The stores number i, i + 1, .., k of them: store j puts (value j x) to the place (at j), where x stood there before.
unfoldable pub stores_from : {A : Type 0} → A → (ℕ → ℕ) → (ℕ → A → A) → List A → ℕ → ℕ → List A
stores_from none at value l i zero = l
stores_from none at value l i (suc k) = stores_from none at value (set l (at i) (value i (get_or l (at i) none))) (suc i) k

-- The stores number from up to to.
abbrev pub stores : {A : Type 0} → A → (ℕ → ℕ) → (ℕ → A → A) → List A → ℕ → ℕ → List A
stores none at value l from to = stores_from none at value l from (to - from)

module _ {A : Type 0} (none : A) (at : ℕ → ℕ) (value : ℕ → A → A) where
  -- ---- One store, and none.

  count-step : (i to : ℕ) → i < to → to - i ≡ suc (to - (i + 1))
  count-step i to h = omega arith

  -- The store at hand, then the others.
  pub stores-step : (l : List A) (i to : ℕ) → i < to
      → stores none at value l i to ≡ stores none at value (set l (at i) (value i (get_or l (at i) none))) (i + 1) to
  unfolding stores_from
  stores-step l i to h = rw (count-step i to h, add-one i)

  -- A store of what stands there already changes nothing.
  pub stores-skip : (l : List A) (i to : ℕ) → i < to → value i (get_or l (at i) none) ≡ get_or l (at i) none
      → stores none at value l i to ≡ stores none at value l (i + 1) to
  stores-skip l i to h e = stores-step l i to h ∙ ap (λ (m : List A). stores none at value m (i + 1) to) (ap (set l (at i)) e ∙ set-get_or l (at i) none)

  -- No store left.
  pub stores-end : (l : List A) (i to : ℕ) → to ≤ i → stores none at value l i to ≡ l
  unfolding stores_from
  stores-end l i to h = let e : to - i ≡ 0 = omega arith in rw e

  -- The array keeps its length.
  pub stores-length : (l : List A) (i k : ℕ) → length (stores_from none at value l i k) ≡ length l
  unfolding stores_from
  stores-length l i zero = refl
  stores-length l i (suc k) = stores-length (set l (at i) (value i (get_or l (at i) none))) (suc i) k ∙ length-set l (at i) (value i (get_or l (at i) none))

  -- ---- What stands where.

  -- A place that no store has keeps what it holds.
  pub kept : (l : List A) (i k place : ℕ) → ((j : ℕ) → i ≤ j → j < i + k → place ≡ at j → ⊥) → get_or (stores_from none at value l i k) place none ≡ get_or l place none
  unfolding stores_from
  kept l i zero place other = refl
  kept l i (suc k) place other =
      kept (set l (at i) (value i (get_or l (at i) none))) (suc i) k place (λ j h m e. other j (omega arith) (omega arith) e)
      ∙ get_or-set_other l (at i) place (value i (get_or l (at i) none)) none (other i (omega arith) (omega arith))

  -- Where each store has a place of its own, that place holds its value.
  module _ (apart : (i j : ℕ) → at i ≡ at j → i ≡ j) where
    pub stored : (l : List A) (i k j : ℕ) → i ≤ j → j < i + k → at j < length l → get_or (stores_from none at value l i k) (at j) none ≡ value j (get_or l (at j) none)
    unfolding stores_from
    stored l i zero j h m within = absurd (omega arith)
    stored l i (suc k) j h m within = ⊎_elim
        (λ (e : i ≡ j). rw (← e)
        (kept (set l (at i) (value i (get_or l (at i) none))) (suc i) k (at i) (λ o p q f. absurd (omega (arith, apart i o f)))
        ∙ get_or-set_same l (at i) (value i (get_or l (at i) none)) none (rw e within)))
        (λ (n : i < j).
        stored (set l (at i) (value i (get_or l (at i) none))) (suc i) k j n (omega arith) (rw (length-set l (at i) (value i (get_or l (at i) none))) within)
        ∙ ap (value j) (get_or-set_other l (at i) (at j) (value i (get_or l (at i) none)) none (λ f. omega (arith, apart j i f))))
        (eq-or-lt_of_le h)

-- ---- What holds of every place.

set_all : {A : Type 0} (P : A → Type 0) (l : List A) (place : ℕ) (a : A) (k : ℕ) (none : A) → P a → P (get_or l k none) → P (get_or (set l place a) k none)
set_all P [] place a k none new old = old
set_all P (x ∷ l) zero a zero none new old = new
set_all P (x ∷ l) zero a (suc k) none new old = old
set_all P (x ∷ l) (suc place) a zero none new old = old
set_all P (x ∷ l) (suc place) a (suc k) none new old = set_all P l place a k none new old

-- What every place has, and every store keeps, every place has afterwards.
pub stores-all : {A : Type 0} (P : A → Type 0) (none : A) (at : ℕ → ℕ) (value : ℕ → A → A) (l : List A) (i k : ℕ)
    → ((j : ℕ) (x : A) → i ≤ j → j < i + k → P x → P (value j x)) → ((place : ℕ) → P (get_or l place none)) → (place : ℕ)
    → P (get_or (stores_from none at value l i k) place none)
unfolding stores_from
stores-all P none at value l i zero keeps each place = each place
stores-all P none at value l i (suc k) keeps each place =
    stores-all P none at value (set l (at i) (value i (get_or l (at i) none))) (suc i) k (λ j x h m p. keeps j x (omega arith) (omega arith) p)
    (λ q. set_all P l (at i) (value i (get_or l (at i) none)) q none (keeps i (get_or l (at i) none) (omega arith) (omega arith) (each (at i))) (each q)) place

-- ---- Each element changed where it stands.

stores-behind : {A : Type 0} (none : A) (f : A → A) (before l : List A) (k : ℕ) → k ≤ length l
    → stores_from none (λ i. i) (λ i x. f x) (before ++ l) (length before) k ≡ before ++ (map f (take k l) ++ drop k l)
unfolding stores_from
stores-behind none f before l zero h = refl
stores-behind none f before [] (suc k) h = absurd (omega arith)
stores-behind none f before (x ∷ l) (suc k) h =
    let one-more : suc (length before) ≡ length (before ++ (f x ∷ [])) = omega (arith, length-append before (f x ∷ [])) in
    rw (get_or-append_seam before x l none, set-append_seam before x l (f x), ← append_snoc before (f x) l, one-more)
    (stores-behind none f (before ++ (f x ∷ [])) l k (omega arith) ∙ append_snoc before (f x) (map f (take k l) ++ drop k l))

-- So many elements from the front, each by the same function.
pub stores-map : {A : Type 0} (none : A) (f : A → A) (l : List A) (k : ℕ) → k ≤ length l → stores none (λ i. i) (λ i x. f x) l 0 k ≡ map f (take k l) ++ drop k l
stores-map none f l k h = rw (sub-zero k) (stores-behind none f [] l k h)

-- ---- Stores where a test fails.

module _ {A : Type 0} (none : A) (at : ℕ → ℕ) (test : ℕ → Bool) (value : ℕ → A) (l : List A) (i to : ℕ) (h : i < to) where
  -- Where the test passes, nothing is stored.
  pub unless-passed : test i ≡ true → stores none at (λ j x. cond (test j) x (value j)) l i to ≡ stores none at (λ j x. cond (test j) x (value j)) l (i + 1) to
  unless-passed e = stores-skip none at (λ j x. cond (test j) x (value j)) l i to h (ap (λ (b : Bool). cond b (get_or l (at i) none) (value i)) e)

  -- Where it fails, the value is.
  pub unless-failed : test i ≡ false → stores none at (λ j x. cond (test j) x (value j)) l i to
      ≡ stores none at (λ j x. cond (test j) x (value j)) (set l (at i) (value i)) (i + 1) to
  unless-failed e =
      stores-step none at (λ j x. cond (test j) x (value j)) l i to h
      ∙ ap (λ (b : Bool). stores none at (λ j x. cond (test j) x (value j)) (set l (at i) (cond b (get_or l (at i) none) (value i))) (i + 1) to) e
