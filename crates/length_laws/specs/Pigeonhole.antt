-- Members of lists, lists without repeats, and the pigeonhole law with weights:
-- what has no repeats and stands among other things weighs no more than these.
use Rattle.std.specs.Prelude.{◌≡◌, ℕ, ◌+◌, ◌≤◌}
use Rattle.std.proofs.Math.Path.{sym, ap}
use Rattle.std.proofs.Common.{◌∙◌, subst, ⊎_elim}
use mathlib.Core.List.{List, [], ◌∷◌, ◌++◌}
use mathlib.Core.List.Memᴰ.{head as here}
use mathlib.Core.List.Memᴰ.{tail as later}
use mathlib.Core.List.{Memᴰ as Member}
use mathlib.Core.List.Memᴰ.{append_cases}
use mathlib.Core.List.Memᴰ.{eq_of_singleton as only-member}
use native.Mathlib.Omega.{arith}
use Rattle.sign_laws.specs.Lists.{Every, every_none, every}

-- No element stands there twice.
pub data Distinct {A : Type 0} : List A → Type 0 where
  none_distinct : Distinct []
  distinct : {a : A} {l : List A} → (Member a l → ⊥) → Distinct l → Distinct (a ∷ l)

-- What every element has, a member has.
pub every-member : {A : Type 0} {P : A → Type 0} {l : List A} {a : A} → Every P l → Member a l → P a
every-member {A = A} {P = P} {a = a} every_none x3 = elim x3 [ ]
every-member {P = P} (every h hs) (here e) = subst P (sym e) h
every-member (every h hs) (later m) = every-member hs m

-- The sum of the weights of a list's members.
unfoldable pub total : {A : Type 0} → (A → ℕ) → List A → ℕ
total w [] = 0
total w (a ∷ l) = w a + total w l

module _ {A : Type 0} where
  -- Lists one after the other weigh what both weigh.
  pub total-append : (w : A → ℕ) (l m : List A) → total w (l ++ m) ≡ total w l + total w m
  unfolding total
  total-append w [] m = omega arith
  total-append w (a ∷ l) m = omega (arith, total-append w l m)

  -- Something new at the end repeats nothing.
  pub distinct-added : {l : List A} {a : A} → Distinct l → (Member a l → ⊥) → Distinct (l ++ (a ∷ []))
  distinct-added none_distinct h = distinct h none_distinct
  distinct-added (distinct {l = l} k ks) h = distinct (λ m. ⊎_elim k (λ n. h (here (sym (only-member n)))) (append_cases l m)) (distinct-added ks (λ m. h (later m)))

  -- What is left of a list when one of its members is taken out.
  record Left (w : A → ℕ) (a : A) (l : List A) : Type 0 where
    rest : List A
    weighs : total w l ≡ w a + total w rest
    holds : (b : A) → Member b l → (b ≡ a → ⊥) → Member b rest

  take_out : (w : A → ℕ) {a : A} {l : List A} → Member a l → Left w a l
  unfolding total
  take_out w {a} (here {x} {xs} e) = record { rest = xs; weighs = ap (λ (c : A). w c + total w xs) (sym e); holds = others }
    where
      others : (b : A) → Member b (x ∷ xs) → (b ≡ a → ⊥) → Member b xs
      others b (here d) ne = absurd (ne (d ∙ sym e))
      others b (later m) ne = m
  take_out w {a} (later {x} {xs} m) = with-first (take_out w m)
    where
      with-first : Left w a xs → Left w a (x ∷ xs)
      with-first left = record { rest = x ∷ left.rest; weighs = omega (arith, left.weighs); holds = others }
        where
          others : (b : A) → Member b (x ∷ xs) → (b ≡ a → ⊥) → Member b (x ∷ left.rest)
          others b (here d) ne = here d
          others b (later k) ne = later (left.holds b k ne)

  still-there : {w : A → ℕ} {a : A} {among : List A} (left : Left w a among) {l : List A} → (Member a l → ⊥) → Every (λ (b : A). Member b among) l
      → Every (λ (b : A). Member b left.rest) l
  still-there left new every_none = every_none
  still-there left new (every {a = b} h hs) = every (left.holds b h (λ e. new (here (sym e)))) (still-there left (λ m. new (later m)) hs)

  -- What has no repeats and stands among others weighs no more than these.
  pub pigeonhole : (w : A → ℕ) {l among : List A} → Distinct l → Every (λ (a : A). Member a among) l → total w l ≤ total w among
  unfolding total
  pigeonhole w none_distinct every_none = omega arith
  pigeonhole w (distinct new ks) (every h hs) =
      let left = take_out w h in
      omega (arith, left.weighs, pigeonhole w ks (still-there left new hs))
