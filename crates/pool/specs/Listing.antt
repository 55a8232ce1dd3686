-- The slots of the working table that hold the forms that a block lists: of the numbers of the table's polynomials, in order, each once, constants
-- left out. Their forms are the ones that the book lists.
use Rattle.std.specs.Prelude.{◌≡◌, Bool, ◌||◌, ℕ, zero, suc, ◌+◌, ◌*◌, ◌<◌, ◌≤◌, eqb, ℤ, pos, length, get_or, set}
use Rattle.std.proofs.Math.Path.{refl, sym, ap, ap₂}
use Rattle.std.proofs.Common.{◌∙◌, subst, arith, get_or-set_same, get_or-set_other}
use Rattle.std.proofs.Math.Bool.{true, false}
use mathlib.Core.List.{List, [], ◌∷◌, ◌++◌, map, map-append}
use Rattle.std.proofs.Math.Option.{Option, none, some, none-ne-some}
use Rattle.rules.specs.Polynomial.{Polynomial, same, only_if, constant}
use Rattle.rules.specs.Answer.{knows, added_unless, unless_constant, without_constants}
use Rattle.sign_laws.specs.Lists.{Every, every_none, every, every_append}
use Rattle.rules.specs.Polynomial.{normal_form}
use Rattle.rules.specs.Pool.{together}
use Rattle.pool_laws.specs.Listed.{constant-form}
use Rattle.terms.specs.View.{numbers_from, terms_from}

unfoldable pub is_some : Option ℤ → Bool
is_some none = false
is_some (some c) = true

-- Whether the form in a slot is a constant, by its number of terms and its first monomial.
unfoldable pub one_if : ℕ → Bool → Bool
one_if zero b = true
one_if (suc zero) b = b
one_if (suc (suc k)) b = false

unfoldable pub constant_in : List ℕ → List ℕ → ℕ → Bool
constant_in ms ts slot = one_if (get_or ts slot 0) (eqb (get_or ms (16 * slot) 0) 0)

pub constant-in : (cs : List ℤ) (ms : List ℕ) (i k : ℕ) → is_some (constant (terms_from cs ms i k)) ≡ one_if k (eqb (get_or ms i 0) 0)
unfolding is_some constant only_if terms_from one_if
constant-in cs ms i zero = refl
constant-in cs ms i (suc zero) = by-test (eqb (get_or ms i 0) 0)
  where
    by-test : (b : Bool) → is_some (only_if b (get_or cs i (pos 0))) ≡ b
    by-test true = refl
    by-test false = refl
constant-in cs ms i (suc (suc k)) = refl

-- Whether a number is among others.
unfoldable pub among : List ℕ → ℕ → Bool
among [] k = false
among (x ∷ xs) k = eqb k x || among xs k

unfoldable pub behind_unless : Bool → ℕ → List ℕ → List ℕ
behind_unless true k l = l
behind_unless false k l = l ++ (k ∷ [])

-- Numbers behind others, each once, those left out that a test passes.
unfoldable pub listing : (ℕ → Bool) → List ℕ → List ℕ → List ℕ
listing out l [] = l
listing out l (k ∷ ks) = listing out (behind_unless (out k || among l k) k l) ks

-- A polynomial and its normal form are both constants or neither is.
form-constant : (p : Polynomial) → is_some (constant (normal_form p)) ≡ is_some (constant p)
unfolding is_some
form-constant p = by_both (constant p) (constant (normal_form p)) (constant-form p).0 (constant-form p).1
  where
    by_both : (o r : Option ℤ) → (o ≡ none → r ≡ none) → (r ≡ none → o ≡ none) → is_some r ≡ is_some o
    by_both none none f g = refl
    by_both none (some c) f g = absurd (none-ne-some c (sym (f refl)))
    by_both (some c) none f g = absurd (none-ne-some c (sym (g refl)))
    by_both (some c) (some d) f g = refl

-- ---- The forms.

module _ (form : ℕ → Polynomial) (out : ℕ → Bool) (apart : (j k : ℕ) → j < 64 → k < 64 → same (form j) (form k) ≡ eqb j k)
    (outs : (k : ℕ) → is_some (constant (form k)) ≡ out k) where
  -- Numbers that name the normal forms of some polynomials.
  pub data Name : List Polynomial → List ℕ → Type 0 where
    no_names : Name [] []
    names : {p : Polynomial} {k : ℕ} {table : List Polynomial} {ns : List ℕ} → form k ≡ normal_form p → k < 64 → Name table ns → Name (p ∷ table) (k ∷ ns)

  abbrev Below : List ℕ → Type 0
  Below l = Every (λ (k : ℕ). k < 64) l

  among-knows : (l : List ℕ) (k : ℕ) → Below l → k < 64 → knows (map form l) (form k) ≡ among l k
  unfolding knows among
  among-knows [] k every_none h = refl
  among-knows (x ∷ l) k (every b bs) h = ap₂ (λ (a c : Bool). a || c) (apart k x h b) (among-knows l k bs h)

  added-form : (b : Bool) (k : ℕ) (l : List ℕ) → added_unless b (form k) (map form l) ≡ map form (behind_unless b k l)
  unfolding added_unless behind_unless
  added-form true k l = refl
  added-form false k l = sym (map-append form l (k ∷ []))

  behind-below : (b : Bool) (k : ℕ) {l : List ℕ} → k < 64 → Below l → Below (behind_unless b k l)
  unfolding behind_unless
  behind-below true k h bs = bs
  behind-below false k h bs = every_append bs (every h every_none)

  pub listing-forms : {table : List Polynomial} {ns : List ℕ} (l : List ℕ) → Below l → Name table ns
      → together (map form l) (map normal_form (without_constants table)) ≡ map form (listing out l ns)
  unfolding together listing without_constants unless_constant is_some behind_unless
  listing-forms l bs no_names = refl
  listing-forms l bs (names {p} {k} {table} {ns} e h others) =
      by_constant (constant p) (sym (outs k) ∙ ap (λ (q : Polynomial). is_some (constant q)) e ∙ form-constant p)
      (λ m b. listing-forms m b others)
    where
      by_constant : (o : Option ℤ) → out k ≡ is_some o
          → ((m : List ℕ) → Below m → together (map form m) (map normal_form (without_constants table)) ≡ map form (listing out m ns))
          → together (map form l) (map normal_form (unless_constant o p (without_constants table))) ≡ map form (listing out (behind_unless (out k || among l k) k l) ns)
      by_constant none g later =
          ap (λ (q : Polynomial). together (added_unless (knows (map form l) q) q (map form l)) (map normal_form (without_constants table))) (sym e)
          ∙ ap (λ (b : Bool). together (added_unless b (form k) (map form l)) (map normal_form (without_constants table))) (among-knows l k bs h)
          ∙ ap (λ (m : List Polynomial). together m (map normal_form (without_constants table))) (added-form (among l k) k l)
          ∙ later (behind_unless (among l k) k l) (behind-below (among l k) k h bs)
          ∙ ap (λ (b : Bool). map form (listing out (behind_unless (b || among l k) k l) ns)) (sym g)
      by_constant (some c) g later =
          later l bs ∙ ap (λ (b : Bool). map form (listing out (behind_unless (b || among l k) k l) ns)) (sym g)

-- ---- In arrays.

-- The working table's arrays are long enough for its 64 slots of forms.
pub record TableRoom (ms ts : List ℕ) : Type 0 where
  pub monomials : 1024 ≤ length ms
  pub counts : 64 ≤ length ts

-- The numbers of so many polynomials, each that of one of these slots.
pub record Numbers (ns : List ℕ) (m : ℕ) : Type 0 where
  pub there : m ≤ length ns
  pub most : m ≤ 64
  pub below : (i : ℕ) → i < m → get_or ns i 0 < 64

-- The first slots of `order`, so many, are the listed ones.
pub record Listed (ms ts ns : List ℕ) (m : ℕ) (order : List ℕ) (count : ℕ) : Type 0 where
  pub is : numbers_from order 0 count ≡ listing (constant_in ms ts) [] (numbers_from ns 0 m)
  pub few : count ≤ m
  pub below : (i : ℕ) → i < count → get_or order i 0 < 64

-- One more behind the first.
pub numbers-stored : (xs : List ℕ) (i k v : ℕ) → i + k < length xs → numbers_from (set xs (i + k) v) i (suc k) ≡ numbers_from xs i k ++ (v ∷ [])
unfolding numbers_from
numbers-stored xs i zero v h = let e : i + 0 ≡ i = omega arith in rw e (ap (λ (x : ℕ). x ∷ []) (get_or-set_same xs i v 0 (omega arith)))
numbers-stored xs i (suc k) v h =
    let e : i + suc k ≡ suc i + k = omega arith in
    ap₂ (λ (x : ℕ) (l : List ℕ). x ∷ l) (get_or-set_other xs (i + suc k) i v 0 (λ f. omega arith)) (subst (λ (p : ℕ). numbers_from (set xs p v) (suc i) (suc k) ≡ numbers_from xs (suc i) k ++ (v ∷ [])) (sym e)
    (numbers-stored xs (suc i) k v (omega arith)))
