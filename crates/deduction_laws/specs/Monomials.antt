-- The packing of a monomial keeps the order of 01: "Exponent lists fall strictly from term to term in lexicographic order, first variable foremost."
-- Four bits for each exponent, the first variable foremost: the numbers are in order exactly if the lists are.
use Rattle.std.specs.Prelude.{◌≡◌, refl, List, [], ◌∷◌, ◌↔◌, ℕ, zero, suc, ◌+◌, ◌-◌, ◌*◌, ◌/◌, ◌%◌, ◌^◌, ◌<◌}
use Rattle.std.proofs.Common.{sym, ap, ap₂, ◌∙◌, subst, subst₂, pow-suc, mul_comm, mod-lt, mod-eq_of_lt, mul-div_cancel, arith, pow-add}
use Rattle.std.proofs.Math.Nat.{one-le-pow, pow-le-pow_right, mod-one, div_self, div-eq_of_lt, mul-mod_left}
use Rattle.std.proofs.Math.Decide.{dec_lt, ℕ_discrete}
use Rattle.std.proofs.Math.Arith.{digits_lt, digits_div, digits_mod, mod-mul}
use Rattle.rules.specs.Polynomial.{exponent}

-- The exponents of n variables, the first variable's first.
unfoldable pub exponents : ℕ → ℕ → List ℕ
exponents zero m = []
exponents (suc n) m = exponent m n ∷ exponents n m

-- The first place where two lists differ decides.
infix 4 ◌precedes◌
pub data ◌precedes◌ : List ℕ → List ℕ → Type 0 where
  here : {x y : ℕ} {xs ys : List ℕ} → x < y → (x ∷ xs) precedes (y ∷ ys)
  further : {x : ℕ} {xs ys : List ℕ} → xs precedes ys → (x ∷ xs) precedes (x ∷ ys)

-- ---- The digits of a number to the base 16.

sixteen-positive : (k : ℕ) → 0 < 16 ^ k
sixteen-positive k = one-le-pow k 16 (omega arith)

digits : (m n : ℕ) → m % 16 ^ suc n ≡ exponent m n * 16 ^ n + m % 16 ^ n
unfolding exponent
digits m n = ap (λ (c : ℕ). m % c) (pow-suc 16 n ∙ mul_comm (16 ^ n) 16) ∙ mod-mul m (omega arith) (sixteen-positive n)

rest-small : (m n : ℕ) → m % 16 ^ n < 16 ^ n
rest-small m n = mod-lt m (sixteen-positive n)

-- ---- One digit before the rest.

module _ (x y a b c : ℕ) (ha : a < c) (hb : b < c) where
  equal-digit : x * c + a ≡ y * c + b → (x ≡ y) × (a ≡ b)
  equal-digit e = (
    sym (digits_div x ha) ∙ ap (λ (k : ℕ). k / c) e ∙ digits_div y hb,
    sym (digits_mod x ha) ∙ ap (λ (k : ℕ). k % c) e ∙ digits_mod y hb,
  )

  module _ (xs ys : List ℕ) (rest : (a < b) ↔ (xs precedes ys)) where
    digit-decides : Dec (x < y) → Dec (x ≡ y) → x * c + a < y * c + b → (x ∷ xs) precedes (y ∷ ys)
    digit-decides (yes l) d h = here l
    digit-decides (no l) (yes e) h =
        subst (λ (y : ℕ). (x ∷ xs) precedes (y ∷ ys)) e (further (rest.0 (omega (arith, ap (λ (k : ℕ). k * c) e))))
    digit-decides (no l) (no d) h = absurd (omega (arith, digits_lt {q = y} {m = x} {r = b} {c = c} (omega arith) hb))

nothing-first : {X : Type 0} {ys : List ℕ} → [] precedes ys → X
nothing-first h = elim h [ ]

from-digits : {x y : ℕ} {xs ys : List ℕ} (a b c : ℕ) → a < c → ((a < b) ↔ (xs precedes ys)) → (x ∷ xs) precedes (y ∷ ys) → x * c + a < y * c + b
from-digits a b c ha rest (here {x} {y} l) = omega (arith, digits_lt {q = x} {m = y} {r = a} {c = c} l ha)
from-digits a b c ha rest (further h) = omega (arith, rest.1 h)

in-order : (n m m' : ℕ) → (m % 16 ^ n < m' % 16 ^ n) ↔ (exponents n m precedes exponents n m')
unfolding exponents
in-order zero m m' = (λ h. absurd (omega (arith, mod-one m')), λ h. nothing-first h)
in-order (suc n) m m' = let rest = in-order n m m' in (
  λ h. digit-decides (exponent m n) (exponent m' n) (m % 16 ^ n) (m' % 16 ^ n) (16 ^ n) (rest-small m n) (rest-small m' n) (exponents n m) (exponents n m') rest
      (dec_lt (exponent m n) (exponent m' n)) (ℕ_discrete (exponent m n) (exponent m' n)) (subst₂ (λ (a b : ℕ). a < b) (digits m n) (digits m' n) h),
  λ h. subst₂ (λ (a b : ℕ). a < b) (sym (digits m n)) (sym (digits m' n)) (from-digits (m % 16 ^ n) (m' % 16 ^ n) (16 ^ n) (rest-small m n) rest h),
)

equal-lists : (n m m' : ℕ) → (m % 16 ^ n ≡ m' % 16 ^ n) ↔ (exponents n m ≡ exponents n m')
unfolding exponents
equal-lists zero m m' = (λ e. refl, λ e. mod-one m ∙ sym (mod-one m'))
equal-lists (suc n) m m' = (
  λ e. let k = equal-digit (exponent m n) (exponent m' n) (m % 16 ^ n) (m' % 16 ^ n) (16 ^ n) (rest-small m n) (rest-small m' n) (sym (digits m n) ∙ e ∙ digits m' n) in
      ap₂ ◌∷◌ k.0 ((equal-lists n m m').0 k.1),
  λ e. let first : exponent m n ≡ exponent m' n = cc in
      let others : exponents n m ≡ exponents n m' = cc in
      digits m n ∙ ap₂ (λ (x a : ℕ). x * 16 ^ n + a) first ((equal-lists n m m').1 others) ∙ sym (digits m' n),
)

-- ---- The laws.

-- Of two monomials over n variables the one is below the other exactly if its exponents precede the other's.
pub packing-keeps-order : (n : ℕ) {m m' : ℕ} → m < 16 ^ n → m' < 16 ^ n → (m < m') ↔ (exponents n m precedes exponents n m')
packing-keeps-order n {m} {m'} h h' = (
  λ l. (in-order n m m').0 (subst₂ (λ (a b : ℕ). a < b) (sym (mod-eq_of_lt h)) (sym (mod-eq_of_lt h')) l),
  λ l. subst₂ (λ (a b : ℕ). a < b) (mod-eq_of_lt h) (mod-eq_of_lt h') ((in-order n m m').1 l),
)

-- And they are the same exactly if their exponents are.
pub packing-keeps-all : (n : ℕ) {m m' : ℕ} → m < 16 ^ n → m' < 16 ^ n → (m ≡ m') ↔ (exponents n m ≡ exponents n m')
packing-keeps-all n {m} {m'} h h' = (
  λ e. ap (exponents n) e,
  λ e. sym (mod-eq_of_lt h) ∙ (equal-lists n m m').1 e ∙ mod-eq_of_lt h',
)

-- ---- The monomial of one variable.

-- The variable that is followed by k others has the exponent 1 in 16 ^ k.
pub exponent-own : (k : ℕ) → exponent (16 ^ k) k ≡ 1
unfolding exponent
exponent-own k = ap (λ (n : ℕ). n % 16) (div_self (sixteen-positive k))

-- The variables behind it have the exponent 0.
pub exponent-behind : (k j : ℕ) → j < k → exponent (16 ^ k) j ≡ 0
unfolding exponent
exponent-behind k j h = ap (λ (n : ℕ). n / 16 ^ j % 16) parts ∙ ap (λ (n : ℕ). n % 16) (mul-div_cancel (16 ^ (k - suc j) * 16) (sixteen-positive j))
    ∙ mul-mod_left (16 ^ (k - suc j)) 16
  where
    split : (k j : ℕ) → j < k → k ≡ suc (k - suc j) + j
    split k j h = omega arith

    parts : 16 ^ k ≡ 16 ^ (k - suc j) * 16 * 16 ^ j
    parts = ap (λ (n : ℕ). 16 ^ n) (split k j h) ∙ pow-add 16 (suc (k - suc j)) j ∙ ap (λ (n : ℕ). n * 16 ^ j) (pow-suc 16 (k - suc j))

-- And so have those before it.
pub exponent-before : (k j : ℕ) → k < j → exponent (16 ^ k) j ≡ 0
unfolding exponent
exponent-before k j h = ap (λ (n : ℕ). n % 16) (div-eq_of_lt larger)
  where
    larger : 16 ^ k < 16 ^ j
    larger = omega (arith, sixteen-positive k, pow-suc 16 k, pow-le-pow_right {n = 16} (omega arith) h)
