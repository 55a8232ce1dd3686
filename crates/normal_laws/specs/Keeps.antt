-- 01, "Normal form": an atom's normal form holds exactly where the atom does, whatever values the monomials have.
-- And a constant polynomial has the sign of its one coefficient.
use Rattle.std.specs.Prelude.{◌≡◌, Bool, ℕ, suc, ◌/◌, ◌^◌, eqb, ℤ, negsuc, nat_abs, ◌*ℤ◌, length}
use Rattle.std.proofs.Math.Path.{refl, sym, ap, ap₂}
use Rattle.std.proofs.Common.{◌∙◌, eqb-true}
use Rattle.std.proofs.Math.Bool.{true, false}
use mathlib.Core.List.{List, [], ◌∷◌}
use Rattle.std.proofs.Math.Option.{some, some-injective, none-ne-some}
use Rattle.std.specs.Int.{◌∣◌}
use Rattle.std.proofs.Math.Nat.{div-mul_cancel, zero-div}
use Rattle.std.proofs.Math.IntN.{pos, neg_ℤ, one, pow, ◌+ℤ◌, *ℤ-one, zero-*ℤ, +ℤ_idr, neg_ℤ-+ℤ}
use Rattle.std.specs.Int.Signed.{quot_z}
use Rattle.whole.specs.Solver.{#, ◌:+◌, ◌:*◌, neg, solve}
use Rattle.rules.specs.Signs.{Sign, positive, sign_of, SignSet, only, has, mirror_of_sign}
use Rattle.rules.specs.Polynomial.{Polynomial, Atom, exponent, content, each_coefficient, divided, first_is_negative, turned, normal, only_if, constant}
use Rattle.rules.specs.Meaning.{monomial_at, value_by, atom_holds}
use Rattle.sign_laws.specs.Sets.{has-mirror, mirror-twice}
use Rattle.sign_laws.specs.Whole.{◌∈◌, sign_pos, sign-negation, sign-times, by_sign}
use Rattle.ending_laws.specs.Gcd.{DividesEach, no_terms, terms, content-divides, content-above-zero}

negation-times : (x y : ℤ) → neg_ℤ x *ℤ y ≡ neg_ℤ (x *ℤ y)
negation-times x y = solve (x ∷ y ∷ []) (neg (# 0) :* # 1) (neg (# 0 :* # 1)) tt

term-times : (q v r g : ℤ) → (q *ℤ v +ℤ r) *ℤ g ≡ q *ℤ g *ℤ v +ℤ r *ℤ g
term-times q v r g = solve (q ∷ v ∷ r ∷ g ∷ []) ((# 0 :* # 1 :+ # 2) :* # 3) (# 0 :* # 3 :* # 1 :+ # 2 :* # 3) tt

pub quotient-back : (c : ℤ) (g : ℕ) → g ∣ nat_abs c → quot_z c (pos g) *ℤ pos g ≡ c
quotient-back (pos a) g h = ap pos (div-mul_cancel g h)
quotient-back (negsuc a) g h = negation-times (pos (suc a / g)) (pos g) ∙ ap (λ (n : ℕ). neg_ℤ (pos n)) (div-mul_cancel g h)

content-positive : (p : Polynomial) → pos (content p) ∈ 1
unfolding has only
content-positive p = by_sign positive (sign_pos (content p) (content-above-zero p)) refl

module _ (v : ℕ → ℤ) where
  -- ---- Divided: the value is a quotient, the sign is the same.

  value-back : {g : ℕ} {p : Polynomial} → DividesEach g p → value_by v (each_coefficient (λ c. quot_z c (pos g)) p) *ℤ pos g ≡ value_by v p
  unfolding each_coefficient value_by
  value-back {g} no_terms = zero-*ℤ (pos g)
  value-back {g} (terms {t} {ts} h hs) =
      term-times (quot_z t.coefficient (pos g)) (v t.monomial) (value_by v (each_coefficient (λ c. quot_z c (pos g)) ts)) (pos g)
      ∙ ap₂ ◌+ℤ◌ (ap (λ (c : ℤ). c *ℤ v t.monomial) (quotient-back t.coefficient g h)) (value-back hs)

  divided-sign : (p : Polynomial) → sign_of (value_by v (divided p)) ≡ sign_of (value_by v p)
  unfolding divided
  divided-sign p = sym (sign-times (value_by v (divided p)) (content-positive p)) ∙ ap sign_of (value-back (content-divides p))

  -- ---- Turned: the value is negated, the set mirrored.

  negated-value : (p : Polynomial) → value_by v (each_coefficient neg_ℤ p) ≡ neg_ℤ (value_by v p)
  unfolding each_coefficient value_by
  negated-value [] = refl
  negated-value (t ∷ ts) =
      ap₂ ◌+ℤ◌ (negation-times t.coefficient (v t.monomial)) (negated-value ts) ∙ sym (neg_ℤ-+ℤ (t.coefficient *ℤ v t.monomial) (value_by v ts))

  turned-keeps : (b : Bool) (p : Polynomial) (s : SignSet) → has (sign_of (value_by v (turned b p s).polynomial)) (turned b p s).set ≡ has (sign_of (value_by v p)) s
  unfolding turned
  turned-keeps true p s =
      has-mirror (sign_of (value_by v (each_coefficient neg_ℤ p))) s
      ∙ ap (λ (x : Sign). has x s) (ap mirror_of_sign (ap sign_of (negated-value p) ∙ sign-negation (value_by v p)) ∙ mirror-twice (sign_of (value_by v p)))
  turned-keeps false p s = refl

  -- The sign of the normal form's value is in its set exactly if that of the atom's is in the atom's.
  pub normal-keeps : (a : Atom) → has (sign_of (value_by v (normal a).polynomial)) (normal a).set ≡ has (sign_of (value_by v a.polynomial)) a.set
  unfolding normal
  normal-keeps a =
      turned-keeps (first_is_negative (divided a.polynomial)) (divided a.polynomial) a.set
      ∙ ap (λ (x : Sign). has x a.set) (divided-sign a.polynomial)

  -- The same in the words of Meaning: an atom's normal form holds exactly where the atom does.
  pub normal-holds : (a : Atom) → atom_holds (λ p. sign_of (value_by v p)) (normal a) ≡ atom_holds (λ p. sign_of (value_by v p)) a
  unfolding atom_holds
  normal-holds a = normal-keeps a

  -- ---- Constants.

  alone-value : v 0 ≡ pos 1 → (c : ℤ) → c *ℤ v 0 +ℤ pos 0 ≡ c
  unfolding one
  alone-value e c = +ℤ_idr (c *ℤ v 0) ∙ ap (λ (w : ℤ). c *ℤ w) e ∙ *ℤ-one c

  only-if : (b : Bool) (c d : ℤ) → only_if b c ≡ some d → (b ≡ true) × (c ≡ d)
  unfolding only_if
  only-if true c d e = (refl, some-injective c d e)
  only-if false c d e = absurd (none-ne-some d e)

  -- A constant polynomial has the sign of its coefficient.
  pub constant-sign : (p : Polynomial) (c : ℤ) → constant p ≡ some c → v 0 ≡ pos 1 → sign_of (value_by v p) ≡ sign_of c
  unfolding constant value_by
  constant-sign [] c e o = ap sign_of (some-injective (pos 0) c e)
  constant-sign (t ∷ []) c e o =
      let r : (eqb t.monomial 0 ≡ true) × (t.coefficient ≡ c) = only-if (eqb t.monomial 0) t.coefficient c e in
      ap sign_of (ap (λ (m : ℕ). t.coefficient *ℤ v m +ℤ pos 0) (eqb-true t.monomial 0 r.0) ∙ alone-value o t.coefficient ∙ r.1)
  constant-sign (t ∷ u ∷ us) c e o = absurd (none-ne-some c e)

-- The monomial without variables is 1 at all readings.
pub monomial-one : (readings : List ℤ) → monomial_at readings 0 ≡ pos 1
unfolding monomial_at exponent pow one
monomial-one [] = refl
monomial-one (x ∷ readings) = rw (zero-div (16 ^ length readings)) (ap (λ (w : ℤ). pos 1 *ℤ w) (monomial-one readings))
