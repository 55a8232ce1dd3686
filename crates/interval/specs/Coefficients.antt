-- Laws about coefficients of 32 signed bits: their bits read back, and their tests for 0.
-- The machine hands a signed number on by its bits; `back` takes them away.
use Rattle.std.specs.Prelude.{◌≡◌, refl, true, false, zero, suc, ◌-◌, eqb, ℤ, pos, negsuc}
use Rattle.std.proofs.Common.{sym, ◌∙◌, arith, eq-eqb, ne_eqb, SFits, to_z, of_z}
use Rattle.std.specs.Int.{w32}
use Rattle.std.proofs.lemmas.Int.{to_z-of_z}
use Rattle.rules.specs.Signs.{sign_of, only}
use Rattle.rules.specs.Deduce.{is_zero}

pub back : {z : ℤ} → SFits w32 z → to_z w32 (of_z w32 z) ≡ z
back {z} f = to_z-of_z w32 z f

pub zero_test : {z : ℤ} → SFits w32 z → eqb (of_z w32 z) 0 ≡ is_zero z
unfolding is_zero
zero_test {z = pos zero} f = refl
zero_test {z = pos (suc n)} f = ne_eqb (suc n) 0 (λ e. omega arith)
zero_test {z = negsuc n} f = ne_eqb (4294967296 - suc n) 0 (λ (e : 4294967296 - suc n ≡ 0). omega (arith, f.sfits))

pub is-zero : {z : ℤ} → SFits w32 z → of_z w32 z ≡ 0 → is_zero z ≡ true
is-zero f e = sym (zero_test f) ∙ eq-eqb _ 0 e

pub not_zero : {z : ℤ} → SFits w32 z → (of_z w32 z ≡ 0 → ⊥) → is_zero z ≡ false
not_zero f e = sym (zero_test f) ∙ ne_eqb _ 0 e

-- a number by its sign
pub zero-sign : (z : ℤ) → eqb (only (sign_of z)) 2 ≡ is_zero z
unfolding only sign_of is_zero
zero-sign (pos zero) = refl
zero-sign (pos (suc n)) = refl
zero-sign (negsuc n) = refl
