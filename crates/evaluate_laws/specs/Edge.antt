-- Request #102: where the original answers and the shortened block is refused, a negated polynomial of the original meets -2^63 exactly.
use Rattle.std.specs.Prelude.{◌≡◌, Bool, ◌&&◌, List, [], ◌∷◌, map, ◌⊎◌, ℕ, zero, suc, ◌-◌, ◌^◌, leb, ℤ, pos, negsuc, length}
use Rattle.std.proofs.Math.Path.{refl, subst}
use Rattle.std.proofs.Common.{sym, ap, ◌∙◌, arith, leb-true, leb-false, le-leb}
use Rattle.std.proofs.Math.Bool.{true, false}
use mathlib.Core.List.Memᴰ.{head as here}
use mathlib.Core.List.Memᴰ.{not-nil}
use mathlib.Core.List.Memᴰ.{tail as later}
use mathlib.Core.List.{Memᴰ as Member}
use Rattle.std.proofs.Math.Logic.{inl, inr}
use Rattle.std.proofs.Math.Option.{none, some, none-ne-some}
use Rattle.std.proofs.Math.IntN.{neg_ℤ}
use Rattle.rules.specs.Polynomial.{Polynomial, divided, first_is_negative, turned, each_coefficient, normal}
use Rattle.rules.specs.Signs.{full}
use Rattle.rules.specs.Formula.{alone}
use Rattle.rules.specs.Block.{Block}
use Rattle.rules.specs.Limits.{BlockWithin}
use Rattle.rules.specs.Answer.{formula_of, new_block}
use Rattle.rules.specs.Evaluate.{steps, all_fit, within, fits64, evaluate_by}
use Rattle.sign_laws.specs.Booleans.{and_intro, and_first, and_second}
use Rattle.rules.specs.Polynomial.{normal_form}
use Rattle.evaluate_laws.specs.Scaled.{divided-fits, negated-within, normal_form-fits}
use Rattle.evaluate_laws.specs.Alike.{polynomials_of, short-answers, fits_each}

-- -2^63, and what fits beside it: -(2^63 - 1) to 2^63 - 1, which negation does not change.
abbrev pub least : ℤ
least = negsuc 9223372036854775807

abbrev beside : ℤ → Bool
beside = within 9223372036854775806 9223372036854775807

-- A number that fits is -2^63 or one beside it.
one_of : (z : ℤ) → fits64 z ≡ true → (z ≡ least) ⊎ (beside z ≡ true)
unfolding fits64 within
one_of (pos a) e = inr e
one_of (negsuc a) e = by (leb a 9223372036854775806) refl
  where
    by : (t : Bool) → leb a 9223372036854775806 ≡ t → (negsuc a ≡ least) ⊎ (leb a 9223372036854775806 && true ≡ true)
    by true h = inr (and_intro h refl)
    by false h = inl (ap negsuc (omega (arith, leb-true a 9223372036854775807 (and_first (leb a 9223372036854775807) true e), leb-false a 9223372036854775806 h)))

met-or-beside : (zs : List ℤ) → all_fit fits64 zs ≡ true → Member least zs ⊎ (all_fit beside zs ≡ true)
unfolding all_fit
met-or-beside [] e = inr refl
met-or-beside (z ∷ zs) e = by (one_of z (and_first (fits64 z) (all_fit fits64 zs) e)) (met-or-beside zs (and_second (fits64 z) (all_fit fits64 zs) e))
  where
    by : (z ≡ least) ⊎ (beside z ≡ true) → Member least zs ⊎ (all_fit beside zs ≡ true) → Member least (z ∷ zs) ⊎ (beside z && all_fit beside zs ≡ true)
    by (inl h) rest = inl (here (sym h))
    by (inr h) (inl m) = inl (later m)
    by (inr h) (inr k) = inr (and_intro h k)

beside-fits : (z : ℤ) → beside z ≡ true → fits64 z ≡ true
unfolding fits64 within
beside-fits (pos a) e = e
beside-fits (negsuc a) e = and_intro (le-leb a 9223372036854775807 (omega (arith, leb-true a 9223372036854775806 (and_first (leb a 9223372036854775806) true e)))) refl

all-fits : (zs : List ℤ) → all_fit beside zs ≡ true → all_fit fits64 zs ≡ true
unfolding all_fit
all-fits [] e = refl
all-fits (z ∷ zs) e = and_intro (beside-fits z (and_first (beside z) (all_fit beside zs) e)) (all-fits zs (and_second (beside z) (all_fit beside zs) e))

-- A negated polynomial that meets -2^63.
pub record Met (readings : List ℤ) (all : List Polynomial) : Type 0 where
  pub polynomial : Polynomial
  pub named : Member polynomial all
  pub negated : first_is_negative (divided polynomial) ≡ true
  pub meets : Member least (steps readings polynomial)

module _ (readings : List ℤ) where
  -- Where no step is -2^63, the normal form fits even if it is negated.
  negated-fits-beside : (p : Polynomial) → all_fit beside (steps readings p) ≡ true → first_is_negative (divided p) ≡ true
      → all_fit fits64 (steps readings (normal_form p)) ≡ true
  unfolding normal_form normal turned
  negated-fits-beside p e n = subst (λ (b : Bool). all_fit fits64 (steps readings (turned b (divided p) full).polynomial) ≡ true) (sym n)
      (all-fits (steps readings (each_coefficient neg_ℤ (divided p)))
      (negated-within 9223372036854775806 readings (divided p) (divided-fits 0 readings 9223372036854775806 9223372036854775807 p e)))

  one-polynomial : (p : Polynomial) → all_fit fits64 (steps readings p) ≡ true
      → ((first_is_negative (divided p) ≡ true) × Member least (steps readings p)) ⊎ (all_fit fits64 (steps readings (normal_form p)) ≡ true)
  unfolding fits64
  one-polynomial p e = by (first_is_negative (divided p)) refl (met-or-beside (steps readings p) e)
    where
      by : (b : Bool) → first_is_negative (divided p) ≡ b → Member least (steps readings p) ⊎ (all_fit beside (steps readings p) ≡ true)
          → ((first_is_negative (divided p) ≡ true) × Member least (steps readings p)) ⊎ (all_fit fits64 (steps readings (normal_form p)) ≡ true)
      by false n found = inr (normal_form-fits 9223372036854775807 readings p n e)
      by true n (inl m) = inl (n, m)
      by true n (inr k) = inr (negated-fits-beside p k n)

  search-all : (all ps : List Polynomial) → ((p : Polynomial) → Member p ps → Member p all) → ((p : Polynomial) → Member p ps → all_fit fits64 (steps readings p) ≡ true)
      → Met readings all ⊎ ((p : Polynomial) → Member p ps → all_fit fits64 (steps readings (normal_form p)) ≡ true)
  search-all all [] inside fit = inr (λ p m. absurd (not-nil m))
  search-all all (q ∷ ps) inside fit =
      by (one-polynomial q (fit q (here refl))) (search-all all ps (λ p m. inside p (later m)) (λ p m. fit p (later m)))
    where
      each : all_fit fits64 (steps readings (normal_form q)) ≡ true → ((p : Polynomial) → Member p ps → all_fit fits64 (steps readings (normal_form p)) ≡ true)
          → (p : Polynomial) → Member p (q ∷ ps) → all_fit fits64 (steps readings (normal_form p)) ≡ true
      each h k p (here e) = subst (λ (p : Polynomial). all_fit fits64 (steps readings (normal_form p)) ≡ true) (sym e) h
      each h k p (later m) = k p m

      by : ((first_is_negative (divided q) ≡ true) × Member least (steps readings q)) ⊎ (all_fit fits64 (steps readings (normal_form q)) ≡ true)
          → Met readings all ⊎ ((p : Polynomial) → Member p ps → all_fit fits64 (steps readings (normal_form p)) ≡ true)
          → Met readings all ⊎ ((p : Polynomial) → Member p (q ∷ ps) → all_fit fits64 (steps readings (normal_form p)) ≡ true)
      by (inl met) rest = inl (record { polynomial = q; named = inside q (here refl); negated = met.0; meets = met.1 })
      by (inr h) (inl met) = inl met
      by (inr h) (inr k) = inr (each h k)

-- Where the original answers and the short one is refused, a polynomial of the original's tree that is negated in its normal form meets -2^63.
pub refused-at-the-edge : (given : Block) (readings : List ℤ) → length readings ≡ given.variables → (b : Bool) → BlockWithin given
    → evaluate_by fits64 readings (formula_of given) ≡ some b → evaluate_by fits64 readings (formula_of (new_block given)) ≡ none
    → Met readings (polynomials_of (alone (formula_of given)))
refused-at-the-edge given readings many b h e refused =
    by (search-all readings (polynomials_of (alone (formula_of given))) (polynomials_of (alone (formula_of given))) (λ p m. m) (fits_each given readings many b e))
  where
    by : Met readings (polynomials_of (alone (formula_of given)))
        ⊎ ((p : Polynomial) → Member p (polynomials_of (alone (formula_of given))) → all_fit fits64 (steps readings (normal_form p)) ≡ true)
        → Met readings (polynomials_of (alone (formula_of given)))
    by (inl met) = met
    by (inr all) = absurd (none-ne-some b (sym refused ∙ short-answers given readings many fits64 b h e (λ p m fit. all p m)))
