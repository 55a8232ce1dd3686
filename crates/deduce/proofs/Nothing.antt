-- Where neither L nor U has a t, the rows that are left change nothing: all that they give is the full set.
-- So the merge may stop there, and ≠ and the full set, which allow no t, say nothing.
use mathlib.Core.Path.{◌≡◌, refl, sym, ap₂}
use mathlib.Core.Bool.{false}
use mathlib.Core.List.{List}
use mathlib.Core.Logic.{◌⊎◌, inl, inr}
use Prim.Native.Nat.{ℕ, ◌≤◌}
use native.Mathlib.Omega.{arith}
use Rattle.rules.specs.Signs.{SignSet, Kind, kind, mirror, intersect, open_signs}
use Rattle.rules.specs.Deduce.{Row, no_t, allowed_l, allowed_u, has_t, finding_of}
use Rattle.deduction_laws.specs.FractionSets.{L, U}
use Rattle.deduction_laws.specs.Found.{nothing-found, none-comes-back}
use Rattle.deduction_laws.specs.Vanishing.{none_left}
use Rattle.interval.specs.Kinds.{by-kind}
use Rattle.deduce.specs.Merge.{Gathered, gather, found_from}
use Rattle.deduce.proofs.Rows.{gathered}

-- g is gathered from some of the rows, and xs are those that are left
pub finding-nothing : (k : Kind) (g : Gathered) (xs : List Row) → has_t g.l ≡ false → has_t g.u ≡ false → 7 ≡ found_from k (gather g xs)
unfolding open_signs
finding-nothing k g xs e f =
    rw (gathered xs g)
    (sym (ap₂ (λ (s t : SignSet). intersect s (mirror t)) (none_left L k _ _ (none-comes-back L g.l xs e)) (none_left U k _ _ (none-comes-back U g.u xs f))))

-- the sets that allow no t
none_allowed : (k : ℕ) → (k ≡ 5) ⊎ (7 ≤ k) → (has_t (allowed_l (kind k)) ≡ false) × (has_t (allowed_u (kind k)) ≡ false)
unfolding kind allowed_l allowed_u no_t has_t
none_allowed k (inl e) = rw e (refl, refl)
none_allowed k (inr l) = by-kind (λ k s. 7 ≤ k → (has_t (allowed_l s) ≡ false) × (has_t (allowed_u s) ≡ false))
    (λ h. (refl, refl)) (λ h. absurd (omega arith)) (λ h. absurd (omega arith)) (λ h. absurd (omega arith)) (λ h. absurd (omega arith)) (λ h. (refl, refl))
    (λ h. absurd (omega arith)) (λ k h. (refl, refl)) k l

-- say nothing
pub says_nothing : (k : ℕ) (xs : List Row) → (k ≡ 5) ⊎ (7 ≤ k) → 7 ≡ finding_of (kind k) xs
unfolding finding_of open_signs
says_nothing k xs h = let none = none_allowed k h in sym (ap₂ (λ (s t : SignSet). intersect s (mirror t))
    (nothing-found (kind k) _ xs (none-comes-back L (allowed_l (kind k)) xs none.0)) (nothing-found (kind k) _ xs (none-comes-back U (allowed_u (kind k)) xs none.1)))
