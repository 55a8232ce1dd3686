-- 02, #111, "Two atoms at once": what two atoms say of p together, by p + u·q1 + v·q2 for small whole factors u and v.
use Rattle.std.specs.Prelude.{Bool, true, false, cond, ◌&&◌, ◌||◌, List, [], ◌∷◌, ◌++◌, eqb, ℤ, pos, negsuc, ◌+ℤ◌, ◌*ℤ◌}
use Rattle.std.proofs.Math.Option.{Option, none, some}
use Rattle.std.specs.Int.Signed.{non_neg}
use Rattle.rules.specs.Signs.{SignSet, Kind, ∅, >0, =0, ≥0, <0, ≠0, ≤0, any, kind, mirror, intersect, inside}
use Rattle.rules.specs.Polynomial.{Term, Polynomial, Atom, Board, by_terms}
use Rattle.rules.specs.Deduce.{Row, rows, is_strict, is_zero, found}

-- p + u·q as a polynomial, from the rows of p and q: like monomials are combined, and those with the coefficient 0 are left out.
unfoldable pub unless_zero : Bool → Term → Polynomial → Polynomial
unless_zero true t rest = rest
unless_zero false t rest = t ∷ rest

unfoldable pub added_rows : ℤ → List Row → Polynomial
added_rows u [] = []
added_rows u (x ∷ xs) = let c = x.a +ℤ u *ℤ x.b in unless_zero (is_zero c) (record { coefficient = c; monomial = x.monomial }) (added_rows u xs)

-- (The signs in the rows are not looked at, so any board will do.)
unfoldable pub plus_times : Polynomial → ℤ → Polynomial → Polynomial
plus_times p u q = added_rows u (rows [] p q)

-- "Each factor must make u·q1 and v·q2 never positive under their sets, sets ≠ and full being left out": q is never positive, never negative;
unfoldable pub non_positive : Kind → Bool
non_positive <0 = true
non_positive ≤0 = true
non_positive =0 = true
non_positive >0 = false
non_positive ≥0 = false
non_positive ≠0 = false
non_positive any = false
non_positive ∅ = false

unfoldable pub non_negative : Kind → Bool
non_negative >0 = true
non_negative ≥0 = true
non_negative =0 = true
non_negative <0 = false
non_negative ≤0 = false
non_negative ≠0 = false
non_negative any = false
non_negative ∅ = false

-- u·q is never positive, and never negative.
unfoldable pub never_positive : ℤ → Kind → Bool
never_positive u k = cond (non_neg u) (non_positive k) (non_negative k)

unfoldable pub never_negative : ℤ → Kind → Bool
never_negative u k = cond (non_neg u) (non_negative k) (non_positive k)

-- "If the set by terms of p + u·q1 + v·q2 lies inside ≥, then p ≥ 0; and p > 0 if that set is > or if q1's or q2's set is < or >."
unfoldable pub pair_found : SignSet → Bool → SignSet
pair_found total strict = found (inside total 3 && (inside total 1 || strict)) (inside total 3)

-- "The mirrored test (u·q1 and v·q2 never negative, the set inside ≤) gives ≤ and <."
unfoldable pub pair_mirrored : SignSet → Bool → SignSet
pair_mirrored total strict = mirror (pair_found (mirror total) strict)

-- One try: its finding, if the factors allow a test. The findings of both tests, if they allow both, are intersected.
unfoldable pub tried : Bool → Bool → SignSet → Bool → List SignSet
tried false false total strict = []
tried true false total strict = pair_found total strict ∷ []
tried false true total strict = pair_mirrored total strict ∷ []
tried true true total strict = intersect (pair_found total strict) (pair_mirrored total strict) ∷ []

unfoldable pub try : Board → Polynomial → Atom → Atom → ℤ → ℤ → List SignSet
try board p q1 q2 u v =
    let k1 = kind q1.set in
    let k2 = kind q2.set in
    tried (never_positive u k1 && never_positive v k2) (never_negative u k1 && never_negative v k2)
    (by_terms board (plus_times (plus_times p u q1.polynomial) v q2.polynomial)) (is_strict k1 || is_strict k2)

-- "whole factors u, then v, from -4 up to 4, neither 0"
unfoldable pub factors : List ℤ
factors = negsuc 3 ∷ negsuc 2 ∷ negsuc 1 ∷ negsuc 0 ∷ pos 1 ∷ pos 2 ∷ pos 3 ∷ pos 4 ∷ []

unfoldable pub with_each : (ℤ → List SignSet) → List ℤ → List SignSet
with_each f [] = []
with_each f (u ∷ us) = f u ++ with_each f us

-- "each pair of non-variable atoms other than p, in list order": the first goes through the list, the second through what comes after it.
unfoldable pub tries_with : Board → Polynomial → Atom → List Atom → List SignSet
tries_with board p q1 [] = []
tries_with board p q1 (q2 ∷ later) = with_each (λ (u : ℤ). with_each (try board p q1 q2 u) factors) factors ++ tries_with board p q1 later

-- The findings for p of all tries, in order; the atoms are those other than p.
unfoldable pub tries : Board → Polynomial → List Atom → List SignSet
tries board p [] = []
tries board p (q1 ∷ later) = tries_with board p q1 later ++ tries board p later

-- The first of them that changes a set: what it leaves.
unfoldable pub cut_or : Bool → SignSet → Option SignSet → Option SignSet
cut_or true cut later = later
cut_or false cut later = some cut

unfoldable pub first_cut : SignSet → List SignSet → Option SignSet
first_cut s [] = none
first_cut s (f ∷ fs) = let later = first_cut s fs in cut_or (eqb (intersect s f) s) (intersect s f) later

-- All of them.
unfoldable pub cut_by_all : SignSet → List SignSet → SignSet
cut_by_all s [] = s
cut_by_all s (f ∷ fs) = cut_by_all (intersect s f) fs

-- To unfold this is to unfold every definition of this file.
unfoldable pub open_two_atoms : Unit {0}
unfolding unless_zero added_rows plus_times non_positive non_negative never_positive never_negative pair_found pair_mirrored tried try factors with_each tries_with tries cut_or first_cut cut_by_all
open_two_atoms = tt
