-- 02, #110: "deducing p from q" without intervals, to be followed with a pencil. Some values of t are listed, and each is tested by itself.
-- Crate plain_laws says that the finding is that of Deduce, for all boards, p, q and sets.
use Rattle.std.specs.Prelude.{Bool, true, false, not, ◌&&◌, ◌||◌, List, [], ◌∷◌, ℕ, zero, suc, ◌+◌, eqb, ℤ, pos, negsuc, neg_ℤ, ◌+ℤ◌, ◌-ℤ◌, ◌*ℤ◌}
use Rattle.std.specs.Int.Signed.{le_z}
use Rattle.rules.specs.Signs.{Sign, negative, nought, positive, sign_of, has, SignSet, empty, Kind, ∅, >0, =0, ≥0, <0, ≠0, ≤0, any, kind, mirror, intersect}
use Rattle.rules.specs.Polynomial.{Polynomial, Atom, Board}
use Rattle.rules.specs.Deduce.{Fraction, denominator, at_most, Row, rows, is_strict, found, any_empty, unless_empty}

-- ---- The values.

-- A value is put at its place among others, which rise. "Equal fractions are one value, whatever their terms": one that is there already stays as it is.
unfoldable pub of_order : Bool → Bool → List Fraction → List Fraction → List Fraction → List Fraction
of_order true true equal below above = equal
of_order true false equal below above = below
of_order false second equal below above = above

unfoldable pub placed : Fraction → List Fraction → List Fraction
placed t [] = t ∷ []
placed t (u ∷ us) = of_order (at_most t u) (at_most u t) (u ∷ us) (t ∷ u ∷ us) (u ∷ placed t us)

-- "-a/b for every monomial of p or q with b not 0 (also where the monomial's set is =)"
unfoldable pub with_root : ℤ → ℤ → List Fraction → List Fraction
with_root a (pos zero) us = us
with_root a (pos (suc b)) us = placed (record { numerator = neg_ℤ a; less = b }) us
with_root a (negsuc b) us = placed (record { numerator = a; less = b }) us

unfoldable pub with_roots : List Fraction → List Row → List Fraction
with_roots us [] = us
with_roots us (x ∷ xs) = with_roots (with_root x.a x.b us) xs

-- "and 0"
abbrev pub zero_fraction : Fraction
zero_fraction = record { numerator = pos 0; less = 0 }

unfoldable pub listed : List Row → List Fraction
listed xs = with_roots (zero_fraction ∷ []) xs

-- "One value between each two neighbours: numerators added, denominators added. One below the least: the least less 1; one above the greatest: the greatest plus 1."
abbrev pub between : Fraction → Fraction → Fraction
between t u = record { numerator = t.numerator +ℤ u.numerator; less = suc (t.less + u.less) }

abbrev pub one_less : Fraction → Fraction
one_less t = record { numerator = t.numerator -ℤ denominator t; less = t.less }

abbrev pub one_more : Fraction → Fraction
one_more t = record { numerator = t.numerator +ℤ denominator t; less = t.less }

unfoldable pub up_from : Fraction → List Fraction → List Fraction
up_from t [] = t ∷ one_more t ∷ []
up_from t (u ∷ us) = t ∷ between t u ∷ up_from u us

unfoldable pub filled : List Fraction → List Fraction
filled [] = []
filled (t ∷ ts) = one_less t ∷ up_from t ts

unfoldable pub values : List Row → List Fraction
values xs = filled (listed xs)

-- ---- The conditions at one value.

-- "A t = c/d is tested against the conditions directly, by comparing the products a·d and -c·b, never by adding them": the sign of a+tb.
unfoldable pub of_orders : Bool → Bool → Sign
of_orders true true = nought
of_orders true false = negative
of_orders false second = positive

unfoldable pub sign_at : Fraction → ℤ → ℤ → Sign
sign_at t a b = let ad = a *ℤ denominator t in let cb = neg_ℤ t.numerator *ℤ b in of_orders (le_z ad cb) (le_z cb ad)

-- What L asks of a+tb: "≥ 0 if s is > or ≥; ≤ 0 if s is < or ≤; = 0 if s is ≠ or full; no condition if s is =. U is the same with ≥ and ≤ exchanged."
unfoldable pub asks_l : Kind → SignSet
asks_l >0 = 3
asks_l ≥0 = 3
asks_l <0 = 6
asks_l ≤0 = 6
asks_l ≠0 = 2
asks_l any = 2
asks_l =0 = 7
asks_l ∅ = 7

unfoldable pub asks_u : Kind → SignSet
asks_u s = mirror (asks_l s)

unfoldable pub passes : (Kind → SignSet) → Fraction → List Row → Bool
passes asks t [] = true
passes asks t (x ∷ xs) = has (sign_at t x.a x.b) (asks x.s) && passes asks t xs

-- "some > or < monomial is not 0"
unfoldable pub is_not0 : Sign → Bool
is_not0 s = has s 5

unfoldable pub strict_at : Fraction → List Row → Bool
strict_at t [] = false
strict_at t (x ∷ xs) = (is_strict x.s && is_not0 (sign_at t x.a x.b)) || strict_at t xs

-- ---- The finding.

-- The sign that a t of L is to have, by q's set: ≥ 0 for < and ≤, ≤ 0 for > and ≥, any for =; none is asked for with ≠ and full. For U it is mirrored.
unfoldable pub wanted_l : Kind → SignSet
wanted_l <0 = 3
wanted_l ≤0 = 3
wanted_l >0 = 6
wanted_l ≥0 = 6
wanted_l =0 = 7
wanted_l ≠0 = 0
wanted_l any = 0
wanted_l ∅ = 0

unfoldable pub wanted_u : Kind → SignSet
wanted_u k = mirror (wanted_l k)

-- A value of that sign passes; and the finding is strict there: q's set is < or > and t is not 0, or "some > or < monomial is not 0".
unfoldable pub weak_at : SignSet → (Kind → SignSet) → List Row → Fraction → Bool
weak_at wanted asks xs t = has (sign_of t.numerator) wanted && passes asks t xs

unfoldable pub strictly_at : Kind → SignSet → (Kind → SignSet) → List Row → Fraction → Bool
strictly_at k wanted asks xs t = weak_at wanted asks xs t && ((is_strict k && is_not0 (sign_of t.numerator)) || strict_at t xs)

-- "'Has a t with ..' holds exactly if some tested value of that sign passes"
unfoldable pub some : (Fraction → Bool) → List Fraction → Bool
some f [] = false
some f (t ∷ ts) = f t || some f ts

unfoldable pub plain_found : Kind → SignSet → (Kind → SignSet) → List Row → SignSet
plain_found k wanted asks xs = found (some (strictly_at k wanted asks xs) (values xs)) (some (weak_at wanted asks xs) (values xs))

-- What U gives is the same with < for > and ≤ for ≥. "The findings are intersected."
unfoldable pub plain_finding_of : Kind → List Row → SignSet
plain_finding_of k xs = intersect (plain_found k (wanted_l k) asks_l xs) (mirror (plain_found k (wanted_u k) asks_u xs))

unfoldable pub plain_deduce : Board → Polynomial → Atom → SignSet
plain_deduce board p q = let s = plain_finding_of (kind q.set) (rows board p q.polynomial) in unless_empty (eqb q.set empty || any_empty board) s

-- To unfold this is to unfold every definition of this file.
unfoldable pub open_plain : Unit {0}
unfolding of_order placed with_root with_roots listed up_from filled values of_orders sign_at asks_l asks_u passes is_not0 strict_at wanted_l wanted_u weak_at strictly_at some plain_found plain_finding_of plain_deduce
open_plain = tt
