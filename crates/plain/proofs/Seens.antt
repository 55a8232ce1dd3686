-- What is seen of value after value, and what is found from it.
use mathlib.Core.Path.{◌≡◌, refl, sym, ap, ap₂, ◌∙◌, subst}
use mathlib.Core.Bool.{Bool, true, false, ◌&&◌, ◌||◌}
use mathlib.Core.List.{List, [], ◌∷◌}
use borrow.Author.Tests.{ne_eqb}
use Rattle.sign_laws.specs.Booleans.{and_assoc, or-false}
use Rattle.rules.specs.Signs.{sign_of, SignSet, only, Kind, kind, has}
use Rattle.rules.specs.Polynomial.{Board, Polynomial}
use Rattle.rules.specs.Deduce.{Fraction, End, free, at, Row, rows, is_strict, finding_of, any_empty, unless_empty, deduce, at_zero}
use Rattle.rules.specs.Plain.{sign_at, asks_l, asks_u, wanted_l, wanted_u, passes, is_not0, strict_at, weak_at, strictly_at, some}
use Rattle.plain_laws.specs.Same.{same-finding}
use Rattle.interval.specs.Ends.{end_at}
use Rattle.plain.specs.declared.tests.Passed.{Passed}
use Rattle.plain.specs.declared.tests.Seen.{Seen}
use Rattle.plain.specs.Met.{neighbour, beside, under, met_end, met_from, met-enough}
use Rattle.plain.specs.Tests.{Kept, After, after, after_all, nothing, finding_from}
use Rattle.plain.proofs.Sets.{inside_one, not-nought}

or_assoc : (a b c : Bool) → (a || b) || c ≡ a || (b || c)
or_assoc true b c = refl
or_assoc false b c = refl

-- ---- one value

-- what x, with the rows that are left, says of all
abbrev pub Says : Fraction → Passed → List Row → List Row → Type 0
Says f x all left = (x.l && passes asks_l f left ≡ passes asks_l f all) × ((x.u && passes asks_u f left ≡ passes asks_u f all) × (x.strict || strict_at f left ≡ strict_at f all))

-- after one row more
pub says_row : (f : Fraction) {x r : Passed} {value : SignSet} (y : Row) (all left : List Row) → value ≡ only (sign_at f y.a y.b) → Kept x value y.s r
    → Says f x all (y ∷ left) → Says f r all left
unfolding passes strict_at
says_row f {x} y all left v kept (l, (u, s)) =
    let sign = sign_at f y.a y.b in (
      rw (kept.l, v, inside_one sign (asks_l y.s)) (sym (and_assoc x.l (has sign (asks_l y.s)) (passes asks_l f left)) ∙ l),
      (
        rw (kept.u, v, inside_one sign (asks_u y.s)) (sym (and_assoc x.u (has sign (asks_u y.s)) (passes asks_u f left)) ∙ u),
        rw (kept.strict, v, not-nought sign) (or_assoc x.strict (is_strict y.s && is_not0 sign) (strict_at f left) ∙ s),
      ),
    )

-- ---- the four together

pub seen_same : {r s : Seen} → r.l ≡ s.l → r.above ≡ s.above → r.u ≡ s.u → r.below ≡ s.below → r ≡ s
seen_same {r} {s} l a u b =
    ap (λ (x : Bool). of x r.above r.u r.below) l ∙ ap (λ (x : Bool). of s.l x r.u r.below) a
    ∙ ap (λ (x : Bool). of s.l s.above x r.below) u ∙ ap (λ (x : Bool). of s.l s.above s.u x) b
  where
    of : Bool → Bool → Bool → Bool → Seen
    of l a u b = record { l = l; above = a; u = u; below = b }

-- after a value t
pub seen-after : (k : Kind) (xs : List Row) (t : Fraction) {g r : Seen} {x : Passed} → After k g (only (sign_of t.numerator)) x r
    → (x.l ≡ passes asks_l t xs) × ((x.u ≡ passes asks_u t xs) × (x.strict ≡ strict_at t xs)) → r ≡ after k xs g t
unfolding after weak_at strictly_at
seen-after k xs t a (l, (u, s)) =
    let sign = sign_of t.numerator in
    seen_same (rw (a.l, inside_one sign (wanted_l k), l)) (rw (a.above, inside_one sign (wanted_l k), l, not-nought sign, s))
    (rw (a.u, inside_one sign (wanted_u k), u)) (rw (a.below, inside_one sign (wanted_u k), u, not-nought sign, s))

-- after those that an end brings: none, or the fraction and the value behind it
pub none-met : (k : Kind) (xs : List Row) (g : Seen) {e : End} → e ≡ free → g ≡ after_all k xs g (met_end xs e [])
unfolding after_all met_end
none-met k xs g h = subst (λ (e : End). g ≡ after_all k xs g (met_end xs e [])) (sym h) refl

pub one-met : (k : Kind) (xs : List Row) (g : Seen) {more r : Seen} {e near : End} (f : Fraction) → e ≡ at f → near ≡ neighbour e xs
    → more ≡ after_all k xs g (f ∷ []) → r ≡ after_all k xs more (beside f near ∷ []) → r ≡ after_all k xs g (met_end xs e [])
unfolding after_all met_end
one-met k xs g f h n a b = rw (b, a, n, h)

-- after the values that one end brings, and then others
pub after-end : (k : Kind) (xs : List Row) (g : Seen) (e : End) (rest : List Fraction) → after_all k xs (after_all k xs g (met_end xs e [])) rest ≡ after_all k xs g (met_end xs e rest)
unfolding after_all met_end
after-end k xs g free rest = refl
after-end k xs g (at f) rest = refl

-- a row of the walk, and its end: 0, and the least less 1
pub met-row : (k : Kind) (xs : List Row) (g : Seen) (x : Row) (left : List Row) {more : Seen} → more ≡ after_all k xs g (met_end xs (end_at x.a x.b) [])
    → after_all k xs more (met_from xs left) ≡ after_all k xs g (met_from xs (x ∷ left))
unfolding met_from
met-row k xs g x left e = ap (λ (m : Seen). after_all k xs m (met_from xs left)) e ∙ after-end k xs g (end_at x.a x.b) (met_from xs left)

pub met-last : (k : Kind) (xs : List Row) (g : Seen) {more r : Seen} {least : End} → more ≡ after_all k xs g (met_end xs at_zero []) → least ≡ neighbour free xs
    → r ≡ after_all k xs more (under least ∷ []) → r ≡ after_all k xs g (met_from xs [])
unfolding met_from
met-last k xs g e n h = h ∙ ap₂ (λ (m : Seen) (l : End). after_all k xs m (under l ∷ [])) e n ∙ after-end k xs g at_zero (under (neighbour free xs) ∷ [])

-- ---- all values

some_more : (b : Bool) (f : Fraction → Bool) (t : Fraction) (ts : List Fraction) → (b || f t) || some f ts ≡ b || some f (t ∷ ts)
unfolding some
some_more b f t ts = or_assoc b (f t) (some f ts)

module _ (k : Kind) (xs : List Row) where
  abbrev added : Seen → List Fraction → Seen
  added g vs = record {
    l = g.l || some (weak_at (wanted_l k) asks_l xs) vs;
    above = g.above || some (strictly_at k (wanted_l k) asks_l xs) vs;
    u = g.u || some (weak_at (wanted_u k) asks_u xs) vs;
    below = g.below || some (strictly_at k (wanted_u k) asks_u xs) vs;
  }

  all-added : (g : Seen) (vs : List Fraction) → after_all k xs g vs ≡ added g vs
  unfolding after_all after some
  all-added g [] = seen_same (sym (or-false g.l)) (sym (or-false g.above)) (sym (or-false g.u)) (sym (or-false g.below))
  all-added g (t ∷ vs) =
      all-added (after k xs g t) vs
      ∙ seen_same (some_more g.l (weak_at (wanted_l k) asks_l xs) t vs) (some_more g.above (strictly_at k (wanted_l k) asks_l xs) t vs)
      (some_more g.u (weak_at (wanted_u k) asks_u xs) t vs) (some_more g.below (strictly_at k (wanted_u k) asks_u xs) t vs)

  -- the values that are met give the finding
  pub finding-met : finding_from (after_all k xs nothing (met_from xs xs)) ≡ finding_of k xs
  unfolding finding_from nothing
  finding-met = ap finding_from (all-added nothing (met_from xs xs)) ∙ same-finding k xs (met-enough xs)

-- with no empty set it is the deduction
pub deduced : (board : Board) (p q : Polynomial) (s : SignSet) → (s ≡ 0 → ⊥) → any_empty board ≡ false
    → finding_of (kind s) (rows board p q) ≡ deduce board p (record { polynomial = q; set = s })
unfolding deduce unless_empty
deduced board p q s e h = simp (ne_eqb _ _ e, h)
