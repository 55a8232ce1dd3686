-- What the tests of one value, and of value after value, come to: on each board whose signs are the ones that are lent.
use Rattle.std.specs.Prelude.{◌≡◌, Bool, true, false, not, ◌&&◌, ◌||◌, List, [], ◌∷◌, ℕ, eqb, ℤ}
use Rattle.rules.specs.Signs.{SignSet, Kind, kind, inside, mirror, intersect}
use Rattle.rules.specs.Polynomial.{Board}
use Rattle.rules.specs.Deduce.{Fraction, free, Row, rows, is_strict, found}
use Rattle.rules.specs.Plain.{asks_l, asks_u, wanted_l, wanted_u, passes, strict_at, weak_at, strictly_at}
use Rattle.terms.specs.Signed.{Signed}
use Rattle.plain_laws.specs.Bounds.{largest}
use Rattle.deduce.specs.Runs.{polynomial_of, Within}
use Rattle.deduce.specs.Merge.{AtMost}
use Rattle.deduce.specs.declared.Run.{Run}
use Rattle.interval.specs.declared.interval.End.{End as KeptEnd}
use Rattle.interval.specs.Ends.{end_of, There}
use Rattle.plain.specs.declared.tests.Passed.{Passed}
use Rattle.plain.specs.declared.tests.Seen.{Seen}
use Rattle.plain.specs.Met.{neighbour}
use Rattle.plain.specs.Values.{SmallEnd}

-- p and q are runs of the lent slices, with coefficients of the magnitudes that a block has
pub record Lent (cs : List ℤ) (ms : List ℕ) (ss : List SignSet) (p q : Run) : Type 0 where
  pub first : Within cs ms ss p
  pub second : Within cs ms ss q
  pub first_small : AtMost largest cs p.from p.to
  pub second_small : AtMost largest cs q.from q.to

-- whether the run's are
pub record SmallIf (cs : List ℤ) (run : Run) (r : Bool) : Type 0 where
  pub yes : r ≡ true → AtMost largest cs run.from run.to
  pub no : r ≡ false → AtMost largest cs run.from run.to → ⊥

-- the rows of p and q
abbrev pub rows_of : Board → List ℤ → List ℕ → Run → Run → List Row
rows_of board cs ms p q = rows board (polynomial_of cs ms p) (polynomial_of cs ms q)

-- ---- One value.

-- r is what is left of x after a monomial of this kind, where a + tb has this sign
pub record Kept (x : Passed) (value : SignSet) (k : Kind) (r : Passed) : Type 0 where
  pub l : r.l ≡ (x.l && inside value (asks_l k))
  pub u : r.u ≡ (x.u && inside value (asks_u k))
  pub strict : r.strict ≡ (x.strict || (is_strict k && not (eqb value 2)))

-- r is what t passes
pub record Passes (cs : List ℤ) (ms : List ℕ) (ss : List SignSet) (p q : Run) (t : Fraction) (r : Passed) : Type 0 where
  pub on : {board : Board} → Signed board ms ss p.from p.to → Signed board ms ss q.from q.to → let xs = rows_of board cs ms p q in
      (r.l ≡ passes asks_l t xs) × ((r.u ≡ passes asks_u t xs) × (r.strict ≡ strict_at t xs))

-- r is the neighbour above f, and there is a least
pub record Neighbour (cs : List ℤ) (ms : List ℕ) (ss : List SignSet) (p q : Run) (f r : KeptEnd) : Type 0 where
  pub on : {board : Board} → Signed board ms ss p.from p.to → Signed board ms ss q.from q.to → end_of r ≡ neighbour (end_of f) (rows_of board cs ms p q)
  pub small : SmallEnd r
  pub least : end_of f ≡ free → There r

-- ---- What was seen of the values so far.

-- r is what was seen, and then of a value of this sign that passes so
pub record After (k : Kind) (g : Seen) (t : SignSet) (x : Passed) (r : Seen) : Type 0 where
  pub l : r.l ≡ (g.l || (inside t (wanted_l k) && x.l))
  pub above : r.above ≡ (g.above || ((inside t (wanted_l k) && x.l) && ((is_strict k && not (eqb t 2)) || x.strict)))
  pub u : r.u ≡ (g.u || (inside t (wanted_u k) && x.u))
  pub below : r.below ≡ (g.below || ((inside t (wanted_u k) && x.u) && ((is_strict k && not (eqb t 2)) || x.strict)))

-- one of them is of L, or of U, and has the sign that is wanted; and the finding is strict at one
unfoldable pub after : Kind → List Row → Seen → Fraction → Seen
after k xs g t = record {
  l = g.l || weak_at (wanted_l k) asks_l xs t;
  above = g.above || strictly_at k (wanted_l k) asks_l xs t;
  u = g.u || weak_at (wanted_u k) asks_u xs t;
  below = g.below || strictly_at k (wanted_u k) asks_u xs t;
}

unfoldable pub after_all : Kind → List Row → Seen → List Fraction → Seen
after_all k xs g [] = g
after_all k xs g (t ∷ ts) = after_all k xs (after k xs g t) ts

unfoldable pub nothing : Seen
nothing = record { l = false; above = false; u = false; below = false }

unfoldable pub finding_from : Seen → SignSet
finding_from g = intersect (found g.above g.l) (mirror (found g.below g.u))

-- r is what was seen, and then of these values
pub record SeenOf (cs : List ℤ) (ms : List ℕ) (ss : List SignSet) (p q : Run) (set : SignSet) (g : Seen) (vs : List Row → List Fraction) (r : Seen) : Type 0 where
  pub on : {board : Board} → Signed board ms ss p.from p.to → Signed board ms ss q.from q.to → let xs = rows_of board cs ms p q in
      r ≡ after_all (kind set) xs g (vs xs)
