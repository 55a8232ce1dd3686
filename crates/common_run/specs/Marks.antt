-- Marks of the rounds that first rest on the atoms of a list, or need one: the atoms that are marked by a round, and marks that grow.
use Rattle.std.specs.Prelude.{◌≡◌, Bool, true, false, not, ◌&&◌, List, [], ◌∷◌, ℕ, zero, suc, eqb, leb, ltb, get_or}
use Rattle.rules.specs.Signs.{SignSet}
use Rattle.rules.specs.Polynomial.{Atom}
use Rattle.table.specs.declared.Atoms.{Atoms}
use Rattle.table.specs.Table.{Table, atom_at, many}
use Rattle.round.specs.Signing.{atom_slot}
use Rattle.common_run.specs.declared.marks.BothMarks.{BothMarks}

-- a mark is of one of the rounds 1 to round
unfoldable pub marked_by : ℕ → ℕ → Bool
marked_by mark round = ltb 0 mark && leb mark round

unfoldable pub when_true : Bool → Atom → List Atom → List Atom
when_true true a l = a ∷ l
when_true false a l = l

-- of k atoms from the one at i on, those whose slots pass a test
unfoldable pub those_from : (ℕ → Bool) → Table → List ℕ → List SignSet → ℕ → ℕ → List Atom
those_from test t numbers sets i zero = []
those_from test t numbers sets i (suc k) =
    when_true (test (atom_slot numbers i)) (atom_at t numbers sets i) (those_from test t numbers sets (suc i) k)

-- of all atoms of a list
abbrev pub those_of : (ℕ → Bool) → Table → Atoms → List Atom
those_of test t a = those_from test t a.number a.set 0 (many a.count)

-- those that are marked by a round
abbrev pub marked_slot : List ℕ → ℕ → ℕ → Bool
marked_slot marks round k = marked_by (get_or marks k 0) round

abbrev pub marked_of : List ℕ → ℕ → Table → Atoms → List Atom
marked_of marks round t a = those_of (marked_slot marks round) t a

-- those that are not of slot k
unfoldable pub other_than : ℕ → ℕ → Bool
other_than k j = not (eqb j k)

abbrev pub apart_of : ℕ → Table → Atoms → List Atom
apart_of k t a = those_of (other_than k) t a

-- what is marked by a round stays so
pub record Grows (marks more : List ℕ) : Type 0 where
  pub keeps : (k round : ℕ) → marked_by (get_or marks k 0) round ≡ true → marked_by (get_or more k 0) round ≡ true

-- and slot k is marked by the round, if the set has changed
pub record MarkedAt (marks : List ℕ) (before after k round : ℕ) (more : List ℕ) : Type 0 where
  pub grows : Grows marks more
  pub here : (before ≡ after → ⊥) → marked_by (get_or more k 0) round ≡ true

-- both kinds of marks
pub record GrowBoth (marks more : BothMarks) : Type 0 where
  pub resting : Grows marks.resting.first more.resting.first
  pub needed : Grows marks.needed.first more.needed.first
