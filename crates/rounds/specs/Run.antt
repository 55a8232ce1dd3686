-- What the public functions ensure: the run of the rounds over a list, and where the rounds are begun.
use Rattle.std.specs.Prelude.{◌≡◌, true, false, List, map, ℕ, ◌<◌, max}
use Rattle.rules.specs.Polynomial.{Atom, Polynomial}
use Rattle.rules.specs.Rounds.{run, start, begun, enough, non_variable, same_sets}
use Rattle.rules.specs.Count.{run_count}
use Rattle.turn_laws.specs.AfterTurns.{AfterTurns, Idle}
use Rattle.turn_laws.specs.Afresh.{PairsIdle}
use Rattle.terms.specs.View.{numbers_from, sets_of}
use Rattle.table.specs.declared.Atoms.{Atoms}
use Rattle.table.specs.Table.{Table, atoms_of, many}
use Rattle.round.specs.declared.State.{State}
use Rattle.round.specs.Views.{state_of}
use Rattle.rounds.specs.declared.Ran.{Ran}
use Rattle.rounds.specs.declared.Counted.{Counted}
use Rattle.rounds.specs.declared.Largest.{Largest}
use Rattle.rounds.specs.declared.narrow.Beginning.{Beginning}
use Rattle.rounds.specs.Views.{outcome_of, counted_outcome, ending}

-- the polynomials of a list
abbrev pub polynomials_of : List Atom → List Polynomial
polynomials_of l = map (λ (a : Atom). a.polynomial) l

-- The atoms are those of the list that are no variable's, in order, but for their sets.
pub record NonVariable (t : Table) (list atoms : Atoms) : Type 0 where
  pub polynomials : polynomials_of (atoms_of t atoms) ≡ polynomials_of (non_variable t.variables (atoms_of t list))

-- r is what the rounds over the list come to
pub record RunOf (t : Table) (list : Atoms) (r : Ran) : Type 0 where
  pub outcome : outcome_of t r ≡ run t.variables (atoms_of t list)
  pub variables : r.state.board.variables ≡ t.variables
  pub atoms : NonVariable t list r.state.atoms

-- the same with the number of rounds begun
pub record CountedRun (t : Table) (list : Atoms) (r : Counted) : Type 0 where
  pub outcome : counted_outcome t r ≡ run t.variables (atoms_of t list)
  pub begun : r.begun ≡ begun t.variables (enough (start t.variables (atoms_of t list))) (start t.variables (atoms_of t list))
  pub variables : r.state.board.variables ≡ t.variables
  pub atoms : NonVariable t list r.state.atoms

-- the same with the larger of the largest number so far and that of the rounds begun
pub record LargestRun (t : Table) (list : Atoms) (largest : ℕ) (r : Largest) : Type 0 where
  pub outcome : ending r.contradiction (state_of t r.state) ≡ run t.variables (atoms_of t list)
  pub counts : r.largest ≡ max largest (run_count t.variables (atoms_of t list))
  pub variables : r.state.board.variables ≡ t.variables
  pub atoms : NonVariable t list r.state.atoms

-- the run has found no contradiction and left each atom the set that it has in the first state
pub record Uncut (first : State) (ran : Ran) : Type 0 where
  pub settles : ran.contradiction ≡ false
  pub sets : let k = many first.atoms.count in
      same_sets (numbers_from first.atoms.set 0 k) (numbers_from ran.state.atoms.set 0 k) ≡ true

-- r has the start of the list, but for turns of its variables, in some order, that have been taken ahead of the rounds; if it is still, each is idle
pub record NarrowedStart (t : Table) (list : Atoms) (r : Beginning) : Type 0 where
  pub variables : r.state.board.variables ≡ t.variables
  pub atoms : atoms_of t r.state.atoms ≡ (start t.variables (atoms_of t list)).atoms
  pub after : AfterTurns t.variables (start t.variables (atoms_of t list)).atoms (start t.variables (atoms_of t list)).board
      (sets_of r.state.board)
  pub idle : r.still ≡ true
      → (i : ℕ) → i < t.variables → Idle t.variables (start t.variables (atoms_of t list)).atoms (sets_of r.state.board) i

-- the same, and if it is still, no pair finds anything of a variable
pub record SettledStart (t : Table) (list : Atoms) (r : Beginning) : Type 0 where
  pub narrowed : NarrowedStart t list r
  pub pairs_idle : r.still ≡ true → (i : ℕ) → i < t.variables
      → PairsIdle t.variables (record { board = sets_of r.state.board; atoms = (start t.variables (atoms_of t list)).atoms }) i
