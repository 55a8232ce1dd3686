-- What one atom more at the end of a list is, over any table.
-- An atom that is known to be a variable's is not listed: it goes to the board.
use Rattle.std.specs.Prelude.{◌≡◌, List, ◌++◌, ℕ, ◌+◌, ◌%◌, ◌≤◌}
use Rattle.std.proofs.Math.Option.{Option}
use Rattle.rules.specs.Signs.{SignSet}
use Rattle.rules.specs.Polynomial.{Atom}
use Rattle.rules.specs.Rounds.{unless_variable}
use Rattle.table.specs.declared.Atoms.{Atoms}
use Rattle.table.specs.Table.{Table, form_at, atoms_of}

-- r is the list a with one atom more at its end, unless that is a variable's
pub record Listed (variable : Option ℕ) (number : ℕ) (s : SignSet) (a r : Atoms) : Type 0 where
  pub count : r.count ≤ a.count + 1
  pub atoms : (t : Table) (l : List Atom) → atoms_of t r ++ l ≡ atoms_of t a ++ unless_variable variable (record { polynomial = form_at t (number % 64); set = s }) l
