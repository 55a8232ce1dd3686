-- What the search asks of the forms of a list's atoms, worked out once for the signs of a board: their words, the columns of these, and
-- whether their monomials fall.
use Rattle.std.specs.Prelude.{◌≡◌, Bool, true, List, ℕ, ℤ}
use Rattle.rules.specs.Signs.{SignSet}
use Rattle.table.specs.declared.Atoms.{Atoms}
use Rattle.search.specs.Falling.{FallingList}
use Rattle.search.specs.Masked.{MaskedAtoms}
use Rattle.search.specs.Noted.{NotedAtoms}

pub record Words (cs : List ℤ) (ms ts : List ℕ) (ss : List SignSet) (a : Atoms) (ws columns : List ℕ) (falls : Bool) : Type 0 where
  pub masked : MaskedAtoms cs ms ts ss a ws
  pub noted : NotedAtoms a ws columns
  pub falling : falls ≡ true → FallingList ms ts a
