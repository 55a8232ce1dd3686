-- What the structs of a round stand for over a table: a state, the rest of a list, the variable that a slot holds.
-- The table is lent as slices; `table_of` is what their lists are together.
use Rattle.std.specs.Prelude.{List, ◌++◌, ℕ, ◌+◌, ◌-◌, ◌<◌, ℤ}
use Rattle.std.proofs.Math.Option.{Option, none, some}
use Rattle.std.specs.Borrow.{Bor}
use Rattle.rules.specs.Signs.{SignSet}
use Rattle.rules.specs.Polynomial.{Atom, Board}
use Rattle.rules.specs.Rounds.{cut_atom}
use Rattle.rules.specs.Rounds.{State as Standing}
use Rattle.terms.specs.View.{sets_of}
use Rattle.table.specs.declared.Atoms.{Atoms}
use Rattle.table.specs.Table.{Table, atom_at, atoms_from, atoms_of, many}
use Rattle.round.specs.declared.State.{State}
use Rattle.round.specs.declared.slots.Holds.{Holds}
use Rattle.round.specs.declared.slots.Holds.TheVariants.{Variable, Form}

abbrev pub table_of : List ℤ → List ℕ → List ℕ → ℕ → Table
table_of coefficient monomial terms variables = record { variables = variables; coefficient = coefficient; monomial = monomial; terms = terms }

abbrev pub lent_table : Bor (List ℤ) → Bor (List ℕ) → Bor (List ℕ) → ℕ → Table
lent_table coefficient monomial terms variables = table_of coefficient.now monomial.now terms.now variables

-- the variable that a slot was found to hold
abbrev pub variable_of : Holds → Option ℕ
variable_of (Variable i) = some i
variable_of Form = none

-- and that it is one of the first n
abbrev pub Below : ℕ → Holds → Type 0
Below n (Variable i) = i < n
Below n Form = Unit {0}

abbrev pub state_of : Table → State → Standing
state_of t st = record { board = sets_of st.board; atoms = atoms_of t st.atoms }

-- the atoms of a list from the one at i on
abbrev pub rest : Table → Atoms → ℕ → List Atom
rest t a i = atoms_from t a.number a.set i (many a.count - i)

-- the set of the atom at i, one of the first n, cut by a round
abbrev pub cut_set : Table → List ℕ → List SignSet → Board → ℕ → ℕ → SignSet
cut_set t numbers sets board n i =
    (cut_atom board (atoms_from t numbers sets 0 i ++ atoms_from t numbers sets (i + 1) (n - (i + 1))) (atom_at t numbers sets i)).set
