-- `without` meets its contract: as many rounds as the common run, or those in common with it and those from the board that is read back.
use borrow.Author.Rules.{rules}
use mathlib.Core.Path.{◌≡◌, refl, sym, ◌∙◌, ap}
use Prim.Native.Nat.{ℕ, ◌+◌, max}
use native.Mathlib.Omega.{arith}
use Rattle.rules.specs.Rounds.{enough}
use Rattle.rules.specs.Rounds.{start as start_of}
use Rattle.count_laws.specs.Boards.{turned_rounds}
use Rattle.terms.specs.View.{sets_of}
use Rattle.table.specs.Table.{Table, atoms_of}
use Rattle.round.specs.Views.{lent_table}
use Rattle.round.specs.Over.{forms-over}
use Rattle.common_run.specs.Boards.{board_at}
use Rattle.common_run.proofs.Above.{bounded-over}
use Rattle.common_run.proofs.Knowing.{rounds-without, rounds-onward, bounded-onward, turned-from}
use Rattle.common_run.proofs.without.without.Statement.{statement}
use Rattle.common_run.proofs.without.without.Tie as tie

abbrev table : tie.Start → Table
table s = lent_table s.args.coefficient s.args.monomial s.args.terms s.args.variables

returns : tie.Need-returns-then-as_many
returns c =
    let s = c.before.before.before.before.before.before in
    let (unmarked, ended) = c.before.before.as_many.ensures c.before.if-as_many.true in
    c.larger.ensures ∙ ap (max s.args.largest) (rounds-without s.requires.0 s.requires.1.0 s.requires.1.1 c.before.before.before.mark_of-mark.ensures unmarked ended)

-- the board's variables are the table's
variables_are : (c : tie.After-restored-board) → c.restored-board.result.variables ≡ c.before.before.before.before.before.before.before.before.before.before.before.args.variables
variables_are c = c.restored-board.ensures.0 ∙ c.before.before.before.before.start-begun.ensures.0

-- its sets are those of the common run's board
sets-are : (c : tie.After-restored-board) → let s = c.before.before.before.before.before.before.before.before.before.before.before in sets_of c.restored-board.result ≡ board_at s.args.common.boards.sets c.before.before.before.before.before.shared-from.result s.args.variables
sets-are c = c.restored-board.ensures.1 ∙ ap (board_at c.before.before.before.before.before.before.before.before.before.before.before.args.common.boards.sets c.before.before.before.before.before.shared-from.result) c.before.before.before.before.start-begun.ensures.0

turned-largest-requires : tie.Need-turned_largest-requires
turned-largest-requires c κs =
    let s = c.before.before.before.before.before.before.before.before.before.before.before.before in
    let own = sym (variables_are c.before) in
    let shared = c.before.before.before.before.before.before.shared-from in
    let bounded = bounded-onward s.requires.0 s.requires.1.0 s.requires.1.1 c.before.before.before.before.before.start-begun.result c.before.before.before.before.before.start-begun.ensures.1 shared.result shared.ensures.0 c.before.restored-board.result (sets-are c.before) in
    (forms-over _ _ _ own s.requires.0, (bounded-over _ _ _ own bounded, omega (arith, shared.ensures.0, s.requires.1.1.run.ran.most)))

-- the rounds together
returns-2 : tie.Need-returns
returns-2 c =
    let s = c.before.before.before.before.before.before.before.before.before.before.before.before.before in
    let begun = c.before.before.before.before.before.before.start-begun in
    let shared = c.before.before.before.before.before.before.before.shared-from in
    let own = variables_are c.before.before in
    let onward = rounds-onward s.requires.0 s.requires.1.0 s.requires.1.1 c.before.before.before.before.before.before.before.before.before.before.mark_of-mark.ensures shared.result shared.ensures.0 shared.ensures.1 in
    let turned = turned-from _ _ _ own (atoms_of (table s) s.args.others) begun.result begun.ensures.0 begun.ensures.1 c.before.before.restored-board.result own refl in
    let first = start_of s.args.variables (atoms_of (table s) s.args.others) in
    let from-there = turned ∙ ap (turned_rounds s.args.variables first.atoms (enough first)) (sets-are c.before.before) in
    c.turned_largest.ensures ∙ ap (λ (k : ℕ). max s.args.largest (shared.result + k)) from-there ∙ ap (max s.args.largest) (sym onward)

pub without_spec : {M : Type 1} → statement M
without_spec =
    tie.close
    (tie.spec (λ c κs. search rules) (λ c κs. search rules) (λ c κs. search rules) returns (λ c κs. c.before.before.before.before.before.requires.1.1.run.ran.some) (λ c κs. search rules) (λ c κs. omega (arith, c.before.before.before.before.shared-from.ensures.0, c.before.before.before.before.before.before.before.before.before.before.requires.1.1.run.ran.most)) turned-largest-requires returns-2)
