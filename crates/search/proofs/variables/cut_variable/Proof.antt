-- `cut_variable` meets its contract: a variable's slot holds the variable, and no finding changes a set that is its floor's.
use borrow.Author.Rules.{rules}
use mathlib.Core.Path.{◌≡◌, ◌∙◌}
use mathlib.Core.Option.{none}
use Prim.Native.Nat.{◌<◌}
use native.Mathlib.Omega.{arith}
use lib.ListN.{get_or}
use Rattle.rules.specs.Polynomial.{variable}
use Rattle.rules.specs.TwoAtoms.{tries, first_cut}
use Rattle.terms.specs.View.{few, sets_of}
use Rattle.table.specs.Table.{Table, atoms_of}
use Rattle.round.specs.Views.{lent_table}
use Rattle.round.specs.Boards.{set_at}
use Rattle.search.proofs.Firsts.{none_left}
use Rattle.search.proofs.Nothing.{floor-set}
use Rattle.search.proofs.variables.cut_variable.Statement.{statement}
use Rattle.search.proofs.variables.cut_variable.Tie as tie

abbrev table : tie.Start → Table
table s = lent_table s.args.coefficient s.args.monomial s.args.terms s.args.board.variables

returns : tie.Need-returns-then-set-low
returns c =
    let s = c.before.before.before.before.before.before.before.before in
    let b = s.args.board in
    let f = s.args.floor in
    let i = s.args.i in
    let low : i < few b.variables = omega (arith, s.requires.0.0.forms.variables, s.requires.1.1.1) in
    let same = floor-set b f s.requires.0.0.forms.variables s.requires.1.0.1 i s.requires.1.1.1 c.if-set-low.true in
    let none_here : first_cut (get_or b.sets i 0) (tries (sets_of b) (variable b.variables i) (atoms_of (table s) s.args.atoms)) ≡ none =
    rw (set_at b.sets i (few b.variables) low) at (s.requires.1.0.0.idle i s.requires.1.1.1 same) in
    none_left (get_or b.sets i 0) _ none_here

cut-by-pairs-requires : tie.Need-cut_by_pairs-requires
cut-by-pairs-requires c κs =
    let s = c.before.before.before.before.before.before.before.before in
    let own = s.requires.0.0.variables s.args.i s.requires.1.1.1 in
    (s.requires.0, ((omega (arith, s.requires.0.0.forms.variables, s.requires.1.1.1), own), s.requires.1.1.0))

returns-2 : tie.Need-returns
returns-2 c =
    let s = c.before.before.before.before.before.before.before.before.before in
    c.cut_by_pairs.ensures ∙ rw (s.requires.0.0.forms.each_variable s.args.i s.requires.1.1.1)

pub cut_variable_spec : {M : Type 1} → statement M
cut_variable_spec = tie.close (tie.spec (λ c. search rules) (λ c. search rules) returns (λ c. search rules) cut-by-pairs-requires returns-2)
