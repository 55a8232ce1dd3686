-- The floor's set needs no turn; of any other the deductions leave the book's set.
use Rattle.std.proofs.Common.{◌≡◌, ◌<◌, ◌∙◌, length, get_or, arith, rules}
use native.Mathlib.Nat.{sub-zero}
use Rattle.rules.specs.Polynomial.{variable}
use Rattle.rules.specs.Rounds.{cut_by}
use Rattle.terms.specs.View.{few, sets_of}
use Rattle.table.specs.Table.{atoms_of}
use Rattle.round.specs.Views.{lent_table}
use Rattle.round.specs.Floors.{floor-keeps}
use Rattle.round.specs.Boards.{turn-changes, turn-keeps}
use Rattle.round.proofs.round.turned_set.Goals as goal
use Rattle.round.proofs.round.turned_set.Goals.{After-cut_down-new}

pub returns-then-old-low : goal.returns-then-old-low
returns-then-old-low c =
    let a = c.args in
    let low : a.i < few a.board.variables = omega (arith, c.requires.0.0.forms.variables, c.requires.0.1) in
    floor-keeps (lent_table a.coefficient a.monomial a.terms a.board.variables) a.atoms a.board a.floor a.i c.requires.1 low c.if-old-low.true

pub cut_down-new-requires-clause-in_slot : goal.cut_down-new-requires-clause-in_slot
cut_down-new-requires-clause-in_slot c =
    let (ready, low) = c.requires.0 in
    (omega (arith, c.many-n.ensures), (omega (arith, ready.forms.variables), ready.variables c.args.i low))

pub cut_down-new-requires-clause-above_floor : goal.cut_down-new-requires-clause-above_floor
cut_down-new-requires-clause-above_floor c =
    let ((ready, low), (small, part)) = c.requires in (small, rw (ready.forms.each_variable _ low, c.many-n.ensures, sub-zero) part)

-- the set that the deductions leave is the book's
cut-is : (c : After-cut_down-new) →
    let a = c.args in
    let t = lent_table a.coefficient a.monomial a.terms a.board.variables in
    c.cut_down-new.result.0 ≡ cut_by (sets_of a.board) (variable a.board.variables a.i) (atoms_of t a.atoms) (get_or a.board.sets a.i 0)
cut-is c =
    let ((ready, low), floor) = c.requires in
    c.cut_down-new.ensures ∙ rw (ready.forms.each_variable _ low, c.many-n.ensures, sub-zero)

pub returns-then-new-old : goal.returns-then-new-old
returns-then-new-old c =
    let b = c.args.board in
    let low : c.args.i < few b.variables = omega (arith, c.requires.0.0.forms.variables, c.requires.0.1) in
    turn-keeps b.variables b.sets c.args.i _ low _ (cut-is (goal.at.returns-then-new-old c).After-cut_down-new) c.if-new-old.true

pub returns : goal.returns
returns c =
    let b = c.args.board in
    let low : c.args.i < few b.variables = omega (arith, c.requires.0.0.forms.variables, c.requires.0.1) in
    let sixteen : length b.sets ≡ 16 = search rules in
    let within : c.args.i < length b.sets = omega (arith, c.requires.0.0.forms.variables, c.requires.0.1) in
    turn-changes b.variables b.sets c.args.i _ low _ (cut-is (goal.at.returns c).After-cut_down-new) within
