-- Nothing is done, or the variable's set is cut by the one deduction, which is its turn in part.
use Rattle.std.proofs.Common.{◌≡◌, ◌<◌, ◌∙◌, length, refl, sym, arith, rules}
use Rattle.terms.specs.View.{few}
use Rattle.round.specs.Views.{lent_table}
use Rattle.ahead.proofs.Hints.{reached-by, reached-itself}
use Rattle.ahead.proofs.hint.Goals as goal

pub returns-then-board-i : goal.returns-then-board-i
returns-then-board-i c = reached-itself _ _ _ refl

pub returns-in_default : goal.returns-in_default
returns-in_default c = reached-itself _ _ _ refl

pub returns-then-old-lowest : goal.returns-then-old-lowest
returns-then-old-lowest c = reached-itself _ _ _ refl

pub returns-then-any_empty : goal.returns-then-any_empty
returns-then-any_empty c = reached-itself _ _ _ refl

pub returns : goal.returns
returns c =
    let b = c.args.board in
    let low : c.args.i < b.variables = c.if-board-i.false in
    let small : c.args.i < few b.variables = omega (arith, low, c.requires.0.variables) in
    let sixteen : length b.sets ≡ 16 = search rules in
    let within : c.args.i < length b.sets = omega (arith, low, sixteen, c.requires.0.variables) in
    let none = sym c.any_empty.ensures ∙ c.if-any_empty.false in
    reached-by (lent_table c.args.coefficient c.args.monomial c.args.terms b.variables) c.args.atoms b c.args.i c.in-Some.j low small refl within
    c.in-Some.ensures (c.deduced-found.ensures none) c.intersect-new.ensures
