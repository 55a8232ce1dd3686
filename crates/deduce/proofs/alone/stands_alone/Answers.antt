use borrow.Author.Tests.{eq-eqb, ne_eqb}
use mathlib.Core.Bool.{not}
use mir.Syntax.{w32}
use Rattle.std.proofs.Common.{sym, ap, ◌∙◌, pos, get_or, SFits, rules}
use Rattle.interval.specs.Coefficients.{zero_test, is-zero, not_zero}
use Rattle.deduce.specs.Alone.{stands_alone}
use Rattle.deduce.proofs.alone.stands_alone.Goals as goal
use Rattle.deduce.proofs.alone.stands_alone.Goals.{then-p-i-ne1-via-then-p-i-ne1, then-p-i-ne1-via-else-p-i-ne1+then-not-asks_zero}

pub returns-then-p-i-ne1 : goal.returns-then-p-i-ne1
unfolding stands_alone
returns-then-p-i-ne1 c =
    elim c.then-p-i-ne1.branch [
      | then-p-i-ne1-via-then-p-i-ne1 w ↦ simp (ne_eqb _ 1 w.if-p-i-ne1.true)
      | then-p-i-ne1-via-else-p-i-ne1+then-not-asks_zero w ↦ simp (eq-eqb _ 1 w.if-p-i-ne1.false, sym w.asks_zero.ensures ∙ w.if-not-asks_zero.true)
    ]

pub returns-then-a-ne0 : goal.returns-then-a-ne0
unfolding stands_alone
returns-then-a-ne0 c =
    let z = get_or c.args.coefficient.now c.args.p.from (pos 0) in
    let fits : SFits w32 z = record { sfits = search rules } in
    simp (eq-eqb _ 1 c.if-p-i-ne1.false, sym c.asks_zero.ensures ∙ c.if-not-asks_zero.false, not_zero fits c.if-a-ne0.true) (ap not c.meets.ensures)

pub returns-else-a-ne0 : goal.returns-else-a-ne0
unfolding stands_alone
returns-else-a-ne0 c =
    let z = get_or c.args.coefficient.now c.args.p.from (pos 0) in
    let fits : SFits w32 z = record { sfits = search rules } in
    simp (eq-eqb _ 1 c.if-p-i-ne1.false, sym c.asks_zero.ensures ∙ c.if-not-asks_zero.false, zero_test fits, is-zero fits c.if-a-ne0.false)
