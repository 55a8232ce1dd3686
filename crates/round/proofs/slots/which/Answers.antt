use Rattle.std.proofs.Common.{◌≡◌, ◌+◌, ◌-◌, ◌*◌, ◌∙◌, get_or, refl, sym, arith, eq-eqb, ne_eqb}
use lib.Dec.{eqb}
use Rattle.rules.specs.Polynomial.{which_of, same, variable}
use Rattle.rules.specs.Polynomial.{which as which_in}
use Rattle.table.specs.Table.{form_at}
use Rattle.round.specs.Views.{lent_table}
use Rattle.round.proofs.Variables.{one-bits, other-bits, several-terms, other-coefficient, by-monomial, no-variable, this-variable, another-variable}
use Rattle.round.proofs.slots.which.Goals as goal
use Rattle.round.proofs.slots.which.Goals.{In-loop-i}

pub returns-then-count-ne1 : goal.returns-then-count-ne1
unfolding which_in
returns-then-count-ne1 c =
    let t = lent_table c.args.coefficient c.args.monomial c.args.terms c.args.variables in
    (sym (no-variable _ _ (several-terms t c.args.k c.if-count-ne1.true) _), tt)

pub returns-then-c-ne1 : goal.returns-then-c-ne1
unfolding which_in
returns-then-c-ne1 c =
    let t = lent_table c.args.coefficient c.args.monomial c.args.terms c.args.variables in
    (sym (no-variable _ _ (other-coefficient t c.args.k c.if-count-ne1.false (other-bits _ c.if-c-ne1.true)) _), tt)

pub loop-i-init : goal.loop-i-init
unfolding which_in
loop-i-init c = refl

-- the test of a turn is the book's
tested : (c : In-loop-i) →
    let a = c.args in
    let i = c.loop-i.i - 1 in
    same (form_at (lent_table a.coefficient a.monomial a.terms a.variables) a.k) (variable a.variables i)
    ≡ eqb (get_or a.monomial.now (16 * a.k) 0) (get_or a.monomial.now (16 * (64 + i)) 0)
tested c =
    by-monomial (lent_table c.args.coefficient c.args.monomial c.args.terms c.args.variables) c.args.k c.requires.0 c.if-count-ne1.false
    (one-bits _ (record { sfits = c.c-1.given }) c.if-c-ne1.false) _ (omega arith)

pub returns-then-m-monomial : goal.returns-then-m-monomial
returns-then-m-monomial c =
    let l = c.loop-i in
    (sym (this-variable _ _ l.i c.loop-i-test.true (tested (goal.at.returns-then-m-monomial c).In-loop-i ∙ eq-eqb _ _ c.if-m-monomial.true)) ∙ l.invariant, omega arith)

pub loop-i-preserved : goal.loop-i-preserved
loop-i-preserved c =
    let l = c.loop-i in
    sym (another-variable _ _ l.i c.loop-i-test.true (tested (goal.at.loop-i-preserved c).In-loop-i ∙ ne_eqb _ _ c.if-m-monomial.false)) ∙ l.invariant

pub returns : goal.returns
unfolding which_of
returns c =
    let e : c.loop-i.i ≡ 0 = omega arith in
    (rw e at c.loop-i.invariant, tt)
