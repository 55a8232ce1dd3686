-- The forms are counted, and if there is room for them, listed.
use Rattle.std.proofs.Common.{arith}
use Rattle.terms.specs.View.{numbers_from}
use Rattle.pool.specs.Reading.{forms_in}
use Rattle.pool.specs.Entry.{filled-full, filled-as, added_is}
use Rattle.pool.proofs.fill.Goals as goal

pub returns-then-used-fresh-gt128 : goal.returns-then-used-fresh-gt128
returns-then-used-fresh-gt128 c =
    let a = c.args in
    filled-full a.pool.now a.number a.variables (forms_in a.coefficient.now a.monomial.now a.terms.now (numbers_from a.order.now 0 a.count))
    (omega (arith, c.if-used-fresh-gt128.true, c.used.ensures.0, c.new_forms-fresh.ensures.0))

pub returns : goal.returns
returns c =
    let a = c.args in
    let forms = forms_in a.coefficient.now a.monomial.now a.terms.now (numbers_from a.order.now 0 a.count) in
    filled-as a.pool.now _ a.number a.variables forms
    (added_is a.number a.variables forms a.pool.now _ _ c.list_forms.ensures c.with_mark-row.ensures)
    (omega (arith, c.if-used-fresh-gt128.false, c.used.ensures.0, c.new_forms-fresh.ensures.0))
