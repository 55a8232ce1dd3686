use Rattle.std.proofs.Common.{◌∙◌, sym, arith}
use Rattle.terms.specs.View.{terms_from}
use Rattle.pool.proofs.Walks.{terms-length, listed-stored, listed-none}
use Rattle.pool.proofs.slots.list_form.Goals as goal

pub returns-in-Some : goal.returns-in-Some
returns-in-Some c =
    let a = c.args in
    let found = rw c.in-Some.is at c.place_for.ensures in
    c.put_terms.ensures
    ∙ listed-stored a.number a.pool.now (terms_from a.coefficient.now a.monomial.now a.from a.count) c.in-Some.slot
    c.with_mark.result a.count found.is found.below c.with_mark.ensures
    (sym (terms-length a.coefficient.now a.monomial.now a.from a.count))

pub returns-in_default : goal.returns-in_default
returns-in_default c =
    let a = c.args in
    let found = rw c.in_default.is at c.place_for.ensures in
    listed-none a.number a.pool.now (terms_from a.coefficient.now a.monomial.now a.from a.count) 128 found.is (omega arith)
