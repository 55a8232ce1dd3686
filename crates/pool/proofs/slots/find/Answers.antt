use Rattle.std.proofs.Common.{◌≡◌, ◌∙◌, sym, ap, arith}
use Rattle.rules.specs.Pool.{stores}
use Rattle.terms.specs.View.{terms_from}
use Rattle.pool.proofs.Walks.{first_from, first_step, first_found, first-none}
use Rattle.pool.proofs.slots.find.Goals as goal

pub returns-then-stores : goal.returns-then-stores
returns-then-stores c =
    let a = c.args in
    record {
      is = first_found (stores (terms_from a.coefficient.now a.monomial.now a.from a.count)) a.pool.now c.loop-slot.slot c.loop-slot-test.true
          (sym c.stores.ensures ∙ c.if-stores.true) ∙ c.loop-slot.invariant;
      below = c.loop-slot-test.true;
    }

pub loop-slot-preserved : goal.loop-slot-preserved
loop-slot-preserved c =
    let a = c.args in
    first_step (stores (terms_from a.coefficient.now a.monomial.now a.from a.count)) a.pool.now c.loop-slot.slot c.loop-slot-test.true
    (sym c.stores.ensures ∙ c.if-stores.false) ∙ c.loop-slot.invariant

pub returns : goal.returns
returns c =
    let a = c.args in
    let test = stores (terms_from a.coefficient.now a.monomial.now a.from a.count) in
    let e : c.loop-slot.slot ≡ 128 = omega arith in
    record { is = first-none test a.pool.now ∙ ap (first_from test a.pool.now) (sym e) ∙ c.loop-slot.invariant; below = tt }
