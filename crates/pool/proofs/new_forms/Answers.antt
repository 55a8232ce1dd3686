use Rattle.std.proofs.Common.{ℕ, ◌+◌, ◌∙◌, List, not, ap, subst, arith, get_or}
use Rattle.rules.specs.Polynomial.{Polynomial}
use Rattle.rules.specs.Pool.{stores, forms_in_use}
use Rattle.pool_laws.specs.Places.{first_place, new_forms}
use Rattle.forms.specs.Slots.{slot_of}
use Rattle.pool.specs.Run.{SlotIs}
use Rattle.pool.specs.Words.{slots_of}
use Rattle.pool.proofs.Listings.{forms_left, forms-cons, forms-end, run_is, one-new, one_known}
use Rattle.pool.proofs.new_forms.Goals.{then-is_none, else-is_none}
use Rattle.pool.proofs.new_forms.Goals as goal

pub loop-i-preserved : goal.loop-i-preserved
loop-i-preserved c =
    let a = c.args in
    let l = c.loop-i in
    let k : ℕ = get_or a.order.now l.i 0 in
    let p : Polynomial = slot_of a.coefficient.now a.monomial.now a.terms.now k in
    let rest : List Polynomial = forms_left a.coefficient.now a.monomial.now a.terms.now a.order.now a.count (l.i + 1) in
    let found : SlotIs c.find.result (first_place (stores p) (slots_of a.pool.now)) =
    subst (λ (q : Polynomial). SlotIs c.find.result (first_place (stores q) (slots_of a.pool.now))) (run_is a.coefficient.now a.monomial.now a.terms.now k
    c.from-slot.result c.from-size.result c.from-slot.ensures c.from-size.ensures) c.find.ensures in
    let next = ap (new_forms (forms_in_use (slots_of a.pool.now)))
    (forms-cons a.coefficient.now a.monomial.now a.terms.now a.order.now a.count l.i c.loop-i-test.true) in
    elim c.if-is_none.branch [
      | then-is_none w ↦
          let step = next ∙ one-new a.pool.now p rest c.find.result found (c.is_none.ensures ∙ ap not w.if-is_none.true) in
          let t = w.total-is in
          record { most = omega arith; left = omega (arith, l.invariant.left, step, t) }
      | else-is_none w ↦
          let step = next ∙ one_known a.pool.now p rest c.find.result found (c.is_none.ensures ∙ ap not w.if-is_none.false) in
          let t = w.total-is in
          record { most = omega arith; left = omega (arith, l.invariant.left, step, t) }
    ]

pub returns : goal.returns
unfolding new_forms
returns c =
    let l = c.loop-i in
    let a = c.args in
    let none = ap (new_forms (forms_in_use (slots_of a.pool.now))) (forms-end a.coefficient.now a.monomial.now a.terms.now a.order.now a.count l.i c.loop-i-test.false) in
    (omega (arith, l.invariant.left, none), omega arith)
