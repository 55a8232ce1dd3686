use Rattle.std.proofs.Common.{◌≡◌, ℕ, ◌+◌, ◌∙◌, List, sym, ap, length, get_or}
use Rattle.rules.specs.Polynomial.{Polynomial}
use Rattle.forms.specs.Slots.{slot_of}
use Rattle.pool.specs.Words.{listed_words, all_listed}
use Rattle.pool.specs.Calls.{listed-length}
use Rattle.pool.proofs.Listings.{forms_left, forms-cons, forms-end, run_is}
use Rattle.pool.proofs.list_forms.Goals as goal

pub loop-i-preserved : goal.loop-i-preserved
unfolding all_listed
loop-i-preserved c =
    let a = c.args in
    let l = c.loop-i in
    let k : ℕ = get_or a.order.now l.i 0 in
    let p : Polynomial = slot_of a.coefficient.now a.monomial.now a.terms.now k in
    let rest : List Polynomial = forms_left a.coefficient.now a.monomial.now a.terms.now a.order.now a.count (l.i + 1) in
    let is : c.list_form.new.pool ≡ listed_words a.number l.pool p =
    c.list_form.ensures
    ∙ ap (listed_words a.number l.pool) (run_is a.coefficient.now a.monomial.now a.terms.now k c.from-slot.result c.from-size.result
    c.from-slot.ensures c.from-size.ensures) in
    record {
      as_long = ap length is ∙ listed-length a.number l.pool p ∙ l.invariant.as_long;
      left = ap (λ (w : List ℕ). all_listed a.number w rest) is
          ∙ ap (all_listed a.number l.pool) (sym (forms-cons a.coefficient.now a.monomial.now a.terms.now a.order.now a.count l.i c.loop-i-test.true))
          ∙ l.invariant.left;
    }

pub returns : goal.returns
unfolding all_listed
returns c =
    let l = c.loop-i in
    let a = c.args in
    sym (ap (all_listed a.number l.pool) (forms-end a.coefficient.now a.monomial.now a.terms.now a.order.now a.count l.i c.loop-i-test.false))
    ∙ l.invariant.left
