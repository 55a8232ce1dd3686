use Rattle.std.proofs.Common.{◌<◌, length-set, sym, ◌∙◌, arith}
use Rattle.normal.specs.Stores.{stores-step, stores-end}
use Rattle.forms.specs.Slots.{number_of}
use Rattle.forms.proofs.Searches.{number-within}
use Rattle.forms.proofs.slots.number_all.Goals as goal

pub overflow_cast-number : goal.overflow_cast-number
overflow_cast-number c =
    let a = c.args in
    record { fits = rw c.find.ensures (omega (arith, number-within a.coefficient.now a.monomial.now a.terms.now c.loop-i.i)) }

pub loop-i-preserved : goal.loop-i-preserved
loop-i-preserved c =
    let l = c.loop-i in
    let a = c.args in
    let h : l.i < a.polynomials = c.loop-i-test.true in
    record {
      as_long = simp length-set l.invariant.as_long;
      left = rw c.find.ensures (sym (stores-step 0 (λ j. j) (λ j x. number_of a.coefficient.now a.monomial.now a.terms.now j) l.number l.i a.polynomials h)
          ∙ l.invariant.left);
    }

pub returns : goal.returns
returns c =
    let l = c.loop-i in
    let a = c.args in
    sym (stores-end 0 (λ j. j) (λ j x. number_of a.coefficient.now a.monomial.now a.terms.now j) l.number l.i a.polynomials c.loop-i-test.false) ∙ l.invariant.left
