use native.Mathlib.Nat.{sub-zero}
use Rattle.std.proofs.Common.{◌≡◌, sym, ◌∙◌, arith}
use Rattle.forms.specs.Slots.{number_of}
use Rattle.forms.proofs.Searches.{alike, first_step, first_found, first-none}
use Rattle.forms.proofs.slots.find.Goals as goal

pub loop-j-init : goal.loop-j-init
unfolding number_of
loop-j-init c = simp sub-zero

pub returns-then-same_form : goal.returns-then-same_form
returns-then-same_form c =
    let a = c.args in
    sym (first_found (alike a.coefficient.now a.monomial.now a.terms.now a.i) c.loop-j.j a.i c.loop-j-test.true (sym c.same_form.ensures ∙ c.if-same_form.true))
    ∙ c.loop-j.invariant

pub loop-j-preserved : goal.loop-j-preserved
loop-j-preserved c =
    let a = c.args in
    sym (first_step (alike a.coefficient.now a.monomial.now a.terms.now a.i) c.loop-j.j a.i c.loop-j-test.true (sym c.same_form.ensures ∙ c.if-same_form.false))
    ∙ c.loop-j.invariant

pub returns : goal.returns
returns c =
    let a = c.args in
    let e : a.i ≡ c.loop-j.j = omega arith in
    e ∙ sym (first-none (alike a.coefficient.now a.monomial.now a.terms.now a.i) c.loop-j.j a.i c.loop-j-test.false) ∙ c.loop-j.invariant
