use native.Mathlib.Nat.{sub-zero}
use Rattle.std.proofs.Common.{add-zero, sym, ◌∙◌}
use Rattle.forms.proofs.Searches.{same-goes-on, same-stops, same_end}
use Rattle.forms.proofs.slots.same_terms.Goals as goal

pub loop-i-init : goal.loop-i-init
loop-i-init c = simp (add-zero, sub-zero)

pub returns-then-not-same_term : goal.returns-then-not-same_term
returns-then-not-same_term c =
    let a = c.args in
    same-stops a.coefficient.now a.monomial.now a.first a.second c.loop-i.i a.count c.loop-i-test.true (sym c.same_term.ensures ∙ c.if-not-same_term.true)
    ∙ c.loop-i.invariant

pub loop-i-preserved : goal.loop-i-preserved
loop-i-preserved c =
    let a = c.args in
    same-goes-on a.coefficient.now a.monomial.now a.first a.second c.loop-i.i a.count c.loop-i-test.true (sym c.same_term.ensures ∙ c.if-not-same_term.false)
    ∙ c.loop-i.invariant

pub returns : goal.returns
returns c = let a = c.args in same_end a.coefficient.now a.monomial.now a.first a.second c.loop-i.i a.count c.loop-i-test.false ∙ c.loop-i.invariant
