-- `same_terms` meets its contract.
use Rattle.std.proofs.Common.{sym, ◌∙◌, add-zero, arith}
use native.Mathlib.Nat.{sub-zero}
use Rattle.script_polynomial.proofs.Comparing.{same-goes-on, same-stops, same_end}
use Rattle.script_polynomial.proofs.tabled.same_terms.Goals as goal

pub loop-i-init : goal.loop-i-init
loop-i-init c = simp (add-zero, sub-zero)

pub overflow_add-place : goal.overflow_add-place
overflow_add-place c = omega (arith, c.requires.0.coefficients)

pub same_term-requires : goal.same_term-requires
same_term-requires c =
    let (a, b) = c.requires in
    (omega (arith, a.coefficients), omega (arith, a.monomials), omega (arith, b.coefficients), omega (arith, b.monomials))

pub returns-then-not-same_term : goal.returns-then-not-same_term
returns-then-not-same_term c =
    let l = c.loop-i in
    let a = c.args in
    same-stops a.coefficient.now a.monomial.now a.value.now a.powers.now a.place a.count l.i (omega arith)
    (sym c.same_term.ensures ∙ c.if-not-same_term.true) ∙ l.invariant

pub loop-i-preserved : goal.loop-i-preserved
loop-i-preserved c =
    let l = c.loop-i in
    let a = c.args in
    same-goes-on a.coefficient.now a.monomial.now a.value.now a.powers.now a.place a.count l.i (omega arith)
    (sym c.same_term.ensures ∙ c.if-not-same_term.false) ∙ l.invariant

pub returns : goal.returns
returns c =
    let l = c.loop-i in
    let a = c.args in
    same_end a.coefficient.now a.monomial.now a.value.now a.powers.now a.place a.count l.i (omega arith) ∙ l.invariant
