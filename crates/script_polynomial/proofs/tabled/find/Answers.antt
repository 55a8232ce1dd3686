-- `find` meets its contract.
use Rattle.std.proofs.Common.{◌≡◌, sym, ◌∙◌, arith}
use native.Mathlib.Nat.{sub-zero}
use Rattle.forms.proofs.Searches.{first_step, first_found, first-none}
use Rattle.script_polynomial.proofs.Comparing.{slot-within}
use Rattle.script_polynomial.proofs.tabled.find.Invariants.{alike}
use Rattle.script_polynomial.proofs.tabled.find.Goals as goal

pub loop-j-init : goal.loop-j-init
loop-j-init c = simp sub-zero

pub same_slot-requires : goal.same_slot-requires
same_slot-requires c = let h = slot-within c.requires.0 c.loop-j.j (omega arith) in (h.room, h.counts, c.requires.1)

pub returns-then-same_slot : goal.returns-then-same_slot
returns-then-same_slot c =
    let l = c.loop-j in
    let a = c.args in
    sym (first_found (alike a.coefficient.now a.monomial.now a.terms.now a.value.now a.powers.now a.count) l.j a.known (omega arith) (sym c.same_slot.ensures ∙ c.if-same_slot.true)) ∙ l.invariant

pub loop-j-preserved : goal.loop-j-preserved
loop-j-preserved c =
    let l = c.loop-j in
    let a = c.args in
    sym (first_step (alike a.coefficient.now a.monomial.now a.terms.now a.value.now a.powers.now a.count) l.j a.known (omega arith) (sym c.same_slot.ensures ∙ c.if-same_slot.false)) ∙ l.invariant

pub returns : goal.returns
returns c =
    let l = c.loop-j in
    let a = c.args in
    let e : a.known ≡ l.j = omega (arith, l.auto.j-end, c.loop-j-test.false) in
    e ∙ sym (first-none (alike a.coefficient.now a.monomial.now a.terms.now a.value.now a.powers.now a.count) l.j a.known (omega arith)) ∙ l.invariant
