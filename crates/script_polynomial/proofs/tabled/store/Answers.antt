-- `store` meets its contract.
use Rattle.std.proofs.Common.{◌*◌, refl, sym, ◌∙◌, add-zero, length-set, arith}
use native.Mathlib.Nat.{sub-zero}
use mir.Syntax.{w32}
use mir.ValLaws.{to_z-of_z}
use Rattle.script_polynomial.proofs.Copying.{stored-step, stored-end}
use Rattle.script_polynomial.proofs.tabled.store.Goals as goal

pub loop-i-preserved : goal.loop-i-preserved
loop-i-preserved c =
    let l = c.loop-i in
    let a = c.args in
    let v = a.value.now in
    let p = a.powers.now in
    let from = 16 * a.slot in (
      simp length-set l.invariant.0,
      simp length-set l.invariant.1,
      stored-step (λ t. t.coefficient) v p from a.count l.coefficient l.i _ (omega arith)
          (to_z-of_z w32 _ (record { sfits = c.c-1.given })) ∙ l.invariant.2,
      stored-step (λ t. t.monomial) v p from a.count l.monomial l.i _ (omega arith) refl ∙ l.invariant.3,
    )

pub returns : goal.returns
returns c =
    let l = c.loop-i in
    let a = c.args in
    let v = a.value.now in
    let p = a.powers.now in
    let from = 16 * a.slot in (
      sym (stored-end (λ t. t.coefficient) v p from a.count l.coefficient l.i (omega arith)) ∙ l.invariant.2 ∙ rw (add-zero, sub-zero),
      sym (stored-end (λ t. t.monomial) v p from a.count l.monomial l.i (omega arith)) ∙ l.invariant.3 ∙ rw (add-zero, sub-zero),
      refl,
    )
