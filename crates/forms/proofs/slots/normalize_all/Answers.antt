use native.Mathlib.Nat.{sub-zero}
use Rattle.std.proofs.Common.{refl, ◌+◌, ◌-◌, ◌*◌, ◌<◌, Bool, false, List, ℤ, get_or, set, length, length-set, sym, ap, ◌∙◌, arith}
use Rattle.normal.specs.Stores.{stores, stores-step, stores-end}
use Rattle.normal.specs.NormalRuns.{normal-length}
use Rattle.forms.specs.Slots.{slot_turned, normal_slots}
use Rattle.forms.proofs.NormalSlots.{slots-step, slots_end}
use Rattle.forms.proofs.slots.normalize_all.Goals as goal

pub loop-i-init : goal.loop-i-init
loop-i-init c = record { targets = refl; flags = refl; forms = simp sub-zero; turns = refl }

pub overflow_add-to : goal.overflow_add-to
overflow_add-to c = omega (arith, c.requires.0.few c.loop-i.i c.loop-i-test.true)

pub normalize-requires : goal.normalize-requires
normalize-requires c = (c.requires.0.bounded c.loop-i.i c.loop-i-test.true, omega (arith, c.requires.0.few c.loop-i.i c.loop-i-test.true))

pub loop-i-preserved : goal.loop-i-preserved
loop-i-preserved c =
    let l = c.loop-i in
    let w = l.invariant in
    let a = c.args in
    let cs = a.coefficient.now in
    let ts = a.terms.now in
    let h : l.i < a.polynomials = c.loop-i-test.true in
    let run = c.normalize.ensures.1 in
    let flag = c.normalize.ensures.0 in
    record {
      targets = ap length run ∙ normal-length cs l.target (16 * l.i) (16 * l.i + get_or ts l.i 0) ∙ w.targets;
      flags = simp length-set w.flags;
      forms = ap (λ (target : List ℤ). normal_slots cs ts target (l.i + 1) (a.polynomials - (l.i + 1))) run
          ∙ sym (slots-step cs ts l.target l.i a.polynomials h) ∙ w.forms;
      turns = ap (λ (b : Bool). stores false (λ j. j) (λ j x. slot_turned cs ts j) (set l.turned l.i b) (l.i + 1) a.polynomials) flag
          ∙ sym (stores-step false (λ j. j) (λ j x. slot_turned cs ts j) l.turned l.i a.polynomials h) ∙ w.turns;
    }

pub returns : goal.returns
returns c =
    let l = c.loop-i in
    let a = c.args in (
      sym (slots_end a.coefficient.now a.terms.now l.target l.i a.polynomials c.loop-i-test.false) ∙ l.invariant.forms,
      sym (stores-end false (λ j. j) (λ j x. slot_turned a.coefficient.now a.terms.now j) l.turned l.i a.polynomials c.loop-i-test.false) ∙ l.invariant.turns,
    )
