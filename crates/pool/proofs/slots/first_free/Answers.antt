use Rattle.std.proofs.Common.{◌≡◌, ◌∙◌, sym, ap, arith}
use Rattle.rules.specs.Pool.{is_free}
use Rattle.pool.proofs.Walks.{first_from, first_step, first_found, first-none}
use Rattle.pool.proofs.slots.first_free.Goals as goal

pub returns-then-is_free : goal.returns-then-is_free
returns-then-is_free c = record {
  is = first_found is_free c.args.pool.now c.loop-slot.slot c.loop-slot-test.true (sym c.is_free.ensures ∙ c.if-is_free.true) ∙ c.loop-slot.invariant;
  below = c.loop-slot-test.true;
}

pub loop-slot-preserved : goal.loop-slot-preserved
loop-slot-preserved c =
    first_step is_free c.args.pool.now c.loop-slot.slot c.loop-slot-test.true (sym c.is_free.ensures ∙ c.if-is_free.false) ∙ c.loop-slot.invariant

pub returns : goal.returns
returns c =
    let e : c.loop-slot.slot ≡ 128 = omega arith in
    record { is = first-none is_free c.args.pool.now ∙ ap (first_from is_free c.args.pool.now) (sym e) ∙ c.loop-slot.invariant; below = tt }
