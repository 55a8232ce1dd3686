use Rattle.std.proofs.Common.{List, ℕ, ◌+◌, get_or, ap, refl, sym, ◌∙◌, arith}
use Rattle.tape.specs.Token.{slot}
use Rattle.tape.specs.Storing.{stored, ahead-start, ahead-stored}
use Rattle.steps.proofs.Merging.{into-start, into-turn, into-found, into-end}
use Rattle.steps.proofs.tidying.merge_into.Goals as goal

pub loop-i-init : goal.loop-i-init
loop-i-init c = record { same = refl; passing = λ t l forms h. into-start t _ l }

pub returns-then-slot_of-number : goal.returns-then-slot_of-number
returns-then-slot_of-number c =
    let loop = c.loop-i in
    let same = loop.invariant.same in (
      omega arith,
      (
        ahead-stored loop.i _ (rw same (ahead-start c.args.list.now (c.args.count + 1))) (omega arith),
        λ t l forms h.
            into-found forms h (loop.invariant.passing t l forms h) (omega (arith, h.size)) _ _ _
            (rw same at (sym c.slot_of.ensures ∙ c.if-slot_of-number.true ∙ c.slot_of-number.ensures))
            (rw (c.set_of.ensures, c.set_of-then-slot_of-number.ensures, same) at c.intersect-set.ensures) (rw same at c.with_set.ensures) (rw same) refl,
      ),
    )

pub loop-i-preserved : goal.loop-i-preserved
loop-i-preserved c =
    let loop = c.loop-i in
    record {
      same = loop.invariant.same;
      passing = λ t l forms h.
          into-turn forms h (loop.invariant.passing t l forms h) (omega (arith, h.size))
          (λ e. c.if-slot_of-number.false (c.slot_of.ensures ∙ ap (λ (m : List ℕ). slot (get_or m loop.i 0)) loop.invariant.same ∙ e ∙ sym c.slot_of-number.ensures));
    }

pub returns : goal.returns
returns c =
    let loop = c.loop-i in (
      omega arith,
      (
        rw loop.invariant.same (ahead-stored _ _ (ahead-start c.args.list.now (c.args.count + 1)) (omega arith)),
        λ t l forms h.
            rw loop.invariant.same (into-end (loop.invariant.passing t l forms h) (omega (arith, h.size)) _ (stored c.args.list.now _ _ (omega arith) l h)),
      ),
    )
