-- `used::count_forms` meets its contract: each slot takes the count so far one step further.
use Rattle.std.proofs.Common.{◌≡◌, ◌<◌, ◌∙◌, sym, arith, take, get_or}
use Rattle.std.proofs.lemmas.List.{length-take-le}
use Rattle.std.proofs.Math.Seq.{get_or-take}
use Rattle.used.proofs.Counted.{counting-constant, counting-form, counted}
use Rattle.used.proofs.count_forms.Goals as goal
use Rattle.used.proofs.count_forms.Goals.{then-not-is_constant, else-not-is_constant}

pub loop-slot-preserved : goal.loop-slot-preserved
loop-slot-preserved c =
    let i = c.loop-slot.slot-index in
    let order = c.args.order.now in
    let h : i < c.args.used = omega (arith, c.loop-slot-test.true, length-take-le c.args.used order c.requires.2.long) in
    let next : get_or (take c.args.used order) i 0 ≡ get_or order i 0 = get_or-take c.args.used order i 0 h in
    elim c.if-not-is_constant.branch [
      | then-not-is_constant w ↦ rw w.forms-is (counting-form h c.loop-slot.invariant (λ n cs. rw (← next) (sym w.if-not-is_constant.true ∙ c.is_constant.ensures n cs)))
      | else-not-is_constant w ↦ rw w.forms-is (counting-constant h c.loop-slot.invariant (λ n cs. rw (← next) (sym w.if-not-is_constant.false ∙ c.is_constant.ensures n cs)))
    ]

pub returns : goal.returns
returns c = counted c.loop-slot.invariant (omega (arith, c.loop-slot-test.false, length-take-le c.args.used c.args.order.now c.requires.2.long))
