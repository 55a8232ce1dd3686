-- `carried` meets its contract: the atoms passed carry their sets, and an atom is left for each that is no variable's.
use Rattle.std.proofs.Common.{◌≡◌, length, sym, ◌∙◌, rules, arith}
use Rattle.round.specs.Over.{below-over}
use Rattle.settled.proofs.Carrying.{carrying-first, carrying-low, carrying-next, carrying-last}
use Rattle.settled.proofs.carried.Goals as goal

pub loop-i-init : goal.loop-i-init
loop-i-init c =
    let places : length c.args.list.set ≡ 64 = search rules in
    carrying-first _ c.requires.1.1 places

pub carried_one-one-requires : goal.carried_one-one-requires
carried_one-one-requires c =
    let (forms, (same, given)) = c.requires in
    let (is-which, below) = c.which-holds.ensures in (
      omega (arith, forms.variables),
      (below-over (sym same) c.which-holds.result below, λ e. let h = carrying-low c.loop-i.invariant (omega arith) (sym is-which ∙ e) in omega arith),
    )

pub loop-i-preserved : goal.loop-i-preserved
loop-i-preserved c =
    let places : length c.args.list.number ≡ 64 = search rules in
    let (set_is, next-is) = c.carried_one-one.ensures in
    rw (set_is, next-is) (carrying-next c.loop-i.invariant (omega arith) _ (sym c.which-holds.ensures.0) (omega arith))

pub returns : goal.returns
returns c = carrying-last c.loop-i.invariant (omega arith)
