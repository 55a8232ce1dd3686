use Rattle.std.proofs.Common.{◌≡◌, sym, ◌∙◌, to_z, of_z, w32}
use Rattle.rules.specs.Polynomial.{Board}
use Rattle.sign_laws.specs.Booleans.{and_first, and_second}
use Rattle.two_atoms.specs.Cuts.{cut_in}
use Rattle.two_atoms.specs.Tries.{SignedOn, try_of, factor_at}
use Rattle.two_atoms.proofs.Factors.{by-v, begun, walk-factors, stop-factors, end-factors}
use Rattle.two_atoms.proofs.Spares.{v-tried, all-spared}
use Rattle.two_atoms.proofs.pair.cut_by_v.Goals.{After-cut_at-cut}
use Rattle.two_atoms.proofs.pair.cut_by_v.Goals as goal

pub returns-then-both : goal.returns-then-both
returns-then-both c =
    let empty = sym c.both.ensures ∙ c.if-both.true in
    by-v c.args.all c.ranges.u
    (all-spared c.args.all c.cutting-below.ensures c.cutting-above.ensures
    (c.is_empty.ensures (and_first c.is_empty.result c.is_empty-2.result empty))
    (c.is_empty-2.ensures (and_second c.is_empty.result c.is_empty-2.result empty)))

pub loop-i-init : goal.loop-i-init
loop-i-init c = begun _ _ _

-- what the try at the index leaves
tried_here : (c : After-cut_at-cut) → let a = c.args in
    (board : Board) → SignedOn board a.monomial.now a.sign.now a.pair
    → c.cut_at-cut.result.0 ≡ cut_in a.all c.loop-i.sofar.0
    (try_of board a.coefficient.now a.monomial.now a.pair (to_z w32 (of_z w32 a.u)) (factor_at c.loop-i.i))
tried_here c = v-tried c.args.all c.cutting-below.ensures c.cutting-above.ensures c.loop-i.i (λ board a. c.loop-i.invariant.from a) c.cut_at-cut.ensures

pub returns-then-stops : goal.returns-then-stops
returns-then-stops c =
    by-v c.args.all c.ranges.u
    (stop-factors c.loop-i.invariant c.loop-i-test.true (tried_here (goal.at.returns-then-stops c).After-cut_at-cut)
    (sym c.stops.ensures ∙ c.if-stops.true))

pub loop-i-preserved : goal.loop-i-preserved
loop-i-preserved c = walk-factors c.loop-i.invariant c.loop-i-test.true (tried_here (goal.at.loop-i-preserved c).After-cut_at-cut)
    (sym c.stops.ensures ∙ c.if-stops.false)

pub returns : goal.returns
returns c = by-v c.args.all c.ranges.u (end-factors c.loop-i.invariant c.loop-i-test.false)
