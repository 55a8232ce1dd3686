use Rattle.std.proofs.Common.{◌≡◌, sym, ◌∙◌}
use Rattle.rules.specs.Polynomial.{Board}
use Rattle.rules.specs.TwoAtoms.{factors, with_each}
use Rattle.two_atoms.specs.Cuts.{cut_in}
use Rattle.two_atoms.specs.Tries.{SignedOn, try_of, factor_at}
use Rattle.two_atoms.proofs.Factors.{u-tried, begun, walk-factors, stop-factors, end-factors}
use Rattle.two_atoms.proofs.pair.cut_by_u.Goals.{After-cut_by_v-cut}
use Rattle.two_atoms.proofs.pair.cut_by_u.Goals as goal

pub loop-i-init : goal.loop-i-init
loop-i-init c = begun _ _ _

-- what the tries with the u at the index leave
tried_here : (c : After-cut_by_v-cut) → let a = c.args in
    (board : Board) → SignedOn board a.monomial.now a.sign.now a.pair
    → c.cut_by_v-cut.result.0 ≡ cut_in a.all c.loop-i.sofar.0
    (with_each (try_of board a.coefficient.now a.monomial.now a.pair (factor_at c.loop-i.i)) factors)
tried_here c = u-tried c.args.all c.loop-i.i c.factor-u.ensures c.cut_by_v-cut.ensures

pub returns-then-stops : goal.returns-then-stops
returns-then-stops c = record {
  on = λ {board}.
      stop-factors c.loop-i.invariant c.loop-i-test.true (tried_here (goal.at.returns-then-stops c).After-cut_by_v-cut)
      (sym c.stops.ensures ∙ c.if-stops.true) board;
}

pub loop-i-preserved : goal.loop-i-preserved
loop-i-preserved c = walk-factors c.loop-i.invariant c.loop-i-test.true (tried_here (goal.at.loop-i-preserved c).After-cut_by_v-cut)
    (sym c.stops.ensures ∙ c.if-stops.false)

pub returns : goal.returns
returns c = record { on = λ {board}. end-factors c.loop-i.invariant c.loop-i-test.false board }
