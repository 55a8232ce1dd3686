use Rattle.std.proofs.Common.{sym, arith}
use Rattle.round.specs.Views.{lent_table}
use Rattle.round.specs.Over.{below-over}
use Rattle.rounds.proofs.Starts.{starting-first, starting-next, starting-last}
use Rattle.rounds.proofs.start.start.Goals as goal

pub loop-i-init : goal.loop-i-init
loop-i-init c = record {
  all = c.many-end.ensures;
  starting = starting-first (lent_table c.args.coefficient c.args.monomial c.args.terms c.args.variables) _ c.requires.variables _ _;
}

pub placed-board-requires : goal.placed-board-requires
placed-board-requires c =
    let same = c.loop-i.invariant.starting.variables in
    (omega (arith, same, c.requires.variables), below-over (sym same) c.which-holds.result c.which-holds.ensures.1)

pub unless_variable-atoms-requires : goal.unless_variable-atoms-requires
unless_variable-atoms-requires c = omega (arith, c.loop-i.invariant.starting.count, c.loop-i-test.true, c.loop-i.invariant.all)

pub loop-i-preserved : goal.loop-i-preserved
loop-i-preserved c =
    let starting = c.loop-i.invariant.starting in
    record {
      all = c.loop-i.invariant.all;
      starting = starting-next starting (omega (arith, c.loop-i-test.true, c.loop-i.invariant.all)) c.which-holds.ensures.0 c.placed-board.ensures
          c.unless_variable-atoms.ensures;
    }

pub returns : goal.returns
returns c =
    let starting = c.loop-i.invariant.starting in
    (starting.variables, starting-last starting (omega (arith, c.loop-i-test.false, c.loop-i.invariant.all)))
