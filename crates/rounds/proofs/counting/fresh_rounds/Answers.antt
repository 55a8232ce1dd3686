-- A run that cannot take more rounds than the largest number so far is left out, any other is counted on the board.
use Rattle.std.proofs.Common.{refl, sym, arith}
use Rattle.round.specs.Views.{table_of}
use Rattle.round.specs.Over.{forms-over}
use Rattle.rounds.proofs.Beginnings.{begins-bounded}
use Rattle.rounds.proofs.Spares.{turned-is}
use Rattle.rounds.proofs.Larger.{none-larger, from-none}
use Rattle.rounds.proofs.counting.fresh_rounds.Goals as goal

pub returns-then-variables-many : goal.returns-then-variables-many
returns-then-variables-many c = none-larger (table_of _ _ _ _) _ (omega (arith, c.if-variables-many.true, c.many.ensures))

pub turned_largest-requires : goal.turned_largest-requires
turned_largest-requires c =
    let start = c.start-first in (
      forms-over _ _ _ (sym start.ensures.0) c.requires.0,
      (begins-bounded _ _ _ start.ensures.0 c.args.settled start.result c.args.others c.requires.1 start.ensures.1, omega arith),
    )

pub returns : goal.returns
returns c =
    let start = c.start-first in
    from-none c.args.largest c.turned_largest.ensures (turned-is _ _ _ start.ensures.0 c.args.others c.requires.1 start.result start.ensures.1 refl)
