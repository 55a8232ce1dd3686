-- `restored` meets its contract: the sets are those of the round's board.
use Rattle.std.proofs.Common.{refl, arith}
use Rattle.common_run.proofs.Storing.{read-back}
use Rattle.common_run.proofs.boards.restored.Goals as goal

pub returns : goal.returns
returns c = (refl, read-back _ c.args.round c.args.board.variables _ (omega arith) c.copy_from_slice.ensures.after)
