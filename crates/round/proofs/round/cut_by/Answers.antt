-- The empty set is a part of whatever is left.
use lib.Dec.{lit<}
use Rattle.sign_laws.specs.Sets.{in-empty}
use Rattle.round.proofs.round.cut_by.Goals as goal

pub cut_down-requires-clause-above_floor : goal.cut_down-requires-clause-above_floor
cut_down-requires-clause-above_floor c = (lit< tt, record { each = λ x h. in-empty h })
