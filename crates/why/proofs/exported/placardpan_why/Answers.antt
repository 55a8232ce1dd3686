-- At most 255 records are told, and the number is the outcome's.
use Rattle.why.specs.Exported.{few-outcome, exports}
use Rattle.why.proofs.exported.placardpan_why.Goals as goal

pub number_in-requires : goal.number_in-requires
number_in-requires c = few-outcome c.why.ensures

pub returns : goal.returns
returns c = exports c.why.ensures c.number_in.ensures
