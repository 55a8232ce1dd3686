-- A finished block is short.
use Rattle.std.proofs.Common.{ap, subst}
use Rattle.script_back.specs.Refusals.{by_number}
use Rattle.script_back.specs.Back.{ShortIn}
use Rattle.script_back.proofs.exported.number_in.Goals as goal

pub above-requires : goal.above-requires
above-requires c = subst ShortIn (ap by_number c.in-Ok.is) c.requires
