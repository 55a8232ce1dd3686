-- In each arm the answer is the one that the arm names.
use Rattle.std.proofs.Common.{◌∙◌, sym, ap, subst}
use Rattle.loading.specs.Refusals.{by_number}
use Rattle.loading.specs.Exported.{number_told, Short}
use Rattle.loading.proofs.exported.number_in.Goals as goal

pub above-requires : goal.above-requires
above-requires c = subst Short (ap by_number c.in-Ok.is) c.requires
