use Rattle.std.proofs.Common.{◌∙◌}
use Rattle.pool.proofs.Listings.{among-taken}
use Rattle.pool.proofs.listed.is_among.Goals as goal

pub returns : goal.returns
returns c = c.contains.ensures.value ∙ among-taken c.args.order.now c.args.count c.args.slot c.requires
