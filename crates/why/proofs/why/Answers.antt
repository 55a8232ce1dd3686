-- What `explained` tells of the input fits the lent records, and is what is answered of them.
use Rattle.why.specs.Entry.{fits, answers}
use Rattle.why.proofs.why.Goals as goal

pub fill-requires : goal.fill-requires
fill-requires c = fits c.explained-told.ensures

pub returns : goal.returns
returns c = answers c.explained-told.ensures c.fill.ensures c.outcome_of.ensures
