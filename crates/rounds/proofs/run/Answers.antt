-- The rounds from the narrowed start.
use Rattle.std.proofs.Common.{refl, sym}
use Rattle.round.specs.Floors.{nothing-below}
use Rattle.round.specs.Over.{forms-over}
use Rattle.rounds.proofs.Ends.{ended-over}
use Rattle.rounds.proofs.Beginnings.{narrowed_low, run-narrowed}
use Rattle.rounds.proofs.run.Goals as goal

pub narrowed-begin-requires : goal.narrowed-begin-requires
narrowed-begin-requires c = (c.requires, (refl, nothing-below c.args.variables c.requires.variables _ _))

pub rounds-end-requires : goal.rounds-end-requires
rounds-end-requires c =
    let begin = c.narrowed-begin.ensures in (forms-over _ _ _ (sym begin.variables) c.requires, narrowed_low begin)

pub returns : goal.returns
returns c =
    let begin = c.narrowed-begin.ensures in run-narrowed begin (ended-over _ _ _ begin.variables c.rounds-end.ensures)
