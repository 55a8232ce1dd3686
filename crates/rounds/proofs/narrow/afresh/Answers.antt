-- Where turns and pairs are still they are the whole run, and else the rounds go on from there.
use Rattle.std.proofs.Common.{sym}
use Rattle.round.specs.Over.{forms-over}
use Rattle.rounds.proofs.Ends.{ended-over}
use Rattle.rounds.proofs.Beginnings.{narrowed_low, run-narrowed, run-still}
use Rattle.rounds.proofs.narrow.afresh.Goals as goal

pub returns-then-begin : goal.returns-then-begin
returns-then-begin c = run-still c.requires.1 c.settled_start-begin.ensures c.if-begin.true

pub rounds-end-requires : goal.rounds-end-requires
rounds-end-requires c =
    let begin = c.settled_start-begin.ensures.narrowed in (forms-over _ _ _ (sym begin.variables) c.requires.0, narrowed_low begin)

pub returns : goal.returns
returns c =
    let begin = c.settled_start-begin.ensures.narrowed in run-narrowed begin (ended-over _ _ _ begin.variables c.rounds-end.ensures)
