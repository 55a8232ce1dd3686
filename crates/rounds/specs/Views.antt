-- What the end of the rounds stands for over a table: an outcome.
-- And the sets of all atoms of a list, which tell whether a round found a contradiction or changed nothing.
use Rattle.std.specs.Prelude.{Bool, true, false, List}
use Rattle.rules.specs.Signs.{SignSet}
use Rattle.rules.specs.Rounds.{Outcome, contradiction, settled}
use Rattle.rules.specs.Rounds.{State as Standing}
use Rattle.terms.specs.View.{numbers_from}
use Rattle.table.specs.declared.Atoms.{Atoms}
use Rattle.table.specs.Table.{Table, many}
use Rattle.round.specs.Views.{state_of}
use Rattle.rounds.specs.declared.Ran.{Ran}
use Rattle.rounds.specs.declared.Counted.{Counted}

abbrev pub ending : Bool → Standing → Outcome
ending true st = contradiction
ending false st = settled st

abbrev pub outcome_of : Table → Ran → Outcome
outcome_of t r = ending r.contradiction (state_of t r.state)

abbrev pub counted_outcome : Table → Counted → Outcome
counted_outcome t r = ending r.contradiction (state_of t r.state)

abbrev pub held_sets : Atoms → List SignSet
held_sets a = numbers_from a.set 0 (many a.count)
