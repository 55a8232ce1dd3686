-- Each bit of the word is in the rest, or bit j is in its column.
use Rattle.columns.specs.Columns.{Spreading}
use Rattle.columns.proofs.spread.Given as goal

abbrev pub invariant-loop-rest : goal.invariant-loop-rest
invariant-loop-rest l = Spreading l.fn.columns l.fn.word l.from l.j l.rest l.columns

abbrev pub decreases-loop-rest : goal.decreases-loop-rest
decreases-loop-rest l = l.rest
