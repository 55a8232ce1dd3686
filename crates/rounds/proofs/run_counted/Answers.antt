-- The largest number of rounds of this run alone is its own.
use Rattle.rounds.proofs.Larger.{counted-alone}
use Rattle.rounds.proofs.run_counted.Goals as goal

pub returns : goal.returns
returns c = counted-alone c.run_largest-ran.ensures
