use Rattle.evaluate.specs.Entry.{few-read}
use Rattle.evaluate.proofs.evaluate.Goals as goal

pub run-requires : goal.run-requires
run-requires c = record { bytes = c.args.input.now; stands = few-read c.read_few_into-few.ensures c.in-Some.is }

pub returns-in-Some : goal.returns-in-Some
returns-in-Some c = c.run.ensures c.args.input.now (few-read c.read_few_into-few.ensures c.in-Some.is)
