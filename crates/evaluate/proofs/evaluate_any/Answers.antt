use Rattle.evaluate.specs.Entry.{any-stands}
use Rattle.evaluate.proofs.evaluate_any.Goals as goal

pub run-requires : goal.run-requires
run-requires c = record { bytes = c.args.input.now; stands = any-stands c.read_into-contents.ensures }

pub returns : goal.returns
returns c = c.run.ensures c.args.input.now (any-stands c.read_into-contents.ensures)
