use Rattle.std.proofs.Common.{ap, ◌∙◌}
use Rattle.evaluate.specs.Entry.{number_told, number-exported}
use Rattle.evaluate.proofs.placardpan_evaluate.Goals as goal

pub returns : goal.returns
returns c = c.number_in.ensures ∙ ap number_told c.evaluate.ensures ∙ number-exported _
