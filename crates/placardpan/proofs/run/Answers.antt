-- The bytes that were read are the first 32,768, and the output and the text have room for every answer to them.
use Rattle.std.proofs.Common.{rules}
use Rattle.rules.specs.Answer.{answer}
use Rattle.rules.specs.Report.{report}
use Rattle.placardpan.proofs.Printed.{printed}
use Rattle.placardpan.proofs.run.Goals as goal

pub returns : goal.returns
returns g c places rounds =
    printed _ _ _ _ (λ n bytes. report (answer n bytes)) _ _ _ (c.print_asked.ensures places rounds (search rules)) c.in_ok-length.ensures.first
    (search rules) (search rules)
