-- `noted` meets its contract.
use mathlib.Core.Path.{sym}
use Rattle.common_run.proofs.Marking.{none-marked, some-marked}
use Rattle.common_run.proofs.marks.noted.Statement.{statement}
use Rattle.common_run.proofs.marks.noted.Tie as tie

pub noted_spec : {M : Type 1} → statement M
noted_spec =
    tie.close
    (tie.spec (λ c. rw c.if-mark-eq0.true (sym (none-marked c.before.args.round)))
    (λ c. sym (some-marked c.before.args.mark c.before.args.round c.if-mark-eq0.false)))
