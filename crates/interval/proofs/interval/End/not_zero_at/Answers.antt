use mir.Syntax.{w32}
use Rattle.std.proofs.Common.{SFits, rules}
use Rattle.rules.specs.Deduce.{not_zero_at}
use Rattle.interval.specs.Coefficients.{back, zero_test, is-zero, not_zero}
use Rattle.interval.proofs.Fractions.{no_end}
use Rattle.interval.proofs.Values.{not-zero-there}
use Rattle.interval.proofs.interval.End.not_zero_at.Goals as goal

pub returns-then-d-ne0 : goal.returns-then-d-ne0
returns-then-d-ne0 c =
    let e = c.args.self in
    let fits : SFits w32 e.b = record { sfits = search rules } in
    not-zero-there e.a e.b c.args.a c.args.b _ (not_zero fits c.if-d-ne0.true) (λ t h. rw (back c.ranges.a, back c.ranges.b) at (c.sign_at.ensures t h))

pub returns-else-d-ne0 : goal.returns-else-d-ne0
unfolding not_zero_at
returns-else-d-ne0 c =
    let e = c.args.self in
    let fits : SFits w32 e.b = record { sfits = search rules } in
    rw (zero_test fits, is-zero fits c.if-d-ne0.false, no_end e.a e.b (is-zero fits c.if-d-ne0.false))
