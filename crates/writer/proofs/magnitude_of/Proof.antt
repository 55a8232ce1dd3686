-- `writer::magnitude_of` meets its contract: in 64 bits the negation of a coefficient fits.
use Rattle.writer.proofs.Signed.{long-fits, negation-fits, magnitude-below, magnitude-above}
use Rattle.writer.proofs.magnitude_of.Statement.{statement}
use Rattle.writer.proofs.magnitude_of.Tie as tie

pub magnitude_of_spec : {M : Type 1} → statement M
magnitude_of_spec =
    tie.close
    (tie.spec (λ c. long-fits c.args.coefficient c.ranges.coefficient) (λ c. negation-fits c.before.args.coefficient c.before.ranges.coefficient)
    (λ c. (magnitude-below c.before.args.coefficient c.before.ranges.coefficient c.if-long-lt0.true).0)
    (λ c. (magnitude-above c.before.args.coefficient c.before.ranges.coefficient c.if-long-lt0.false).0)
    (λ c. (magnitude-below c.before.args.coefficient c.before.ranges.coefficient c.if-long-lt0.true).1)
    (λ c. (magnitude-above c.before.args.coefficient c.before.ranges.coefficient c.if-long-lt0.false).1))
