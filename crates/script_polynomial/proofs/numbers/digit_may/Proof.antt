-- `digit_may` meets its contract.
use native.Mathlib.Omega.{arith}
use borrow.Author.Rules.{rules}
use borrow.Author.Tests.{le-leb, lt-leb}
use Rattle.rules.specs.Reading.{digit_may}
use Rattle.script_polynomial.proofs.numbers.digit_may.Statement.{statement}
use Rattle.script_polynomial.proofs.numbers.digit_may.Tie as tie

returns : tie.Need-returns-then-byte-lt48
unfolding digit_may
returns c = rw (lt-leb 48 c.args.byte c.if-byte-lt48.true)

returns-2 : tie.Need-returns-then-byte-gt57
unfolding digit_may
returns-2 c = rw (le-leb 48 c.args.byte (omega arith), lt-leb c.args.byte 57 c.if-byte-gt57.true)

returns-3 : tie.Need-returns
unfolding digit_may
returns-3 c = rw (le-leb 48 c.args.byte (omega arith), le-leb c.args.byte 57 (omega arith))

pub digit_may_spec : {M : Type 1} → statement M
digit_may_spec = tie.close (tie.spec returns returns-2 (λ c. search rules) (λ c. search rules) (λ c. search rules) returns-3)
