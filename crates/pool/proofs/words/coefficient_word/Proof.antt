-- `coefficient_word` meets its contract: in 64 bits the number and its negation fit.
use mathlib.Core.Path.{◌≡◌}
use mathlib.Core.Bool.{true, false}
use native.Mathlib.Omega.{arith}
use lib.IntN.{pos}
use lib.Signed.{lt_z}
use Rattle.pool.proofs.Numbers.{wide_fits, wide_back, minus-fits, minus-back, negative-turns, negative-magnitude, negative-word, whole}
use Rattle.pool.proofs.Numbers.{whole-magnitude, whole_word}
use Rattle.pool.proofs.words.coefficient_word.Statement.{statement}
use Rattle.pool.proofs.words.coefficient_word.Tie as tie

abbrev below : (c : tie.Then-wide-lt0) → lt_z c.args.c (pos 0) ≡ true
below c = rw (wide_back c.args.c c.ranges.c) at c.if-wide-lt0.true

abbrev not-below : (c : tie.Else-wide-lt0) → lt_z c.args.c (pos 0) ≡ false
not-below c = rw (wide_back c.args.c c.ranges.c) at c.if-wide-lt0.false

cast-result : tie.Need-overflow_cast-result
cast-result c =
    let z = c.args.c in
    let m = negative-magnitude z (below c) c.ranges.c.sfits in
    rw (minus-back z c.ranges.c) (negative-turns z (below c), record { fits = omega (arith, m.1) })

mul-result : tie.Need-overflow_mul-result
mul-result c =
    let z = c.args.c in
    let m = negative-magnitude z (below c) c.ranges.c.sfits in
    rw (minus-back z c.ranges.c) (record { fits = omega (arith, m.1) })

sub-result-2 : tie.Need-overflow_sub-result-then-wide-lt0
sub-result-2 c =
    let z = c.args.c in
    let m = negative-magnitude z (below c) c.ranges.c.sfits in
    rw (minus-back z c.ranges.c) (omega (arith, m.0))

returns : tie.Need-returns-then-wide-lt0
returns c = let z = c.args.c in rw (minus-back z c.ranges.c) (negative-word z (below c))

cast-result-2 : tie.Need-overflow_cast-result-2
cast-result-2 c =
    let z = c.args.c in
    let m = whole-magnitude z (not-below c) c.ranges.c.sfits in
    rw (wide_back z c.ranges.c) (whole z (not-below c), record { fits = omega (arith, m) })

mul-result-2 : tie.Need-overflow_mul-result-2
mul-result-2 c =
    let z = c.args.c in
    let m = whole-magnitude z (not-below c) c.ranges.c.sfits in
    rw (wide_back z c.ranges.c) (record { fits = omega (arith, m) })

returns-2 : tie.Need-returns
returns-2 c = let z = c.args.c in rw (wide_back z c.ranges.c) (whole_word z (not-below c))

pub coefficient_word_spec : {M : Type 1} → statement M
coefficient_word_spec =
    tie.close
    (tie.spec (λ c. wide_fits c.args.c c.ranges.c) (λ c. minus-fits c.args.c c.ranges.c) cast-result mul-result sub-result-2 returns
    cast-result-2 mul-result-2 returns-2)
