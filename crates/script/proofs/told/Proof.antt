-- `told` meets its contract: the script is measured with a text of one byte, and written if it fits.
use native.Mathlib.Omega.{arith}
use borrow.Author.Rules.{rules}
use Rattle.script.specs.Entry.{tells-long, tells-script, measured}
use Rattle.script.proofs.told.Statement.{statement}
use Rattle.script.proofs.told.Tie as tie

too_long : tie.Need-returns-then-text-length
too_long c block stands =
    tells-long block _ (omega (arith, measured block (c.put_script-length.ensures block stands), c.if-text-length.true))

fits : tie.Need-returns
fits c block stands =
    let size = measured block (c.put_script-length.ensures block stands) in
    tells-script block _ size (omega (arith, size, c.if-text-length.false)) (c.put_script.ensures block stands)

pub told_spec : {M : Type 1} → statement M
told_spec =
    tie.close (tie.spec (λ c. search rules) (λ c κs. search rules) too_long (λ c κs. search rules) (λ c. search rules) fits)
