-- `cutting` meets its contract: the sets allow no test, or it fails, or no finding of it cuts the set.
use borrow.Author.Rules.{rules}
use mathlib.Core.Path.{sym, ◌∙◌}
use native.Mathlib.Omega.{arith}
use Rattle.interval.specs.Coefficients.{back}
use Rattle.two_atoms.proofs.Spares.{spares-none, spares-uncut, spares-narrowed}
use Rattle.two_atoms.proofs.range.cutting.Statement.{statement}
use Rattle.two_atoms.proofs.range.cutting.Tie as tie

returns-2 : tie.Need-returns-then-uncut
returns-2 c = spares-uncut (omega arith) (sym c.before.uncut.ensures ∙ c.if-uncut.true)

returns-3 : tie.Need-returns
returns-3 c =
    let s = c.before.before.before.before.before.before.before.before in
    rw (back s.ranges.u) at (spares-narrowed {x = s.args.pair} {s = s.args.set.0} (omega arith) c.before.allowed-range.ensures
    c.narrowed.ensures)

pub cutting_spec : {M : Type 1} → statement M
cutting_spec =
    tie.close
    (tie.spec (λ c. spares-none) (λ c κs. search rules) returns-2 (λ c κs. search rules)
    (λ c κs. (c.before.before.before.before.before.before.before.requires, c.allowed-range.ensures.indices)) returns-3)
