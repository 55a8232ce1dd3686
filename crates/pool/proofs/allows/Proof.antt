-- `allows` meets its contract.
use borrow.Author.Tests.{eq-eqb, ne_eqb}
use mathlib.Core.Path.{sym, ap, ◌∙◌}
use mathlib.Core.Bool.{Bool, ◌||◌}
use Prim.Native.Nat.{◌%◌}
use lib.Dec.{eqb}
use Rattle.pool.specs.Marks.{no-mark}
use Rattle.pool.proofs.allows.Statement.{statement}
use Rattle.pool.proofs.allows.Tie as tie

returns : tie.Need-returns-then-present-eq0
returns c =
    let a = c.args in
    sym (ap (λ (b : Bool). b || eqb a.n a.variables) (sym (no-mark a.present) ∙ eq-eqb (a.present % 4294967296) 0 c.if-present-eq0.true))

returns-2 : tie.Need-returns
returns-2 c =
    let a = c.args in
    sym (ap (λ (b : Bool). b || eqb a.n a.variables) (sym (no-mark a.present) ∙ ne_eqb (a.present % 4294967296) 0 c.if-present-eq0.false))

pub allows_spec : {M : Type 1} → statement M
allows_spec = tie.close (tie.spec returns returns-2)
