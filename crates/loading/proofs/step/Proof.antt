-- `step` meets its contract: inside the area the one byte is put, past its end nothing.
use borrow.Author.Rules.{rules}
use native.Mathlib.Omega.{arith}
use Rattle.loading.specs.Writing.{step-inside, step-outside}
use Rattle.loading.proofs.step.Statement.{statement}
use Rattle.loading.proofs.step.Tie as tie

returns : tie.Need-returns-then-at-area
returns c =
    let placed = c.before.before in
    let a = placed.before.before.before.args in
    step-inside a.block.now a.area.now a.k placed.place-at.result c.value.result placed.place-at.ensures c.value.ensures

returns-2 : tie.Need-returns-else-at-area
returns-2 c =
    let placed = c.before in
    let a = placed.before.before.before.args in
    step-outside a.block.now a.area.now a.k placed.place-at.result placed.place-at.ensures (omega (arith, c.if-at-area.false))

pub step_spec : {M : Type 1} → statement M
step_spec = tie.close (tie.spec (λ c κs. search rules) (λ c κs. search rules) (λ c. search rules) (λ c. search rules) returns returns-2)
