-- `value` meets its contract: 255 for the guard, else the block’s own byte.
use borrow.Author.Rules.{rules}
use native.Mathlib.Omega.{arith}
use mathlib.Core.Path.{sym, ◌∙◌}
use lib.ListN.{get_or-eq_default}
use Rattle.loading.specs.Writing.{value-guard, value-own}
use Rattle.loading.proofs.value.Statement.{statement}
use Rattle.loading.proofs.value.Tie as tie

returns : tie.Need-returns-then-k-eq0
returns c = let a = c.before.before.args in value-guard a.block.now a.k (omega (arith, c.if-k-eq0.true))

returns-2 : tie.Need-returns-then-at-block
returns-2 c =
    let placed = c.before.before in
    let a = placed.before.before.before.args in
    value-own a.block.now a.k placed.place-at.result (λ first. omega (arith, first, placed.before.if-k-eq0.false)) placed.place-at.ensures

returns-3 : tie.Need-returns
returns-3 c =
    let placed = c.before in
    let a = placed.before.before.before.args in
    sym (get_or-eq_default a.block.now 0 (omega (arith, c.if-at-block.false)))
    ∙ value-own a.block.now a.k placed.place-at.result (λ first. omega (arith, first, placed.before.if-k-eq0.false)) placed.place-at.ensures

pub value_spec : {M : Type 1} → statement M
value_spec = tie.close (tie.spec returns (λ c κs. search rules) (λ c. search rules) returns-2 returns-3)
