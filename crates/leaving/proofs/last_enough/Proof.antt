-- `last_enough` meets its contract: from the low index on the tokens are enough, from the high one on they are not.
use mathlib.Core.Path.{refl, sym, ◌∙◌}
use Prim.Native.Nat.{◌-◌, ◌<◌}
use native.Mathlib.Omega.{arith}
use Rattle.table.specs.Table.{Table}
use Rattle.round.specs.Views.{table_of, lent_table}
use Rattle.leaving.proofs.Leaving.{Search, search-start, search-asks, search-up, search-down, search-end}
use Rattle.leaving.proofs.last_enough.Statement.{statement}
use Rattle.leaving.proofs.last_enough.Tie as tie

abbrev invariant-loop : tie.invariant-loop-low
invariant-loop coefficient monomial terms variables question kept list from low₀ high₀ step₀ low high step =
    (0 < step) × Search (table_of coefficient monomial terms variables) question kept list from low high

abbrev decreases-loop : tie.decreases-loop-low
decreases-loop coefficient monomial terms variables question kept list from low₀ high₀ step₀ low high step = high - low

abbrev table : tie.Start invariant-loop decreases-loop → Table
table s = lent_table s.args.coefficient s.args.monomial s.args.terms s.args.variables

enough-requires : tie.Need-enough-requires invariant-loop decreases-loop
enough-requires c κs =
    let s = c.before.before.before.before.before.before in
    (s.requires.0, search-asks (table s) s.args.question c.before.before.loop-low.invariant.1 c.between-middle.ensures.0 c.between-middle.ensures.1)

up : tie.Need-loop-low-preserved-then-enough invariant-loop decreases-loop
up c =
    let s = c.before.before.before.before.before.before.before.before in
    let v = c.before.before.before.before.loop-low.invariant.1 in (
      omega (arith, c.before.before.between-middle.ensures.0),
      search-up (table s) s.args.question v c.before.before.between-middle.ensures.0 c.before.before.between-middle.ensures.1
          (sym (c.before.enough.ensures v.asks.before v.asks.tokens v.asks.kept_lists v.asks.lists) ∙ c.if-enough.true),
    )

down : tie.Need-loop-low-preserved invariant-loop decreases-loop
down c =
    let s = c.before.before.before.before.before.before.before.before in
    let v = c.before.before.before.before.loop-low.invariant.1 in (
      c.before.before.before.before.loop-low.invariant.0,
      search-down (table s) s.args.question v c.before.before.between-middle.ensures.0 c.before.before.between-middle.ensures.1
          (sym (c.before.enough.ensures v.asks.before v.asks.tokens v.asks.kept_lists v.asks.lists) ∙ c.if-enough.false),
    )

pub last_enough_spec : {M : Type 1} → statement M
last_enough_spec =
    tie.close
    (tie.spec invariant-loop decreases-loop (λ c. let a = c.before.before.before.requires.1.asks in omega (arith, a.lists.size, a.short))
    (λ c. (omega arith, search-start _ _ c.before.before.before.requires.1 _ refl))
    (λ c. let v = c.loop-low.invariant.1 in omega (arith, v.most, v.asks.short))
    (λ c κs. (omega arith, c.before.loop-low.invariant.0)) enough-requires
    (λ c. omega (arith, c.before.before.between-middle.ensures.0))
    (λ c. let v = c.before.before.before.before.loop-low.invariant.1 in omega (arith, c.before.before.between-middle.ensures.1, v.top, v.asks.short))
    (λ c. omega (arith, c.before.before.between-middle.ensures.0, c.before.before.between-middle.ensures.1)) up
    (λ c. omega (arith, c.before.before.between-middle.ensures.0, c.before.before.between-middle.ensures.1)) down
    (λ c k l hk hl. search-end _ _ c.before.loop-low.invariant.1 (omega (arith, c.loop-low-test.false)) k l hk hl))
