-- `leave_out` meets its contract: what is left goes on from the tokens kept so far.
use Prim.Native.Nat.{◌-◌}
use native.Mathlib.Omega.{arith}
use Rattle.round.specs.Views.{table_of}
use Rattle.leaving.proofs.Leaving.{Leaving, leaving-start, leaving-asks, leaving-next, leaving-end}
use Rattle.leaving.proofs.leave_out.Statement.{statement}
use Rattle.leaving.proofs.leave_out.Tie as tie

abbrev invariant-loop : tie.invariant-loop-i
invariant-loop coefficient monomial terms variables question list end kept₀ i₀ kept i = Leaving (table_of coefficient monomial terms variables) question list kept i

abbrev decreases-loop : tie.decreases-loop-i
decreases-loop coefficient monomial terms variables question list end kept₀ i₀ kept i = end - i

last-enough-requires : tie.Need-last_enough-at-requires invariant-loop decreases-loop
last-enough-requires c κs =
    let s = c.before.before.before.before.before in
    let v = c.before.loop-i.invariant in
    (s.requires.0, leaving-asks _ _ v (omega (arith, v.lists.size, c.loop-i-test.true)))

again : tie.Need-loop-i-preserved invariant-loop decreases-loop
again c =
    let v = c.before.before.before.loop-i.invariant in
    leaving-next _ _ v (c.before.last_enough-at.ensures v.before v.tokens v.kept_lists v.lists) (c.with_one-kept.ensures v.before v.tokens v.kept_lists v.lists)

pub leave_out_spec : {M : Type 1} → statement M
leave_out_spec =
    tie.close
    (tie.spec invariant-loop decreases-loop (λ c κs. tt) (λ c. leaving-start _ _ c.before.before.before.requires.1 c.empty-kept.ensures.1) last-enough-requires
    (λ c κs. let v = c.before.before.loop-i.invariant in (omega (arith, v.kept_lists.size, v.short, v.few), omega (arith, v.lists.size, v.few)))
    (λ c. let v = c.before.before.before.loop-i.invariant in omega (arith, v.few, (c.before.last_enough-at.ensures v.before v.tokens v.kept_lists v.lists).most))
    (λ c. let v = c.before.before.before.loop-i.invariant in omega (arith, c.before.before.loop-i-test.true, (c.before.last_enough-at.ensures v.before v.tokens v.kept_lists v.lists).least)) again
    (λ c l h. let v = c.before.loop-i.invariant in leaving-end _ _ v (omega (arith, v.lists.size, c.loop-i-test.false)) l h))
