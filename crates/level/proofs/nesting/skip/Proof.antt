use mathlib.Core.List.{List}
use Prim.Native.Nat.{ℕ, suc, ◌+◌, ◌-◌}
use native.Mathlib.Omega.{arith}
use lib.ListN.{length}
use Rattle.level.specs.Source.{Forest, size, Holds}
use Rattle.level.proofs.Skipping.{Passing, pass-start, pass-small, pass-end, pass-inside, pass-leaf, pass-node}
use Rattle.level.proofs.nesting.skip.Statement.{statement}
use Rattle.level.proofs.nesting.skip.Tie as tie

abbrev invariant-loop : tie.invariant-loop-due
invariant-loop token at place₀ due₀ place due = (d : ℕ) (kids : Forest) (rest : List ℕ) → Holds token at d kids rest → Passing token (at + suc (size kids)) place due

abbrev decreases-loop : tie.decreases-loop-due
decreases-loop token at place₀ due₀ place due = length token - place

pub skip_spec : {M : Type 1} → statement M
skip_spec =
    tie.close
    (tie.spec
    invariant-loop
    decreases-loop
    (λ c d kids rest h. pass-start h)
    (λ c. let s = c.before.before.requires in omega (arith, pass-inside (c.before.loop-due.invariant s.0 s.1.0 s.1.1.0 s.1.1.1) c.loop-due-test.true))
    (λ c. let s = c.before.before.before.requires in pass-inside (c.before.before.loop-due.invariant s.0 s.1.0 s.1.1.0 s.1.1.1) c.before.loop-due-test.true)
    (λ c. let s = c.before.before.before.requires in omega (arith, pass-inside (c.before.before.loop-due.invariant s.0 s.1.0 s.1.1.0 s.1.1.1) c.before.loop-due-test.true))
    (λ c. omega (arith, c.before.loop-due-test.true))
    (λ c. let s = c.before.before.before.before.requires in omega (arith, pass-small (pass-node (c.before.before.before.loop-due.invariant s.0 s.1.0 s.1.1.0 s.1.1.1) c.before.before.loop-due-test.true c.if-next-ge-NODE.true)))
    (λ c. let s = c.before.before.before.before.requires in omega (arith, pass-inside (c.before.before.before.loop-due.invariant s.0 s.1.0 s.1.1.0 s.1.1.1) c.before.before.loop-due-test.true))
    (λ c d kids rest h. pass-node (c.before.before.before.loop-due.invariant d kids rest h) c.before.before.loop-due-test.true c.if-next-ge-NODE.true)
    (λ c. let s = c.before.before.before.before.requires in omega (arith, pass-inside (c.before.before.before.loop-due.invariant s.0 s.1.0 s.1.1.0 s.1.1.1) c.before.before.loop-due-test.true))
    (λ c d kids rest h. pass-leaf (c.before.before.before.loop-due.invariant d kids rest h) c.before.before.loop-due-test.true c.if-next-ge-NODE.false)
    (λ c d kids rest h. pass-end (c.before.loop-due.invariant d kids rest h) c.loop-due-test.false))
