-- `walk_over` meets its contract: each child in turn, from its head on, enters what the walk has found so far.
use Prim.Native.Nat.{◌-◌}
use native.Mathlib.Omega.{arith}
use Rattle.tape.specs.Row.{row_of, Lists}
use Rattle.round.specs.Views.{table_of}
use Rattle.tape.specs.Tape.{Children, laid}
use Rattle.steps.proofs.Childwise.{Sweeping, sweep-start, sweep-here, sweep-turn, sweep-end}
use Rattle.steps.proofs.sweeping.walk_over.Statement.{statement}
use Rattle.steps.proofs.sweeping.walk_over.Tie as tie

abbrev invariant-loop : tie.invariant-loop-place
invariant-loop coefficient monomial terms sign masks columns falls variables state ors n walked₀ place₀ walked place =
    (children : Children) → Lists (row_of ors n) (laid children) → Sweeping (table_of coefficient monomial terms variables) state children walked place

abbrev decreases-loop : tie.decreases-loop-place
decreases-loop coefficient monomial terms sign masks columns falls variables state ors n walked₀ place₀ walked place = n - place

enter-pruned-requires : tie.Need-enter_pruned-walked-requires invariant-loop decreases-loop
enter-pruned-requires c κs =
    let (hears, (long, (few, (children, h)))) = c.before.before.before.before.before.before.before.before.before.before.before.before.requires in
    let q = sweep-here (c.before.before.before.before.loop-place.invariant children h) _ h _ _ c.before.atoms_of-atoms.ensures.0 c.tokens_of-tokens.ensures.0 few c.before.before.before.loop-place-test.true in
    (hears, (long, (omega (arith, q.left, h.size, few), omega (arith, q.room, h.size, few))))

loop-again : tie.Need-loop-place-preserved invariant-loop decreases-loop
loop-again c children h =
    let q = sweep-here (c.before.before.before.before.before.loop-place.invariant children h) _ h _ _ c.before.before.atoms_of-atoms.ensures.0 c.before.tokens_of-tokens.ensures.0 c.before.before.before.before.before.before.before.before.before.before.before.before.before.requires.1.1.0 c.before.before.before.before.loop-place-test.true in
    sweep-turn q _ (c.enter_pruned-walked.ensures _ q.walk _ q.atoms q.own _ q.stands h q.at)

pub walk_over_spec : {M : Type 1} → statement M
walk_over_spec =
    tie.close
    (tie.spec invariant-loop decreases-loop (λ c κs. tt) (λ c children h. sweep-start _ _ children _ c.begin-walked.ensures.0 (c.begin-walked.ensures.1.1 _))
    (λ c. omega (arith, c.loop-place-test.true, c.before.before.before.before.before.before.before.before.before.requires.1.1.0, c.before.before.before.before.before.before.before.before.before.requires.1.0)) (λ c. omega (arith, c.before.loop-place-test.true, c.before.before.before.before.before.before.before.before.before.before.requires.1.1.0, c.before.before.before.before.before.before.before.before.before.before.requires.1.0)) (λ c κs. tt) (λ c κs. tt) enter-pruned-requires
    (λ c. omega (arith, c.before.before.before.before.loop-place-test.true, c.before.before.before.before.before.before.before.before.before.before.before.before.before.requires.1.1.0)) (λ c. omega (arith, c.before.before.before.before.loop-place-test.true, c.before.before.before.before.before.before.before.before.before.before.before.before.before.requires.1.1.0, c.before.before.atoms_of-atoms.ensures.1))
    (λ c. omega (arith, c.before.before.before.before.loop-place-test.true, c.before.before.before.before.before.before.before.before.before.before.before.before.before.requires.1.1.0, c.before.before.atoms_of-atoms.ensures.1, c.before.tokens_of-tokens.ensures.1))
    (λ c. omega (arith, c.before.before.before.before.loop-place-test.true)) loop-again (λ c children h. sweep-end (c.before.loop-place.invariant children h) _ h c.loop-place-test.false))
