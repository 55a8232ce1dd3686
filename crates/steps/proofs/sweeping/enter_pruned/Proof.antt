use borrow.Author.Rules.{rules}
use native.Mathlib.Omega.{arith}
use Rattle.tape.specs.Placed.{its-atoms, its_own, child-ends}
use Rattle.steps.proofs.Childwise.{child-dropped, child-enters}
use Rattle.steps.proofs.sweeping.enter_pruned.Statement.{statement}
use Rattle.steps.proofs.sweeping.enter_pruned.Tie as tie

dropped : tie.Need-returns-then-pruned
dropped c k walk all l own rest s h place = child-dropped (rw (its-atoms place) at (c.before.prune-pruned.ensures.1 k all h (omega (arith, child-ends place)))) s c.if-pruned.true

enters : tie.Need-returns
enters c k walk all l own rest s h place =
    child-enters (rw (its-atoms place) at (c.before.before.before.before.prune-pruned.ensures.1 k all h (omega (arith, child-ends place)))) c.before.before.before.if-pruned.false _ _
    (rw (its_own place) at (c.before.before.part-ors.ensures.1 k all h (omega (arith, child-ends place)))) (λ kids shows. c.add.ensures _ walk kids s shows)

pub enter_pruned_spec : {M : Type 1} → statement M
enter_pruned_spec =
    tie.close (tie.spec (λ c. search rules) (λ c. search rules) (λ c. search rules) (λ c κs. search rules) dropped (λ c. search rules) (λ c κs. search rules) (λ c κs. search rules) enters)
