use borrow.Author.Tests.{eq-eqb, ne_eqb}
use Rattle.level.proofs.writing.root_of.Statement.{statement}
use Rattle.level.proofs.writing.root_of.Tie as tie

pub root_of_spec : {M : Type 1} → statement M
root_of_spec =
    tie.close
    (tie.spec (λ c. rw (eq-eqb _ _ c.before.if-parts-eq1.true, eq-eqb _ _ c.if-atoms-eq1.true)) (λ c. rw (eq-eqb _ _ c.before.before.if-parts-eq1.true, ne_eqb _ _ c.before.if-atoms-eq1.false, c.if-conjunction.true))
    (λ c. rw (eq-eqb _ _ c.before.before.if-parts-eq1.true, ne_eqb _ _ c.before.if-atoms-eq1.false, c.if-conjunction.false)) (λ c. rw (ne_eqb _ _ c.before.if-parts-eq1.false, c.if-conjunction-2.true)) (λ c. rw (ne_eqb _ _ c.before.if-parts-eq1.false, c.if-conjunction-2.false)))
