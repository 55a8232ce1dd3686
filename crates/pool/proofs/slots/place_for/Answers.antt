use Rattle.std.proofs.Common.{ℕ, ◌∙◌, subst, arith}
use Rattle.terms.specs.View.{terms_from}
use Rattle.pool.specs.Run.{SlotIs}
use Rattle.pool.proofs.Walks.{placed-stored, placed-free}
use Rattle.pool.proofs.slots.place_for.Goals as goal

pub returns-in-Some : goal.returns-in-Some
returns-in-Some c =
    let a = c.args in
    let found = rw c.in-Some.is at c.find.ensures in
    record { is = found.is ∙ placed-stored (terms_from a.coefficient.now a.monomial.now a.from a.count) a.pool.now (omega (arith, found.is, found.below)); below = found.below }

pub returns-in-None : goal.returns-in-None
returns-in-None c =
    let a = c.args in
    let found = rw c.in-None.is at c.find.ensures in
    subst (λ (k : ℕ). SlotIs c.first_free.result k)
    (placed-free (terms_from a.coefficient.now a.monomial.now a.from a.count) a.pool.now (omega (arith, found.is))) c.first_free.ensures
