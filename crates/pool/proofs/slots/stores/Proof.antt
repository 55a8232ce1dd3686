-- `stores` meets its contract: in use, as many terms, the same terms.
use borrow.Author.Rules.{rules}
use mathlib.Core.Path.{◌≡◌, sym, ap, ap₂, ◌∙◌}
use mathlib.Core.Bool.{Bool, not, ◌&&◌}
use Prim.Native.Nat.{ℕ, ◌+◌, ◌*◌}
use native.Mathlib.Omega.{arith}
use lib.ListN.{get_or}
use Rattle.rules.specs.Polynomial.{same}
use Rattle.rules.specs.Pool.{stores, slot_of}
use Rattle.terms.specs.View.{few, terms_from}
use Rattle.pool.specs.Words.{slot_place, slot_at, terms_in}
use Rattle.pool.proofs.Walks.{other-count}
use Rattle.pool.proofs.slots.stores.Statement.{statement}
use Rattle.pool.proofs.slots.stores.Tie as tie

returns : tie.Need-returns-then-is_free
unfolding stores
returns c =
    let a = c.args in
    sym (ap (λ (b : Bool). not b && same (terms_from a.coefficient.now a.monomial.now a.from a.count) (slot_at a.pool.now (slot_place a.slot)).form)
    (sym c.is_free.ensures ∙ c.if-is_free.true))

returns-2 : tie.Need-returns-then-terms_of-count
unfolding stores slot_at slot_of
returns-2 c =
    let a = c.args in
    let form = terms_in a.pool.now (slot_place a.slot + 2) (few (get_or a.pool.now (slot_place a.slot + 1) 0)) in
    sym (ap (λ (b : Bool). not b && same (terms_from a.coefficient.now a.monomial.now a.from a.count) form)
    (sym c.is_free.ensures ∙ c.if-is_free.false)
    ∙ other-count a.coefficient.now a.monomial.now a.pool.now a.from (slot_place a.slot + 2) a.count
    (few (get_or a.pool.now (slot_place a.slot + 1) 0)) (λ e. c.if-terms_of-count.true (c.terms_of.ensures ∙ sym e)))

returns-3 : tie.Need-returns
unfolding stores slot_at slot_of
returns-3 c =
    let a = c.args in
    let form = terms_in a.pool.now (slot_place a.slot + 2) (few (get_or a.pool.now (slot_place a.slot + 1) 0)) in
    let place : 4 + 34 * a.slot ≡ slot_place a.slot + 2 = omega arith in
    let many : a.count ≡ few (get_or a.pool.now (slot_place a.slot + 1) 0) = sym c.if-terms_of-count.false ∙ c.terms_of.ensures in
    c.same_terms.ensures
    ∙ ap₂ (λ (k n : ℕ). same (terms_from a.coefficient.now a.monomial.now a.from a.count) (terms_in a.pool.now k n)) place many
    ∙ sym (ap (λ (b : Bool). not b && same (terms_from a.coefficient.now a.monomial.now a.from a.count) form)
    (sym c.is_free.ensures ∙ c.if-is_free.false))

pub stores_spec : {M : Type 1} → statement M
stores_spec =
    tie.close
    (tie.spec (λ c κs. search rules) returns (λ c κs. search rules) returns-2 (λ c. search rules) (λ c. search rules) (λ c κs. search rules) returns-3)
