use Rattle.std.proofs.Common.{ℤ, pos, ◌+◌, ◌∙◌, sym, ap, get_or}
use Rattle.pool.proofs.Numbers.{read_back}
use Rattle.pool.proofs.Walks.{same_term, same-goes-on, same-stops, same_end}
use Rattle.pool.proofs.slots.same_terms.Goals as goal

pub returns-then-not-same_term : goal.returns-then-not-same_term
returns-then-not-same_term c =
    let i = c.loop-i.i in
    let a = c.args in
    same-stops a.pool.now a.k a.coefficient.now a.monomial.now a.from i a.count c.loop-i-test.true
    (ap (λ (z : ℤ). same_term a.pool.now (a.k + i) z (get_or a.monomial.now (a.from + i) 0))
    (sym (read_back (get_or a.coefficient.now (a.from + i) (pos 0)) (record { sfits = c.c-1.given })))
    ∙ sym c.same_term.ensures ∙ c.if-not-same_term.true) ∙ c.loop-i.invariant

pub loop-i-preserved : goal.loop-i-preserved
loop-i-preserved c =
    let i = c.loop-i.i in
    let a = c.args in
    same-goes-on a.pool.now a.k a.coefficient.now a.monomial.now a.from i a.count c.loop-i-test.true
    (ap (λ (z : ℤ). same_term a.pool.now (a.k + i) z (get_or a.monomial.now (a.from + i) 0))
    (sym (read_back (get_or a.coefficient.now (a.from + i) (pos 0)) (record { sfits = c.c-1.given })))
    ∙ sym c.same_term.ensures ∙ c.if-not-same_term.false) ∙ c.loop-i.invariant

pub returns : goal.returns
returns c =
    let a = c.args in
    same_end a.pool.now a.k a.coefficient.now a.monomial.now a.from c.loop-i.i a.count c.loop-i-test.false ∙ c.loop-i.invariant
