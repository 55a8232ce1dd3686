-- `same_term` meets its contract.
use lib.IntN.{pos}
use lib.ListN.{get_or}
use borrow.Author.Rules.{rules}
use borrow.Author.Tests.{eq-eqb, ne_eqb}
use Rattle.forms.proofs.Numbers.{same_bits}
use Rattle.script_polynomial.proofs.tabled.same_term.Statement.{statement}
use Rattle.script_polynomial.proofs.tabled.same_term.Tie as tie

returns-2 : tie.Need-returns
returns-2 c =
    let a = c.args in
    simp (eq-eqb _ _ c.if-powers-i.false)
    (same_bits (get_or a.value.now a.i (pos 0)) (get_or a.coefficient.now a.place (pos 0)) c.c-1.given c.d-1.given)

pub same_term_spec : {M : Type 1} → statement M
same_term_spec =
    tie.close
    (tie.spec (λ c. search rules) (λ c. search rules) (λ c. search rules) (λ c. search rules) (λ c. simp (ne_eqb _ _ c.if-powers-i.true))
    (λ c. search rules)
    (λ c. search rules) (λ c. search rules) (λ c. search rules) returns-2)
