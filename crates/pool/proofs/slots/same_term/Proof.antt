-- `same_term` meets its contract: words are compared in the place of coefficients.
use borrow.Author.Rules.{rules}
use mathlib.Core.Path.{sym, ap, ap₂, ◌∙◌}
use mathlib.Core.Bool.{Bool, ◌&&◌}
use Prim.Native.Nat.{◌+◌}
use lib.Dec.{eqb}
use lib.ListN.{get_or}
use borrow.Author.Tests.{eq-eqb, ne_eqb}
use Rattle.rules.specs.Polynomial.{same_number}
use Rattle.pool.specs.Coefficients.{coefficient_of, coefficient_word, same-words}
use Rattle.pool.proofs.Numbers.{read_back}
use Rattle.pool.proofs.slots.same_term.Statement.{statement}
use Rattle.pool.proofs.slots.same_term.Tie as tie

returns : tie.Need-returns-then-monomial-word
returns c =
    let a = c.args in
    sym (ap (λ (b : Bool). b && same_number a.coefficient (coefficient_of (get_or a.pool.now a.k 0)))
    (ne_eqb a.monomial (get_or a.pool.now (a.k + 16) 0) (λ e. c.if-monomial-word.true (e ∙ sym c.word.ensures))))

returns-2 : tie.Need-returns
returns-2 c =
    let a = c.args in
    ap₂ eqb c.word-2.ensures (c.coefficient_word.ensures ∙ ap coefficient_word (read_back a.coefficient c.ranges.coefficient))
    ∙ same-words a.coefficient (get_or a.pool.now a.k 0)
    ∙ sym (ap (λ (b : Bool). b && same_number a.coefficient (coefficient_of (get_or a.pool.now a.k 0)))
    (eq-eqb a.monomial (get_or a.pool.now (a.k + 16) 0) (c.if-monomial-word.false ∙ c.word.ensures)))

pub same_term_spec : {M : Type 1} → statement M
same_term_spec =
    tie.close
    (tie.spec (λ c. search rules) (λ c κs. search rules) returns (λ c κs. search rules) (λ c κs. search rules) returns-2)
