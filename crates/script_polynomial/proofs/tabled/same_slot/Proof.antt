-- `same_slot` meets its contract.
use mathlib.Core.Path.{sym, ◌∙◌}
use borrow.Author.Rules.{rules}
use Rattle.script_polynomial.proofs.Comparing.{other-count}
use Rattle.script_polynomial.proofs.tabled.same_slot.Statement.{statement}
use Rattle.script_polynomial.proofs.tabled.same_slot.Tie as tie

returns : tie.Need-returns-then-wide-count
returns c =
    let a = c.args in
    other-count a.coefficient.now a.monomial.now a.value.now a.powers.now 0 _ a.count _
    (λ e. c.if-wide-count.true (c.wide.ensures ∙ e))

same-terms-requires : tie.Need-same_terms-requires
same-terms-requires c κs =
    let same = sym c.wide.ensures ∙ c.if-wide-count.false in
    (rw same at c.requires.0, c.requires.2)

returns-2 : tie.Need-returns
returns-2 c =
    let same = sym c.wide.ensures ∙ c.if-wide-count.false in
    rw same c.same_terms.ensures

pub same_slot_spec : {M : Type 1} → statement M
same_slot_spec =
    tie.close (tie.spec (λ c. search rules) (λ c κs. search rules) returns (λ c. search rules) same-terms-requires returns-2)
