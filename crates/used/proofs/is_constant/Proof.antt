-- `used::is_constant` meets its contract, by the count of terms.
use borrow.Author.Rules.{rules}
use Rattle.used.proofs.Counted.{of-many, of_none, of_one}
use Rattle.used.proofs.is_constant.Statement.{statement}
use Rattle.used.proofs.is_constant.Tie as tie

returns : tie.Need-returns-then-count-gt1
returns c n cs = let a = c.before.before.args in of-many n cs a.monomial.now a.terms.now a.slot c.if-count-gt1.true

returns-2 : tie.Need-returns-then-count-eq0
returns-2 c n cs = let a = c.before.before.before.args in of_none n cs a.monomial.now a.terms.now a.slot c.if-count-eq0.true

returns-3 : tie.Need-returns
returns-3 c n cs =
    let a = c.before.before.before.before.args in
    of_one n cs a.monomial.now a.terms.now a.slot c.before.before.if-count-gt1.false c.before.if-count-eq0.false

pub is_constant_spec : {M : Type 1} → statement M
is_constant_spec = tie.close (tie.spec (λ c. search rules) returns returns-2 (λ c. search rules) (λ c. search rules) (λ c. search rules) returns-3)
