use borrow.Author.Tests.{eq-eqb, ne_eqb}
use Rattle.std.proofs.Common.{pos, get_or, rules}
use Rattle.forms.proofs.Numbers.{same_bits}
use Rattle.forms.proofs.slots.same_term.Goals as goal

pub returns-then-monomial-first : goal.returns-then-monomial-first
returns-then-monomial-first c =
    let l = c.args.coefficient.now in
    simp (eq-eqb _ _ c.if-monomial-first.true) (same_bits (get_or l c.args.first (pos 0)) (get_or l c.args.second (pos 0)) (search rules) (search rules))

pub returns-else-monomial-first : goal.returns-else-monomial-first
returns-else-monomial-first c = simp (ne_eqb _ _ c.if-monomial-first.false)
