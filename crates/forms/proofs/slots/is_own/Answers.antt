use borrow.Author.Tests.{lt-ltb, le-ltb}
use Rattle.forms.specs.Slots.{is_own}
use Rattle.forms.proofs.slots.is_own.Goals as goal

pub returns-then-i-polynomials : goal.returns-then-i-polynomials
unfolding is_own
returns-then-i-polynomials c = rw (lt-ltb _ _ c.if-i-polynomials.true)

pub returns-else-i-polynomials : goal.returns-else-i-polynomials
unfolding is_own
returns-else-i-polynomials c = rw (le-ltb _ _ c.if-i-polynomials.false)
