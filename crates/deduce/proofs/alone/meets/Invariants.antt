-- Whether the monomial is met among those that are left is whether it is met among all.
use Rattle.std.proofs.Common.{◌≡◌, ◌-◌}
use Rattle.terms.specs.View.{numbers_from}
use Rattle.deduce.specs.Alone.{met, monomials_of}
use Rattle.deduce.proofs.alone.meets.Given as goal

abbrev pub invariant-loop-i : goal.invariant-loop-i
invariant-loop-i l = met l.m (numbers_from l.monomial l.i (l.fn.run.to - l.i)) ≡ met l.m (monomials_of l.monomial l.fn.run)
