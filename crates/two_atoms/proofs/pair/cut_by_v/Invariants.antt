-- What the tries that are left leave of the set at hand stays what all leave of the set.
use Rattle.rules.specs.Polynomial.{Board}
use Rattle.two_atoms.specs.Tries.{SignedOn, try_of}
use Rattle.two_atoms.proofs.Factors.{FactorsWalked}
use Rattle.two_atoms.proofs.pair.cut_by_v.Given as goal

abbrev pub invariant-loop-i : goal.invariant-loop-i
invariant-loop-i l =
    FactorsWalked (λ (board : Board). SignedOn board l.monomial l.sign l.pair) (λ (board : Board). try_of board l.coefficient l.monomial l.pair l.u) l.all
    l.initial.sofar.0 l.sofar.0 l.i
