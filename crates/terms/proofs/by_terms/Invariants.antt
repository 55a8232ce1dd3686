use Rattle.std.proofs.Common.{◌≡◌, ◌-◌}
use Rattle.terms.specs.Signed.{by_signs, by_signs_from}
use Rattle.terms.proofs.by_terms.Given as goal

abbrev pub invariant-loop-i : goal.invariant-loop-i
invariant-loop-i l = by_signs_from l.sofar.0 l.coefficient l.sign l.i (l.to - l.i) ≡ by_signs l.coefficient l.sign l.from l.to
