-- The content of what is left, from the common divisor so far, stays that of the whole.
use Rattle.std.proofs.Common.{◌≡◌, ◌≤◌}
use Rattle.rules.specs.Polynomial.{content_from}
use Rattle.normal.specs.Normal.{coefficients}
use Rattle.normal.proofs.content.Given as goal

abbrev pub invariant-loop-i : goal.invariant-loop-i
invariant-loop-i l = (l.from ≤ l.i) × (content_from l.common (coefficients l.coefficient l.i l.to) ≡ content_from 0 (coefficients l.coefficient l.from l.to))
