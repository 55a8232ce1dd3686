-- Each word is the mask of the first variables.
use Rattle.std.proofs.Common.{true}
use Rattle.rules.specs.Signs.{negative, nought, positive, has}
use Rattle.terms.proofs.Building.{Built}
use Rattle.terms.proofs.masks.masks_of.Given as goal

abbrev pub invariant-loop-i : goal.invariant-loop-i
invariant-loop-i l =
    record {
      all-built : Built (λ s. true) l.b.sets l.n l.i l.all;
      negative-built : Built (has negative) l.b.sets l.n l.i l.negative;
      zero-built : Built (has nought) l.b.sets l.n l.i l.zero;
      positive-built : Built (has positive) l.b.sets l.n l.i l.positive;
    }
