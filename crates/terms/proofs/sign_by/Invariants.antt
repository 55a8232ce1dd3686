-- What is left to work out, done from the signs as they are, stays what was asked. The loop knows the masks alone: it keeps this for every board
-- that they are the masks of.
use Rattle.std.proofs.Common.{◌≡◌, length}
use Rattle.rules.specs.Polynomial.{Board}
use Rattle.terms.specs.Masks.{MasksOf}
use Rattle.terms.specs.Signed.{signed}
use Rattle.terms.proofs.sign_by.Given as goal

abbrev pub invariant-loop-i : goal.invariant-loop-i
invariant-loop-i l =
    record { as_long : length l.sign ≡ length l.fn.sign; left : (board : Board) → MasksOf board l.masks → signed board l.monomial l.sign l.i l.to ≡ signed board l.monomial l.fn.sign l.from l.to }
