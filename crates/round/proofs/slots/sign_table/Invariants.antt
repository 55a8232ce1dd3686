-- The slots that are left, worked out from the signs as they are, give what was asked, by masks that are the board's.
use Rattle.std.proofs.Common.{◌≡◌, ◌-◌, length}
use Rattle.rules.specs.Polynomial.{Board}
use Rattle.terms.specs.Masks.{MasksOf}
use Rattle.round.specs.Signing.{signed_slots, signed_table}
use Rattle.round.proofs.slots.sign_table.Given as goal

abbrev pub invariant-loop-k : goal.invariant-loop-k
invariant-loop-k l = record {
  as_long : length l.sign ≡ length l.fn.sign;
  left : (board : Board) → MasksOf board l.masks
      → signed_slots board l.monomial l.terms (λ j. j) l.sign l.k (80 - l.k) ≡ signed_table board l.monomial l.terms l.fn.sign;
}
