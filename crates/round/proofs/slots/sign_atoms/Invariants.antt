-- The slots that are left, worked out from the signs as they are, give what was asked.
use Rattle.std.proofs.Common.{◌≡◌, ◌-◌, length}
use Rattle.rules.specs.Polynomial.{Board}
use Rattle.terms.specs.Masks.{MasksOf}
use Rattle.table.specs.Table.{many}
use Rattle.round.specs.Signing.{atom_slot, signed_slots}
use Rattle.round.proofs.slots.sign_atoms.Given as goal

abbrev pub invariant-loop-number : goal.invariant-loop-number
invariant-loop-number l = record {
  all : l.n ≡ many l.fn.atoms.count;
  as_long : length l.sign ≡ length l.fn.sign;
  left : (board : Board) → MasksOf board l.masks
      → signed_slots board l.monomial l.terms (atom_slot l.fn.atoms.number) l.sign l.number-index (l.n - l.number-index)
      ≡ signed_slots board l.monomial l.terms (atom_slot l.fn.atoms.number) l.fn.sign 0 (many l.fn.atoms.count);
}
