-- The atoms so far have their words.
use Rattle.std.proofs.Common.{◌≡◌, ℕ, ◌<◌, length}
use Rattle.round.specs.Signing.{atom_slot}
use Rattle.search.specs.Masked.{SlotMask, mask_at}
use Rattle.search.proofs.masked.mask_list.Given as goal

abbrev pub invariant-loop-i : goal.invariant-loop-i
invariant-loop-i l =
    record { words : length l.masks ≡ 128; atoms : (j : ℕ) → j < l.i → SlotMask l.coefficient l.monomial l.terms l.sign (atom_slot l.atoms.number j) (mask_at l.masks j) }
