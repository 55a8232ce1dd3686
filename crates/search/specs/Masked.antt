-- The words of the forms of a list's atoms (crate masks), worked out once for the signs of a board.
-- The atom at i has its negative word at 2i, its positive one at 2i + 1.
use Rattle.std.specs.Prelude.{◌≡◌, List, ℕ, ◌+◌, ◌*◌, ◌<◌, ℤ, length, get_or}
use Rattle.rules.specs.Signs.{SignSet}
use Rattle.deduce.specs.declared.Run.{Run}
use Rattle.masks.specs.declared.Mask.{Mask}
use Rattle.masks.specs.Masks.{MaskOf}
use Rattle.table.specs.declared.Atoms.{Atoms}
use Rattle.table.specs.Table.{many}
use Rattle.round.specs.Signing.{atom_slot}

-- the places of slot k
abbrev pub slot_run : List ℕ → ℕ → Run
slot_run ts k = record { from = 16 * k; to = 16 * k + get_or ts k 0 }

-- r are the words of the form in slot k
abbrev pub SlotMask : List ℤ → List ℕ → List ℕ → List SignSet → ℕ → Mask → Type 0
SlotMask cs ms ts ss k r = MaskOf cs ms ss (slot_run ts k) r

-- the words at i
abbrev pub mask_at : List ℕ → ℕ → Mask
mask_at ws i = record { negative = get_or ws (2 * i) 0; positive = get_or ws (2 * i + 1) 0 }

-- those of the atoms of a list are there
pub record MaskedAtoms (cs : List ℤ) (ms ts : List ℕ) (ss : List SignSet) (a : Atoms) (ws : List ℕ) : Type 0 where
  pub words : length ws ≡ 128
  pub atoms : (i : ℕ) → i < many a.count → SlotMask cs ms ts ss (atom_slot a.number i) (mask_at ws i)
