-- The atoms so far are in the columns, and stay there.
use Rattle.std.proofs.Common.{◌≡◌, ℕ, ◌<◌, length, get_or}
use Rattle.columns.specs.Columns.{Noted}
use Rattle.search.specs.Masked.{mask_at}
use Rattle.search.proofs.noted.note_list.Given as goal

abbrev pub invariant-loop-i : goal.invariant-loop-i
invariant-loop-i l =
    record { words : length l.columns ≡ 130; atoms : (j : ℕ) → j < l.i → Noted l.columns j (mask_at l.masks j) (get_or l.atoms.set j 0) }
