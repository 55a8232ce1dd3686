-- What is claimed of `specs/ByHand`: theorems by computation, which an edit of a definition breaks.
use Rattle.std.specs.Prelude.{[], ◌≡◌, refl, ◌∷◌, pos, negsuc}
use Rattle.rules.specs.Signs.{open_signs}
use Rattle.rules.specs.Deduce.{open_deduce}
use Rattle.rules.specs.Plain.{values, open_plain}
use Rattle.rules.specs.ByHand.{over, one}

-- "With 0 alone: -1, 0, 1."
pub zero-alone : values (one (pos 5) (pos 0) ∷ []) ≡ over (negsuc 0) 0 ∷ over (pos 0) 0 ∷ over (pos 1) 0 ∷ []
unfolding open_signs open_deduce open_plain
zero-alone = refl
