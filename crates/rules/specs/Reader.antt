-- #112: a reader of bytes as the tree of all texts that it takes, and what a text holds or where it stops. Where it stops follows from the tree alone:
-- so a reader's definition says only which byte may come next.
use Rattle.std.specs.Prelude.{List, [], ◌∷◌, ℕ, suc, ◌-◌}

-- The text is whole and holds this; or the byte before was none that goes on; or the next byte decides.
pub data Reader (A : Type 0) : Type 0 where
  give : A → Reader A
  stuck : Reader A
  ask : (ℕ → Reader A) → Reader A

-- What a text holds, or "the position of the first byte at which no such text goes on".
pub data Outcome (A : Type 0) : Type 0 where
  held : A → Outcome A
  stopped : ℕ → Outcome A

-- A text is read behind so many bytes.
unfoldable pub read_from : {A : Type 0} → ℕ → Reader A → List ℕ → Outcome A
read_from p (give a) [] = held a
read_from p (give a) (b ∷ t) = stopped p
read_from p stuck t = stopped (p - 1)
read_from p (ask f) [] = stopped p
read_from p (ask f) (b ∷ t) = read_from (suc p) (f b) t

-- To unfold this is to unfold every definition of this file.
unfoldable pub open_reader : Unit {0}
unfolding read_from
open_reader = tt
