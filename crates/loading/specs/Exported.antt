-- What the entries for C give: a refusal's own number, below 256, or 65,536 more than the length of the block's bytes.
-- A block is shorter than 32,768 bytes, so that the lower 16 bits are its length.
use Rattle.std.specs.Prelude.{Bool, true, false, Result, Ok, Err, List, ◌≡◌, refl, ℕ, ◌+◌, ◌≤◌, ◌<◌, leb, length}
use Rattle.std.proofs.Common.{sym, ap, ◌∙◌, subst, arith}
use Rattle.rules.specs.Block.{Block, Reading, refused, read, read_block}
use Rattle.block_laws.specs.Blocks.{accepted-below-32768}
use Rattle.loading_laws.specs.Loading.{lent, Start, refusal, starts, start_from, start_of, if_room, load_answer}
use Rattle.loading.specs.Started.{found}

abbrev pub number_told : Result ℕ ℕ → ℕ
number_told (Err number) = number
number_told (Ok size) = 65536 + size

unfoldable pub number_in : Start → ℕ
number_in (refusal number) = number
number_in (starts bytes) = 65536 + length bytes

abbrev pub Short : Result ℕ ℕ → Type 0
Short (Err number) = Unit {0}
Short (Ok size) = size < 32768

pub number-found : (start : Start) → number_told (found start) ≡ number_in start
unfolding found number_in
number-found (refusal number) = refl
number-found (starts bytes) = refl

-- What was read is short,
short-reading : (bytes : List ℕ) (reading : Reading Block) → read_block bytes ≡ reading → Short (found (start_from bytes reading))
unfolding found start_from
short-reading bytes (refused number) is = tt
short-reading bytes (read block stream) is = accepted-below-32768 bytes is

-- so is what starts, and what was loaded.
pub short-start : (area : List ℕ) → Short (found (start_of area))
unfolding start_of
short-start area = short-reading (lent area) (read_block (lent area)) refl

short-room : (room : Bool) (start : Start) → Short (found start) → Short (found (if_room room start))
unfolding if_room found
short-room room (refusal number) short = tt
short-room true (starts bytes) short = short
short-room false (starts bytes) short = tt

pub short-load : (block area : List ℕ) → Short (found (load_answer block area))
unfolding load_answer
short-load block area =
    short-room (leb (length block) (length area)) (start_from block (read_block block)) (short-reading block (read_block block) refl)

pub short-found : {answer : Result ℕ ℕ} (start : Start) → answer ≡ found start → Short (found start) → Short answer
short-found start is short = subst Short (sym is) short

pub number-told : {answer : Result ℕ ℕ} {number : ℕ} (start : Start) → answer ≡ found start → number ≡ number_told answer → number ≡ number_in start
number-told start is told = told ∙ ap number_told is ∙ number-found start
