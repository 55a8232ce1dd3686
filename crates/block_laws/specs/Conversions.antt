-- 02, #109, the converters: the converted block holds the same variables, table and tree; there and back gives the same bytes; when 1 is given.
use Rattle.std.specs.Prelude.{Bool, true, false, List, ◌≡◌, refl, ℕ, ◌≤◌, ◌<◌, leb, length}
use Rattle.std.proofs.Common.{sym, ap, ◌∙◌, subst, arith}
use borrow.Author.Tests.{le-leb, lt-leb}
use Rattle.rules.specs.Block.{Block, Edition, Stream, Reading, refused, read, head_edition, read_block, block_length, write_block}
use Rattle.rules.specs.Convert.{Conversion, not_converted, converted, if_room_for, converted_to, convert}
use Rattle.block_laws.specs.Bits.{AllBytes}
use Rattle.block_laws.specs.Sizes.{length-block}
use Rattle.block_laws.specs.Blocks.{written-edition, reads-back, accepted-within, one_block}

-- What the reader refuses is refused by its number, however much output is lent.
pub refused-conversion : (edition : Edition) (room : ℕ) (bytes : List ℕ) {number : ℕ} → read_block bytes ≡ refused number
    → convert edition room bytes ≡ not_converted number
unfolding convert converted_to
refused-conversion edition room bytes is = rw is

module _ (edition : Edition) (room : ℕ) (bytes : List ℕ) {block : Block} {s : Stream} (accepted : read_block bytes ≡ read block s) where
  -- An accepted block comes out as what it holds, written in that edition, where the output has room for it;
  pub conversion : block_length edition block ≤ room → convert edition room bytes ≡ converted (write_block edition block)
  unfolding convert converted_to if_room_for
  conversion enough = rw (accepted, length-block edition block, le-leb _ _ enough)

  -- else it is refused by 1, after all others.
  pub conversion-short : room < block_length edition block → convert edition room bytes ≡ not_converted 1
  unfolding convert converted_to if_room_for
  conversion-short short = rw (accepted, length-block edition block, lt-leb _ _ short)

  -- Same formula: the converted block is accepted, in its edition, and holds the same variables, table and tree.
  pub same-formula : (left : Stream) × (read_block (write_block edition block) ≡ read block left)
  same-formula = reads-back edition block (accepted-within bytes accepted)

  pub same-edition : head_edition (write_block edition block) ≡ edition
  same-edition = written-edition edition block (accepted-within bytes accepted)

-- A block that is in the edition already comes out as the same bytes,
pub already-there : (room : ℕ) (bytes : List ℕ) {block : Block} {s : Stream} → read_block bytes ≡ read block s → AllBytes bytes → length bytes ≤ room
    → convert (head_edition bytes) room bytes ≡ converted bytes
already-there room bytes {block} accepted are-bytes enough =
    conversion (head_edition bytes) room bytes accepted
    (omega (arith, length-block (head_edition bytes) block, ap length (one_block bytes accepted are-bytes)))
    ∙ ap converted (one_block bytes accepted are-bytes)

-- and what an accepted block holds, written in any edition, comes back to its bytes.
pub comes_back : (edition : Edition) (room : ℕ) (bytes : List ℕ) {block : Block} {s : Stream} → read_block bytes ≡ read block s → AllBytes bytes
    → length bytes ≤ room
    → convert (head_edition bytes) room (write_block edition block) ≡ converted bytes
comes_back edition room bytes {block} accepted are-bytes enough =
    conversion (head_edition bytes) room (write_block edition block) (same-formula edition 0 bytes accepted).1
    (omega (arith, length-block (head_edition bytes) block, ap length (one_block bytes accepted are-bytes)))
    ∙ ap converted (one_block bytes accepted are-bytes)

-- What was converted was accepted, and is what it holds, written in the edition.
pub record Converted (edition : Edition) (bytes there : List ℕ) : Type 0 where
  pub block : Block
  pub stream : Stream
  pub accepted : read_block bytes ≡ read block stream
  pub written : there ≡ write_block edition block

abbrev IsConverted : Conversion → Type 0
IsConverted (not_converted number) = ⊥
IsConverted (converted bytes) = Unit {0}

refusal-differs : {number : ℕ} {there : List ℕ} → not_converted number ≡ converted there → ⊥
refusal-differs same = subst IsConverted (sym same) tt

same-converted : {there other : List ℕ} → converted there ≡ converted other → there ≡ other
same-converted same = cc

by-room : (edition : Edition) (bytes : List ℕ) {there : List ℕ} (block : Block) (stream : Stream) (enough : Bool)
    → read_block bytes ≡ read block stream
    → if_room_for enough (write_block edition block) ≡ converted there → Converted edition bytes there
unfolding if_room_for
by-room edition bytes block stream true accepted same =
    record { block = block; stream = stream; accepted = accepted; written = sym (same-converted same) }
by-room edition bytes block stream false accepted same = absurd (refusal-differs same)

by-reading : (edition : Edition) (room : ℕ) (bytes : List ℕ) {there : List ℕ} (reading : Reading Block) → read_block bytes ≡ reading
    → converted_to edition room reading ≡ converted there → Converted edition bytes there
unfolding converted_to
by-reading edition room bytes (refused number) is same = absurd (refusal-differs same)
by-reading edition room bytes (read block stream) is same = by-room edition bytes block stream (leb (length (write_block edition block)) room) is same

pub was-converted : (edition : Edition) (room : ℕ) (bytes : List ℕ) {there : List ℕ} → convert edition room bytes ≡ converted there
    → Converted edition bytes there
unfolding convert
was-converted edition room bytes same = by-reading edition room bytes (read_block bytes) refl same

-- There and back: whatever was converted, to whichever edition, converted to its own edition is the same bytes.
pub there_and_back : (edition : Edition) (room room_back : ℕ) (bytes : List ℕ) {there : List ℕ} → AllBytes bytes
    → convert edition room bytes ≡ converted there
    → length bytes ≤ room_back → convert (head_edition bytes) room_back there ≡ converted bytes
there_and_back edition room room_back bytes {there} are-bytes went enough =
    let told = was-converted edition room bytes went in
    ap (convert (head_edition bytes) room_back) told.written ∙ comes_back edition room_back bytes told.accepted are-bytes enough
