-- What the converters say: what is returned and what the lent output holds afterwards is the book's conversion; and that conversion by cases.
use Rattle.std.specs.Prelude.{◌≡◌, refl, Result, Ok, Err, List, ◌++◌, ℕ, ◌≤◌, ◌<◌, leb, ℤ, pos, length, take, drop, replicate}
use Rattle.std.proofs.Common.{sym, ap, ◌∙◌, zero-add, arith, le-leb}
use Rattle.std.proofs.lemmas.List.{length-replicate}
use Rattle.std.proofs.lemmas.List.Edits.{sets, sets-eq}
use Rattle.std.proofs.Math.Seq.{take-append_seam}
use Rattle.std.proofs.lemmas.Bool.{lt-leb}
use Rattle.rules.specs.Block.{Block, Edition, edition1, edition2, edition_number, edition_of, Stream, refused, read, read_block, block_length, write_block}
use Rattle.rules.specs.Convert.{Conversion, not_converted, converted, if_room_for, converted_to, convert, converted_into}
use Rattle.block_laws.specs.Sizes.{longest, longest-block}
use Rattle.block_laws.specs.Blocks.{accepted-within}
use Rattle.block.specs.declared.Held.{Held}
use Rattle.block.specs.declared.Contents.{Contents}
use Rattle.block.specs.declared.Refusal.{Refusal as BlockRefusal}
use Rattle.block.specs.Refusals as block
use Rattle.block.specs.Held.{held_by}
use Rattle.block.specs.Steps.{ContentsOf, ContentsFound}
use Rattle.writer.specs.Written.{Writable}
use Rattle.array_laws.specs.Writing.{writable}
use Rattle.convert.specs.declared.Refusal.{Refusal}
use Rattle.convert.specs.declared.Refusal.TheVariants.{OutputShort, Block as BlockRefused}
use Rattle.convert.specs.Refusals.{by_number}

-- The book's conversion as it is returned: a refusal's number, or the length of the finished block.
unfoldable pub outcome_of : Conversion → Result ℕ ℕ
outcome_of (not_converted number) = Err number
outcome_of (converted bytes) = Ok (length bytes)

-- A finished block goes to the output if there is room for it, else it is refused by 1.
pub record Finishes (bytes before after : List ℕ) (returned : Result ℕ Refusal) : Type 0 where
  pub returns : by_number returned ≡ outcome_of (if_room_for (leb (length bytes) (length before)) bytes)
  pub output : after ≡ converted_into (if_room_for (leb (length bytes) (length before)) bytes) before

-- What is returned, and what the lent output holds afterwards, is the book's conversion of the bytes.
pub record Converts (edition : Edition) (bytes before after : List ℕ) (returned : Result ℕ Refusal) : Type 0 where
  pub returns : by_number returned ≡ outcome_of (convert edition (length before) bytes)
  pub output : after ≡ converted_into (convert edition (length before) bytes) before

-- ---- a finished block

pub finishes-not : (bytes before : List ℕ) → length before < length bytes → Finishes bytes before before (Err OutputShort)
unfolding if_room_for outcome_of converted_into
finishes-not bytes before short =
    record { returns = rw (lt-leb (length bytes) (length before) short); output = rw (lt-leb (length bytes) (length before) short) }

pub finishes : {bytes before after : List ℕ} {size : ℕ} → length bytes ≤ length before → size ≡ length bytes
    → after ≡ bytes ++ drop (length bytes) before → Finishes bytes before after (Ok size)
unfolding if_room_for outcome_of converted_into
finishes {bytes} {before} room size_is after_is = record {
  returns = ap Ok size_is ∙ rw (le-leb (length bytes) (length before) room);
  output = after_is ∙ rw (le-leb (length bytes) (length before) room);
}

-- A block that was stored at the front of a list is found there again.
pub front-again : (zeros bytes : List ℕ) {stored : List ℕ} {size : ℕ} → stored ≡ sets zeros 0 bytes → size ≡ length bytes → length bytes ≤ length zeros
    → take size stored ≡ bytes
front-again zeros bytes is size_is room =
    let whole : sets zeros 0 bytes ≡ bytes ++ drop (length bytes) zeros = rw (zero-add (length bytes)) at (sets-eq bytes zeros 0 (omega arith)) in
    rw (is, whole, size_is) (take-append_seam bytes (drop (length bytes) zeros))

-- ---- what was read

-- What the reader refuses is refused by its number,
pub converts-refused : (edition : Edition) {bytes before : List ℕ} {refusal : BlockRefusal} → read_block bytes ≡ refused (block.number_of refusal)
    → Converts edition bytes before before (Err (BlockRefused refusal))
unfolding convert converted_to outcome_of converted_into
converts-refused edition is = record { returns = rw is; output = rw is }

-- and what it accepts is finished.
pub converts-finished : (edition : Edition) {bytes before after : List ℕ} {returned : Result ℕ Refusal} {block : Block} {stream : Stream}
    → read_block bytes ≡ read block stream → Finishes (write_block edition block) before after returned → Converts edition bytes before after returned
unfolding convert converted_to
converts-finished edition is told = record { returns = told.returns ∙ rw is; output = told.output ∙ rw is }

-- A block was read from these bytes, and the arrays that hold it can be written in an edition.
pub record Readable (bytes : List ℕ) (edition : ℕ) (held : Held) : Type 0 where
  pub block : Block
  pub stream : Stream
  pub reading : read_block bytes ≡ read block stream
  pub writable : Writable edition held 21516 block

longest-at-most : (edition : Edition) → longest edition ≤ 21516
unfolding longest
longest-at-most edition1 = omega arith
longest-at-most edition2 = omega arith

module _ {bytes : List ℕ} {cs : List ℤ} {ms ts token : List ℕ} {contents : Result Contents BlockRefusal}
    (found : ContentsFound bytes (replicate 1024 (pos 0)) cs (replicate 1024 0) ms (replicate 64 0) ts (replicate 255 0) token contents) where
  -- The reader finds a refusal,
  pub found-refused : {refusal : BlockRefusal} → contents ≡ Err refusal → read_block bytes ≡ refused (block.number_of refusal)
  unfolding ContentsOf
  found-refused e = (rw e at found).found

  -- or a block, which can be written in either edition where there is room for 21,516 bytes.
  pub found-accepted : {given : Contents} (edition : ℕ) → edition ≡ edition_number (edition_of edition) → contents ≡ Ok given
      → Readable bytes edition (held_by given.variables given.polynomials given.root given.tokens cs ms ts token)
  unfolding ContentsOf
  found-accepted edition known e =
      let stored = (rw e at found).found in
      let within = accepted-within bytes stored.reading in
      let room : block_length (edition_of edition) stored.block ≤ 21516 =
      omega (arith, longest-block (edition_of edition) stored.block within, longest-at-most (edition_of edition)) in
      record {
        block = stored.block;
        stream = stored.rest;
        reading = stored.reading;
        writable = rw stored.stored
            (writable stored.block within (replicate 1024 (pos 0)) (replicate 1024 0) (replicate 64 0) (replicate 255 0)
            (length-replicate 1024 (pos 0)) (length-replicate {A = ℕ} 1024 0) (length-replicate {A = ℕ} 64 0) (length-replicate {A = ℕ} 255 0)
            edition 21516 known room);
      }
