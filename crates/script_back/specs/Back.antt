-- #112, what is told for a text: "25 with the position of the first byte at which no such text goes on"; or its block in edition 1, "1 if the output is
-- shorter than the finished block, after 25"; and what the lent output holds then.
use Rattle.std.specs.Prelude.{Bool, true, false, List, ◌≡◌, ℕ, ◌+◌, ◌<◌, ◌≤◌, leb, ℤ, pos, length, replicate, Result, Ok, Err}
use Rattle.std.proofs.Math.Path.{refl, subst}
use Rattle.std.proofs.Common.{sym, ap, ◌∙◌, arith}
use Rattle.std.proofs.lemmas.List.{length-replicate}
use Rattle.rules.specs.Block.{Block, edition1, edition_number, edition_of, block_length, write_block}
use Rattle.rules.specs.Limits.{BlockWithin}
use Rattle.rules.specs.Convert.{Conversion, not_converted, converted, if_room_for, converted_to, convert, converted_into}
use Rattle.block_laws.specs.Blocks.{reads-back}
use Rattle.block_laws.specs.Sizes.{longest, longest-block, length-block, block-below-32768}
use Rattle.block.specs.Held.{held_by, held_of}
use Rattle.writer.specs.Written.{Writable}
use Rattle.array_laws.specs.Writing.{writable}
use Rattle.convert.specs.declared.Refusal.{Refusal as ConvertRefusal}
use Rattle.convert.specs.Refusals as convert_refusals
use Rattle.convert.specs.Converted.{outcome_of, Finishes, Converts}
use Rattle.convert.specs.Exported.{exported}
use Rattle.rules.specs.Reader.{Outcome as Held, held, stopped}
use Rattle.rules.specs.Text.{script_of, Plain}
use Rattle.rules.specs.Reading.{read_text}
use Rattle.script_laws.specs.Laws.{text-reads-back, text-accepted}
use Rattle.script_back.specs.Whole.{ScriptBy, ScriptFound}
use Rattle.script_back.specs.declared.whole_script.Script.{Script}
use Rattle.script_polynomial.specs.declared.Stop.{Stop}
use Rattle.script_back.specs.declared.Refusal.{Refusal}
use Rattle.script_back.specs.declared.Refusal.TheVariants.{Stopped}
use Rattle.script_back.specs.Refusals.{by_number, passed_on, told}
use Rattle.block.specs.declared.Held.{Held as Arrays}

pub data Back : Type 0 where
  stops_at : ℕ → Back
  ends : Conversion → Back

-- The block's bytes, where they fit into so many.
abbrev pub finished_in : ℕ → Block → Conversion
finished_in room block = if_room_for (leb (length (write_block edition1 block)) room) (write_block edition1 block)

unfoldable pub back_of : ℕ → Held Block → Back
back_of room (stopped p) = stops_at p
back_of room (held block) = ends (finished_in room block)

unfoldable pub back_from : ℕ → List ℕ → Back
back_from room text = back_of room (read_text text)

-- The lent output afterwards: on refusal each byte, else the finished block and then what was there.
unfoldable pub back_into : Back → List ℕ → List ℕ
back_into (stops_at p) output = output
back_into (ends given) output = converted_into given output

-- One number for C, and the position, which is 0 if the text was read.
unfoldable pub back_number : Back → ℕ
back_number (stops_at p) = 25
back_number (ends given) = exported given

unfoldable pub back_position : Back → ℕ
back_position (stops_at p) = p
back_position (ends given) = 0

-- ---- what the entries say

-- What the book reads, as `read_script` returns it.
unfoldable pub reading_of : Held Block → Result Arrays Stop
reading_of (stopped p) = Err (record { at = p })
reading_of (held block) = Ok (held_of block)

-- What `block_of` returns, by the refusal's number and its position.
unfoldable pub outcome_in : Back → Result ℕ (ℕ × ℕ)
outcome_in (stops_at p) = Err (25, p)
outcome_in (ends given) = told (outcome_of given)

pub record GivesBack (text before after : List ℕ) (r : Result ℕ Refusal) : Type 0 where
  pub returns : by_number r ≡ outcome_in (back_from (length before) text)
  pub output : after ≡ back_into (back_from (length before) text) before

pub record ExportsBack (text before after : List ℕ) (r position : ℕ) : Type 0 where
  pub returns : r ≡ back_number (back_from (length before) text)
  pub stops : position ≡ back_position (back_from (length before) text)
  pub output : after ≡ back_into (back_from (length before) text) before

-- The script of a plain block comes back as that block, where it fits.
pub script-comes-back : (room : ℕ) (block : Block) → Plain block → back_from room (script_of block) ≡ ends (finished_in room block)
unfolding back_from back_of
script-comes-back room block plain = ap (back_of room) (text-reads-back block plain)

-- ---- a block that was read is written

longest-fits : (block : Block) → BlockWithin block → block_length edition1 block ≤ 21516
unfolding longest
longest-fits block within = omega (arith, longest-block edition1 block within)

pub converts-block : (block : Block) → BlockWithin block → {bytes before after : List ℕ} {r : Result ℕ ConvertRefusal} → bytes ≡ write_block edition1 block → Converts edition1 bytes before after r
    → Finishes (write_block edition1 block) before after r
unfolding convert converted_to
converts-block block within {before = before} e h =
    let (stream, back) = reads-back edition1 block within in
    let same : convert edition1 (length before) (write_block edition1 block) ≡ finished_in (length before) block = rw back in
    let given = rw e at h in
    record { returns = given.returns ∙ ap outcome_of same; output = given.output ∙ ap (λ (c : Conversion). converted_into c before) same }

-- What was read, in blank arrays.
pub record WasRead (text : List ℕ) (cs : List ℤ) (ms ts token : List ℕ) (variables polynomials kind count : ℕ) : Type 0 where
  pub block : Block
  pub reading : read_text text ≡ held block
  pub within : BlockWithin block
  pub stored : held_by variables polynomials kind count cs ms ts token ≡ held_of block
  pub writes : Writable 1 (held_by variables polynomials kind count cs ms ts token) 21516 block

told-passed : (r : Result ℕ ConvertRefusal) → by_number (passed_on r) ≡ told (convert_refusals.by_number r)
told-passed (Ok size) = refl
told-passed (Err refusal) = refl

module _ (text : List ℕ) {cs : List ℤ} {ms ts token : List ℕ} {script : Result Script Stop}
    (found : ScriptFound text (replicate 1024 (pos 0)) cs (replicate 1024 0) ms (replicate 64 0) ts (replicate 255 0) token script) where
  pub text-stops : {halt : Stop} → script ≡ Err halt → read_text text ≡ stopped halt.at
  unfolding ScriptBy
  text-stops e = (rw e at found).found

  pub text-read : {one : Script} → script ≡ Ok one → WasRead text cs ms ts token one.variables one.polynomials one.root one.tokens
  unfolding ScriptBy held_of edition_number edition_of
  text-read e =
      let stored = (rw e at found).found in
      let block = stored.block in
      let within = (text-accepted text block stored.reading).0.accepted in
      record {
        block = block;
        reading = stored.reading;
        within = within;
        stored = stored.stored;
        writes = rw stored.stored
            (writable block within (replicate 1024 (pos 0)) (replicate 1024 0) (replicate 64 0) (replicate 255 0)
            (length-replicate 1024 (pos 0)) (length-replicate {A = ℕ} 1024 0) (length-replicate {A = ℕ} 64 0) (length-replicate {A = ℕ} 255 0)
            1 21516 refl (longest-fits block within));
      }

  pub reads_none : {halt : Stop} → script ≡ Err halt → Err halt ≡ reading_of (read_text text)
  unfolding reading_of
  reads_none e = rw (text-stops e)

  pub reads-one : {one : Script} → script ≡ Ok one
      → Ok (held_by one.variables one.polynomials one.root one.tokens cs ms ts token) ≡ reading_of (read_text text)
  unfolding reading_of
  reads-one e = let h = text-read e in rw (h.reading, h.stored)

  pub gives_none : {before : List ℕ} {halt : Stop} → script ≡ Err halt → GivesBack text before before (Err (Stopped halt))
  unfolding back_from back_of outcome_in back_into
  gives_none e = let stops = text-stops e in record { returns = rw stops; output = rw stops }

  pub gives-block : {before after : List ℕ} {one : Script} {r : Result ℕ ConvertRefusal} (e : script ≡ Ok one)
      → Finishes (write_block edition1 (text-read e).block) before after r → GivesBack text before after (passed_on r)
  unfolding back_from back_of outcome_in back_into
  gives-block {r = r} e h =
      let reading = (text-read e).reading in
      record { returns = rw reading (told-passed r ∙ ap told h.returns); output = rw reading h.output }

-- ---- numbers for C

abbrev pub number_in : Result ℕ (ℕ × ℕ) → ℕ
number_in (Err refusal) = refusal.0
number_in (Ok size) = 65536 + size

abbrev pub position_in : Result ℕ (ℕ × ℕ) → ℕ
position_in (Err refusal) = refusal.1
position_in (Ok size) = 0

abbrev pub ShortIn : Result ℕ (ℕ × ℕ) → Type 0
ShortIn (Err refusal) = Unit {0}
ShortIn (Ok size) = size < 32768

short-room : (room : Bool) (bytes : List ℕ) → length bytes < 32768 → ShortIn (told (outcome_of (if_room_for room bytes)))
unfolding if_room_for outcome_of
short-room true bytes short = short
short-room false bytes short = tt

short_back : (room : ℕ) (text : List ℕ) (outcome : Held Block) → read_text text ≡ outcome → ShortIn (outcome_in (back_of room outcome))
unfolding back_of outcome_in
short_back room text (stopped p) e = tt
short_back room text (held block) e =
    let within = (text-accepted text block e).0.accepted in
    short-room (leb (length (write_block edition1 block)) room) (write_block edition1 block) (omega (arith, length-block edition1 block, block-below-32768 edition1 block within))

number-back : (given : Back) → number_in (outcome_in given) ≡ back_number given
unfolding outcome_in back_number outcome_of exported
number-back (stops_at p) = refl
number-back (ends (not_converted number)) = refl
number-back (ends (converted bytes)) = refl

position-back : (given : Back) → position_in (outcome_in given) ≡ back_position given
unfolding outcome_in back_position outcome_of
position-back (stops_at p) = refl
position-back (ends (not_converted number)) = refl
position-back (ends (converted bytes)) = refl

module _ {text before after : List ℕ} {r : Result ℕ Refusal} (gives : GivesBack text before after r) where
  pub short-told : ShortIn (by_number r)
  unfolding back_from
  short-told = subst ShortIn (sym gives.returns) (short_back (length before) text (read_text text) refl)

  pub exports-told : {number position : ℕ} → number ≡ number_in (by_number r) → position ≡ position_in (by_number r) → ExportsBack text before after number position
  exports-told e f = record {
    returns = e ∙ ap (λ (o : Result ℕ (ℕ × ℕ)). number_in o) gives.returns ∙ number-back (back_from (length before) text);
    stops = f ∙ ap (λ (o : Result ℕ (ℕ × ℕ)). position_in o) gives.returns ∙ position-back (back_from (length before) text);
    output = gives.output;
  }
