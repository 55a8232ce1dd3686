-- What the entries say: what is returned, and what the lent text holds afterwards, is what the book tells of the bytes.
-- And what was read stands in the arrays as the script's writer asks for it.
use Rattle.std.specs.Prelude.{Bool, true, false, Result, Ok, Err, List, ◌++◌, ◌≡◌, ℕ, ◌+◌, ◌<◌, ◌≤◌, leb, ℤ, pos, length, take, drop, replicate}
use Rattle.std.proofs.Math.Path.{refl, ap, subst}
use Rattle.std.proofs.Common.{sym, ◌∙◌, zero-add, arith, le-leb, length-append}
use Rattle.std.proofs.lemmas.Bool.{lt-leb}
use Rattle.std.proofs.Math.ListN.{length-replicate}
use Rattle.std.proofs.Math.Seq.{take-append_seam}
use Rattle.rules.specs.Formula.{alone}
use Rattle.rules.specs.Block.{Block, Stream, Reading, refused, read, head_edition, read_block, write_block}
use Rattle.rules.specs.Limits.{BlockWithin}
use Rattle.rules.specs.Answer as book
use Rattle.rules.specs.Answer.{new_block, written}
use Rattle.block_laws.specs.Blocks.{accepted-within, accepted-below-32768, reads-back}
use Rattle.length_laws.specs.NewWithin.{new-within}
use Rattle.block.specs.declared.Held.{Held}
use Rattle.block.specs.declared.Contents.{Contents}
use Rattle.block.specs.declared.Refusal.{Refusal as BlockRefusal}
use Rattle.block.specs.Refusals as reader
use Rattle.block.specs.Held.{held_by, held_over}
use Rattle.block.specs.Steps.{ContentsOf, ContentsFound}
use Rattle.writer.specs.Written.{PartsHeld}
use Rattle.forms.specs.Holding.{Holds}
use Rattle.array_laws.specs.Arrays.{table_fits, arrays-hold}
use Rattle.array_laws.specs.Writing.{stored-holds}
use Rattle.answer.specs.declared.Verdict.{Verdict}
use Rattle.answer.specs.declared.Counts.{Counts}
use Rattle.answer.specs.declared.Answer.{Answer}
use Rattle.answer.specs.declared.Refusal.{Refusal as AnswerRefusal}
use Rattle.answer.specs.Refusals as simplifier
use Rattle.answer.specs.Answered.{answer_of, length_in, answer-accepted}
use Rattle.answer.specs.Entry.{Answers}
use Rattle.lines.specs.Written.{Wrote, front-whole, front-end}
use Rattle.rules.specs.Text.{script_of}
use Rattle.script_laws.specs.Length.{script-length}
use Rattle.rules.specs.Scripts.{Scripted, refused_by, scripted, unless_longer, script_within, script_read, simplified_read, script_answer, script_written, script_number}
use Rattle.script_text.specs.Tree.{Table, Stands, SomeStands}
use Rattle.script.specs.declared.Refusal.{Refusal}
use Rattle.script.specs.declared.Refusal.TheVariants.{TextShort}
use Rattle.script.specs.Refusals.{number_of, by_number}

-- What the book tells, as the code returns it, by the refusal's number.
unfoldable pub script_in : Scripted → Result ℕ ℕ
script_in (refused_by number) = Err number
script_in (scripted bytes) = Ok (length bytes)

pub record Tells (told : Scripted) (before after : List ℕ) (r : Result ℕ Refusal) : Type 0 where
  pub returns : by_number r ≡ script_in told
  pub text : after ≡ script_written told before

-- ---- the script of a block that the arrays hold

module _ (block : Block) (before : List ℕ) where
  pub tells-long : length before < length (script_of block) → Tells (script_within (length before) block) before before (Err TextShort)
  unfolding script_within unless_longer script_in script_written
  tells-long h = rw (lt-leb (length (script_of block)) (length before) h) (record { returns = refl; text = refl })

  pub tells-script : {after : List ℕ} {size next : ℕ} → size ≡ length (script_of block) → length (script_of block) ≤ length before
      → Wrote before after 0 (script_of block) next → Tells (script_within (length before) block) before after (Ok size)
  unfolding script_within unless_longer script_in script_written
  tells-script e h w = rw (le-leb (length (script_of block)) (length before) h) (record { returns = ap Ok e; text = front-whole h w })

pub measured : (block : Block) {before after : List ℕ} {size : ℕ} → Wrote before after 0 (script_of block) size → size ≡ length (script_of block)
measured block w = w.behind ∙ zero-add (length (script_of block))

-- ---- what was read

pub record Standing (bytes : List ℕ) (n root : ℕ) (cs : List ℤ) (ms ts token : List ℕ) : Type 0 where
  pub block : Block
  pub stream : Stream
  pub accepted : read_block bytes ≡ read block stream
  pub stands : Stands n root cs ms ts token block

pub record SomeRead (bytes : List ℕ) : Type 0 where
  pub given : Block
  pub stream : Stream
  pub accepted : read_block bytes ≡ read given stream

module _ {bytes : List ℕ} {cs : List ℤ} {ms ts token : List ℕ} {contents : Result Contents BlockRefusal}
    (found : ContentsFound bytes (replicate 1024 (pos 0)) cs (replicate 1024 0) ms (replicate 64 0) ts (replicate 255 0) token contents) where
  pub found-refused : {refusal : BlockRefusal} → contents ≡ Err refusal → read_block bytes ≡ refused (reader.number_of refusal)
  unfolding ContentsOf
  found-refused e = (rw e at found).found

  pub found-read : {given : Contents} → contents ≡ Ok given → SomeRead bytes
  unfolding ContentsOf
  found-read e = let stored = (rw e at found).found in record { given = stored.block; stream = stored.rest; accepted = stored.reading }

  pub found-standing : {given : Contents} → contents ≡ Ok given → Standing bytes given.variables given.root cs ms ts token
  unfolding ContentsOf
  found-standing {given} e =
      let stored = (rw e at found).found in
      let block = stored.block in
      let within : BlockWithin block = accepted-within bytes stored.reading in
      let long = length-replicate 1024 (pos 0) in
      let wide = length-replicate {A = ℕ} 1024 0 in
      let counts = length-replicate {A = ℕ} 64 0 in
      let table = arrays-hold block.table (table_fits within.table) within.polynomials (replicate 1024 (pos 0)) (replicate 1024 0) (replicate 64 0) long wide counts in
      let tree = (stored-holds block within (replicate 1024 (pos 0)) (replicate 1024 0) (replicate 64 0) (replicate 255 0) long wide counts (length-replicate {A = ℕ} 255 0)).tree in
      record {
        block = block;
        stream = stored.rest;
        accepted = stored.reading;
        stands = subst (λ (l : Held). Stands l.variables l.root l.coefficient l.monomial l.terms l.token block) (sym stored.stored)
            (record {
              variables = refl;
              within = within;
              stored = record { variables = within.variables; polynomials = within.polynomials; within = within.table; holds = table };
              held = tree;
            });
      }

-- ---- the script of a block in bytes

pub tells-refused : (room : ℕ) {reading : Reading Block} {refusal : Refusal} {text : List ℕ} → reading ≡ refused (number_of refusal) → Tells (script_read room reading) text text (Err refusal)
unfolding script_read script_in script_written
tells-refused room e = rw e (record { returns = refl; text = refl })

pub tells-read : (room : ℕ) {reading : Reading Block} {block : Block} {stream : Stream} {before after : List ℕ} {r : Result ℕ Refusal} → reading ≡ read block stream
    → Tells (script_within room block) before after r → Tells (script_read room reading) before after r
unfolding script_read
tells-read room e t = rw e t

-- ---- the answer's script

pub simplified-refused : (bytes : List ℕ) {number : ℕ} → read_block bytes ≡ refused number → simplified_read (read_block bytes) ≡ refused number
unfolding simplified_read
simplified-refused bytes e = rw e refl

IsAnswered : Result Answer ℕ → Type 0
IsAnswered (Err number) = ⊥
IsAnswered (Ok answer) = Unit {0}

module _ {bytes before after : List ℕ} {returned : Result Answer AnswerRefusal} (long : length before ≡ 32768) (given : SomeRead bytes) (answers : Answers bytes before after returned) where
  enough : length bytes ≤ length before
  enough = omega (arith, long, accepted-below-32768 bytes given.accepted)

  abbrev new : Block
  new = new_block given.given

  -- "The simplifier answers in the edition it was given".
  abbrev new-bytes : List ℕ
  new-bytes = write_block (head_edition bytes) new

  abbrev its-answer : book.Answer
  its-answer = book.answered (book.verdict_of (book.simplified given.given)) new-bytes (book.counts_of given.given new)

  is-answered : simplifier.by_number returned ≡ answer_of its-answer
  is-answered = answers.returns ∙ ap answer_of (answer-accepted (length before) bytes enough given.accepted)

  pub never-refused : {refusal : AnswerRefusal} → returned ≡ Err refusal → ⊥
  unfolding answer_of IsAnswered
  never-refused e = subst IsAnswered (sym is-answered ∙ ap simplifier.by_number e) tt

  module _ {answer : Answer} (e : returned ≡ Ok answer) where
    its-size : answer.length ≡ length new-bytes
    unfolding answer_of
    its-size = ap length_in (sym (ap simplifier.by_number e) ∙ is-answered)

    its-output : after ≡ new-bytes ++ drop (length new-bytes) before
    unfolding written
    its-output = answers.output ∙ ap (λ (a : book.Answer). written a before) (answer-accepted (length before) bytes enough given.accepted)

    -- The answer is the output's first part,
    pub answer-inside : answer.length ≤ length after
    answer-inside = rw (its-size, its-output, length-append new-bytes (drop (length new-bytes) before)) (omega arith)

    answer-part : take answer.length after ≡ new-bytes
    answer-part = rw (its-size, its-output) (take-append_seam new-bytes (drop (length new-bytes) before))

    -- and its script is told.
    pub tells-answer : (room : ℕ) {first last : List ℕ} {r : Result ℕ Refusal} → Tells (script_read room (read_block (take answer.length after))) first last r
        → Tells (script_read room (simplified_read (read_block bytes))) first last r
    unfolding script_read simplified_read
    tells-answer room t =
        let (stream, back) = reads-back (head_edition bytes) new (new-within given.given (accepted-within bytes given.accepted)) in
        rw given.accepted (rw (answer-part, back) at t)

-- ---- one number for C

unfoldable pub size_in : Result ℕ ℕ → ℕ
size_in (Err number) = 0
size_in (Ok size) = size

unfoldable pub number_in : Result ℕ ℕ → ℕ
number_in (Err number) = number
number_in (Ok size) = 65536 + size

within-small : (room : ℕ) (block : Block) → BlockWithin block → size_in (script_in (script_within room block)) ≤ 2024782
unfolding size_in script_in script_within unless_longer
within-small room block h = by (leb (length (script_of block)) room)
  where
    by : (b : Bool) → size_in (script_in (unless_longer b (script_of block))) ≤ 2024782
    by true = script-length block h
    by false = omega arith

-- No script is longer than 2,024,782 bytes,
pub outcome-small : (room : ℕ) (bytes : List ℕ) → size_in (script_in (script_answer room bytes)) ≤ 2024782
unfolding script_answer script_read simplified_read size_in script_in
outcome-small room bytes = by (read_block bytes) refl
  where
    by : (reading : Reading Block) → read_block bytes ≡ reading → size_in (script_in (script_read room (simplified_read reading))) ≤ 2024782
    by (refused number) e = omega arith
    by (read given stream) e = within-small room (new_block given) (new-within given (accepted-within bytes e))

-- and the number is the book's.
pub number-told : (told : Scripted) → number_in (script_in told) ≡ script_number told
unfolding number_in script_in script_number
number-told (refused_by number) = refl
number-told (scripted bytes) = refl

pub record Exports (told : Scripted) (before after : List ℕ) (r : ℕ) : Type 0 where
  pub returns : r ≡ script_number told
  pub text : after ≡ script_written told before
