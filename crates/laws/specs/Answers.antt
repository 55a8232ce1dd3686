-- The theorems about the whole answer, from bytes to bytes: the same lifts, and never longer.
-- `rules/specs/Demands.antt` has the two definitions.
use Rattle.std.specs.Prelude.{◌≡◌, refl, Bool, true, false, List, ℕ, ◌≤◌, leb, length}
use Rattle.std.proofs.Common.{sym, ◌∙◌, subst, arith}
use Rattle.std.proofs.Math.Path.{ap}
use Rattle.std.proofs.Math.Option.{some}
use borrow.Author.Tests.{le-leb}
use Rattle.rules.specs.Polynomial.{Atom}
use Rattle.rules.specs.Formula.{Node, each_atom_of, atoms}
use Rattle.rules.specs.Level.{plain, placed_tree}
use Rattle.rules.specs.Block.{Block, Edition, Stream, Reading, refused, read, head_edition, read_block, block_length, write_block}
use Rattle.rules.specs.Answer.{Answer, refusal, answered, formula_of, verdict_of, simplified, new_block, counts_of, answer_to, unless_short, answer}
use Rattle.rules.specs.Meaning.{holds_at, Choice, whole_numbers, holds_over}
use Rattle.rules.specs.Demands.{read_holds, SameLifts, SameWholeLifts, NeverLonger, PlacesTell}
use Rattle.block_laws.specs.Blocks.{written-edition, reads-back, block-accepted, accepted-within}
use Rattle.block_laws.specs.Sizes.{length-block}
use Rattle.level_laws.specs.Rules.{verdict-always, verdict-unsatisfiable}
use Rattle.level_laws.specs.Written.{placed_tree-plain, new_block-keeps}
use Rattle.length_laws.specs.NeverLonger.{never-longer}
use Rattle.length_laws.specs.NewTable as table
use Rattle.length_laws.specs.NewTable.{TableUsed}
use Rattle.length_laws.specs.NewWithin.{new-within}
use Rattle.length_laws.specs.Places.{places-name}
use Rattle.laws.specs.Fractions.{respected-over, whole-holds}

-- ---- An accepted block.

module _ (bytes : List ℕ) {given : Block} {stream : Stream} (accepted : read_block bytes ≡ read given stream) where
  -- The answer's bytes are accepted, as the block that the answer is.
  pub answer-reads-back : (left : Stream) × (read_block (write_block (head_edition bytes) (new_block given)) ≡ read (new_block given) left)
  answer-reads-back = reads-back (head_edition bytes) (new_block given) (new-within given (accepted-within bytes accepted))

  -- The answer is in the edition that was given.
  pub answer-keeps-edition : head_edition (write_block (head_edition bytes) (new_block given)) ≡ head_edition bytes
  answer-keeps-edition = written-edition (head_edition bytes) (new_block given) (new-within given (accepted-within bytes accepted))

  -- The block converted to an edition has the same verdict and counts, and its answer is the answer in that edition.
  pub converted-answer : (edition : Edition) (room : ℕ) → block_length edition given ≤ room
      → answer room (write_block edition given) ≡ answered (verdict_of (simplified given)) (write_block edition (new_block given))
      (counts_of given (new_block given))
  unfolding answer unless_short answer_to
  converted-answer edition room enough =
      let within = accepted-within bytes accepted in
      rw (length-block edition given, le-leb _ _ enough, written-edition edition given within, (reads-back edition given within).1)

  -- At every choice of fractions the answer, read back, holds exactly when the block does; ALWAYS and UNSATISFIABLE are right there.
  pub same-lifts-of : SameLifts (read given stream) (answer_to (head_edition bytes) (read given stream))
  unfolding SameLifts answer_to read_holds holds_over simplified
  same-lifts-of choice = (
    ap (read_holds (holds_over choice)) answer-reads-back.1 ∙ ap some (new_block-keeps given (respected-over choice)),
    λ e. same-tree ∙ verdict-always (respected-over choice) (placed_tree (formula_of given)) e,
    λ e. same-tree ∙ verdict-unsatisfiable (respected-over choice) (placed_tree (formula_of given)) e,
  )
    where
      same-tree : holds_over choice (formula_of given) ≡ holds_over choice (each_atom_of plain (placed_tree (formula_of given)))
      same-tree = ap (holds_over choice) (sym (placed_tree-plain (formula_of given)))

  -- No more atoms, polynomials or bytes.
  pub never-longer-of : NeverLonger bytes (answer_to (head_edition bytes) (read given stream))
  unfolding NeverLonger answer_to counts_of
  never-longer-of =
      let shorter = never-longer (head_edition bytes) given (accepted-within bytes accepted) in (
        shorter.atoms,
        shorter.polynomials,
        omega (arith, length-block (head_edition bytes) (new_block given), shorter.bytes, (block-accepted bytes accepted).long),
      )

  -- The answer's table is all used, each form once, no constant: polynomials out are the forms that the new tree uses, as polynomials in are those
  -- that the given tree uses.
  pub new-table-used : TableUsed (new_block given)
  new-table-used = table.new-table-used given (accepted-within bytes accepted)

-- ---- The answer to any byte string, however much output is lent: a refusal, or that to an accepted block.

by-reading : (P : Answer → Type 0) (edition : Edition) (reading : Reading Block) → ((number : ℕ) → P (refusal number))
    → ((given : Block) (stream : Stream) → reading ≡ read given stream → P (answer_to edition (read given stream))) → P (answer_to edition reading)
unfolding answer_to
by-reading P edition (refused number) on-refusal on-accepted = on-refusal number
by-reading P edition (read given stream) on-refusal on-accepted = on-accepted given stream refl

by-room : (P : Answer → Type 0) (enough : Bool) (a : Answer) → P (refusal 1) → P a → P (unless_short enough a)
unfolding unless_short
by-room P true a on-short on-enough = on-enough
by-room P false a on-short on-enough = on-short

by_answer : (P : Answer → Type 0) (room : ℕ) (bytes : List ℕ) → ((number : ℕ) → P (refusal number))
    → ((given : Block) (stream : Stream) → read_block bytes ≡ read given stream → P (answer_to (head_edition bytes) (read given stream)))
    → P (answer room bytes)
unfolding answer
by_answer P room bytes on-refusal on-accepted =
    by-room P (leb (length bytes) room) (answer_to (head_edition bytes) (read_block bytes)) (on-refusal 1)
    (by-reading P (head_edition bytes) (read_block bytes) on-refusal on-accepted)

-- Demand 3: for each choice of fractions with a common denominator the answer holds exactly when the original holds; UNSATISFIABLE only if nothing
-- satisfies the original, ALWAYS only if all does.
pub same-lifts : (room : ℕ) (bytes : List ℕ) → SameLifts (read_block bytes) (answer room bytes)
unfolding SameLifts
same-lifts room bytes = by_answer (SameLifts (read_block bytes)) room bytes (refused-same (read_block bytes))
    (λ given stream e. subst (λ (reading : Reading Block). SameLifts reading (answer_to (head_edition bytes) (read given stream))) (sym e)
    (same-lifts-of bytes e))
  where
    refused-same : (reading : Reading Block) (number : ℕ) → SameLifts reading (refusal number)
    refused-same reading number = tt

-- Whole numbers are a case of this: what is promised at every choice of fractions is promised at every choice of whole numbers.
pub at-whole-numbers : (given : Reading Block) (a : Answer) → SameLifts given a → SameWholeLifts given a
unfolding SameLifts SameWholeLifts read_holds
at-whole-numbers given (refusal number) same = tt
at-whole-numbers (refused number) (answered verdict bytes counts) same = same
at-whole-numbers (read given stream) (answered verdict bytes counts) same = λ readings many.
    let whole : (tree : Node Atom) → holds_over (whole_numbers readings many) tree ≡ holds_at readings tree = whole-holds readings many in
    let at_one = same (whole_numbers readings many) in (
      sym (read_alike (read_block bytes) whole) ∙ at_one.0 ∙ ap some (whole (formula_of given)),
      λ e. sym (whole (formula_of given)) ∙ at_one.1 e,
      λ e. sym (whole (formula_of given)) ∙ at_one.2 e,
    )
  where
    read_alike : {truth other : Node Atom → Bool} (reading : Reading Block) → ((tree : Node Atom) → truth tree ≡ other tree)
        → read_holds truth reading ≡ read_holds other reading
    read_alike (refused number) same = refl
    read_alike (read block stream) same = ap some (same (formula_of block))

pub same-whole-lifts : (room : ℕ) (bytes : List ℕ) → SameWholeLifts (read_block bytes) (answer room bytes)
same-whole-lifts room bytes = at-whole-numbers (read_block bytes) (answer room bytes) (same-lifts room bytes)

-- Demand 3: the answer never has more atoms, more polynomials or more bytes than the block it came from.
pub never-longer-answer : (room : ℕ) (bytes : List ℕ) → NeverLonger bytes (answer room bytes)
unfolding NeverLonger
never-longer-answer room bytes = by_answer (NeverLonger bytes) room bytes (λ number. tt) (λ given stream e. never-longer-of bytes e)

-- 02, #105: as many places as atoms out; no repeats; each names an input atom whose polynomial has the normal form of the answer's atom.
pub places-tell : (bytes : List ℕ) → PlacesTell (read_block bytes)
unfolding PlacesTell
places-tell bytes = by-reading (read_block bytes) refl
  where
    by-reading : (reading : Reading Block) → read_block bytes ≡ reading → PlacesTell reading
    by-reading (refused number) e = tt
    by-reading (read given stream) e = places-name given (accepted-within bytes e)
