-- What the entry returns for the book's answer, and the book's answer by cases. 01, "Refusal numbers": "A refusal returns its number and length 0",
-- "An answer returns a verdict (formula, always, unsatisfiable) and a length".
use Rattle.std.specs.Prelude.{◌≡◌, refl, Bool, true, false, Result, Ok, Err, List, [], ◌++◌, ℕ, zero, suc, ◌+◌, ◌≤◌, ◌<◌, eqb, length, drop}
use Rattle.std.proofs.Common.{sym, ap, ◌∙◌, arith, le-leb, ne_eqb}
use Rattle.std.proofs.lemmas.Bool.{lt-leb}
use Rattle.rules.specs.Polynomial.{Atom}
use Rattle.rules.specs.Formula.{Parts, end, atom, and, or, Node, leaf, all_of, any_of, each_atom, each_atom_of, is_end, alone, atoms, nodes, open_formula}
use Rattle.rules.specs.Level.{plain}
use Rattle.rules.specs.Block.{NumberedAtom, Block, Stream, refused, read, head_edition, read_block, write_block, block_length}
use Rattle.rules.specs.Answer as book
use Rattle.rules.specs.Answer.{used, numbered, block_of, written, simplified, new_block, answer_to, unless_short}
use Rattle.block_laws.specs.Sizes.{length-block}
use Rattle.ending_laws.specs.Nestings.{alone-each}
use Rattle.ending_laws.specs.Shapes.{atoms-each, is-end-each}
use Rattle.block.specs.Held.{kind_of, held_of}
use Rattle.answer.specs.declared.Verdict.{Verdict}
use Rattle.answer.specs.declared.Verdict.TheVariants.{Formula, Always, Unsatisfiable}
use Rattle.answer.specs.declared.Counts.{Counts}
use Rattle.answer.specs.declared.Answer.{Answer}

-- ---- the book's answer as it is returned

unfoldable pub verdict_of : book.Verdict → Verdict
verdict_of book.formula = Formula
verdict_of book.always = Always
verdict_of book.unsatisfiable = Unsatisfiable

unfoldable pub counts_of : book.Counts → Counts
counts_of counts = record {
  atoms_in = counts.atoms-in;
  atoms_out = counts.atoms-out;
  polynomials_in = counts.polynomials-in;
  polynomials_out = counts.polynomials-out;
}

unfoldable pub answer_of : book.Answer → Result Answer ℕ
answer_of (book.refusal number) = Err number
answer_of (book.answered verdict bytes counts) = Ok (record { verdict = verdict_of verdict; length = length bytes; counts = counts_of counts })

-- "A refusal returns its number and length 0."
abbrev pub length_in : Result Answer ℕ → ℕ
length_in (Err number) = 0
length_in (Ok answer) = answer.length

-- ---- the answer by cases

-- Too little room is refused with 1.
pub answer-short : (room : ℕ) (bytes : List ℕ) → room < length bytes → book.answer room bytes ≡ book.refusal 1
unfolding book.answer unless_short
answer-short room bytes h = rw (lt-leb (length bytes) room h)

module _ (room : ℕ) (bytes : List ℕ) (enough : length bytes ≤ room) where
  -- With room enough, what the reader refuses is refused with its number,
  pub answer-refused : {number : ℕ} → read_block bytes ≡ refused number → book.answer room bytes ≡ book.refusal number
  unfolding book.answer unless_short answer_to
  answer-refused e = rw (le-leb (length bytes) room enough, e)

  -- and what it accepts is answered with the new block.
  pub answer-accepted : {given : Block} {stream : Stream} → read_block bytes ≡ read given stream
      → book.answer room bytes ≡ book.answered (book.verdict_of (simplified given)) (write_block (head_edition bytes) (new_block given))
      (book.counts_of given (new_block given))
  unfolding book.answer unless_short answer_to
  answer-accepted e = rw (le-leb (length bytes) room enough, e)

-- What is left in the output for an accepted block.
pub answer-written : (room : ℕ) (bytes : List ℕ) → length bytes ≤ room → {given : Block} {stream : Stream} → read_block bytes ≡ read given stream
    → (output : List ℕ) → written (book.answer room bytes) output
    ≡ write_block (head_edition bytes) (new_block given) ++ drop (block_length (head_edition bytes) (new_block given)) output
unfolding written
answer-written room bytes enough {given} accepted output = rw (answer-accepted room bytes enough accepted, length-block (head_edition bytes) (new_block given))

-- ---- the verdict, from the new block's arrays

-- "ALWAYS is written as an AND with no children, UNSATISFIABLE as an OR with none": a root that is the only node, of kind 1 or 2.
unfoldable pub of_only_node : Bool → ℕ → Verdict
of_only_node false root = Formula
of_only_node true zero = Formula
of_only_node true (suc zero) = Always
of_only_node true (suc (suc zero)) = Unsatisfiable
of_only_node true (suc (suc (suc kind))) = Formula

unfoldable pub verdict_from : ℕ → ℕ → Verdict
verdict_from root tokens = of_only_node (eqb tokens 1) root

-- The root is the only node exactly if it has no parts.
only-node : {A : Type 0} (kids : Parts A) → eqb (1 + nodes kids + 0) 1 ≡ is_end kids
unfolding nodes is_end
only-node end = refl
only-node (atom a rest) = ne_eqb (1 + (1 + nodes rest) + 0) 1 (λ e. omega arith)
only-node (and kids rest) = ne_eqb (1 + (1 + nodes kids + nodes rest) + 0) 1 (λ e. omega arith)
only-node (or kids rest) = ne_eqb (1 + (1 + nodes kids + nodes rest) + 0) 1 (λ e. omega arith)

always-if : (b : Bool) → verdict_of (book.if_end b book.always) ≡ of_only_node b 1
unfolding verdict_of book.if_end of_only_node
always-if true = refl
always-if false = refl

unsatisfiable-if : (b : Bool) → verdict_of (book.if_end b book.unsatisfiable) ≡ of_only_node b 2
unfolding verdict_of book.if_end of_only_node
unsatisfiable-if true = refl
unsatisfiable-if false = refl

tree-verdict : (f : Atom → NumberedAtom) (tree : Node Atom) → verdict_of (book.verdict_of tree) ≡ verdict_from (kind_of (each_atom_of f tree)) (nodes (alone (each_atom_of f tree)))
unfolding open_formula verdict_of book.verdict_of verdict_from kind_of of_only_node
tree-verdict f (leaf a) = refl
tree-verdict f (all_of kids) = rw (only-node (each_atom f kids), is-end-each f kids) (always-if (is_end kids))
tree-verdict f (any_of kids) = rw (only-node (each_atom f kids), is-end-each f kids) (unsatisfiable-if (is_end kids))

-- The verdict does not ask for the atoms.
verdict-same : {A B : Type 0} (f : A → B) (tree : Node A) → book.verdict_of (each_atom_of f tree) ≡ book.verdict_of tree
unfolding book.verdict_of each_atom_of
verdict-same f (leaf a) = refl
verdict-same f (all_of kids) = ap (λ (b : Bool). book.if_end b book.always) (is-end-each f kids)
verdict-same f (any_of kids) = ap (λ (b : Bool). book.if_end b book.unsatisfiable) (is-end-each f kids)

-- The verdict is told by the kind of the new block's root and the number of its tokens.
pub new-verdict : (given : Block) → verdict_of (book.verdict_of (simplified given)) ≡ verdict_from (held_of (new_block given)).root (held_of (new_block given)).tokens
unfolding held_of new_block block_of
new-verdict given =
    let short = each_atom_of plain (simplified given) in
    ap verdict_of (sym (verdict-same plain (simplified given))) ∙ tree-verdict (numbered (used [] (alone short))) short

-- ---- the counts

-- Another kind of atom leaves as many atoms.
pub atoms-same : {A B : Type 0} (f : A → B) (tree : Node A) → atoms (alone (each_atom_of f tree)) ≡ atoms (alone tree)
atoms-same f tree = ap atoms (sym (alone-each f tree)) ∙ atoms-each f (alone tree)
