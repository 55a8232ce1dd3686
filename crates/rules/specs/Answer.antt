-- 01, "Refusal numbers", "A level" (last paragraph) and "The program": the answer to a byte string, from its bytes to the verdict, the new block's
-- bytes and the four counts; and what the lent output holds then.
use Rattle.std.specs.Prelude.{Bool, true, false, ◌||◌, List, [], ◌∷◌, ◌++◌, ℕ, suc, leb, ℤ, length, get_or, drop}
use Rattle.std.proofs.Math.Option.{Option, none, some}
use Rattle.rules.specs.Polynomial.{Polynomial, Atom, normal, constant, same}
use Rattle.rules.specs.Formula.{Parts, end, atom, and, or, Node, leaf, all_of, any_of, is_end, each_atom_of, atoms, alone}
use Rattle.rules.specs.Level.{Placed, plain, placed_tree, places, simplify}
use Rattle.rules.specs.Count.{most_rounds}
use Rattle.rules.specs.Block.{NumberedAtom, Block, Edition, Reading, refused, read, head_edition, read_block, write_block}

-- The formula that a block holds: each atom with its polynomial instead of the number.
unfoldable pub looked_up : List Polynomial → NumberedAtom → Atom
looked_up table a = record { polynomial = get_or table a.number []; set = a.set }

unfoldable pub formula_of : Block → Node Atom
formula_of block = each_atom_of (looked_up block.table) block.tree

-- "The new block keeps n and lists the used normal forms by first use in the tree."
unfoldable pub knows : List Polynomial → Polynomial → Bool
knows [] p = false
knows (q ∷ qs) p = same p q || knows qs p

unfoldable pub added_unless : Bool → Polynomial → List Polynomial → List Polynomial
added_unless true p table = table
added_unless false p table = table ++ (p ∷ [])

unfoldable pub used : List Polynomial → Parts Atom → List Polynomial
used table end = table
used table (atom a rest) = used (added_unless (knows table a.polynomial) a.polynomial table) rest
used table (and kids rest) = used (used table kids) rest
used table (or kids rest) = used (used table kids) rest

unfoldable pub here_or : Bool → ℕ → ℕ
here_or true later = 0
here_or false later = later

unfoldable pub number_in : List Polynomial → Polynomial → ℕ
number_in [] p = 0
number_in (q ∷ qs) p = here_or (same p q) (suc (number_in qs p))

unfoldable pub numbered : List Polynomial → Atom → NumberedAtom
numbered table a = record { number = number_in table a.polynomial; set = a.set }

unfoldable pub block_of : ℕ → Node Atom → Block
block_of n tree = let table = used [] (alone tree) in record { variables = n; table = table; tree = each_atom_of (numbered table) tree }

-- "a verdict (formula, always, unsatisfiable)": "ALWAYS is written as an AND with no children, UNSATISFIABLE as an OR with none".
pub data Verdict : Type 0 where
  formula always unsatisfiable : Verdict

unfoldable pub if_end : Bool → Verdict → Verdict
if_end true verdict = verdict
if_end false verdict = formula

unfoldable pub verdict_of : {A : Type 0} → Node A → Verdict
verdict_of (leaf a) = formula
verdict_of (all_of kids) = if_end (is_end kids) always
verdict_of (any_of kids) = if_end (is_end kids) unsatisfiable

-- 02, #103: "the number of different non-constant normal forms that the input's tree uses". A constant is none,
unfoldable pub unless_constant : Option ℤ → Polynomial → List Polynomial → List Polynomial
unless_constant none p forms = p ∷ forms
unless_constant (some c) p forms = forms

unfoldable pub without_constants : List Polynomial → List Polynomial
without_constants [] = []
without_constants (p ∷ forms) = unless_constant (constant p) p (without_constants forms)

-- and each normal form of a polynomial that some atom names, whatever the atom's set, is one.
unfoldable pub forms_used : Node Atom → List Polynomial
forms_used tree = without_constants (used [] (alone (each_atom_of normal tree)))

-- "atoms in, atoms out, polynomials in, polynomials out": polynomials in are the forms that the given tree uses, polynomials out the new table's,
-- which are those that the new tree uses (the law `new-table-used` in crate laws).
pub record Counts : Type 0 where
  pub atoms-in : ℕ
  pub atoms-out : ℕ
  pub polynomials-in : ℕ
  pub polynomials-out : ℕ

unfoldable pub counts_of : Block → Block → Counts
counts_of given new = record {
  atoms-in = atoms (alone given.tree);
  atoms-out = atoms (alone new.tree);
  polynomials-in = length (forms_used (formula_of given));
  polynomials-out = length new.table;
}

-- "A refusal returns its number and length 0": it has no bytes. "An answer returns a verdict (formula, always, unsatisfiable) and a length": that of the
-- new block's bytes.
pub data Answer : Type 0 where
  refusal : ℕ → Answer
  answered : Verdict → List ℕ → Counts → Answer

-- The lent output afterwards: on refusal "the output keeps each byte", else its "first bytes are the new block and the rest keep their values".
unfoldable pub written : Answer → List ℕ → List ℕ
written (refusal number) output = output
written (answered verdict bytes counts) output = bytes ++ drop (length bytes) output

-- "A second entry gives back the filled part of the lent output itself, empty exactly on refusal."
unfoldable pub filled_part : Answer → List ℕ
filled_part (refusal number) = []
filled_part (answered verdict bytes counts) = bytes

-- "exactly on refusal"
unfoldable pub is_refusal : Answer → Bool
is_refusal (refusal number) = true
is_refusal (answered verdict bytes counts) = false

-- The simplified formula of a block, its atoms with their places; the block it is written as; and the places of its atoms in reading order.
unfoldable pub simplified : Block → Node Placed
simplified given = simplify given.variables (placed_tree (formula_of given))

unfoldable pub new_block : Block → Block
new_block given = block_of given.variables (each_atom_of plain (simplified given))

unfoldable pub new_places : Block → List ℕ
new_places given = places (alone (simplified given))

-- 02, #109: "The simplifier answers in the edition it was given".
unfoldable pub answer_to : Edition → Reading Block → Answer
answer_to edition (refused number) = refusal number
answer_to edition (read given stream) = answered (verdict_of (simplified given)) (write_block edition (new_block given)) (counts_of given (new_block given))

-- Request #108: "the largest number of rounds that one run of the rounds took"; a refusal has no run.
unfoldable pub rounds_of : Reading Block → ℕ
rounds_of (refused number) = 0
rounds_of (read given stream) = most_rounds given.variables (placed_tree (formula_of given))

-- 1: "lent output shorter than lent input"; it is tried before all others.
unfoldable pub unless_short : Bool → Answer → Answer
unless_short true answer = answer
unless_short false answer = refusal 1

unfoldable pub answer : ℕ → List ℕ → Answer
answer room bytes = unless_short (leb (length bytes) room) (answer_to (head_edition bytes) (read_block bytes))

-- ---- 02, #105: "The places go to a lent slice of 255 bytes". "Refusals: 18 if that slice is shorter than 255, tried directly after 1."
unfoldable pub unless_few : Bool → Answer → Answer
unless_few true answer = answer
unless_few false answer = refusal 18

unfoldable pub placed_answer : ℕ → ℕ → List ℕ → Answer
placed_answer room few bytes = unless_short (leb (length bytes) room) (unless_few (leb 255 few) (answer_to (head_edition bytes) (read_block bytes)))

-- "one for each atom of the answer in order, the others unchanged; on refusal all are"
unfoldable pub read_places : Reading Block → List ℕ
read_places (refused number) = []
read_places (read given stream) = new_places given

unfoldable pub places_written : Answer → Reading Block → List ℕ → List ℕ
places_written (refusal number) reading slice = slice
places_written (answered verdict bytes counts) reading slice = read_places reading ++ drop (length (read_places reading)) slice

-- To unfold this is to unfold every definition of this file.
unfoldable pub open_answer : Unit {0}
unfolding looked_up formula_of knows added_unless used here_or number_in numbered block_of if_end verdict_of unless_constant without_constants forms_used counts_of written filled_part is_refusal simplified new_block new_places answer_to rounds_of unless_short answer unless_few placed_answer read_places places_written
open_answer = tt
