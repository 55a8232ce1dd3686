-- From the normalised tape to the new block: what is simplified over the slots of the working table is the block's simplified formula, and the new
-- block is within the limits and no longer than the bytes that were read.
use Rattle.std.specs.Prelude.{◌≡◌, Bool, ℕ, ◌≤◌, length}
use Rattle.std.proofs.Math.Path.{sym, ap}
use Rattle.std.proofs.Common.{◌∙◌, arith}
use mathlib.Core.List.{List, []}
use Rattle.rules.specs.Polynomial.{Atom, normal}
use Rattle.rules.specs.Formula.{Node, alone, each_atom_of}
use Rattle.rules.specs.Level.{placed_tree, simplify}
use Rattle.rules.specs.Count.{most_rounds}
use Rattle.rules.specs.Block.{Block, Stream, read, head_edition, read_block, block_length}
use Rattle.rules.specs.Limits.{BlockWithin}
use Rattle.rules.specs.Answer.{looked_up, formula_of, used, without_constants, forms_used, simplified, new_block}
use Rattle.block_laws.specs.Blocks.{block-accepted, accepted-within}
use Rattle.length_laws.specs.NeverLonger.{never-longer}
use Rattle.length_laws.specs.NewWithin.{new-within}
use Rattle.normal_first.specs.NormalFirst.{block-normal-first}
use Rattle.normal_first.specs.Counts.{block-counted-first}
use Rattle.block.specs.Held.{held_of}
use Rattle.forms.specs.declared.WorkingTable.{WorkingTable}
use Rattle.forms.specs.Working.{table_of, Worked}
use Rattle.used.specs.Tape.{in_slot}
use Rattle.answer.specs.Normal.{tree-after, normal_tree, normal-forms}

module _ {plain : Bool} (given : Block) (within : BlockWithin given) (w : WorkingTable)
    (worked : Worked plain (held_of given).coefficient (held_of given).monomial (held_of given).terms (length given.table) given.variables w) where
  -- The normalised tree over the working table's slots is simplified to the block's simplified formula.
  pub slots-simplified : simplify given.variables (placed_tree (each_atom_of (in_slot (table_of given.variables w)) (normal_tree given within w worked))) ≡ simplified given
  slots-simplified = ap (λ (tree : Node Atom). simplify given.variables (placed_tree tree)) (normal-forms given within w worked) ∙ block-normal-first given within

  -- And the forms that it uses are those that the block's tree uses.
  pub slots-used : without_constants (used [] (alone (each_atom_of (in_slot (table_of given.variables w)) (normal_tree given within w worked)))) ≡ forms_used (formula_of given)
  unfolding forms_used formula_of
  slots-used =
      ap (λ (tree : Node Atom). without_constants (used [] (alone tree)))
      (normal-forms given within w worked ∙ sym (tree-after normal (looked_up given.table) given.tree))

  -- And its runs take as many rounds as the block's.
  pub slots-counted : most_rounds given.variables (placed_tree (each_atom_of (in_slot (table_of given.variables w)) (normal_tree given within w worked)))
      ≡ most_rounds given.variables (placed_tree (formula_of given))
  slots-counted = ap (λ (tree : Node Atom). most_rounds given.variables (placed_tree tree)) (normal-forms given within w worked) ∙ block-counted-first given within

-- The new block of an accepted one can be written,
pub new-writable : (bytes : List ℕ) {given : Block} {stream : Stream} → read_block bytes ≡ read given stream → BlockWithin (new_block given)
new-writable bytes {given} accepted = new-within given (accepted-within bytes accepted)

-- and finds room wherever the bytes that were read do, in their edition.
pub new-room : (bytes : List ℕ) {given : Block} {stream : Stream} → read_block bytes ≡ read given stream
    → block_length (head_edition bytes) (new_block given) ≤ length bytes
new-room bytes {given} accepted =
    omega (arith, (never-longer (head_edition bytes) given (accepted-within bytes accepted)).bytes, (block-accepted bytes accepted).long)
