-- Law new-within: the new block of a block within the limits is within the limits, so it can be written, and read again.
-- Its polynomials are normal forms of the given table's, its tree is the simplified formula with the polynomials' numbers.
use Rattle.std.specs.Prelude.{◌≡◌, List, [], ℕ, length}
use Rattle.std.proofs.Common.{sym, subst, arith}
use mathlib.Core.List.Memᴰ.{head as here}
use mathlib.Core.List.Memᴰ.{tail as later}
use mathlib.Core.List.{Memᴰ as Member}
use Rattle.rules.specs.Polynomial.{Polynomial}
use Rattle.rules.specs.Formula.{each_atom_of, alone}
use Rattle.rules.specs.Level.{plain}
use Rattle.rules.specs.Block.{Block}
use Rattle.rules.specs.Limits.{PolynomialWithin, TableWithin, no_polynomials, polynomials, PartsWithin, BlockWithin}
use Rattle.rules.specs.Answer.{used, numbered, block_of, simplified, new_block}
use Rattle.sign_laws.specs.Lists.{Every, every_none, every, every-wider}
use Rattle.ending_laws.specs.Nestings.{alone-each}
use Rattle.normal_laws.specs.Shape.{normal_form-within}
use Rattle.length_laws.specs.Alternation.{Join, AND, OR, other, tree-alone}
use Rattle.length_laws.specs.Pigeonhole.{every-member}
use Rattle.length_laws.specs.Table.{used_all}
use Rattle.length_laws.specs.Blocks.{forms_of, kind_of, parts-numbered}
use Rattle.length_laws.specs.NeverLonger.{simplified-formed, used-of-table, used-never-more, new-forms, polynomials-never-more, new-nodes}

-- ---- The table.

form-within : {n : ℕ} {table : List Polynomial} {p : Polynomial} → TableWithin n table → Member p (forms_of table) → PolynomialWithin n p
form-within {n = n} {p = p} no_polynomials x3 = elim x3 [ ]
form-within {n} (polynomials {p = q} h hs) (here e) = subst (PolynomialWithin n) (sym e) (normal_form-within q h)
form-within (polynomials h hs) (later m) = form-within hs m

table-within : {n : ℕ} {given new : List Polynomial} → TableWithin n given → Every (λ (p : Polynomial). Member p (forms_of given)) new → TableWithin n new
table-within h every_none = no_polynomials
table-within h (every m ms) = polynomials (form-within h m) (table-within h ms)

-- ---- The tree.

not_root : (join : Join) → 0 ≡ kind_of join → ⊥
not_root AND e = omega arith
not_root OR e = omega arith

tree-within : (given : Block) → BlockWithin given → PartsWithin 6 (length (new_block given).table) 0 (alone (new_block given).tree)
unfolding new_block block_of
tree-within given h =
    let short = each_atom_of plain (simplified given) in
    let table = used [] (alone short) in
    subst (PartsWithin 6 (length table) 0) (alone-each (numbered table) short)
    (tree-alone (simplified-formed given h) (λ join k. parts-numbered table 0 (not_root (other join)) (used_all [] k)))

-- ---- The block.

-- The new block is within the limits.
pub new-within : (given : Block) → BlockWithin given → BlockWithin (new_block given)
unfolding new_block block_of
new-within given h = record {
  some_variables = h.some_variables;
  variables = h.variables;
  polynomials = omega (arith, polynomials-never-more given h, used-never-more given h, h.polynomials);
  nodes = omega (arith, new-nodes given, h.nodes);
  table = table-within h.table (every-wider (λ p m. every-member (used-of-table given h) m) (new-forms given h));
  tree = tree-within given h;
}
