-- Law new-plain: the simplifier's new block is plain, so it has a script that reads back as it.
use Rattle.std.specs.Prelude.{◌≡◌, ◌≤◌}
use Rattle.std.proofs.Common.{ap, sym, ◌∙◌, arith}
use Rattle.rules.specs.Formula.{Parts, end, atom, and, or, Node, leaf, all_of, any_of, each_atom, each_atom_of, alone, children, open_formula}
use Rattle.rules.specs.Level.{Placed, plain, Formula}
use Rattle.rules.specs.Block.{Block}
use Rattle.rules.specs.Limits.{BlockWithin}
use Rattle.rules.specs.Answer.{simplified, new_block}
use Rattle.ending_laws.specs.Shapes.{children-each}
use Rattle.length_laws.specs.Alternation.{Join, TreeAlternates}
use Rattle.length_laws.specs.NeverLonger.{formula-given}
use Rattle.length_laws.specs.Blocks.{tree_placed}
use Rattle.rules.specs.Text.{script_of, PlainParts, PlainTree, plain_true, plain_false, plain_tree, Plain}
use Rattle.rules.specs.Reader.{held}
use Rattle.rules.specs.Reading.{read_text}
use Rattle.script_laws.specs.NewBlock.{new-plain-if}
use Rattle.script_laws.specs.Laws.{text-reads-back}
use Rattle.new_plain.specs.Solid.{Low, Solid, solid_end, solid_atom, solid_and, solid_or, SolidTree, solid_true, solid_false, solid_leaf, solid_all, solid_any, simplify-solid}

solid-parts : {join : Join} {f : Formula} → Solid join f → PlainParts (each_atom plain f)
unfolding PlainParts each_atom
solid-parts solid_end = tt
solid-parts (solid_atom h hs) = (h.proper.some, h.proper.not_all, solid-parts hs)
solid-parts (solid_and {kids = kids} m ks hs) = (omega (arith, m, children-each plain kids), solid-parts ks, solid-parts hs)
solid-parts (solid_or {kids = kids} m ks hs) = (omega (arith, m, children-each plain kids), solid-parts ks, solid-parts hs)

solid-plain : {tree : Node Placed} → SolidTree tree → PlainTree (each_atom_of plain tree)
unfolding PlainParts open_formula
solid-plain solid_true = plain_true
solid-plain solid_false = plain_false
solid-plain (solid_leaf {a = a} h) = plain_tree {tree = leaf (plain a)} (h.proper.some, h.proper.not_all, tt)
solid-plain (solid_all {kids = kids} m ks) = plain_tree {tree = all_of (each_atom plain kids)} (omega (arith, m, children-each plain kids), solid-parts ks, tt)
solid-plain (solid_any {kids = kids} m ks) = plain_tree {tree = any_of (each_atom plain kids)} (omega (arith, m, children-each plain kids), solid-parts ks, tt)

pub new-plain : (given : Block) → BlockWithin given → Plain (new_block given)
unfolding simplified
new-plain given within =
    new-plain-if given within (solid-plain (simplify-solid given.variables (tree_placed (λ k a l e h. record { bits = h.small.bits }) (formula-given given within))))

-- The answer's script reads back as the answer.
pub answer-reads-back : (given : Block) → BlockWithin given → read_text (script_of (new_block given)) ≡ held (new_block given)
answer-reads-back given within = text-reads-back (new_block given) (new-plain given within)
