-- The simplifier's new block is accepted and lists what it uses, by first use: it is plain if its formula has no set empty or full and no AND or OR of
-- fewer than two children.
use Rattle.std.specs.Prelude.{◌≡◌}
use Rattle.std.proofs.Common.{ap, sym, subst}
use Rattle.rules.specs.Formula.{each_atom_of}
use Rattle.rules.specs.Level.{plain}
use Rattle.rules.specs.Block.{Block}
use Rattle.rules.specs.Limits.{BlockWithin}
use Rattle.rules.specs.Answer.{formula_of, block_of, simplified, new_block}
use Rattle.level_laws.specs.Written.{looked-up, new-formula}
use Rattle.length_laws.specs.NewWithin.{new-within}
use Rattle.rules.specs.Text.{PlainTree, Plain}

new-listed : (given : Block) → block_of (new_block given).variables (formula_of (new_block given)) ≡ new_block given
unfolding new_block block_of
new-listed given = ap (block_of given.variables) (looked-up given.variables (each_atom_of plain (simplified given)))

pub new-plain-if : (given : Block) → BlockWithin given → PlainTree (each_atom_of plain (simplified given)) → Plain (new_block given)
new-plain-if given within short = record {
  accepted = new-within given within;
  listed = new-listed given;
  plain = subst PlainTree (sym (new-formula given)) short;
}
