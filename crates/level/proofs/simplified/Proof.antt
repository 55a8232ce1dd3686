use mathlib.Core.Path.{refl}
use borrow.Author.Rules.{rules}
use Rattle.level.proofs.Rooted.{whole_is}
use Rattle.level.proofs.simplified.Statement.{statement}
use Rattle.level.proofs.simplified.Tie as tie

tree-of-requires : tie.Need-tree_of-tree-requires
tree-of-requires c κs = let pre = c.before.before.before.before.before.requires in let i = c.before.root_level-finished.ensures pre.1.0 pre.1.1 in (i.small, (_, (_, i.shows)))

returns : tie.Need-returns
returns c tree h = let made = c.before.before.root_level-finished.ensures tree h in whole_is _ h refl (c.tree_of-tree.ensures _ _ made.shows) made.counts

pub simplified_spec : {M : Type 1} → statement M
simplified_spec = tie.close (tie.spec (λ c κs. search rules) tree-of-requires returns)
