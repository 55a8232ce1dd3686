-- `without_implied` meets its contract: the engine marks the atoms that remain, and their tokens are moved to the front.
use borrow.Author.Rules.{rules}
use Rattle.steps.proofs.Cutting.{remains}
use Rattle.steps.proofs.carrying.without_implied.Statement.{statement}
use Rattle.steps.proofs.carrying.without_implied.Tie as tie

remove-implied-requires : tie.Need-remove_implied-removed-requires
remove-implied-requires c κs =
    let (forms, (long, (few, left))) = c.requires in
    (forms, rw (c.atoms_in-atoms.ensures.1 _ left.list left.lists) left.carries)

returns : tie.Need-returns
returns c l h =
    let atoms = c.atoms_in-atoms in
    let removed = c.remove_implied-removed in
    remains atoms.result (atoms.ensures.1 _ l h) removed.ensures.0 removed.ensures.1 _ (c.kept_of-count.ensures l h)

pub without_implied_spec : {M : Type 1} → statement M
without_implied_spec =
    tie.close (tie.spec (λ c κs. search rules) remove-implied-requires (λ c κs. search rules) (λ c. search rules) returns)
