use Rattle.std.proofs.Common.{◌∙◌, ap₂}
use Rattle.rules.specs.Rounds.{same_sets}
use Rattle.rounds.proofs.Ends.{numbers-take, same-each}
use Rattle.rounds.proofs.settle.same_sets.Goals as goal

pub returns : goal.returns
returns c =
    c.eq.ensures ∙ same-each _ _ ∙ ap₂ same_sets (numbers-take c.args.before.now c.args.n c.requires.0) (numbers-take c.args.after.now c.args.n c.requires.1)
