-- `working` meets its contract: the arrays that it lends are blank.
use mathlib.Core.Path.{refl}
use borrow.Author.Rules.{rules}
use Rattle.rules.specs.Signs.{bit}
use Rattle.forms.specs.Working.{blank}
use Rattle.forms.proofs.working.Statement.{statement}
use Rattle.forms.proofs.working.Tie as tie

work-requires : tie.Need-work-requires
unfolding blank bit
work-requires c κs = (c.before.before.before.before.before.before.before.requires, refl)

pub working_spec : {M : Type 1} → statement M
working_spec =
    tie.close
    (tie.spec (λ c. search rules) (λ c. search rules) (λ c. search rules) (λ c. search rules) (λ c. search rules) work-requires (λ c. c.before.before.before.before.before.work.ensures))
