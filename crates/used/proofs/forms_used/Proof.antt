-- `used::forms_used` meets its contract: the forms that are counted are those in the slots that the tape names.
use mathlib.Core.Path.{refl, ap, ◌∙◌}
use borrow.Author.Rules.{rules}
use lib.ListN.{length}
use Rattle.rules.specs.Answer.{without_constants}
use Rattle.used.proofs.Slots.{tape-fits}
use Rattle.used.proofs.Collected.{order-fits}
use Rattle.used.proofs.Counted.{counts-used}
use Rattle.used.proofs.forms_used.Statement.{statement}
use Rattle.used.proofs.forms_used.Tie as tie

order-slots-requires : tie.Need-order_slots-used-requires
order-slots-requires c κs = (tape-fits c.before.before.before.before.before.requires.2.holds, refl, refl)

count-forms-requires : tie.Need-count_forms-requires
count-forms-requires c κs =
    let ordering = c.before.before.before in
    let start = ordering.before.before.before.before.before.before in
    (start.requires.0, start.requires.1, order-fits start.requires.2.holds refl ordering.order_slots-used.ensures)

returns : tie.Need-returns
returns c n cs tree forms h =
    let ordering = c.before.before.before.before in
    c.count_forms.ensures n cs ∙ ap (λ l. length (without_constants l)) (counts-used forms h ordering.order_slots-used.ensures)

pub forms_used_spec : {M : Type 1} → statement M
forms_used_spec =
    tie.close
    (tie.spec (λ c. search rules) (λ c. search rules) order-slots-requires (λ c. search rules) count-forms-requires returns)
