-- `stays` meets its contract, by what the slot holds.
use borrow.Author.Rules.{rules}
use Rattle.round.specs.Views.{lent_table}
use Rattle.settled.proofs.TestFirst.{variable-goes, form-stays}
use Rattle.settled.proofs.staying.stays.Statement.{statement}
use Rattle.settled.proofs.staying.stays.Tie as tie

returns : tie.Need-returns-in-Variable
returns c = variable-goes (lent_table c.args.coefficient c.args.monomial c.args.terms c.args.variables) _ _ c.which-holds.ensures.0 c.in-Variable.is

returns-2 : tie.Need-returns-in-Form
returns-2 c =
    form-stays (lent_table c.args.coefficient c.args.monomial c.args.terms c.args.variables) _ _ c.which-holds.ensures.0 c.in-Form.is c.said_inside.ensures

pub stays_spec : {M : Type 1} → statement M
stays_spec = tie.close (tie.spec (λ c κs. search rules) (λ c. search rules) (λ c. search rules) (λ c κs. search rules) returns returns-2)
