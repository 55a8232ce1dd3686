-- `excludes` meets its contract: what the run over the row's atoms comes to.
use borrow.Author.Rules.{rules}
use mathlib.Core.Path.{◌∙◌, ap}
use native.Mathlib.Omega.{arith}
use Rattle.rules.specs.Rounds.{run}
use Rattle.table.specs.Table.{Table}
use Rattle.round.specs.Views.{lent_table}
use Rattle.tape.specs.Listing.{row-long}
use Rattle.leaving.proofs.Less.{excluded}
use Rattle.leaving.proofs.excludes.Statement.{statement}
use Rattle.leaving.proofs.excludes.Tie as tie

abbrev table : tie.Start → Table
table s = lent_table s.args.coefficient s.args.monomial s.args.terms s.args.variables

atoms-in-requires : tie.Need-atoms_in-atoms-requires
atoms-in-requires c κs = let h = c.before.before.before.before.requires.1 in (row-long h.lists, omega (arith, h.lists.size, h.few))

returns : tie.Need-returns
returns c l h =
    let s = c.before.before.before.before.before.before in
    excluded (table s) _ c.run-ran.result (c.run-ran.ensures.outcome ∙ ap (run s.args.variables) (c.before.atoms_in-atoms.ensures.1 (table s) l h))

pub excludes_spec : {M : Type 1} → statement M
excludes_spec = tie.close (tie.spec (λ c. search rules) atoms-in-requires (λ c κs. c.before.before.before.before.before.requires.0) returns)
