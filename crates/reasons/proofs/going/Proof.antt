-- `going` meets its contract: what is left of the others is named.
use borrow.Author.Rules.{rules}
use mathlib.Core.Path.{ap₂, ◌∙◌}
use mathlib.Core.List.{List}
use Prim.Native.Nat.{ℕ}
use Rattle.table.specs.Table.{Table}
use Rattle.round.specs.Views.{lent_table}
use Rattle.tape.specs.Listing.{row-long}
use Rattle.reasons.specs.Records.{words_of, made}
use Rattle.reasons.proofs.Tokens.{named-for}
use Rattle.reasons.proofs.going.Statement.{statement}
use Rattle.reasons.proofs.going.Tie as tie

abbrev table : tie.Start → Table
table s = lent_table s.args.coefficient s.args.monomial s.args.terms s.args.variables

with-places-requires : tie.Need-with_places-requires
with-places-requires c κs =
    let a = c.before.before.before.before.requires.1 in
    row-long (c.before.leave_out-named.ensures a.tokens a.lists).lists

returns : tie.Need-returns
unfolding made
returns c l h =
    let s = c.before.before.before.before.before in
    c.with_places.ensures _ (c.before.before.leave_out-named.ensures l h).lists
    ∙ ap₂ (λ (set : ℕ) (named : List ℕ). record { kind = 4; set = set; place = 0; places = words_of named }) c.before.set_of.ensures
    (named-for (table s) s.args.state s.args.token l)

pub going_spec : {M : Type 1} → statement M
going_spec = tie.close (tie.spec (λ c κs. search rules) (λ c κs. search rules) with-places-requires returns)
