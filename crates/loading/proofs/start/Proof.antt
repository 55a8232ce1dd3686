-- `start` meets its contract: what is read is the front that the head says, or all.
use borrow.Author.Rules.{rules}
use native.Mathlib.Omega.{arith}
use mathlib.Core.Path.{sym, ap, ◌∙◌}
use lib.Seq.{length-take-le}
use Rattle.loading.specs.Started.{found, start-found}
use Rattle.loading.proofs.start.Statement.{statement}
use Rattle.loading.proofs.start.Tie as tie

slice-aggregate-accepted : tie.Need-slice_bounds-accepted-end
slice-aggregate-accepted c =
    let size = c.lent_length-size in
    let a = c.args in
    sym (length-take-le size.result a.area.now size.ensures.within)

returns : tie.Need-returns
returns c =
    let size = c.lent_length-size in
    let a = c.args in
    c.accepted.ensures ∙ ap found (start-found a.area.now size.result size.ensures)

pub start_spec : {M : Type 1} → statement M
start_spec = tie.close (tie.spec (λ c κs. search rules) slice-aggregate-accepted (λ c κs. search rules) returns)
