-- `note` meets its contract: the bits of both words, and those of the set.
use borrow.Author.Rules.{rules}
use Rattle.columns.specs.Columns.{took}
use Rattle.columns.proofs.note.Statement.{statement}
use Rattle.columns.proofs.note.Tie as tie

returns : tie.Need-returns
returns c =
    let d4 = c.before.before in
    let d3 = d4.before.before.before.before.before in
    let d2 = d3.before.before.before.before.before in
    let d1 = d2.before.before.before.before in
    took d1.spread.ensures d2.spread-2.ensures d3.before.before.non_positive.ensures d3.put_if.ensures
    d4.before.before.non_negative.ensures d4.put_if-2.ensures

pub note_spec : {M : Type 1} → statement M
note_spec =
    tie.close
    (tie.spec (λ c κs. search rules) (λ c κs. search rules) (λ c κs. search rules) (λ c κs. search rules) (λ c κs. search rules)
    (λ c κs. search rules) (λ c. search rules) returns)
