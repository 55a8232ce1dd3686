-- `put_none` meets its contract: an AND or an OR of none, by the kind.
use borrow.Author.Rules.{rules}
use Rattle.lines.specs.Written.{wrote_as}
use Rattle.script_text.specs.Runs.{fits-as}
use Rattle.script_text.proofs.Texts.{none-and, none_or}
use Rattle.script_text.proofs.put_none.Statement.{statement}
use Rattle.script_text.proofs.put_none.Tie as tie

pub put_none_spec : {M : Type 1} → statement M
put_none_spec =
    tie.close
    (tie.spec (λ c κs. fits-as (none-and _ c.if-kind-eq1.true) c.requires) (λ c. search rules)
    (λ c. wrote_as c.put_bytes.ensures (none-and _ c.if-kind-eq1.true))
    (λ c κs. fits-as (none_or _ c.if-kind-eq1.false) c.requires) (λ c. search rules)
    (λ c. wrote_as c.put_bytes-2.ensures (none_or _ c.if-kind-eq1.false)))
