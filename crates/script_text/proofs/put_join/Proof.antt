-- `put_join` meets its contract: what an AND or an OR begins with, by the kind.
use borrow.Author.Rules.{rules}
use Rattle.lines.specs.Written.{wrote_as}
use Rattle.script_text.specs.Runs.{fits-as}
use Rattle.script_text.proofs.Texts.{join-and, join-or}
use Rattle.script_text.proofs.put_join.Statement.{statement}
use Rattle.script_text.proofs.put_join.Tie as tie

pub put_join_spec : {M : Type 1} → statement M
put_join_spec =
    tie.close
    (tie.spec (λ c κs. fits-as (join-and _ c.if-kind-eq1.true) c.requires) (λ c. search rules)
    (λ c. wrote_as c.put_bytes.ensures (join-and _ c.if-kind-eq1.true))
    (λ c κs. fits-as (join-or _ c.if-kind-eq1.false) c.requires) (λ c. search rules)
    (λ c. wrote_as c.put_bytes-2.ensures (join-or _ c.if-kind-eq1.false)))
