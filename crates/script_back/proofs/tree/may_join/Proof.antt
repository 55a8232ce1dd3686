-- `may_join` meets its contract, test by test.
use Rattle.script_back.proofs.Walk.{no-nesting, same_kind, may-join}
use Rattle.script_back.proofs.tree.may_join.Statement.{statement}
use Rattle.script_back.proofs.tree.may_join.Tie as tie

pub may_join_spec : {M : Type 1} → statement M
may_join_spec =
    tie.close
    (tie.spec
    (λ c. let a = c.args in no-nesting a.nesting a.parent a.room a.kind c.if-nesting-eq0.true)
    (λ c. let a = c.args in same_kind a.nesting a.parent a.room a.kind c.if-parent-kind.true)
    (λ c. let a = c.args in may-join a.nesting a.parent a.room a.kind c.if-nesting-eq0.false c.if-parent-kind.false))
