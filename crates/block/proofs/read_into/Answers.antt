use Rattle.std.proofs.lemmas.Result.{err_from_is_err_and}
use Rattle.block.proofs.ReadingHead.{head-refused, head-held}
use Rattle.block.proofs.ReadingWhole.{contents-refused, room-for-all}
use Rattle.block.proofs.read_into.Goals as goal

pub returns-in_err-head : goal.returns-in_err-head
returns-in_err-head c =
    let p = err_from_is_err_and c.from_residual.result c.from_residual.ensures.1 in
    rw (p.1, p.2) (contents-refused _ _ _ _ _ _ _ _ (head-refused c.read_head.ensures c.in_err-head.was))

pub read_body-requires : goal.read_body-requires
read_body-requires c =
    let held = head-held c.read_head.ensures c.in_ok-head.was in
    (held, room-for-all held c.requires)
