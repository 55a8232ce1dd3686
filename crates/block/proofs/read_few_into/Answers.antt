use Rattle.block.proofs.ReadingHead.{head-refused, head-held}
use Rattle.block.proofs.ReadingWhole.{contents-refused, room-for-few, few-more, few-read, none-held, held-fewer}
use Rattle.block.proofs.read_few_into.Goals as goal

pub returns-in-Err : goal.returns-in-Err
returns-in-Err c = few-read (contents-refused _ _ _ _ _ _ _ _ (head-refused c.read_head-head.ensures c.in-Err.is)) (none-held _ _)

pub returns-then-head-gt16 : goal.returns-then-head-gt16
returns-then-head-gt16 c = few-more (head-held c.read_head-head.ensures c.in-Ok.is) c.if-head-gt16.true

pub read_body-requires : goal.read_body-requires
read_body-requires c =
    let held = head-held c.read_head-head.ensures c.in-Ok.is in
    (held, room-for-few held c.if-head-gt16.false c.requires)

pub returns-else-head-gt16 : goal.returns-else-head-gt16
returns-else-head-gt16 c = few-read c.read_body.ensures.0 (held-fewer c.if-head-gt16.false c.read_body.ensures.1)
