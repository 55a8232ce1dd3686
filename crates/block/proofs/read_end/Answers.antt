use Rattle.block.proofs.ReadingEnd.{nodes-left, byte_left, padding-left, all-ended}
use Rattle.block.proofs.read_end.Goals as goal

pub returns-then-place-ne0 : goal.returns-then-place-ne0
returns-then-place-ne0 c = λ block. nodes-left _ _ block c.if-place-ne0.true

pub returns-then-rest-ge8 : goal.returns-then-rest-ge8
returns-then-rest-ge8 c = λ block. byte_left _ _ block c.if-place-ne0.false c.left-rest.ensures.counted c.if-rest-ge8.true

pub returns-then-get-ne0 : goal.returns-then-get-ne0
returns-then-get-ne0 c = λ block.
    padding-left _ _ block c.if-place-ne0.false c.left-rest.ensures.counted c.if-rest-ge8.false c.get.ensures c.if-get-ne0.true

pub returns : goal.returns
returns c = λ block.
    all-ended _ _ block c.if-place-ne0.false c.left-rest.ensures.counted c.if-rest-ge8.false c.get.ensures c.if-get-ne0.false c.requires
