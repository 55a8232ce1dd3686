-- What the reader refuses changes nothing, what it accepts is added.
use Rattle.std.proofs.lemmas.Result.{err_from_is_err_and}
use Rattle.pool.specs.Reading.{block_from}
use Rattle.pool.specs.Found.{found-refused, found-taken}
use Rattle.pool.specs.Entry.{gives-short, gives-unread, gives-read}
use Rattle.pool.proofs.add.Goals as goal

pub returns-then-pool-lt-POOL_WORDS : goal.returns-then-pool-lt-POOL_WORDS
returns-then-pool-lt-POOL_WORDS c = gives-short c.args.pool.now _ _ c.if-pool-lt-POOL_WORDS.true

pub returns-in_err-contents : goal.returns-in_err-contents
returns-in_err-contents c =
    let p = err_from_is_err_and c.from_residual.result c.from_residual.ensures.1 in
    rw (p.1, p.2)
    (gives-unread c.args.number c.args.pool.now c.args.block.now _ (found-refused c.read_into.ensures c.in_err-contents.was)
    c.if-pool-lt-POOL_WORDS.false)

pub add_read-requires : goal.add_read-requires
add_read-requires c = (c.if-pool-lt-POOL_WORDS.false, (found-taken c.read_into.ensures c.in_ok-contents.was).read_table)

pub returns : goal.returns
unfolding block_from
returns c =
    let a = c.args in
    let taken = found-taken c.read_into.ensures c.in_ok-contents.was in
    gives-read a.number _ a.pool.now _ a.block.now _ taken.given taken.rest taken.reading taken.variables taken.table
    c.if-pool-lt-POOL_WORDS.false c.add_read.ensures
