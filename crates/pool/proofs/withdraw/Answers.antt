-- A number that is there is taken away from every slot, and from the row of the numbers present.
use Rattle.std.proofs.Common.{sym, ◌∙◌}
use Rattle.pool.specs.Entry.{gives-short, withdraw-absent, withdraw-done, withdrawn-is, gives_as, below-32}
use Rattle.pool.proofs.withdraw.Goals as goal

pub returns-then-pool-lt-POOL_WORDS : goal.returns-then-pool-lt-POOL_WORDS
returns-then-pool-lt-POOL_WORDS c = gives-short c.args.pool.now _ _ c.if-pool-lt-POOL_WORDS.true

pub returns-then-not-is_there : goal.returns-then-not-is_there
returns-then-not-is_there c =
    let a = c.args in
    withdraw-absent a.number a.pool.now c.if-pool-lt-POOL_WORDS.false (sym c.is_there.ensures ∙ c.if-not-is_there.true)

pub with_mark-left-requires : goal.with_mark-left-requires
with_mark-left-requires c = below-32 c.args.number _ (sym c.is_there.ensures ∙ c.if-not-is_there.false)

pub unlist_all-requires : goal.unlist_all-requires
unlist_all-requires c = (c.if-pool-lt-POOL_WORDS.false, below-32 c.args.number _ (sym c.is_there.ensures ∙ c.if-not-is_there.false))

pub returns : goal.returns
returns c =
    let a = c.args in
    gives_as (withdrawn-is a.number a.pool.now _ _ _ c.unlist_all.ensures c.with_mark-left.ensures c.kept.ensures)
    (withdraw-done a.number a.pool.now c.if-pool-lt-POOL_WORDS.false (sym c.is_there.ensures ∙ c.if-not-is_there.false))
