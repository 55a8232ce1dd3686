-- `tell_all` meets its contract: the records so far are those of the atoms passed.
use Rattle.std.proofs.Common.{◌<◌, length, arith}
use Rattle.reasons.proofs.Recording.{telling-first, telling-explains, telling-low, telling-next, telling-last}
use Rattle.reasons.proofs.tell_all.Goals as goal

pub fate_of_all-fates-requires : goal.fate_of_all-fates-requires
fate_of_all-fates-requires c = let a = c.requires.1 in (c.requires.0, record { tokens = a.tokens; lists = a.lists; few = a.few })

pub loop-i-init : goal.loop-i-init
loop-i-init c =
    let a = c.requires.1 in
    telling-first _ _ _ a (c.fate_of_all-fates.ensures a.tokens a.lists) c.refused-found.ensures.0 c.refused-found.ensures.1.0 c.refused-found.ensures.1.1

pub reason_for-reason-requires : goal.reason_for-reason-requires
reason_for-reason-requires c = (c.requires.0, telling-explains _ _ _ c.loop-i.invariant)

pub loop-i-preserved : goal.loop-i-preserved
loop-i-preserved c =
    let v = c.loop-i.invariant in
    let low : c.loop-i.i < length v.clauses.tokens = omega (arith, v.clauses.lists.size, c.loop-i-test.true) in
    telling-next _ _ _ v low (c.reason_for-reason.ensures _ v.fate (telling-low _ _ _ v low)) c.stored-found.ensures.0 c.stored-found.ensures.1.0
    c.stored-found.ensures.1.1

pub returns : goal.returns
returns c = let v = c.loop-i.invariant in telling-last _ _ _ v (omega (arith, v.clauses.lists.size, c.loop-i-test.false))
