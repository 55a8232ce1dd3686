-- What is left to do, from what is done so far.
use Rattle.std.proofs.Common.{◌≡◌, ◌-◌, length}
use Rattle.pool.specs.Words.{all_unlisted}
use Rattle.pool.proofs.unlist_all.Given as goal

abbrev pub invariant-loop-slot : goal.invariant-loop-slot
invariant-loop-slot l =
    record { as_long : length l.pool ≡ length l.fn.pool; left : all_unlisted l.number l.pool l.slot (128 - l.slot) ≡ all_unlisted l.number l.fn.pool 0 128 }
