use Rattle.std.proofs.Common.{take}
use Rattle.used.proofs.Ordering.{Ordering}
use Rattle.used.proofs.order_slots.Given as goal

abbrev pub invariant-loop-next : goal.invariant-loop-next
invariant-loop-next l = Ordering (take l.count l.token) l.count l.fn.order l.order l.number l.used l.next-index
