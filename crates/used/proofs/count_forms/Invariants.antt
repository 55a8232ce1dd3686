use Rattle.used.proofs.Counted.{Counting}
use Rattle.used.proofs.count_forms.Given as goal

abbrev pub invariant-loop-slot : goal.invariant-loop-slot
invariant-loop-slot l = Counting l.monomial l.terms l.order l.used l.forms l.slot-index
