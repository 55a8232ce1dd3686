use Rattle.used.proofs.Copying.{Renumbering}
use Rattle.used.proofs.renumber_all.Given as goal

abbrev pub invariant-loop-i : goal.invariant-loop-i
invariant-loop-i l = Renumbering l.number l.token l.count l.fn.target l.target l.i
