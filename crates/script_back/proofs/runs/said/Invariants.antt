-- Byte by byte, up to the first that differs.
use Rattle.script_back.proofs.Positions.{Sofar}
use Rattle.script_back.proofs.runs.said.Given as goal

abbrev pub invariant-loop-i : goal.invariant-loop-i
invariant-loop-i l = Sofar l.text l.at l.bytes l.i
