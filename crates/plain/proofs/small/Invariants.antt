-- Each coefficient so far has a magnitude that a block has.
use Rattle.plain_laws.specs.Bounds.{largest}
use Rattle.deduce.specs.Merge.{AtMost}
use Rattle.plain.proofs.small.Given as goal

abbrev pub invariant-loop-i : goal.invariant-loop-i
invariant-loop-i l = AtMost largest l.coefficient l.fn.run.from l.i
