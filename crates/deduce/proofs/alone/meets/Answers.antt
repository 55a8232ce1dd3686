use Rattle.std.proofs.Common.{refl, sym, ◌∙◌}
use Rattle.deduce.proofs.LoneTerms.{met-here, met-later, met-nowhere}
use Rattle.deduce.proofs.alone.meets.Goals as goal

pub loop-i-init : goal.loop-i-init
loop-i-init c = refl

pub returns-then-its-m : goal.returns-then-its-m
returns-then-its-m c = met-here _ _ _ _ c.loop-i-test.true c.if-its-m.true ∙ c.loop-i.invariant

pub loop-i-preserved : goal.loop-i-preserved
loop-i-preserved c = sym (met-later _ _ _ _ c.loop-i-test.true c.if-its-m.false) ∙ c.loop-i.invariant

pub returns : goal.returns
returns c = sym (met-nowhere _ _ _ _ c.loop-i-test.false) ∙ c.loop-i.invariant
