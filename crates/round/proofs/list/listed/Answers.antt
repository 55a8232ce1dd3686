use Rattle.std.proofs.Common.{◌∙◌, sym}
use native.Mathlib.Nat.{sub-zero}
use Rattle.round.proofs.Lists.{listed_here, listed-later, listed-nowhere}
use Rattle.round.proofs.list.listed.Goals as goal

pub loop-i-init : goal.loop-i-init
loop-i-init c = record { all = c.many-end.ensures; so_far = λ t forms. rw (c.many-end.ensures, sub-zero) }

pub returns-then-number-k : goal.returns-then-number-k
returns-then-number-k c = λ t forms.
    sym (listed_here forms _ _ _ _ _ c.requires c.loop-i-test.true c.if-number-k.true) ∙ c.loop-i.invariant.so_far t forms

pub loop-i-preserved : goal.loop-i-preserved
loop-i-preserved c = record {
  all = c.loop-i.invariant.all;
  so_far = λ t forms. sym (listed-later forms _ _ _ _ _ c.requires c.loop-i-test.true c.if-number-k.false) ∙ c.loop-i.invariant.so_far t forms;
}

pub returns : goal.returns
returns c = λ t forms. sym (listed-nowhere forms _ _ _ _ _ c.requires c.loop-i-test.false) ∙ c.loop-i.invariant.so_far t forms
