use borrow.Author.Tests.{eq-eqb}
use Rattle.std.proofs.Common.{ap, ◌∙◌}
use Rattle.rules.specs.Deduce.{deduce, unless_empty}
use Rattle.plain.specs.Tests.{finding_from}
use Rattle.plain.proofs.Seens.{finding-met, deduced}
use Rattle.plain.proofs.deduce_from.Goals as goal

pub returns-then-k-eq0 : goal.returns-then-k-eq0
unfolding deduce unless_empty
returns-then-k-eq0 c = record { on = λ s t h. simp (eq-eqb _ _ c.if-k-eq0.true) }

pub seen-requires : goal.seen-requires
seen-requires c = record {
  first = c.requires.within_p;
  second = c.requires.within_q;
  first_small = c.small.ensures.yes c.if-not-small.false;
  second_small = c.small-else-not-small.ensures.yes c.if-not-small-2.false;
}

pub returns : goal.returns
returns c = record { on = λ s t h. c.finding.ensures ∙ ap finding_from (c.seen.ensures.on s t) ∙ finding-met _ _ ∙ deduced _ _ _ _ c.if-k-eq0.false h }
