use Rattle.std.proofs.Common.{◌≡◌, ◌∙◌, false, refl, sym, arith}
use Rattle.std.proofs.lemmas.Bool.{not-true, not-false}
use Rattle.rules.specs.Rounds.{has_empty}
use Rattle.round.specs.Views.{lent_table, state_of}
use Rattle.round.specs.Round.{Rounded}
use Rattle.round.specs.Over.{forms-over, rounded-over}
use Rattle.rounds.specs.Ended.{Furthered}
use Rattle.rounds.proofs.Ends.{enough-is, at_first, filled-left, to-contradiction, to-rest, to-emptied, onward, to_last, furthered-over}
use Rattle.rounds.proofs.settle.rounds.Goals as goal
use Rattle.rounds.proofs.settle.rounds.Goals.{After-round-next, Else-has_empty, After-further-onward}

pub loop-ended-init : goal.loop-ended-init
loop-ended-init c =
    let t = lent_table c.args.coefficient c.args.monomial c.args.terms c.args.start.board.variables in
    at_first t _ c.args.start (enough-is t c.args.start _ c.requires.0.variables c.many.ensures) refl c.requires.1

pub round-next-requires : goal.round-next-requires
round-next-requires c = forms-over _ _ _ (sym c.loop-ended.invariant.variables) c.requires.0

-- the state after the round
rounded : (c : After-round-next)
    → Rounded (lent_table c.args.coefficient c.args.monomial c.args.terms c.args.start.board.variables) c.loop-ended.current c.round-next.result
rounded c = rounded-over _ _ _ c.loop-ended.invariant.variables c.round-next.ensures

pub returns-then-has_empty : goal.returns-then-has_empty
returns-then-has_empty c =
    let t = lent_table c.args.coefficient c.args.monomial c.args.terms c.args.start.board.variables in
    to-contradiction c.loop-ended.invariant c.loop-ended-test.true (rounded (goal.at.returns-then-has_empty c).After-round-next)
    (sym (c.has_empty.ensures t) ∙ c.if-has_empty.true)

-- it has no empty set
filled : (c : Else-has_empty)
    → has_empty (state_of (lent_table c.args.coefficient c.args.monomial c.args.terms c.args.start.board.variables) c.round-next.result) ≡ false
filled c = sym (c.has_empty.ensures (lent_table c.args.coefficient c.args.monomial c.args.terms c.args.start.board.variables)) ∙ c.if-has_empty.false

pub further-onward-requires-clause-filled : goal.further-onward-requires-clause-filled
further-onward-requires-clause-filled c =
    let at = goal.at.further-onward-requires-clause-filled c in
    let r = rounded at.After-round-next in
    (forms-over _ _ _ (sym r.variables) c.requires.0, filled-left c.loop-ended.invariant c.loop-ended-test.true r (filled at.Else-has_empty))

pub further-onward-requires-clause-same_counts : goal.further-onward-requires-clause-same_counts
further-onward-requires-clause-same_counts c =
    let r = rounded (goal.at.further-onward-requires-clause-same_counts c).After-round-next in
    (r.variables ∙ sym c.loop-ended.invariant.variables, r.count)

-- where the next round begins
furthered : (c : After-further-onward)
    → Furthered (lent_table c.args.coefficient c.args.monomial c.args.terms c.args.start.board.variables) c.loop-ended.current c.round-next.result c.further-onward.result
furthered c = furthered-over _ _ _ (c.round-next.ensures.variables ∙ c.loop-ended.invariant.variables) c.further-onward.ensures

pub returns-then-not-onward : goal.returns-then-not-onward
returns-then-not-onward c =
    let at = goal.at.returns-then-not-onward c in
    to-rest c.loop-ended.invariant c.loop-ended-test.true (rounded at.After-round-next) (furthered at.After-further-onward) (filled at.Else-has_empty)
    (not-true _ c.if-not-onward.true)

pub returns-then-has_empty-2 : goal.returns-then-has_empty-2
returns-then-has_empty-2 c =
    let at = goal.at.returns-then-has_empty-2 c in
    let t = lent_table c.args.coefficient c.args.monomial c.args.terms c.args.start.board.variables in
    to-emptied c.loop-ended.invariant c.loop-ended-test.true (rounded at.After-round-next) (furthered at.After-further-onward) (filled at.Else-has_empty)
    (not-false _ c.if-not-onward.false) (sym (c.has_empty-in-loop-ended.ensures t) ∙ c.if-has_empty-2.true)

pub loop-ended-preserved : goal.loop-ended-preserved
loop-ended-preserved c =
    let at = goal.at.loop-ended-preserved c in
    let t = lent_table c.args.coefficient c.args.monomial c.args.terms c.args.start.board.variables in
    onward c.loop-ended.invariant c.loop-ended-test.true (rounded at.After-round-next) (furthered at.After-further-onward) (filled at.Else-has_empty)
    (not-false _ c.if-not-onward.false) (sym (c.has_empty-in-loop-ended.ensures t) ∙ c.if-has_empty-2.false)

pub returns : goal.returns
returns c = to_last c.loop-ended.invariant (omega arith)
