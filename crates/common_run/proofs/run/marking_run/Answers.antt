-- `marking_run` meets its contract: the rounds that are over are those of the common run, with their boards and marks.
use Rattle.std.proofs.Common.{◌≡◌, ℕ, length, refl, sym, ◌∙◌, rules, arith}
use Rattle.std.proofs.lemmas.List.{length-replicate}
use Rattle.round.specs.Views.{lent_table}
use Rattle.round.specs.Over.{ready-over}
use Rattle.round.specs.SignedSlots.{list-ready}
use Rattle.common_run.proofs.Above.{above-after, floored-after, above-over, no-pair-over}
use Rattle.common_run.proofs.Turnings.{floored-over}
use Rattle.common_run.proofs.Running.{turns-over, same-boards, running-first, running-left, next-sets, running-on, running-last}
use Rattle.common_run.proofs.run.marking_run.Goals as goal

pub loop-round-init : goal.loop-round-init
loop-round-init c =
    let t = lent_table c.args.coefficient c.args.monomial c.args.terms c.args.start.board.variables in
    record {
      running = running-first c.args.start _ _ refl (rw c.sign_list.ensures (list-ready {t = t} c.args.start.board c.args.start.atoms _ c.requires.0 refl (length-replicate {A = ℕ} 1280 0)));
      sixteen = search rules;
    }

pub returns-then-within : goal.returns-then-within
returns-then-within c = λ e. running-left c.loop-round.invariant.running c.stored-boards.ensures c.loop-round-test.true

pub turns_marking-turned-requires : goal.turns_marking-turned-requires
turns_marking-turned-requires c =
    let running = c.loop-round.invariant.running in
    let own = sym running.variables in
    let floored = floored-after c.requires.1.1 _ c.loop-round.stood running.sets in
    (ready-over _ _ _ own running.ready, (omega arith, floored-over _ _ _ own floored))

pub same_sets-requires : goal.same_sets-requires
same_sets-requires c =
    let old : length c.loop-round.stood.sets ≡ 16 = c.loop-round.invariant.sixteen in
    let new : length c.turns_marking-turned.result.board.sets ≡ 16 = search (rules, c.turns_marking-turned.type_inv) in
    (omega (arith, c.few.ensures, old), omega (arith, c.few.ensures, new))

pub no_pair-ended-requires : goal.no_pair-ended-requires
no_pair-ended-requires c =
    let running = c.loop-round.invariant.running in
    let m = turns-over _ _ _ running.variables c.turns_marking-turned.ensures in
    let own = sym m.turned.variables in
    let above = above-after c.requires.1.0 _ c.turns_marking-turned.result.board (next-sets running c.stored-boards.ensures m) in
    (ready-over _ _ _ own m.turned.ready, above-over _ _ _ own above)

pub returns-then-same_sets : goal.returns-then-same_sets
returns-then-same_sets c =
    let running = c.loop-round.invariant.running in
    let m = turns-over _ _ _ running.variables c.turns_marking-turned.ensures in
    let same = sym (same-boards c.loop-round.stood c.turns_marking-turned.result.board (m.turned.variables ∙ sym running.variables) c.few.ensures c.same_sets.ensures) ∙ c.if-same_sets.true in
    λ e. running-last running c.stored-boards.ensures m c.no_pair-ended.result c.loop-round-test.true same
    (λ idle. no-pair-over _ _ _ m.turned.variables _ _ (c.no_pair-ended.ensures idle))

pub loop-round-preserved : goal.loop-round-preserved
loop-round-preserved c =
    let running = c.loop-round.invariant.running in
    let m = turns-over _ _ _ running.variables c.turns_marking-turned.ensures in
    let same = sym (same-boards c.loop-round.stood c.turns_marking-turned.result.board (m.turned.variables ∙ sym running.variables) c.few.ensures c.same_sets.ensures) ∙ c.if-same_sets.false in
    record { running = running-on running c.stored-boards.ensures m same; sixteen = search (rules, c.turns_marking-turned.type_inv) }

pub returns : goal.returns
returns c = λ e. absurd (c.unknown.ensures e)
