-- The last pass tells whether the turns are idle.
use Rattle.std.proofs.Common.{refl, sym, ◌∙◌, arith}
use mathlib.Core.Bool.{false≢true}
use Rattle.terms.specs.View.{sets_of}
use Rattle.turn_laws.specs.AfterTurns.{no_turn, floor-later}
use Rattle.round.specs.Views.{lent_table}
use Rattle.round.specs.Over.{forms-over, ready-over, floor-over}
use Rattle.round.specs.SignedSlots.{form-slots, list-ready}
use Rattle.ahead.proofs.Passing.{after-over, ahead-over, reached-after, after-pass, after_last}
use Rattle.ahead.proofs.ahead.Goals as goal

pub sign_list-requires : goal.sign_list-requires
sign_list-requires c =
    let a = c.args in
    let (forms, (places, below)) = c.requires in
    let r = c.replay-reached in
    (form-slots {t = lent_table a.coefficient a.monomial a.terms a.board.variables} forms (r.auto.sign ∙ places), omega (arith, r.ensures.variables, forms.variables))

pub loop-made-init : goal.loop-made-init
loop-made-init c =
    let (forms, (places, below)) = c.requires in
    let r = c.replay-reached in
    record {
      places = refl;
      after = record {
        variables = refl;
        after = no_turn;
        ready = rw c.sign_list.ensures (list-ready r.result c.args.atoms _ (forms-over _ _ _ (sym r.ensures.variables) forms) refl (r.auto.sign ∙ places));
      };
    }

pub pass-passed-requires : goal.pass-passed-requires
pass-passed-requires c =
    let l = c.loop-made in
    let r = c.replay-reached.ensures in
    let whole = reached-after r (after-over _ _ _ r.variables l.invariant.after) in
    let (forms, (places, (same, below))) = c.requires in
    let over = sym whole.variables in (
      ready-over _ _ _ over whole.ready,
      (
        same ∙ over,
        floor-over _ _ _ over c.args.atoms (sets_of l.passed.board) (sets_of c.args.floor) (floor-later whole.after below),
      ),
    )

pub returns-then-passed : goal.returns-then-passed
returns-then-passed c =
    let r = c.replay-reached.ensures in
    let whole = reached-after r (after-over _ _ _ r.variables c.loop-made.invariant.after) in
    after_last whole (ahead-over _ _ _ whole.variables c.pass-passed.ensures)

pub loop-made-preserved : goal.loop-made-preserved
loop-made-preserved c =
    let before = c.loop-made.invariant.after in
    let r = c.pass-passed in
    record { places = r.auto.sign ∙ c.loop-made.invariant.places; after = after-pass before (ahead-over _ _ _ before.variables r.ensures) }

pub returns : goal.returns
returns c =
    let r = c.replay-reached.ensures in
    let whole = reached-after r (after-over _ _ _ r.variables c.loop-made.invariant.after) in
    record { variables = whole.variables; after = whole.after; ready = whole.ready; idle = λ e. absurd (false≢true e) }
