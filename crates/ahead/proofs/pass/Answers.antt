use Rattle.std.proofs.Common.{refl, sym, ◌∙◌, arith}
use Rattle.round.specs.Views.{lent_table}
use Rattle.round.specs.Floors.{floor-at}
use Rattle.round.specs.Over.{ready-over, floor-at-over}
use Rattle.ahead.proofs.Passing.{place-below, stepped-over, passing-first, passing-next, passing-last}
use Rattle.ahead.proofs.pass.Goals as goal

pub loop-i-init : goal.loop-i-init
loop-i-init c = record { places = refl; passing = passing-first _ _ _ _ _ refl c.requires.0 }

pub step-passed-requires : goal.step-passed-requires
step-passed-requires c =
    let a = c.args in
    let l = c.loop-i in
    let (ready, (same, below)) = c.requires in
    let passing = l.invariant.passing in
    let low = place-below a.up a.board.variables l.i c.loop-i-test.true in (
      ready-over _ _ _ (sym passing.variables) passing.ready,
      rw c.place-j.ensures (
        omega (arith, low, passing.variables),
        floor-at-over _ _ _ (sym passing.variables) a.atoms l.passed.board a.floor _
            (floor-at (lent_table a.coefficient a.monomial a.terms a.board.variables) a.atoms a.board l.passed.board a.floor passing.after passing.variables
            ready.forms.variables same below _ low),
      ),
    )

pub loop-i-preserved : goal.loop-i-preserved
loop-i-preserved c =
    let passing = c.loop-i.invariant.passing in
    let r = c.step-passed in
    record {
      places = r.auto.sign ∙ c.loop-i.invariant.places;
      passing = passing-next _ _ _ _ passing c.loop-i-test.true (rw c.place-j.ensures at (stepped-over _ _ _ passing.variables r.ensures));
    }

pub returns : goal.returns
returns c = passing-last _ _ _ _ c.loop-i.invariant.passing c.loop-i-test.false
