-- `settle` meets its contract: each turn that is not the last leaves fewer tokens in the two lists.
use mathlib.Core.Path.{◌≡◌, refl, ◌∙◌}
use mathlib.Core.List.{List}
use Prim.Native.Nat.{ℕ, ◌+◌}
use native.Mathlib.Omega.{arith}
use borrow.Author.Tests.{not-true, not-false}
use lib.ListN.{length}
use Rattle.tape.specs.Row.{row_of, Lists}
use Rattle.round.specs.Views.{table_of}
use Rattle.tape.specs.Tape.{Children, laid}
use Rattle.level.specs.Settled.{StageIs, due}
use Rattle.level.proofs.Stages.{stage-start, stage-ready, stage-end, stage-turn, stage-less}
use Rattle.level.proofs.settling.settle.Statement.{statement}
use Rattle.level.proofs.settling.settle.Tie as tie

abbrev invariant-loop : tie.invariant-loop-stage
invariant-loop coefficient monomial terms variables list₀ n ors₀ m largest stage₀ list ors stage =
    (length list ≡ length list₀) × ((length ors ≡ length ors₀) × ((l : List ℕ) (children : Children) → Lists (row_of list₀ stage₀.atoms) l → Lists (row_of ors₀ stage₀.ors) (laid children)
    → StageIs (table_of coefficient monomial terms variables) l children largest 0 list ors stage))

abbrev decreases-loop : tie.decreases-loop-stage
decreases-loop coefficient monomial terms variables list₀ n ors₀ m largest stage₀ list ors stage = due stage.over (stage.atoms + stage.ors)

turn-requires : tie.Need-turn-stage-requires invariant-loop decreases-loop
turn-requires c κs =
    let (forms, r) = c.requires in
    let inv = c.loop-stage.invariant in
    (forms, stage-ready (inv.1.1 r.list r.children r.lists r.lies) ((not-true _ c.loop-stage-test.true)) (omega (arith, r.fits, r.lists.size, r.lies.size)) (inv.0 ∙ r.long) (inv.1.0 ∙ r.wide))

less : tie.Need-loop-stage-smaller invariant-loop decreases-loop
less c =
    let r = c.requires.1 in
    let f = c.loop-stage.invariant.1.1 r.list r.children r.lists r.lies in
    stage-less f ((not-true _ c.loop-stage-test.true)) (c.turn-stage.ensures f.list f.left f.lists f.lies)

again : tie.Need-loop-stage-preserved invariant-loop decreases-loop
again c =
    let inv = c.loop-stage.invariant in
    let r = c.turn-stage in (
      r.auto.list ∙ inv.0,
      (
        r.auto.ors ∙ inv.1.0,
        λ l children h k.
            let f = inv.1.1 l children h k in
            stage-turn f ((not-true _ c.loop-stage-test.true)) (r.ensures f.list f.left f.lists f.lies),
      ),
    )

returns : tie.Need-returns invariant-loop decreases-loop
returns c l children h k = stage-end (c.loop-stage.invariant.1.1 l children h k) ((not-false _ c.loop-stage-test.false))

pub settle_spec : {M : Type 1} → statement M
settle_spec =
    tie.close
    (tie.spec invariant-loop decreases-loop (λ c. (refl, (refl, λ l children h k. stage-start _ l children h k))) turn-requires less again
    (λ c. c.loop-stage.invariant.0) (λ c. c.loop-stage.invariant.1.0) returns)
