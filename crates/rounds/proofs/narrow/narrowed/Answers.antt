-- The turns are taken from the start.
use Rattle.std.proofs.Common.{ℕ, ◌∙◌, sym}
use lib.ListN.{length-replicate}
use Rattle.terms.specs.View.{sets_of}
use Rattle.round.specs.Over.{forms-over}
use Rattle.rounds.proofs.Beginnings.{floor-begins, narrowed-start}
use Rattle.rounds.proofs.narrow.narrowed.Goals as goal

pub ahead-passed-requires : goal.ahead-passed-requires
ahead-passed-requires c =
    let (forms, (few, below)) = c.requires in
    let first = c.start-first.result in
    let (same, is_start) = c.start-first.ensures in (
      forms-over _ _ _ (sym same) forms,
      (
        length-replicate {A = ℕ} 1280 0,
        (few ∙ sym same, floor-begins _ _ _ same first _ is_start (sets_of c.args.floor) below),
      ),
    )

pub returns : goal.returns
returns c =
    let (same, is_start) = c.start-first.ensures in
    narrowed-start _ _ _ same {first = c.start-first.result} c.args.list is_start c.ahead-passed.ensures
