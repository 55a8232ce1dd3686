-- Turns and findings of pairs are made from the start.
use Rattle.std.proofs.Common.{ℕ, sym}
use lib.ListN.{length-replicate}
use Rattle.terms.specs.View.{sets_of}
use Rattle.round.specs.Over.{forms-over}
use Rattle.rounds.proofs.Beginnings.{floor-begins, settled-below, begins-above, settled-start}
use Rattle.rounds.proofs.narrow.settled_start.Goals as goal

pub settling-passed-requires-clause-forms : goal.settling-passed-requires-clause-forms
settling-passed-requires-clause-forms c =
    let (same, is_start) = c.start-first.ensures in (forms-over _ _ _ (sym same) c.requires.0, length-replicate {A = ℕ} 1280 0)

pub settling-passed-requires-clause-above_floor : goal.settling-passed-requires-clause-above_floor
settling-passed-requires-clause-above_floor c =
    let (forms, from) = c.requires in
    let first = c.start-first.result in
    let (same, is_start) = c.start-first.ensures in (
      begins-above _ _ _ same c.args.settled first c.args.others from is_start,
      floor-begins _ _ _ same first _ is_start (sets_of c.args.settled.board) (settled-below from),
    )

pub returns : goal.returns
returns c =
    let (same, is_start) = c.start-first.ensures in
    settled-start _ _ _ same {first = c.start-first.result} c.args.others is_start c.settling-passed.ensures
