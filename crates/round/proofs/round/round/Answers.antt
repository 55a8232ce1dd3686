-- The signs are worked out for the board at hand, the turns keep them so, and the atoms are cut on the board that the turns left.
use Rattle.std.proofs.Common.{ℕ, refl, sym}
use lib.ListN.{length-replicate}
use Rattle.rules.specs.Rounds.{round as round_of}
use Rattle.terms.specs.View.{sets_of}
use Rattle.round.specs.Floors.{nothing-below}
use Rattle.round.specs.SignedSlots.{list-ready}
use Rattle.round.specs.Over.{ready-over, cut-over}
use Rattle.round.proofs.round.round.Goals as goal

pub after_turns-turned-requires : goal.after_turns-turned-requires
after_turns-turned-requires c =
    let st = c.args.state in (
      rw c.sign_list.ensures (list-ready st.board st.atoms _ c.requires refl (length-replicate {A = ℕ} 1280 0)),
      (refl, nothing-below st.board.variables c.requires.variables _ _),
    )

pub cut_atoms-cut-requires : goal.cut_atoms-cut-requires
cut_atoms-cut-requires c = let turned = c.after_turns-turned.ensures in ready-over _ _ _ (sym turned.variables) turned.ready

pub returns : goal.returns
unfolding round_of
returns c =
    let turns = c.after_turns-turned in
    let cut = cut-over _ _ _ turns.ensures.variables (sets_of turns.result) c.cut_atoms-cut.ensures in
    record { variables = turns.ensures.variables; count = cut.count; number = cut.number; state = rw (cut.atoms, turns.ensures.sets) }
