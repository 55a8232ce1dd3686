-- The board's sets first, then the atoms'.
use Rattle.std.proofs.Common.{◌≡◌, ◌∙◌, sym}
use Rattle.rules.specs.Rounds.{same_sets}
use Rattle.terms.specs.View.{sets_of}
use Rattle.rounds.specs.Views.{held_sets}
use Rattle.rounds.proofs.Ends.{board-changed, list-changed}
use Rattle.rounds.proofs.settle.unchanged.Goals as goal
use Rattle.rounds.proofs.settle.unchanged.Goals.{After-same_sets}

-- the first test is of the boards' sets
of-board : (c : After-same_sets) → c.same_sets.result ≡ same_sets (sets_of c.args.before.board) (sets_of c.args.after.board)
of-board c = c.same_sets.ensures ∙ rw (c.few.ensures, c.requires.0)

pub returns-then-same_sets : goal.returns-then-same_sets
returns-then-same_sets c = λ t.
    let same-board = sym (of-board (goal.at.returns-then-same_sets c).After-same_sets) ∙ c.if-same_sets.true in
    let of-list : c.same_sets-then-same_sets.result ≡ same_sets (held_sets c.args.before.atoms) (held_sets c.args.after.atoms) =
    c.same_sets-then-same_sets.ensures ∙ rw (c.many.ensures, c.requires.1) in
    of-list ∙ sym (list-changed t _ _ same-board)

pub returns-else-same_sets : goal.returns-else-same_sets
returns-else-same_sets c = λ t.
    let changed = sym (of-board (goal.at.returns-else-same_sets c).After-same_sets) ∙ c.if-same_sets.false in
    c.if-same_sets.false ∙ sym (board-changed t _ _ changed)
