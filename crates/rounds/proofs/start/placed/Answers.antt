-- The set goes where the variable stands, or nowhere.
use Rattle.std.proofs.Common.{◌≡◌, ◌<◌, length, subst, arith, rules}
use Rattle.round.specs.Views.{Below}
use Rattle.rounds.proofs.Starts.{not-placed, placed_at}
use Rattle.rounds.proofs.start.placed.Goals as goal
use Rattle.rounds.proofs.start.placed.Goals.{In-Variable}

-- the variable is one of the board's
low : (c : In-Variable) → c.in-Variable.i < c.args.board.variables
low c = subst (λ h. Below c.args.board.variables h) c.in-Variable.is c.requires.1

pub bounds-board-i : goal.bounds-board-i
bounds-board-i c = omega (arith, low (goal.at.bounds-board-i c).In-Variable, c.requires.0)

pub bounds-narrowed-i : goal.bounds-narrowed-i
bounds-narrowed-i c = omega (arith, low (goal.at.bounds-narrowed-i c).In-Variable, c.requires.0)

pub returns-in-Form : goal.returns-in-Form
returns-in-Form c = not-placed _ _ c.in-Form.is

pub returns-in-Variable : goal.returns-in-Variable
returns-in-Variable c =
    let l = low (goal.at.returns-in-Variable c).In-Variable in
    let sixteen : length c.args.board.sets ≡ 16 = search rules in
    placed_at c.args.board c.in-Variable.is (omega (arith, l, c.requires.0)) (omega (arith, l, sixteen, c.requires.0)) c.intersect-new.ensures
