-- What a run that cuts no atom has a bound by (request #108): a floor that has no more signs to lose than the settled board that the run stays above.
-- None of its turns goes below it.
use Rattle.std.specs.Prelude.{◌≡◌, ◌≤◌}
use Rattle.std.proofs.Common.{le_refl}
use Rattle.rules.specs.Polynomial.{Board as Sets}
use Rattle.ending_laws.specs.Cuts.{spare_all}
use Rattle.removal_laws.specs.Wider.{Wider}
use Rattle.removal_laws.specs.Rounds.{LowBoard}
use Rattle.turn_laws.specs.AfterTurns.{Floor}
use Rattle.turn_laws.specs.Afresh.{Afresh, floor-settled, floor-pairs}
use Rattle.terms.specs.declared.Board.{Board}
use Rattle.terms.specs.View.{sets_of}
use Rattle.table.specs.declared.Atoms.{Atoms}
use Rattle.table.specs.Table.{Table, atoms_of}
use Rattle.round.specs.declared.State.{State}
use Rattle.round.specs.Views.{state_of}
use Rattle.rounds.specs.Afresh.{AboveFloor, afresh-on}

-- The state is above the floor, its sets are below 8, the floor is such a one, and no turn from a board above the settled one goes below it.
pub record BoundedBy (t : Table) (su : State) (floor : Board) : Type 0 where
  pub above : AboveFloor t su floor
  pub low : LowBoard (sets_of su.board)
  pub lowest : spare_all (sets_of floor) ≤ spare_all above.settled.board
  pub turns : (board : Sets) → Wider above.settled.board board → Floor t.variables (atoms_of t su.atoms) board (sets_of floor)

-- on another board above the settled one
pub bounded-on : {t : Table} {b floor : Board} {a : Atoms} (bounded : BoundedBy t (record { board = b; atoms = a }) floor) {next : Board}
    → Wider bounded.above.settled.board (sets_of next) → LowBoard (sets_of next) → BoundedBy t (record { board = next; atoms = a }) floor
bounded-on bounded w low =
    let above = bounded.above in record {
      above = record { settled = above.settled; afresh = afresh-on above.afresh w; variables = above.variables; pairs = above.pairs };
      low = low;
      lowest = bounded.lowest;
      turns = bounded.turns;
    }

-- the settled board is such a floor
pub bounded-settled : {t : Table} (st : State) {su : State} → Afresh t.variables (state_of t st) (state_of t su) → st.board.variables ≡ t.variables
    → LowBoard (sets_of su.board) → BoundedBy t su st.board
bounded-settled {t} st a v low = record {
  above = record {
    settled = state_of t st;
    afresh = a;
    variables = v;
    pairs = λ board w. record { idle = λ i h same. floor-pairs (afresh-on a w) i h same };
  };
  low = low;
  lowest = le_refl _;
  turns = λ board w. floor-settled (afresh-on a w);
}
