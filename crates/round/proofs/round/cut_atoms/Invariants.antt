-- The first i atoms have their sets of the round.
use Rattle.std.proofs.Common.{◌≡◌, ℕ, ◌<◌, length, get_or}
use Rattle.terms.specs.View.{sets_of}
use Rattle.table.specs.Table.{many}
use Rattle.round.specs.Views.{table_of, cut_set}
use Rattle.round.proofs.round.cut_atoms.Given as goal

abbrev pub invariant-loop-i : goal.invariant-loop-i
invariant-loop-i l = record {
  all : l.n ≡ many l.atoms.count;
  count : l.cut.count ≡ l.atoms.count;
  number : l.cut.number ≡ l.atoms.number;
  places : length l.cut.set ≡ 64;
  sets : (k : ℕ) → k < l.i → get_or l.cut.set k 0
      ≡ cut_set (table_of l.coefficient l.monomial l.terms l.board.variables) l.atoms.number l.atoms.set (sets_of l.board) (many l.atoms.count) k;
}
