-- What is left of the atoms, and of those that are marked, goes on from the set so far, and so does who takes a sign out.
use Rattle.std.proofs.Common.{◌+◌}
use Rattle.terms.specs.View.{sets_of}
use Rattle.table.specs.Table.{form_at}
use Rattle.round.specs.Views.{table_of}
use Rattle.common_run.proofs.Cutting.{Cutting}
use Rattle.common_run.proofs.Takings.{Takings}
use Rattle.common_run.proofs.turning.cut_marking.Given as goal

abbrev pub invariant-loop-j : goal.invariant-loop-j
invariant-loop-j l =
    let t = table_of l.coefficient l.monomial l.terms l.board.variables in
    record {
      cuts : Cutting t l.atoms (sets_of l.board) (form_at t (64 + l.i)) l.old l.round l.marks.resting.first l.n l.j l.sofar.0 l.resting.first;
      takes : Takings t l.atoms (sets_of l.board) (form_at t (64 + l.i)) l.old l.j l.takers;
    }
