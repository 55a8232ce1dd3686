-- What is left of the atoms cuts the set so far to what they all cut it to.
use Rattle.std.proofs.Common.{◌≡◌, ◌-◌}
use Rattle.rules.specs.Rounds.{cut_by}
use Rattle.terms.specs.View.{sets_of}
use Rattle.table.specs.Table.{form_at, atoms_from}
use Rattle.round.specs.Views.{table_of}
use Rattle.round.proofs.round.cut_down.Given as goal

abbrev pub invariant-loop-i : goal.invariant-loop-i
invariant-loop-i l =
    let t = table_of l.coefficient l.monomial l.terms l.fn.board.variables in
    cut_by (sets_of l.fn.board) (form_at t l.p) (atoms_from t l.atoms.number l.atoms.set l.i (l.to - l.i)) l.sofar.0
    ≡ cut_by (sets_of l.fn.board) (form_at t l.p) (atoms_from t l.atoms.number l.atoms.set l.from (l.to - l.from)) l.initial.sofar.0
