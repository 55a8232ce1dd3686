-- The pairs of the atoms that are left cut the set so far to what all of them cut the set to.
use Rattle.std.proofs.Common.{◌≡◌}
use Rattle.rules.specs.TwoAtoms.{tries}
use Rattle.terms.specs.View.{sets_of}
use Rattle.table.specs.Table.{form_at, atoms_of}
use Rattle.two_atoms.specs.Cuts.{cut_in}
use Rattle.round.specs.Views.{table_of, rest}
use Rattle.search.proofs.pairs.cut_by_pairs.Given as goal

abbrev pub invariant-loop-i : goal.invariant-loop-i
invariant-loop-i l =
    let t = table_of l.coefficient l.monomial l.terms l.board.variables in
    let tries_of = tries (sets_of l.board) (form_at t l.p) in
    cut_in l.all l.sofar.0 (tries_of (rest t l.atoms l.i)) ≡ cut_in l.all l.initial.sofar.0 (tries_of (atoms_of t l.atoms))
