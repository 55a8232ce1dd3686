use Rattle.std.proofs.Common.{ℕ, ◌<◌, zero-add, arith}
use Rattle.terms.specs.View.{sets_of}
use Rattle.table.specs.Table.{atoms_from, many}
use Rattle.round.specs.Views.{lent_table}
use Rattle.round.specs.Walks.{cut-from}
use Rattle.round.proofs.round.cut_atoms.Goals as goal

pub returns : goal.returns
unfolding atoms_from
returns c =
    let a = c.args.atoms in
    let l = c.loop-i in
    let t = lent_table c.args.coefficient c.args.monomial c.args.terms c.args.board.variables in
    let all = cut-from t a.number a.set l.cut.set (sets_of c.args.board) (many a.count) 0 (many a.count) (zero-add _)
    (λ (k : ℕ) (h : k < many a.count). l.invariant.sets k (omega (arith, l.invariant.all, c.loop-i-test.false))) in
    record { count = l.invariant.count; number = l.invariant.number; atoms = rw (l.invariant.count, l.invariant.number) all }
