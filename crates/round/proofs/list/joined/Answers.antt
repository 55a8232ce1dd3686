use Rattle.std.proofs.Common.{◌++◌, ◌∙◌, List, refl, sym, ap, arith}
use mathlib.Core.List.{append-nil}
use Rattle.rules.specs.Polynomial.{Atom}
use Rattle.rules.specs.Rounds.{unless_variable}
use Rattle.table.specs.Table.{atoms_of}
use Rattle.round.specs.Walks.{rest-cons, rest-nil}
use Rattle.round.proofs.list.joined.Goals as goal

pub loop-i-init : goal.loop-i-init
loop-i-init c = record { all = c.many-end.ensures; fit = omega (arith, c.many-end.ensures, c.requires); so_far = λ t. refl }

pub loop-i-preserved : goal.loop-i-preserved
unfolding unless_variable
loop-i-preserved c =
    let l = c.loop-i in
    let pushed = c.push-atoms.ensures in
    record {
      all = l.invariant.all;
      fit = omega (arith, pushed.count, l.invariant.fit);
      so_far = λ t. pushed.atoms t _ ∙ ap (λ (r : List Atom). atoms_of t l.atoms ++ r) (sym (rest-cons t c.args.list l.i (omega arith))) ∙ l.invariant.so_far t;
    }

pub returns : goal.returns
returns c = λ t.
    let l = c.loop-i in
    sym (append-nil (atoms_of t l.atoms)) ∙ ap (λ (r : List Atom). atoms_of t l.atoms ++ r) (sym (rest-nil t c.args.list l.i (omega arith)))
    ∙ l.invariant.so_far t
