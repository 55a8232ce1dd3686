-- Where the bound is no more than the largest number so far the run is not counted; where no atom is cut the rounds are counted on the board,
-- and else they are run from the start.
use Rattle.std.proofs.Common.{refl, sym, arith}
use Rattle.round.specs.Views.{lent_table}
use Rattle.round.specs.Over.{forms-over}
use Rattle.rounds.proofs.Beginnings.{started-low}
use Rattle.rounds.proofs.Uncut.{uncut-bounded, counted-uncut, counted-plain}
use Rattle.rounds.proofs.Larger.{largest-stays, largest-counted, from-none}
use Rattle.rounds.proofs.run_largest.Goals as goal

pub returns-then-variables-many : goal.returns-then-variables-many
returns-then-variables-many c = largest-stays _ c.run-ran.ensures (omega (arith, c.if-variables-many.true, c.many.ensures))

pub rounds-counted-requires : goal.rounds-counted-requires
rounds-counted-requires c =
    let start = c.start-first in
    let t = lent_table c.args.coefficient c.args.monomial c.args.terms c.args.variables in
    (forms-over _ _ _ (sym start.ensures.0) c.requires, started-low t c.args.list start.result start.ensures.1)

pub returns-then-not-no_atom_cut : goal.returns-then-not-no_atom_cut
returns-then-not-no_atom_cut c =
    let start = c.start-first in
    largest-counted _ (counted-plain _ _ _ start.ensures.0 c.args.list start.result start.ensures.1 c.rounds-counted.ensures) c.larger.ensures

pub turned_largest-most-requires : goal.turned_largest-most-requires
turned_largest-most-requires c =
    let start = c.start-first in
    let uncut = c.no_atom_cut.ensures c.if-not-no_atom_cut.false in (
      forms-over _ _ _ (sym start.ensures.0) c.requires,
      (uncut-bounded _ _ _ start.ensures.0 c.args.list c.run-ran.ensures start.result start.ensures.1 uncut, omega arith),
    )

pub returns : goal.returns
returns c =
    let start = c.start-first in
    let uncut = c.no_atom_cut.ensures c.if-not-no_atom_cut.false in
    largest-counted _ (counted-uncut _ _ _ start.ensures.0 c.args.list c.run-ran.ensures start.result start.ensures.1 uncut refl)
    (from-none c.args.largest c.turned_largest-most.ensures refl)
