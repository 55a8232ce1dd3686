-- The atoms before it and those after it are the others.
use Rattle.std.proofs.Common.{sym, arith}
use native.Mathlib.Nat.{sub-zero}
use Rattle.rules.specs.Rounds.{cut_atom}
use Rattle.terms.specs.View.{sets_of}
use Rattle.terms.specs.Signed.{Held}
use Rattle.round.specs.Views.{lent_table}
use Rattle.round.specs.Signing.{atom_slot}
use Rattle.round.specs.SignedSlots.{run-held}
use Rattle.round.specs.Walks.{cut-append, by-terms-at}
use Rattle.round.proofs.round.cut_atom.Goals as goal
use Rattle.round.proofs.round.cut_atom.Goals.{After-places-run}

-- the places of the atom's slot, with the board's signs
held_at : (c : After-places-run) →
    let a = c.args in
    let run = c.places-run.result in
    Held (sets_of a.board) a.coefficient.now a.monomial.now a.sign.now run.from run.to
held_at c =
    let a = c.args in
    let (ready, low) = c.requires in
    let p = c.places-run.ensures in
    run-held {t = lent_table a.coefficient a.monomial a.terms a.board.variables} (atom_slot a.atoms.number a.i) ready.forms ready.places (omega arith) p.0 p.1
    (ready.atoms a.i low)

pub by_terms-by-requires : goal.by_terms-by-requires
by_terms-by-requires c =
    let held = held_at (goal.at.by_terms-by-requires c).After-places-run in (held.coefficients, held.signs)

pub cut_by-before-requires-clause-in_slot : goal.cut_by-before-requires-clause-in_slot
cut_by-before-requires-clause-in_slot c =
    let (ready, low) = c.requires in (omega (arith, low), (omega arith, ready.atoms c.args.i low))

pub cut_by-requires-clause-in_slot : goal.cut_by-requires-clause-in_slot
cut_by-requires-clause-in_slot c =
    let (ready, low) = c.requires in (omega (arith, c.many-n.ensures), (omega arith, ready.atoms c.args.i low))

pub returns : goal.returns
unfolding cut_atom
returns c =
    let a = c.args in
    let t = lent_table a.coefficient a.monomial a.terms a.board.variables in
    let p = c.places-run.ensures in
    let by = by-terms-at t (atom_slot a.atoms.number a.i) c.by_terms-by.ensures p.0 p.1 (held_at (goal.at.returns c).After-places-run) in
    rw (c.cut_by.ensures, c.cut_by-before.ensures, c.intersect.ensures, by, c.many-n.ensures, sub-zero) (sym (cut-append _ _ _ _ _))
