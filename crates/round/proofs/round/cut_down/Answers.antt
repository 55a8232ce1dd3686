use Rattle.std.proofs.Common.{◌≡◌, ◌+◌, ◌-◌, ◌<◌, ◌≤◌, ◌∙◌, sym, arith}
use Rattle.rules.specs.Rounds.{cut_by}
use Rattle.terms.specs.View.{sets_of}
use Rattle.table.specs.Table.{form_at, atoms_from, many}
use Rattle.round.specs.Views.{lent_table}
use Rattle.round.specs.Signing.{atom_slot}
use Rattle.round.specs.SignedSlots.{run-form, run-held}
use Rattle.round.specs.Walks.{cut_step, cut-end, cut-empty-board, cut-to-floor}
use Rattle.round.proofs.round.cut_down.Goals as goal
use Rattle.round.proofs.round.cut_down.Goals.{After-intersect-sofar}

pub returns-then-from-to : goal.returns-then-from-to
returns-then-from-to c =
    let h : c.args.from < c.args.to = c.if-from-to.true in
    sym (cut-empty-board (lent_table c.args.coefficient c.args.monomial c.args.terms c.args.board.variables) _ _ _ _ _ _ _ h
    (sym c.any_empty.ensures ∙ c.if-any_empty.true))

pub returns-then-any_empty : goal.returns-then-any_empty
returns-then-any_empty c =
    let h : c.args.to ≤ c.args.from = c.if-from-to.false in
    sym (cut-end (lent_table c.args.coefficient c.args.monomial c.args.terms c.args.board.variables) _ _ _ _ _ _ _ h)

-- after one more atom
cut_on : (c : After-intersect-sofar) →
    let a = c.args in
    let t = lent_table a.coefficient a.monomial a.terms a.board.variables in
    let l = c.loop-i in
    cut_by (sets_of a.board) (form_at t a.p) (atoms_from t a.atoms.number a.atoms.set (l.i + 1) (a.to - (l.i + 1))) c.intersect-sofar.result.0
    ≡ cut_by (sets_of a.board) (form_at t a.p) (atoms_from t a.atoms.number a.atoms.set a.from (a.to - a.from)) a.set.0
cut_on c =
    let a = c.args in
    let t = lent_table a.coefficient a.monomial a.terms a.board.variables in
    let i = c.loop-i.i in
    let (most, (in_table, signed)) = c.requires.in_slot in
    let low : i < many a.atoms.count = omega (arith, most) in
    let ready = c.requires.ready in
    let p = c.places-run.ensures in
    let q = c.places-q.ensures in
    let own = run-held a.p ready.forms ready.places in_table p.0 p.1 signed in
    let its = run-held (atom_slot a.atoms.number i) ready.forms ready.places (omega arith) q.0 q.1 (ready.atoms i low) in
    cut_step t a.atoms.number a.atoms.set (sets_of a.board) a.p i a.to c.loop-i.sofar.0 c.loop-i-test.true
    (run-form t a.p p.0 p.1) (run-form t (atom_slot a.atoms.number i) q.0 q.1)
    (c.deduce_from.ensures.on own.signed its.signed (sym c.any_empty.ensures ∙ c.if-any_empty.false)) c.intersect-sofar.ensures
    ∙ c.loop-i.invariant

pub returns-then-sofar-floor : goal.returns-then-sofar-floor
returns-then-sofar-floor c =
    let (low, part) = c.requires.above_floor in
    cut-to-floor _ _ _ c.if-sofar-floor.true low (cut_on (goal.at.returns-then-sofar-floor c).After-intersect-sofar) part

pub loop-i-preserved : goal.loop-i-preserved
loop-i-preserved c = cut_on (goal.at.loop-i-preserved c).After-intersect-sofar

pub returns : goal.returns
returns c = sym (cut-end _ _ _ _ _ _ _ _ c.loop-i-test.false) ∙ c.loop-i.invariant
