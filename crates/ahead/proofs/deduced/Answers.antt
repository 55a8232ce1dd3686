-- The signs of the two slots are worked out for the board, and are still there when they are read.
use Rattle.std.proofs.Common.{ap₂, ◌∙◌, get_or, arith, rules}
use Rattle.rules.specs.Polynomial.{Polynomial}
use Rattle.rules.specs.Deduce.{deduce as deduce_of}
use Rattle.terms.specs.View.{sets_of}
use Rattle.deduce.specs.Runs.{within}
use Rattle.round.specs.Views.{lent_table}
use Rattle.round.specs.Signing.{variable_slot, atom_slot}
use Rattle.round.specs.SignedSlots.{form-slots, run-form, run-held}
use Rattle.ahead.proofs.Hints.{BothSigned, both-signed}
use Rattle.ahead.proofs.deduced.Goals as goal
use Rattle.ahead.proofs.deduced.Goals.{After-sign_slot-2}

pub sign_slot-requires-2 : goal.sign_slot-requires-2
sign_slot-requires-2 c =
    let a = c.args in
    let (forms, (places, (low, listed))) = c.requires in
    (form-slots {t = lent_table a.coefficient a.monomial a.terms a.board.variables} forms (c.sign_slot.auto.sign ∙ places), omega arith)

-- the signs of both slots
signed : (c : After-sign_slot-2) → let a = c.args in
    BothSigned (lent_table a.coefficient a.monomial a.terms a.board.variables) (sets_of a.board) c.sign_slot-2.new.sign (variable_slot a.i)
    (atom_slot a.atoms.number a.j)
signed c =
    let a = c.args in
    let (forms, (places, (low, listed))) = c.requires in
    both-signed {t = lent_table a.coefficient a.monomial a.terms a.board.variables} a.sign.now (variable_slot a.i) (atom_slot a.atoms.number a.j) forms places
    (omega (arith, forms.variables)) (omega arith) c.sign_slot.ensures c.sign_slot-2.ensures

pub deduce_alone-requires : goal.deduce_alone-requires
deduce_alone-requires c =
    let a = c.args in
    let t = lent_table a.coefficient a.monomial a.terms a.board.variables in
    let (forms, (places, (low, listed))) = c.requires in
    let p = c.places-p.ensures in
    let q = c.places-q.ensures in
    let both = signed (goal.at.deduce_alone-requires c).After-sign_slot-2 in
    let own = within (run-held {t = t} (variable_slot a.i) forms both.places (omega (arith, forms.variables)) p.0 p.1 both.first) in
    let its = within (run-held {t = t} (atom_slot a.atoms.number a.j) forms both.places (omega arith) q.0 q.1 both.second) in
    let counts = forms.counts in
    search (rules, own, its, counts)

pub returns : goal.returns
returns c = λ none.
    let a = c.args in
    let t = lent_table a.coefficient a.monomial a.terms a.board.variables in
    let (forms, (places, (low, listed))) = c.requires in
    let p = c.places-p.ensures in
    let q = c.places-q.ensures in
    let both = signed (goal.at.returns c).After-sign_slot-2 in
    let own = run-held {t = t} (variable_slot a.i) forms both.places (omega (arith, forms.variables)) p.0 p.1 both.first in
    let its = run-held {t = t} (atom_slot a.atoms.number a.j) forms both.places (omega arith) q.0 q.1 both.second in
    c.deduce_alone.ensures.on own.signed its.signed none
    ∙ ap₂ (λ (x y : Polynomial). deduce_of (sets_of a.board) x (record { polynomial = y; set = get_or a.atoms.set a.j 0 }))
    (run-form t (variable_slot a.i) p.0 p.1 ∙ forms.each_variable a.i low)
    (run-form t (atom_slot a.atoms.number a.j) q.0 q.1)
