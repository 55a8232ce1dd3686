-- `remove_implied` meets its contract: the signs of the state's atoms and of the list's are there, and the words of the state's; the test first
-- changes nothing.
use Rattle.std.proofs.Common.{◌≡◌, ℕ, List, length}
use Rattle.std.proofs.lemmas.List.{length-replicate}
use Rattle.rules.specs.Signs.{SignSet}
use Rattle.terms.specs.declared.Board.{Board}
use Rattle.terms.specs.View.{sets_of}
use Rattle.table.specs.declared.Atoms.{Atoms}
use Rattle.table.specs.Table.{Table, Forms}
use Rattle.round.specs.Signing.{signed_list, Ready}
use Rattle.round.specs.SignedSlots.{list-ready, list-keeps, form-slots}
use Rattle.settled.proofs.TestFirst.{test-first, count-first}
use Rattle.settled.proofs.removal.remove_implied.Goals as goal

-- those of one list and then those of another: both are there
both-ready : {t : Table} (b : Board) (a list : Atoms) (ss : List SignSet) {first second : List SignSet} → Forms t
    → b.variables ≡ t.variables → length ss ≡ 1280
    → first ≡ signed_list b t.monomial t.terms a ss → second ≡ signed_list b t.monomial t.terms list first
    → Ready t (sets_of b) a second × Ready t (sets_of b) list second
both-ready b a list ss forms same places e f =
    let one = list-ready b a ss forms same places in
    rw (f, e) (list-keeps b list same one, list-ready b list _ forms same one.places)

pub words_of-falls-requires : goal.words_of-falls-requires
words_of-falls-requires c =
    let (forms, from) = c.requires in
    let (ready, listed) = both-ready c.args.state.board c.args.state.atoms c.args.list _ forms from.variables (length-replicate {A = ℕ} 1280 0) c.sign_list.ensures c.sign_list-2.ensures in
    (form-slots ready.forms ready.places, (ready.forms.coefficients, (length-replicate {A = ℕ} 128 0, length-replicate {A = ℕ} 130 0)))

pub remove-requires-clause-ready_carried : goal.remove-requires-clause-ready_carried
remove-requires-clause-ready_carried c =
    let (forms, from) = c.requires in
    let (ready, listed) = both-ready c.args.state.board c.args.state.atoms c.args.list _ forms from.variables (length-replicate {A = ℕ} 1280 0) c.sign_list.ensures c.sign_list-2.ensures in
    (ready, from)

pub remove-requires-clause-list_ready : goal.remove-requires-clause-list_ready
remove-requires-clause-list_ready c =
    let (forms, from) = c.requires in
    let (ready, listed) = both-ready c.args.state.board c.args.state.atoms c.args.list _ forms from.variables (length-replicate {A = ℕ} 1280 0) c.sign_list.ensures c.sign_list-2.ensures in
    listed

pub returns : goal.returns
returns c = (test-first c.requires.1 c.remove.ensures.0, count-first c.args.list c.args.largest c.requires.1 c.remove.ensures.1)
