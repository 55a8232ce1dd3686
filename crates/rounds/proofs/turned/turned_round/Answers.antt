-- The board that the turns left, if they changed it, and else what a pair finds on it.
use Rattle.std.proofs.Common.{◌≡◌, ◌∙◌, sym, rules}
use Rattle.rules.specs.Rounds.{same_sets}
use Rattle.terms.specs.View.{sets_of}
use Rattle.round.specs.Views.{lent_table}
use Rattle.round.specs.Over.{ready-over}
use Rattle.round.specs.SignedSlots.{list-ready, form-slots}
use Rattle.rounds.specs.Afresh.{afresh-filled}
use Rattle.rounds.proofs.Standing.{same-is, bounded-over, searched-over, turned-bounded, turned-changed, turned-searched}
use Rattle.rounds.proofs.turned.turned_round.Goals as goal
use Rattle.rounds.proofs.turned.turned_round.Goals.{After-same_sets}

pub after_turns-next-requires : goal.after_turns-next-requires
after_turns-next-requires c = (c.requires.0, (c.requires.1.above.variables, c.requires.1.turns _ c.requires.1.above.afresh.boards))

-- whether the turns left every set
same : (c : After-same_sets) → c.same_sets.result ≡ same_sets (sets_of c.args.board) (sets_of c.after_turns-next.result)
same c =
    let after = c.after_turns-next in
    same-is c.args.board after.result after.ensures.variables c.few.ensures c.same_sets.ensures

pub returns-then-not-same_sets : goal.returns-then-not-same_sets
returns-then-not-same_sets c =
    turned-changed c.requires.1 c.after_turns-next.ensures (sym (same (goal.at.returns-then-not-same_sets c).After-same_sets) ∙ c.if-not-same_sets.true)

pub search_board-searched-requires : goal.search_board-searched-requires
search_board-searched-requires c =
    let after = c.after_turns-next in
    let own = sym after.ensures.variables in
    let above = (bounded-over _ _ _ own (turned-bounded c.requires.1 after.ensures)).above in
    let ready = ready-over _ _ _ own after.ensures.ready in
    let every = afresh-filled above.afresh in
    let pairs = above.pairs _ above.afresh.boards in
    let variables = above.variables in
    search (rules, ready, every, pairs, variables)

pub sign_list-requires : goal.sign_list-requires
sign_list-requires c =
    let a = c.args in
    let forms = c.requires.0.forms in
    let after = c.after_turns-next in (
      form-slots {t = lent_table a.coefficient a.monomial a.terms a.board.variables} forms after.ensures.ready.places,
      rw (c.search_board-searched.ensures.variables ∙ after.ensures.variables) forms.variables,
    )

pub returns : goal.returns
returns c =
    let a = c.args in
    let t = lent_table a.coefficient a.monomial a.terms a.board.variables in
    let after = c.after_turns-next in
    let searched = searched-over _ _ _ after.ensures.variables c.search_board-searched.ensures in
    turned-searched c.requires.1 after.ensures (sym (same (goal.at.returns c).After-same_sets) ∙ c.if-not-same_sets.false) searched
    (rw c.sign_list.ensures (list-ready {t = t} c.search_board-searched.result.board a.atoms _ c.requires.0.forms
    (searched.variables ∙ after.ensures.variables) after.ensures.ready.places))
