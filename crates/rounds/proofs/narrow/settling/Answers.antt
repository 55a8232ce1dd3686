use Rattle.std.proofs.Common.{◌∙◌, refl, sym, rules}
use Rattle.std.proofs.lemmas.Bool.{not-true, not-false}
use Rattle.terms.specs.View.{sets_of}
use Rattle.round.specs.Views.{lent_table}
use Rattle.round.specs.Over.{forms-over, ready-over, floor-over}
use Rattle.ahead.specs.Ahead.{Ahead}
use Rattle.search.specs.Search.{SearchedBoard}
use Rattle.rounds.specs.Afresh.{afresh-filled}
use Rattle.rounds.proofs.Standing.{above-over, searched-over}
use Rattle.rounds.proofs.Settling.{ahead-over, narrow-first, narrow-above, narrow-floor, narrow-turns, narrow-found, ends-moving, ends-still, ends-early}
use Rattle.rounds.proofs.narrow.settling.Goals as goal
use Rattle.rounds.proofs.narrow.settling.Goals.{After-ahead-passed, After-search_board-searched}

pub loop-init : goal.loop-init
loop-init c = record { narrowing = narrow-first c.args.atoms c.args.board refl; places = c.requires.forms.1 }

pub ahead-passed-requires : goal.ahead-passed-requires
ahead-passed-requires c =
    let a = c.args in
    let narrowing = c.loop.invariant.narrowing in
    let own = sym narrowing.variables in
    let (above, below) = c.requires.above_floor in (
      forms-over _ _ _ own c.requires.forms.0,
      (
        c.loop.invariant.places,
        (
          above.variables ∙ own,
          floor-over _ _ _ own a.atoms (sets_of c.loop.at) (sets_of a.floor)
              (narrow-floor {t = lent_table a.coefficient a.monomial a.terms a.board.variables} narrowing below),
        ),
      ),
    )

-- the turns
passed : (c : After-ahead-passed)
    → Ahead (lent_table c.args.coefficient c.args.monomial c.args.terms c.args.board.variables) c.args.atoms c.loop.at c.ahead-passed.result c.ahead-passed.new.sign
passed c = ahead-over _ _ _ c.loop.invariant.narrowing.variables c.ahead-passed.ensures

pub returns-then-not-passed : goal.returns-then-not-passed
returns-then-not-passed c =
    ends-moving c.loop.invariant.narrowing (passed (goal.at.returns-then-not-passed c).After-ahead-passed) (not-true _ c.if-not-passed.true)

pub search_board-searched-requires : goal.search_board-searched-requires
search_board-searched-requires c =
    let a = c.args in
    let turned = passed (goal.at.search_board-searched-requires c).After-ahead-passed in
    let own = sym turned.variables in
    let above = above-over _ _ _ own (narrow-above {t = lent_table a.coefficient a.monomial a.terms a.board.variables}
    (narrow-turns c.loop.invariant.narrowing turned) c.requires.above_floor.0) in
    let ready = ready-over _ _ _ own turned.ready in
    let every = afresh-filled above.afresh in
    let pairs = above.pairs _ above.afresh.boards in
    let same = above.variables in
    search (rules, ready, every, pairs, same)

-- the finding
searched : (c : After-search_board-searched)
    → SearchedBoard (lent_table c.args.coefficient c.args.monomial c.args.terms c.args.board.variables) c.ahead-passed.result.board c.args.atoms
    c.search_board-searched.result
searched c = searched-over _ _ _ (c.ahead-passed.ensures.variables ∙ c.loop.invariant.narrowing.variables) c.search_board-searched.ensures

pub returns-then-not-searched : goal.returns-then-not-searched
returns-then-not-searched c =
    let at = goal.at.returns-then-not-searched c in
    ends-still c.loop.invariant.narrowing c.requires.forms.0.variables (passed at.After-ahead-passed) (searched at.After-search_board-searched)
    (not-true _ c.if-not-searched.true)

pub loop-preserved : goal.loop-preserved
loop-preserved c =
    let at = goal.at.loop-preserved c in
    let turned = passed at.After-ahead-passed in
    record {
      narrowing = narrow-found (narrow-turns c.loop.invariant.narrowing turned) c.requires.forms.0.variables (searched at.After-search_board-searched)
          (not-false _ c.if-not-searched.false);
      places = turned.ready.places;
    }

pub returns : goal.returns
returns c = ends-early c.loop.invariant.narrowing refl refl
