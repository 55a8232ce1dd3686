-- `search_board` meets its contract: without a pair, and where each variable has its floor's set, nothing is found.
use borrow.Author.Rules.{rules}
use mathlib.Core.Path.{refl}
use Rattle.table.specs.Table.{Table}
use Rattle.round.specs.Views.{lent_table}
use Rattle.round.specs.SignedSlots.{form-slots}
use Rattle.search.proofs.Nothing.{no-pair, all-at-floor}
use Rattle.search.proofs.variables.search_board.Statement.{statement}
use Rattle.search.proofs.variables.search_board.Tie as tie

abbrev table : tie.Start → Table
table s = lent_table s.args.coefficient s.args.monomial s.args.terms s.args.board.variables

returns : tie.Need-returns-then-atoms-lt2
returns c =
    let s = c.before.before.before.before.before in
    no-pair (table s) s.args.board s.args.atoms c.if-atoms-lt2.true

returns-2 : tie.Need-returns-then-not-above
returns-2 c =
    let s = c.before.before.before.before.before.before.before in
    let (idle, same) = s.requires.1 in
    all-at-floor s.args.board s.args.floor s.requires.0.0.forms.variables same (table s) s.args.atoms refl idle
    (c.above.ensures c.if-not-above.true)

words-of-requires : tie.Need-words_of-falls-requires
words-of-requires c κs =
    let s = c in
    let (ready, filled) = s.requires.0 in
    (form-slots ready.forms ready.places, (ready.forms.coefficients, (refl, refl)))

search-board-by-requires : tie.Need-search_board_by-requires
search-board-by-requires c κs =
    let s = c in
    (s.requires.0, (s.requires.1, c.words_of-falls.ensures))

pub search_board_spec : {M : Type 1} → statement M
search_board_spec =
    tie.close
    (tie.spec returns (λ c κs. search rules) returns-2 (λ c. search rules) (λ c. search rules) words-of-requires (λ c. search rules)
    (λ c. search rules) search-board-by-requires (λ c. c.search_board_by.ensures))
