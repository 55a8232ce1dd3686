-- `search_atoms` meets its contract: of less than three atoms no two are others than one of them.
use borrow.Author.Rules.{rules}
use mathlib.Core.Path.{refl}
use Rattle.table.specs.Table.{Table}
use Rattle.round.specs.Views.{lent_table}
use Rattle.round.specs.SignedSlots.{form-slots}
use Rattle.search.proofs.Nothing.{no-pair-of-others}
use Rattle.search.proofs.atoms.search_atoms.Statement.{statement}
use Rattle.search.proofs.atoms.search_atoms.Tie as tie

abbrev table : tie.Start → Table
table s = lent_table s.args.coefficient s.args.monomial s.args.terms s.args.board.variables

returns : tie.Need-returns-then-atoms-lt3
returns c =
    let s = c.before.before.before.before.before in
    no-pair-of-others (table s) s.args.board s.args.atoms c.if-atoms-lt3.true

words-of-requires : tie.Need-words_of-falls-requires
words-of-requires c κs =
    let s = c.before.before.before.before.before.before.before in
    let (ready, filled) = s.requires in
    (form-slots ready.forms ready.places, (ready.forms.coefficients, (refl, refl)))

search-atoms-by-requires : tie.Need-search_atoms_by-requires
search-atoms-by-requires c κs =
    let s = c.before.before.before.before.before.before.before.before.before.before.before.before in
    (s.requires, c.before.before.before.before.words_of-falls.ensures)

pub search_atoms_spec : {M : Type 1} → statement M
search_atoms_spec =
    tie.close
    (tie.spec returns (λ c. search rules) (λ c. search rules) words-of-requires (λ c. search rules) (λ c. search rules) search-atoms-by-requires
    (λ c. c.search_atoms_by.ensures))
