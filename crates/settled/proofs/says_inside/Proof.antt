-- `says_inside` meets its contract: what lies inside before the pairs stays there; any other is cut by those of the others, where they matter.
use borrow.Author.Rules.{rules}
use mathlib.Core.Path.{sym, ◌∙◌, ap}
use Prim.Native.Nat.{ℕ}
use lib.ListN.{length-replicate}
use Rattle.rules.specs.Signs.{SignSet}
use Rattle.rules.specs.Signs.{inside as inside_of}
use Rattle.table.specs.Table.{Table, form_at}
use Rattle.round.specs.Views.{lent_table, state_of}
use Rattle.round.specs.SignedSlots.{form-slots}
use Rattle.settled.proofs.ByPairs.{stays-inside, settled-board, says-by-pairs, says-low}
use Rattle.settled.proofs.says_inside.Statement.{statement}
use Rattle.settled.proofs.says_inside.Tie as tie

abbrev table : tie.Start → Table
table s = lent_table s.args.coefficient s.args.monomial s.args.terms s.args.variables

says-before-pairs-requires : tie.Need-says_before_pairs-said-requires
says-before-pairs-requires c κs = let s = c.before.before.before.before.before in (s.requires.0, s.requires.1.0)

-- it lies inside already
returns : tie.Need-returns-then-inside
returns c =
    let s = c.before.before.before.before.before.before.before.before in
    let t = table s in
    let said = c.before.before.says_before_pairs-said.ensures in
    let stays = stays-inside _ s.args.bound.0 _ (sym c.before.inside.ensures ∙ c.if-inside.true) in
    sym stays
    ∙ ap (λ (x : SignSet). inside_of x s.args.bound.0)
    (says-by-pairs s.args.variables (state_of t s.args.state) (form_at t s.args.number) said)

pairs-matter-requires : tie.Need-pairs_matter-requires
pairs-matter-requires c κs =
    let (ready, (same, low)) = c.before.before.before.before.before.before.before.before.before.requires.0 in
    (ready.forms, (low, c.other_than-others.ensures))

words-of-requires : tie.Need-words_of-falls-requires
words-of-requires c κs =
    let ready = c.before.before.before.before.before.before.before.before.before.before.before.before.before.requires.0.0 in
    (form-slots ready.forms ready.places, (ready.forms.coefficients, (length-replicate {A = ℕ} 128 0, length-replicate {A = ℕ} 130 0)))

lies-inside-requires : tie.Need-lies_inside-requires
lies-inside-requires c κs =
    let said = c.before.before.before.before.before.before.before.before.before.before.before.before in
    let s = said.before.before.before.before.before.before in
    let (own, settled) = s.requires.1 in
    let words = c.before.before.before.before.words_of-falls.ensures in
    (s.requires.0, ((own, settled-board settled), (words, rw said.says_before_pairs-said.ensures (says-low _ _ _))))

returns-2 : tie.Need-returns-then-pairs_matter
returns-2 c =
    let said = c.before.before.before.before.before.before.before.before.before.before.before.before.before in
    let s = said.before.before.before.before.before.before in
    let t = table s in
    c.lies_inside.ensures
    ∙ ap (λ (x : SignSet). inside_of x s.args.bound.0)
    (says-by-pairs s.args.variables (state_of t s.args.state) (form_at t s.args.number) said.says_before_pairs-said.ensures)

returns-3 : tie.Need-returns
returns-3 c =
    let s = c.before.before.before.before.before.before.before.before.before.before.before in
    let idle = c.before.pairs_matter.ensures.idle c.if-pairs_matter.false s.requires.1.1 in
    sym c.before.before.before.if-inside.false ∙ c.before.before.before.before.inside.ensures
    ∙ ap (λ (x : SignSet). inside_of x s.args.bound.0) (c.before.before.before.before.before.says_before_pairs-said.ensures ∙ sym idle)

pub says_inside_spec : {M : Type 1} → statement M
says_inside_spec =
    tie.close
    (tie.spec says-before-pairs-requires (λ c κs. search rules) returns (λ c κs. search rules) pairs-matter-requires (λ c. search rules)
    (λ c. search rules) words-of-requires (λ c. search rules) (λ c. search rules) lies-inside-requires returns-2 returns-3)
