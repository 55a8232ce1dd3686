-- `implies` meets its contract: what the atoms say is what their fresh run leaves to say, with the signs of its board.
use borrow.Author.Rules.{rules}
use mathlib.Core.Path.{◌≡◌, sym, ◌∙◌, ap, ap₂, subst}
use mathlib.Core.List.{List}
use Prim.Native.Nat.{ℕ, ◌<◌}
use native.Mathlib.Omega.{arith}
use lib.ListN.{length}
use Rattle.rules.specs.Signs.{inside as inside_of}
use Rattle.rules.specs.Polynomial.{Atom}
use Rattle.rules.specs.Rounds.{run, says_in}
use Rattle.terms.specs.View.{sets_of}
use Rattle.table.specs.Table.{Table, form_at}
use Rattle.round.specs.Views.{lent_table, state_of}
use Rattle.round.specs.SignedSlots.{form-slots, table-signed, table-ready}
use Rattle.round.specs.Signing.{SignedTable}
use Rattle.rounds.specs.Afresh.{AfreshFrom}
use Rattle.settled.specs.Ends.{ends-settled}
use Rattle.tape.specs.Token.{atom_of}
use Rattle.tape.specs.Listing.{row-long}
use Rattle.leaving.proofs.Less.{implied-by-contradiction, implied-by-state}
use Rattle.leaving.proofs.implies.Statement.{statement}
use Rattle.leaving.proofs.implies.Tie as tie

abbrev table : tie.Start → Table
table s = lent_table s.args.coefficient s.args.monomial s.args.terms s.args.variables

atoms-in-requires : tie.Need-atoms_in-atoms-requires
atoms-in-requires c κs = let h = c.requires.1 in (row-long h.lists, omega (arith, h.lists.size, h.few))

afresh-requires : tie.Need-afresh-fresh-requires
afresh-requires c κs =
    let s = c.before.before.before.before.before.before in
    let h = s.requires.1 in
    (s.requires.0, subst (λ (m : List Atom). AfreshFrom (table s) s.args.state m) (sym (c.atoms_in-atoms.ensures.1 (table s) h.tokens h.lists)) h.afresh)

sign-table-requires : tie.Need-sign_table-requires
sign-table-requires c κs = form-slots {t = table c.before.before.before.before.before.before.before.before.before.before.before.before} c.requires.0 (search rules)

says-inside-requires : tie.Need-says_inside-requires
says-inside-requires c κs =
    let s = c.before.before.before.before.before.before.before.before.before.before.before.before.before.before.before.before.before in
    let t = table s in
    let forms = s.requires.0 in
    let worked-out = c.sign_table in
    let low : c.slot_of.result < 64 = omega (arith, c.slot_of.ensures) in
    let places : length worked-out.new.sign ≡ 1280 = search rules in
    let ran = c.afresh-fresh in
    let settled = ends-settled s.args.variables _ ran.ensures.outcome c.if-ran.false in
    let signed : SignedTable t (sets_of ran.result.ran.state.board) worked-out.new.sign = rw worked-out.ensures (table-signed _ _ forms (search rules)) in
    ((table-ready ran.result.ran.state.atoms forms places signed, (ran.ensures.variables, low)), (signed _ (omega (arith, low)), settled))

returns : tie.Need-returns-then-ran
returns c l h =
    let s = c.before.before.before.before.before.before.before.before.before in
    implied-by-contradiction (table s) _ c.afresh-fresh.result.ran (c.afresh-fresh.ensures.outcome ∙ ap (run s.args.variables) (c.atoms_in-atoms.ensures.1 (table s) l h)) _ c.if-ran.true

returns-2 : tie.Need-returns
unfolding atom_of
returns-2 c l h =
    let s = c.before.before.before.before.before.before.before.before.before.before.before.before.before.before.before.before.before.before in
    let afresh = c.afresh-fresh in
    let ran = afresh.result.ran in
    let said = ap (λ (k : ℕ). says_in s.args.variables (state_of (table s) ran.state) (form_at (table s) k)) c.slot_of.ensures in
    c.says_inside.ensures ∙ ap₂ inside_of said c.set_of.ensures
    ∙ implied-by-state (table s) _ ran (afresh.ensures.outcome ∙ ap (run s.args.variables) (c.atoms_in-atoms.ensures.1 (table s) l h)) _ c.if-ran.false

pub implies_spec : {M : Type 1} → statement M
implies_spec =
    tie.close
    (tie.spec (λ c. search rules) atoms-in-requires (λ c κs. search rules) afresh-requires returns (λ c. search rules) sign-table-requires (λ c. search rules)
    (λ c κs. search rules) (λ c κs. search rules) says-inside-requires returns-2)
