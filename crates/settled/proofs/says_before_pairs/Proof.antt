-- `says_before_pairs` meets its contract: what is held, cut by the sign by terms and by all deductions.
use borrow.Author.Rules.{rules}
use mathlib.Core.Path.{sym, ◌∙◌}
use native.Mathlib.Nat.{sub-zero}
use native.Mathlib.Omega.{arith}
use Rattle.terms.specs.View.{sets_of}
use Rattle.terms.specs.Signed.{Held}
use Rattle.table.specs.Table.{Table}
use Rattle.round.specs.Views.{lent_table}
use Rattle.round.specs.SignedSlots.{run-held}
use Rattle.round.specs.Over.{below-over, ready-over, cut-by-over}
use Rattle.round.specs.Walks.{by-terms-at}
use Rattle.settled.specs.Others.{says_before_pairs}
use Rattle.settled.proofs.says_before_pairs.Statement.{statement}
use Rattle.settled.proofs.says_before_pairs.Tie as tie

abbrev table : tie.Start → Table
table s = lent_table s.args.coefficient s.args.monomial s.args.terms s.args.variables

-- the places of the slot, with the board's signs
held_at : (c : tie.After-places-run) →
    let s = c.before.before.before.before.before.before.before.before in
    let a = s.args in
    let run = c.places-run.result in
    Held (sets_of a.state.board) a.coefficient.now a.monomial.now a.sign.now run.from run.to
held_at c =
    let s = c.before.before.before.before.before.before.before.before in
    let ready = s.requires.0.0 in
    let p = c.places-run.ensures in
    run-held {t = table s} s.args.number ready.forms ready.places (omega (arith, s.requires.0.1.1)) p.0 p.1 s.requires.1

held-requires : tie.Need-held-requires
held-requires c κs =
    let s = c.before.before.before.before.before.before.before.before.before in
    let (same, low) = s.requires.0.1 in
    (low, (omega (arith, s.requires.0.0.forms.variables), below-over (sym same) c.before.before.which-holds.result c.before.before.which-holds.ensures.1))

cut-by-requires : tie.Need-cut_by-requires
cut-by-requires c κs =
    let s = c.before.before.before.before.before.before.before.before.before.before.before in
    let (same, low) = s.requires.0.1 in
    (ready-over _ _ _ (sym same) s.requires.0.0, (omega (arith, c.before.before.before.before.before.many-end.ensures), (omega arith, s.requires.1)))

returns : tie.Need-returns
unfolding says_before_pairs
returns c =
    let s = c.before.before.before.before.before.before.before.before.before.before.before.before in
    let number = s.args.number in
    let many = c.before.before.before.before.before.before.many-end in
    let which = c.before.before.before.before.before.which-holds in
    let places = c.before.before.before.before.places-run.ensures in
    let by = by-terms-at (table s) number c.before.before.before.by_terms-by.ensures places.0 places.1 (held_at c.before.before.before.before) in
    let held = c.before.before.held.ensures (table s) s.requires.0.0.forms in
    cut-by-over _ _ _ s.requires.0.1.0 (sets_of s.args.state.board) number s.args.state.atoms _ _ _ c.cut_by.ensures
    ∙ rw (c.before.intersect-own.ensures, held, which.ensures.0, by, many.ensures, sub-zero)

pub says_before_pairs_spec : {M : Type 1} → statement M
says_before_pairs_spec =
    tie.close
    (tie.spec (λ c κs. search rules) (λ c κs. search rules) (λ c κs. search rules) (λ c κs. ((held_at c).coefficients, (held_at c).signs)) held-requires
    (λ c κs. search rules) cut-by-requires returns)
