-- `said_before_pairs` meets its contract: the sign by terms, cut by the deductions from all of the atoms.
use borrow.Author.Rules.{rules}
use mathlib.Core.Path.{sym, ◌∙◌}
use native.Mathlib.Nat.{sub-zero}
use native.Mathlib.Omega.{arith}
use Rattle.terms.specs.View.{sets_of}
use Rattle.terms.specs.Signed.{Held}
use Rattle.table.specs.Table.{Table}
use Rattle.round.specs.Views.{lent_table}
use Rattle.round.specs.SignedSlots.{run-held}
use Rattle.round.specs.Over.{ready-over, cut-by-over}
use Rattle.round.specs.Walks.{by-terms-at}
use Rattle.settled.specs.Others.{said_before_pairs}
use Rattle.settled.proofs.staying.said_before_pairs.Statement.{statement}
use Rattle.settled.proofs.staying.said_before_pairs.Tie as tie

abbrev table : tie.Start → Table
table s = lent_table s.args.coefficient s.args.monomial s.args.terms s.args.variables

-- the places of the slot, with the board's signs
held_at : (c : tie.After-places-run) →
    let a = c.before.before.before.before.before.args in
    let run = c.places-run.result in
    Held (sets_of a.board) a.coefficient.now a.monomial.now a.sign.now run.from run.to
held_at c =
    let s = c.before.before.before.before.before in
    let (ready, (same, low)) = s.requires.0 in
    let p = c.places-run.ensures in
    run-held {t = table s} s.args.number ready.forms ready.places (omega arith) p.0 p.1 s.requires.1

cut-by-requires : tie.Need-cut_by-requires
cut-by-requires c κs =
    let s = c.before.before.before.before.before.before in
    let (ready, (same, low)) = s.requires.0 in
    (ready-over _ _ _ (sym same) ready, (omega (arith, c.before.before.many-end.ensures), (omega arith, s.requires.1)))

returns : tie.Need-returns
unfolding said_before_pairs
returns c =
    let s = c.before.before.before.before.before.before.before in
    let number = s.args.number in
    let places = c.before.before.places-run.ensures in
    let by = by-terms-at (table s) number c.before.by_terms-by.ensures places.0 places.1 (held_at c.before.before) in
    cut-by-over _ _ _ s.requires.0.1.0 (sets_of s.args.board) number s.args.others _ _ _ c.cut_by.ensures
    ∙ rw (by, c.before.before.before.many-end.ensures, sub-zero)

pub said_before_pairs_spec : {M : Type 1} → statement M
said_before_pairs_spec =
    tie.close
    (tie.spec (λ c κs. search rules) (λ c κs. search rules) (λ c κs. ((held_at c).coefficients, (held_at c).signs)) cut-by-requires returns)
