-- Where the bound is no more than the largest number, neither is the number of the rounds.
use Rattle.std.proofs.lemmas.Bool.{not-true, not-false}
use Rattle.std.proofs.Common.{◌≡◌, ℕ, ◌+◌, ◌*◌, ◌∙◌, max, refl, sym, ap, arith}
use lib.ListN.{length-replicate}
use Rattle.rules.specs.Rounds.{enough}
use Rattle.count_laws.specs.Boards.{turned_rounds}
use Rattle.terms.specs.View.{sets_of}
use Rattle.table.specs.Table.{atoms_of}
use Rattle.round.specs.Views.{lent_table, state_of}
use Rattle.round.specs.Over.{ready-over}
use Rattle.round.specs.SignedSlots.{list-ready, form-slots}
use Rattle.rounds.specs.Turned.{TurnedOn}
use Rattle.rounds.proofs.Ends.{enough-is}
use Rattle.rounds.proofs.Standing.{bounded-over, turned-on-over, stand-first, left-by-bound, stand-rest, stand-on, stand-last, stand-left}
use Rattle.rounds.proofs.turned.turned_largest.Goals as goal
use Rattle.rounds.proofs.turned.turned_largest.Goals.{After-many, After-turned_round-onward}

pub returns-then-within : goal.returns-then-within
returns-then-within c =
    let t = lent_table c.args.coefficient c.args.monomial c.args.terms c.args.start.board.variables in
    left-by-bound c.requires.1.0 c.args.before (c.within.ensures c.if-within.true) (enough (state_of t c.args.start))

pub sign_list-requires : goal.sign_list-requires
sign_list-requires c = (form-slots c.requires.0 (length-replicate {A = ℕ} 1280 0), c.requires.0.variables)

pub loop-ended-init : goal.loop-ended-init
loop-ended-init c =
    let st = c.args.start in
    let t = lent_table c.args.coefficient c.args.monomial c.args.terms st.board.variables in
    stand-first _ refl (rw c.sign_list.ensures (list-ready {t = t} st.board st.atoms _ c.requires.0 refl (length-replicate {A = ℕ} 1280 0))) c.requires.1.0

pub turned_round-onward-requires : goal.turned_round-onward-requires
turned_round-onward-requires c =
    let s = c.loop-ended.invariant in (ready-over _ _ _ (sym s.variables) s.ready, bounded-over _ _ _ (sym s.variables) s.bounded)

-- where the next round begins
onward : (c : After-turned_round-onward)
    → TurnedOn (lent_table c.args.coefficient c.args.monomial c.args.terms c.args.start.board.variables) c.args.start.atoms c.loop-ended.stood c.args.floor
    c.turned_round-onward.result c.turned_round-onward.new.sign
onward c = turned-on-over _ _ _ c.loop-ended.invariant.variables c.turned_round-onward.ensures

-- the number of the rounds that are enough
enough-of : (c : After-many) →
    let a = c.args in
    let n = a.start.board.variables in
    let t = lent_table a.coefficient a.monomial a.terms n in
    max a.largest (a.before + turned_rounds n (atoms_of t a.start.atoms) (2 * (n + c.many.result) + 1) (sets_of a.start.board))
    ≡ max a.largest (a.before + turned_rounds n (atoms_of t a.start.atoms) (enough (state_of t a.start)) (sets_of a.start.board))
enough-of c =
    let a = c.args in
    let n = a.start.board.variables in
    let t = lent_table a.coefficient a.monomial a.terms n in
    ap (λ (k : ℕ). max a.largest (a.before + turned_rounds n (atoms_of t a.start.atoms) k (sets_of a.start.board)))
    (enough-is t a.start _ c.requires.0.variables c.many.ensures)

pub returns-then-not-onward : goal.returns-then-not-onward
returns-then-not-onward c =
    let at = goal.at.returns-then-not-onward c in
    let rest = stand-rest c.loop-ended.invariant c.loop-ended-test.true (onward at.After-turned_round-onward) (not-true _ c.if-not-onward.true) in
    c.larger.ensures ∙ ap (max c.args.largest) (omega (arith, rest)) ∙ enough-of at.After-many

pub within-requires-in-loop-ended : goal.within-requires-in-loop-ended
within-requires-in-loop-ended c = omega (arith, c.requires.1.1, c.requires.0.variables, c.many.ensures, c.loop-ended-test.true)

pub returns-then-within-2 : goal.returns-then-within-2
returns-then-within-2 c =
    let at = goal.at.returns-then-within-2 c in
    let a = c.args in
    let on = stand-on c.loop-ended.invariant c.loop-ended-test.true (onward at.After-turned_round-onward) (not-false _ c.if-not-onward.false) in
    let bound = c.within-in-loop-ended.ensures c.if-within-2.true in
    stand-left on a.before (omega (arith, bound)) ∙ enough-of at.After-many

pub loop-ended-preserved : goal.loop-ended-preserved
loop-ended-preserved c =
    stand-on c.loop-ended.invariant c.loop-ended-test.true (onward (goal.at.loop-ended-preserved c).After-turned_round-onward) (not-false _ c.if-not-onward.false)

pub returns : goal.returns
returns c =
    let last = stand-last c.loop-ended.invariant (omega arith) in
    c.larger-2.ensures ∙ ap (λ (k : ℕ). max c.args.largest (c.args.before + k)) last ∙ enough-of (goal.at.returns c).After-many
