-- `implied` meets its contract: what the others say is what their run leaves to say, with the signs of its board.
use borrow.Author.Rules.{rules}
use mathlib.Core.Path.{◌∙◌}
use Prim.Native.Nat.{ℕ}
use native.Mathlib.Omega.{arith}
use lib.ListN.{length-replicate}
use Rattle.table.specs.Table.{Table}
use Rattle.round.specs.Views.{lent_table}
use Rattle.round.specs.SignedSlots.{list-ready, slot-ready, slot-there, form-slots}
use Rattle.settled.specs.Ends.{ends-settled}
use Rattle.settled.proofs.Removing.{implied-by-contradiction, implied-by-state}
use Rattle.settled.proofs.removal.implied.Statement.{statement}
use Rattle.settled.proofs.removal.implied.Tie as tie

abbrev table : tie.Start → Table
table s = lent_table s.args.coefficient s.args.monomial s.args.terms s.args.variables

says-inside-requires : tie.Need-says_inside-yes-requires
says-inside-requires c κs =
    let s = c.before.before.before.before.before.before.before.before.before.before.before.before.before.before.before.before in
    let (forms, (low, from)) = s.requires in
    let r = c.before.before.before.before.before.before.before.before.before.before.before.before.before.afresh-fresh in
    let st = r.result.ran.state in
    let number = s.args.number in
    let settled = ends-settled s.args.variables _ r.ensures.outcome
    c.before.before.before.before.before.before.before.before.before.before.if-ran.false in
    let listed = list-ready {t = table s} st.board st.atoms _ forms r.ensures.variables (length-replicate {A = ℕ} 1280 0) in
    rw (c.before.before.sign_slot.ensures, c.before.before.before.before.before.sign_list.ensures) (
      (slot-ready number (omega arith) listed, (r.ensures.variables, low)),
      (slot-there _ _ _ (form-slots forms listed.places) number (omega arith), settled),
    )

returns : tie.Need-returns-then-ran
returns c =
    let s = c.before.before.before.before.before.before.before in
    let r = c.before.before.before.before.afresh-fresh in
    c.inside.ensures ∙ implied-by-contradiction (table s) _ _ r.result.ran r.ensures.outcome c.before.if-ran.true

returns-2 : tie.Need-returns
returns-2 c =
    let s = c.before.before.before.before.before.before.before.before.before.before.before.before.before.before.before.before.before in
    let r = c.before.before.before.before.before.before.before.before.before.before.before.before.before.before.afresh-fresh in
    let settled = c.before.before.before.before.before.before.before.before.before.before.before.if-ran.false in
    c.says_inside-yes.ensures ∙ implied-by-state (table s) _ _ r.result.ran r.ensures.outcome settled

pub implied_spec : {M : Type 1} → statement M
implied_spec =
    tie.close
    (tie.spec (λ c κs. search rules) (λ c κs. search rules) returns (λ c. search rules) (λ c κs. search rules) (λ c. search rules) (λ c κs. search rules)
    (λ c. search rules) says-inside-requires returns-2)
