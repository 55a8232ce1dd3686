-- `marked` meets its contract: a mark is stored where a set has changed and none is there of a round up to this one.
use borrow.Author.Rules.{rules}
use mathlib.Core.Path.{◌≡◌, sym, ◌∙◌}
use native.Mathlib.Omega.{arith}
use lib.ListN.{length}
use Rattle.common_run.proofs.Marking.{not-changed, marked-before, marked-now}
use Rattle.common_run.proofs.marks.marked.Statement.{statement}
use Rattle.common_run.proofs.marks.marked.Tie as tie

returns-3 : tie.Need-returns
returns-3 c =
    let s = c.before.before.before.before in
    let sixty-four : length s.args.marks.first ≡ 64 = search rules in
    marked-now _ _ _ _ _ (omega (arith, s.requires.0)) s.requires.1 (sym c.before.noted.ensures ∙ c.if-noted.false)

pub marked_spec : {M : Type 1} → statement M
marked_spec =
    tie.close
    (tie.spec (λ c. not-changed _ _ _ _ _ c.if-before-after.true) (λ c. search rules) (λ c κs. search rules)
    (λ c. marked-before _ _ _ _ _ (sym c.before.noted.ensures ∙ c.if-noted.true)) (λ c. search rules) returns-3)
