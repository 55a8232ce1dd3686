-- `is-open` meets its contract.
use borrow.Author.Rules.{rules}
use borrow.Author.Tests.{lt-ltb, le-ltb}
use mathlib.Core.Path.{sym, ap, ◌∙◌}
use mathlib.Core.Bool.{Bool, false, not, ◌&&◌}
use lib.ListN.{get_or}
use Rattle.pool.specs.Marks.{marks}
use Rattle.pool.proofs.is_open.Statement.{statement}
use Rattle.pool.proofs.is_open.Tie as tie

returns : tie.Need-returns-then-number-lt32
returns c =
    let a = c.args in
    ap not c.mark.ensures
    ∙ sym (ap (λ (b : Bool). b && not (get_or (marks 32 a.present) a.number false)) (lt-ltb a.number 32 c.if-number-lt32.true))

returns-2 : tie.Need-returns
returns-2 c =
    let a = c.args in
    sym (ap (λ (b : Bool). b && not (get_or (marks 32 a.present) a.number false)) (le-ltb a.number 32 c.if-number-lt32.false))

pub is_open_spec : {M : Type 1} → statement M
is_open_spec = tie.close (tie.spec (λ c κs. search rules) returns returns-2)
