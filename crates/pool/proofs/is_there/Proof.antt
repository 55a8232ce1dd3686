-- `is_there` meets its contract.
use borrow.Author.Rules.{rules}
use borrow.Author.Tests.{lt-ltb, le-ltb}
use mathlib.Core.Path.{sym, ap, ◌∙◌}
use mathlib.Core.Bool.{Bool, false, ◌&&◌}
use lib.ListN.{get_or}
use Rattle.pool.specs.Marks.{marks}
use Rattle.pool.proofs.is_there.Statement.{statement}
use Rattle.pool.proofs.is_there.Tie as tie

returns : tie.Need-returns-then-number-lt32
returns c =
    let a = c.args in
    c.mark.ensures ∙ sym (ap (λ (b : Bool). b && get_or (marks 32 a.present) a.number false) (lt-ltb a.number 32 c.if-number-lt32.true))

returns-2 : tie.Need-returns
returns-2 c =
    let a = c.args in
    sym (ap (λ (b : Bool). b && get_or (marks 32 a.present) a.number false) (le-ltb a.number 32 c.if-number-lt32.false))

pub is_there_spec : {M : Type 1} → statement M
is_there_spec = tie.close (tie.spec (λ c κs. search rules) returns returns-2)
