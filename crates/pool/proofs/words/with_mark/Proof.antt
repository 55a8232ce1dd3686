-- `with_mark` meets its contract: the mark is there or not, and is added or taken away.
use borrow.Author.Rules.{rules}
use mathlib.Core.Path.{sym, ◌∙◌}
use native.Mathlib.Omega.{arith}
use Rattle.pool.specs.Marks.{mark-small, mark-shifted, mark-kept, mark-given, mark-there, mark-taken}
use Rattle.pool.proofs.words.with_mark.Statement.{statement}
use Rattle.pool.proofs.words.with_mark.Tie as tie

returns : tie.Need-returns-then-on
returns c =
    rw c.if-on.true (mark-kept c.args.word c.args.number c.requires _ (sym c.mark.ensures ∙ c.if-mark.true))

sub-result : tie.Need-overflow_sub-result
sub-result c =
    mark-there c.args.word c.args.number c.requires (sym c.mark.ensures ∙ c.if-mark.true)

returns-2 : tie.Need-returns-then-mark
returns-2 c =
    rw c.if-on.false (mark-taken c.args.word c.args.number c.requires (sym c.mark.ensures ∙ c.if-mark.true))

add-result : tie.Need-overflow_add-result
add-result c =
    rw (mark-shifted c.args.word c.args.number c.requires) (record { fits = omega (arith, mark-small c.args.word c.args.number c.requires) })

returns-3 : tie.Need-returns-then-on-2
returns-3 c =
    rw c.if-on-2.true (mark-given c.args.word c.args.number c.requires (sym c.mark.ensures ∙ c.if-mark.false))

returns-4 : tie.Need-returns
returns-4 c =
    rw c.if-on-2.false (mark-kept c.args.word c.args.number c.requires _ (sym c.mark.ensures ∙ c.if-mark.false))

pub with_mark_spec : {M : Type 1} → statement M
with_mark_spec =
    tie.close
    (tie.spec (λ c κs. search rules) returns (λ c. search rules) sub-result returns-2 (λ c. search rules) add-result returns-3 returns-4)
