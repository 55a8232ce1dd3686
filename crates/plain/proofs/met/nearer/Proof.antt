-- `nearer` meets its contract: none, one that is not above f, or the lower of two.
use borrow.Author.Rules.{rules}
use mathlib.Core.Path.{sym, ◌∙◌}
use mathlib.Core.Bool.{true, false}
use mir.Syntax.{w32}
use mir.Val.{SFits}
use Rattle.rules.specs.Deduce.{end_at_most}
use Rattle.interval.specs.Ends.{end_of, There, lower_end}
use Rattle.interval.specs.Coefficients.{is-zero, not_zero}
use Rattle.plain.proofs.Numbers.{none_there, is-there}
use Rattle.plain.proofs.Nears.{one-small, near_none, near-there}
use Rattle.plain.proofs.met.nearer.Statement.{statement}
use Rattle.plain.proofs.met.nearer.Tie as tie

b-fits : (c : tie.After-struct_told-1) → SFits w32 c.before.args.e.b
b-fits c = record { sfits = c.struct_told-1.given.1.0.1 }

returns : tie.Need-returns-then-b-eq0
returns c =
    let s = c.before.before in
    (near_none (end_of s.args.f) (end_of s.args.near) (none_there s.args.e.a s.args.e.b (is-zero (b-fits c.before) c.if-b-eq0.true)), s.requires.0)

there : (c : tie.Else-b-eq0) → There c.before.before.args.e
there c = is-there c.before.before.args.e (not_zero (b-fits c.before) c.if-b-eq0.false)

returns-2 : tie.Need-returns-then-below
unfolding lower_end
returns-2 c =
    let d = c.before.before in
    let s = d.before.before.before in
    let e = there d.before in (
      c.lower.ensures ∙ near-there (end_of s.args.f) (end_of s.args.near) e.fraction e.is true (sym d.below.ensures ∙ c.before.if-below.true),
      one-small (end_at_most (end_of s.args.e) (end_of s.args.near)) s.requires.1 s.requires.0 c.lower.ensures,
    )

returns-3 : tie.Need-returns-else-below
returns-3 c =
    let d = c.before in
    let s = d.before.before.before in
    let e = there d.before in
    (near-there (end_of s.args.f) (end_of s.args.near) e.fraction e.is false (sym d.below.ensures ∙ c.if-below.false), s.requires.0)

pub nearer_spec : {M : Type 1} → statement M
nearer_spec = tie.close (tie.spec returns (λ c κs. search rules) (λ c κs. search rules) returns-2 returns-3)
