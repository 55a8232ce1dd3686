-- `cut_by_try` meets its contract: the tests that the factors allow, on the set by terms.
use borrow.Author.Rules.{rules}
use mathlib.Core.Path.{sym, ap₂, ◌∙◌}
use mathlib.Core.Bool.{◌&&◌, ◌||◌}
use Rattle.interval.specs.Coefficients.{back}
use Rattle.two_atoms.proofs.Tries.{cut-tested, cut-untested}
use Rattle.two_atoms.proofs.pair.cut_by_try.Statement.{statement}
use Rattle.two_atoms.proofs.pair.cut_by_try.Tie as tie

returns : tie.Need-returns-then-either
returns c =
    let s = c.before.before.before.before.before.before.before.before.before.before.before.before.before.before.before in
    rw (back s.ranges.u, back s.ranges.v, back s.ranges.w) at
    (cut-tested (c.before.before.before.before.before.before.before.before.before.before.both-below.ensures
    ∙ ap₂ ◌&&◌ c.before.before.before.before.before.before.before.before.before.before.before.before.never_positive.ensures
    c.before.before.before.before.before.before.before.before.before.before.before.never_positive-2.ensures)
    (c.before.before.before.before.before.before.before.both-above.ensures
    ∙ ap₂ ◌&&◌ c.before.before.before.before.before.before.before.before.before.never_negative.ensures
    c.before.before.before.before.before.before.before.before.never_negative-2.ensures)
    (c.before.before.either-strict.ensures ∙ ap₂ ◌||◌ c.before.before.before.before.is_strict.ensures
    c.before.before.before.is_strict-then-either.ensures) c.before.total-total.ensures c.cut_by_tests.ensures)

returns-2 : tie.Need-returns
returns-2 c =
    let s = c.before.before.before.before.before.before.before.before.before.before in
    rw (back s.ranges.u, back s.ranges.v) at
    (cut-untested {cs = s.args.coefficient.now} {ms = s.args.monomial.now} {ss = s.args.sign.now} {x = s.args.pair} {w = s.args.w}
    {s = s.args.set.0}
    (c.before.before.before.before.before.both-below.ensures
    ∙ ap₂ ◌&&◌ c.before.before.before.before.before.before.before.never_positive.ensures
    c.before.before.before.before.before.before.never_positive-2.ensures)
    (c.before.before.both-above.ensures ∙ ap₂ ◌&&◌ c.before.before.before.before.never_negative.ensures
    c.before.before.before.never_negative-2.ensures)
    (sym c.before.either.ensures ∙ c.if-either.false))

pub cut_by_try_spec : {M : Type 1} → statement M
cut_by_try_spec =
    tie.close
    (tie.spec (λ c κs. search rules) (λ c κs. search rules) (λ c κs. search rules) (λ c κs. search rules) (λ c κs. search rules)
    (λ c κs. search rules) (λ c κs. search rules) (λ c κs. search rules) (λ c κs. search rules) (λ c κs. search rules) (λ c κs. search rules)
    (λ c κs. search rules) returns returns-2)
