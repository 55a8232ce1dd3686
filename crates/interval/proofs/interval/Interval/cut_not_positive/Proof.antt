-- `Interval::cut_not_positive` meets its contract, by the signs of b and a.
use borrow.Author.Rules.{rules}
use mathlib.Core.Path.{ap, ◌∙◌}
use mathlib.Core.Bool.{Bool, ◌||◌}
use Rattle.sign_laws.specs.Booleans.{or-true, or-false}
use Rattle.interval.specs.Coefficients.{back}
use Rattle.interval.proofs.Cutting.{not-positive-high, not-positive-low, not-positive-void}
use Rattle.interval.proofs.interval.Interval.cut_not_positive.Statement.{statement}
use Rattle.interval.proofs.interval.Interval.cut_not_positive.Tie as tie

returns : tie.Need-returns-then-b-gt0
returns c =
    let s = c.before.before.before.before in
    let f = s.ranges in
    rw c.lower-cut.ensures (simp (back f.a, back f.b) (not-positive-high _ s.args.b _ _ _ (rw (back f.b) at c.before.if-b-gt0.true)))

returns-2 : tie.Need-returns-then-b-lt0
returns-2 c =
    let s = c.before.before.before.before.before in
    let f = s.ranges in
    rw c.higher-cut.ensures (simp (back f.a, back f.b) (not-positive-low _ s.args.b _ _ _ (rw (back f.b) at c.before.if-b-lt0.true)))

returns-3 : tie.Need-returns-then-a-gt0
returns-3 c =
    let s = c.before.before.before.before.before in
    let f = s.ranges in
    let v = s.args.self.void in
    not-positive-void s.args.a s.args.b _ _ _ _ (rw (back f.b) at c.before.before.if-b-gt0.false) (rw (back f.b) at c.before.if-b-lt0.false)
    (ap (λ (x : Bool). v || x) (rw (back f.a) at c.if-a-gt0.true) ∙ or-true v)

returns-4 : tie.Need-returns
returns-4 c =
    let s = c.before.before.before.before.before in
    let f = s.ranges in
    let v = s.args.self.void in
    not-positive-void s.args.a s.args.b _ _ _ _ (rw (back f.b) at c.before.before.if-b-gt0.false) (rw (back f.b) at c.before.if-b-lt0.false)
    (ap (λ (x : Bool). v || x) (rw (back f.a) at c.if-a-gt0.false) ∙ or-false v)

pub cut_not_positive_spec : {M : Type 1} → statement M
cut_not_positive_spec = tie.close (tie.spec (λ c κs. search rules) returns (λ c κs. search rules) returns-2 returns-3 returns-4)
