-- `Interval::cut_not_negative` meets its contract, by the signs of b and a.
use borrow.Author.Rules.{rules}
use mathlib.Core.Path.{ap, ◌∙◌}
use mathlib.Core.Bool.{Bool, ◌||◌}
use Rattle.sign_laws.specs.Booleans.{or-true, or-false}
use Rattle.interval.specs.Coefficients.{back}
use Rattle.interval.proofs.Cutting.{not-negative-high, not-negative-low, not-negative-void}
use Rattle.interval.proofs.interval.Interval.cut_not_negative.Statement.{statement}
use Rattle.interval.proofs.interval.Interval.cut_not_negative.Tie as tie

returns : tie.Need-returns-then-b-lt0
returns c =
    let s = c.before.before.before.before in
    let f = s.ranges in
    rw c.lower-cut.ensures (simp (back f.a, back f.b) (not-negative-high _ s.args.b _ _ _ (rw (back f.b) at c.before.if-b-lt0.true)))

returns-2 : tie.Need-returns-then-b-gt0
returns-2 c =
    let s = c.before.before.before.before.before in
    let f = s.ranges in
    rw c.higher-cut.ensures (simp (back f.a, back f.b) (not-negative-low _ s.args.b _ _ _ (rw (back f.b) at c.before.if-b-gt0.true)))

returns-3 : tie.Need-returns-then-a-lt0
returns-3 c =
    let s = c.before.before.before.before.before in
    let f = s.ranges in
    let v = s.args.self.void in
    not-negative-void s.args.a s.args.b _ _ _ _ (rw (back f.b) at c.before.before.if-b-lt0.false) (rw (back f.b) at c.before.if-b-gt0.false)
    (ap (λ (x : Bool). v || x) (rw (back f.a) at c.if-a-lt0.true) ∙ or-true v)

returns-4 : tie.Need-returns
returns-4 c =
    let s = c.before.before.before.before.before in
    let f = s.ranges in
    let v = s.args.self.void in
    not-negative-void s.args.a s.args.b _ _ _ _ (rw (back f.b) at c.before.before.if-b-lt0.false) (rw (back f.b) at c.before.if-b-gt0.false)
    (ap (λ (x : Bool). v || x) (rw (back f.a) at c.if-a-lt0.false) ∙ or-false v)

pub cut_not_negative_spec : {M : Type 1} → statement M
cut_not_negative_spec = tie.close (tie.spec (λ c κs. search rules) returns (λ c κs. search rules) returns-2 returns-3 returns-4)
