use Rattle.std.proofs.Common.{sym, ap, ap₂, ◌∙◌, rules, ℤ}
use mathlib.Core.Bool.{not, ◌&&◌}
use mir.Syntax.{w32}
use mir.Val.{SFits}
use Rattle.rules.specs.Deduce.{is_zero, not_zero_at, not_zero_in}
use Rattle.deduction_laws.specs.Vanishing.{strict_by}
use Rattle.interval.specs.Ends.{end_of}
use Rattle.interval.specs.Coefficients.{back}
use Rattle.interval.proofs.vanishing.Vanishing.strict_in.Goals as goal
use Rattle.interval.proofs.vanishing.Vanishing.strict_in.Goals.{then-self, else-self}

pub returns-then-not_zero_at : goal.returns-then-not_zero_at
unfolding strict_by not_zero_in
returns-then-not_zero_at c =
    let v = c.args.self in
    let a-fits : SFits w32 v.a = record { sfits = search rules } in
    let b-fits : SFits w32 v.b = record { sfits = search rules } in
    elim c.if-self.branch [
      | then-self w ↦ c.if-not_zero_at.true ∙ simp w.if-self.true
      | else-self w ↦
          let lowest = w.not_zero_at.ensures ∙ ap₂ (λ (x y : ℤ). not_zero_at (end_of c.args.r.low) x y) (back a-fits) (back b-fits) in
          c.if-not_zero_at.true ∙ simp (w.if-self.false, sym lowest ∙ sym w.value-is ∙ c.if-not_zero_at.true)
    ]

pub returns-then-has_more : goal.returns-then-has_more
unfolding strict_by not_zero_in
returns-then-has_more c =
    let v = c.args.self in
    let a-fits : SFits w32 v.a = record { sfits = search rules } in
    let b-fits : SFits w32 v.b = record { sfits = search rules } in
    elim c.if-self.branch [
      | then-self w ↦ cc
      | else-self w ↦
          let lowest = w.not_zero_at.ensures ∙ ap₂ (λ (x y : ℤ). not_zero_at (end_of c.args.r.low) x y) (back a-fits) (back b-fits) in
          let vanishes = c.both_zero.ensures ∙ ap₂ (λ (x y : ℤ). is_zero x && is_zero y) (back a-fits) (back b-fits) in
          simp (w.if-self.false, sym lowest ∙ sym w.value-is ∙ c.if-not_zero_at.false, sym c.has_more.ensures ∙ c.if-has_more.true) (ap not vanishes)
    ]

pub returns-else-has_more : goal.returns-else-has_more
unfolding strict_by not_zero_in
returns-else-has_more c =
    let v = c.args.self in
    let a-fits : SFits w32 v.a = record { sfits = search rules } in
    let b-fits : SFits w32 v.b = record { sfits = search rules } in
    elim c.if-self.branch [
      | then-self w ↦ cc
      | else-self w ↦
          let lowest = w.not_zero_at.ensures ∙ ap₂ (λ (x y : ℤ). not_zero_at (end_of c.args.r.low) x y) (back a-fits) (back b-fits) in
          c.if-has_more.false ∙ simp (w.if-self.false, sym lowest ∙ sym w.value-is ∙ c.if-not_zero_at.false, sym c.has_more.ensures ∙ c.if-has_more.false)
    ]
