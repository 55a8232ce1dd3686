use mir.Syntax.{w32}
use Rattle.std.proofs.Common.{sym, ◌∙◌, SFits, rules}
use Rattle.deduction_laws.specs.Vanishing.{vanish_row, counted}
use Rattle.interval.specs.Coefficients.{back}
use Rattle.interval.proofs.vanishing.Vanishing.by.Goals as goal
use Rattle.interval.proofs.vanishing.Vanishing.by.Goals.{then-self-via-then-self, then-self-via-else-self+then-not-is_strict}

pub returns-then-self : goal.returns-then-self
unfolding vanish_row counted
returns-then-self c =
    elim c.then-self.branch [
      | then-self-via-then-self w ↦ simp w.if-self.true
      | then-self-via-else-self+then-not-is_strict w ↦ simp (w.if-self.false, sym w.is_strict.ensures ∙ w.if-not-is_strict.true)
    ]

pub returns-then-both_zero : goal.returns-then-both_zero
unfolding vanish_row counted
returns-then-both_zero c =
    let v = c.args.self in
    let a-fits : SFits w32 v.a = record { sfits = search rules } in
    let b-fits : SFits w32 v.b = record { sfits = search rules } in
    simp (
      back c.ranges.a,
      back c.ranges.b,
      c.if-self.false,
      sym c.is_strict.ensures ∙ c.if-not-is_strict.false,
      (rw (back a-fits, back b-fits) at (sym c.both_zero.ensures ∙ c.if-both_zero.true)),
    )

pub returns : goal.returns
unfolding vanish_row counted
returns c =
    let v = c.args.self in
    let a-fits : SFits w32 v.a = record { sfits = search rules } in
    let b-fits : SFits w32 v.b = record { sfits = search rules } in
    simp (
      back a-fits,
      back b-fits,
      back c.ranges.a,
      back c.ranges.b,
      c.apart-never.ensures,
      c.if-self.false,
      sym c.is_strict.ensures ∙ c.if-not-is_strict.false,
      (rw (back a-fits, back b-fits) at (sym c.both_zero.ensures ∙ c.if-both_zero.false)),
    )
