-- `writer::write_term` meets its contract.
use mathlib.Core.Path.{◌≡◌, refl, ap, ◌∙◌}
use native.Mathlib.Omega.{arith}
use lib.IntN.{nat_abs}
use mir.Syntax.{w32}
use mir.Val.{to_z, of_z}
use mir.ValLaws.{to_z-of_z}
use borrow.Author.Rules.{rules}
use Rattle.rules.specs.Block.{minus_bit}
use Rattle.writer.proofs.Writing.{wrote-both, room-first, room-second, two_runs, term-split}
use Rattle.writer.proofs.write_term.Statement.{statement}
use Rattle.writer.proofs.write_term.Tie as tie

-- The coefficient, which passed through its bits.
back : (s : tie.Start) → to_z w32 (of_z w32 s.args.coefficient) ≡ s.args.coefficient
back s = to_z-of_z w32 s.args.coefficient s.ranges.coefficient

pub write_term_spec : {M : Type 1} → statement M
write_term_spec =
    tie.close
    (tie.spec (λ c κs. search rules)
    (λ c κs. let s = c.before.before.before in (omega arith, room-first (term-split _ _ _ (c.minus_of.ensures ∙ ap minus_bit (back s)) refl) s.requires.1))
    (λ c κs. search rules)
    (λ c κs.
    let sign = c.before.before.before.before in
    let s = sign.before.before.before.before in (
      omega arith,
      room-first two_runs
          (room-second (term-split _ _ _ (sign.before.minus_of.ensures ∙ ap minus_bit (back s)) (c.magnitude_of.ensures ∙ ap nat_abs (back s))) s.requires.1
          sign.write_field-sign.ensures sign.write_field-sign.auto.out),
    ))
    (λ c κs.
    let size = c.before.before.before in
    let sign = size.before.before.before.before.before in
    let s = sign.before.before.before.before in (
      s.requires.0,
      room-second two_runs
          (room-second (term-split _ _ _ (sign.before.minus_of.ensures ∙ ap minus_bit (back s)) (size.before.magnitude_of.ensures ∙ ap nat_abs (back s)))
          s.requires.1
          sign.write_field-sign.ensures sign.write_field-sign.auto.out)
          size.write_field-size.ensures size.write_field-size.auto.out,
    ))
    (λ c. search rules)
    (λ c.
    let last = c.before.before in
    let size = last.before.before.before.before in
    let sign = size.before.before.before.before.before in
    let s = sign.before.before.before.before in
    wrote-both (term-split _ _ _ (sign.before.minus_of.ensures ∙ ap minus_bit (back s)) (size.before.magnitude_of.ensures ∙ ap nat_abs (back s)))
    sign.write_field-sign.ensures (wrote-both two_runs size.write_field-size.ensures last.write_exponents.ensures)))
