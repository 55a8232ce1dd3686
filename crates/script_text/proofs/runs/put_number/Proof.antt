-- `put_number` meets its contract: its digits, or these behind the unary minus.
use mathlib.Core.Path.{◌≡◌, ap, ◌∙◌}
use lib.IntN.{nat_abs}
use mir.Syntax.{w32}
use mir.Val.{to_z, of_z}
use mir.ValLaws.{to_z-of_z}
use borrow.Author.Rules.{rules}
use Rattle.rules.specs.Block.{minus_bit}
use Rattle.lines.specs.Written.{wrote_as}
use Rattle.script_text.specs.Runs.{two_runs, fits-as, fits-first, fits-second, wrote-split}
use Rattle.script_text.proofs.Texts.{number-plain, number-minus}
use Rattle.script_text.proofs.runs.put_number.Statement.{statement}
use Rattle.script_text.proofs.runs.put_number.Tie as tie

-- The number, which passed through its bits.
back : (s : tie.Start) → to_z w32 (of_z w32 s.args.x) ≡ s.args.x
back s = to_z-of_z w32 s.args.x s.ranges.x

sign : (p : tie.After-minus_of) → p.minus_of.result ≡ minus_bit p.args.x
sign p = p.minus_of.ensures ∙ ap minus_bit (back p.before.before.before)

size : (p : tie.After-magnitude_of-magnitude) → p.magnitude_of-magnitude.result ≡ nat_abs p.args.x
size p = p.magnitude_of-magnitude.ensures ∙ ap nat_abs (back p.before.before)

pub put_number_spec : {M : Type 1} → statement M
put_number_spec =
    tie.close
    (tie.spec (λ c κs. search rules) (λ c κs. search rules)
    (λ c κs.
    fits-as (number-plain _ (sign c.before.before) (size c.before.before.before) c.if-minus_of-eq0.true) c.requires)
    (λ c. search rules)
    (λ c.
    wrote_as c.put_digits.ensures (number-plain _ (sign c.before.before.before.before.before) (size c.before.before.before.before.before.before) c.if-minus_of-eq0.true))
    (λ c κs.
    fits-first (number-minus _ (sign c.before.before.before.before) (size c.before.before.before.before.before) c.if-minus_of-eq0.false) c.requires)
    (λ c κs.
    fits-first two_runs (fits-second (number-minus _ (sign c.before.before.before.before.before.before.before.before) (size c.before.before.before.before.before.before.before.before.before) c.if-minus_of-eq0.false) c.requires
    c.put_bytes-number.ensures))
    (λ c κs.
    fits-second two_runs (fits-second (number-minus _ (sign c.before.before.before.before.before.before.before.before.before.before.before.before) (size c.before.before.before.before.before.before.before.before.before.before.before.before.before) c.if-minus_of-eq0.false) c.requires
    c.put_bytes-number.ensures) c.put_digits-end.ensures)
    (λ c. search rules)
    (λ c.
    wrote-split (number-minus _ (sign c.before.before.before.before.before.before.before.before.before.before.before.before.before.before.before) (size c.before.before.before.before.before.before.before.before.before.before.before.before.before.before.before.before) c.if-minus_of-eq0.false) c.put_bytes-number.ensures
    (wrote-split two_runs c.put_digits-end.ensures c.put_byte.ensures)))
