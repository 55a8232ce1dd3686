-- `Value::sign-at` meets its contract: each product fits, and their order is the sign.
use borrow.Author.Rules.{rules}
use mathlib.Core.Path.{◌∙◌}
use native.Mathlib.Omega.{arith}
use lib.IntN.{pos, ◌-ℤ◌, ◌*ℤ◌}
use mir.Syntax.{w32}
use mir.ValLaws.{to_z-of_z}
use Rattle.plain.proofs.Numbers.{fits, widened, wide, back, held-c, held-d, wider, minus-in, product-in, compared}
use Rattle.plain.proofs.value.Value.sign_at.Statement.{statement}
use Rattle.plain.proofs.value.Value.sign_at.Tie as tie

cast-ad : tie.Need-overflow_cast-ad
cast-ad c = rw (to_z-of_z w32 _ c.ranges.a) (widened c.ranges.a)

mul-ad : tie.Need-overflow_mul-ad
mul-ad c =
    let s = c.before.before in
    rw (wide s.ranges.a, back s.args.self.d (wider (held-d s.requires.0))) (fits (product-in s.args.a s.args.self.d s.requires.1.first (held-d s.requires.0) (omega arith)))

sub-cb : tie.Need-overflow_sub-cb
sub-cb c =
    let s = c.before.before.before.before in
    let h = held-c s.requires.0 in
    rw (back s.args.self.c (wider h)) (fits (minus-in s.args.self.c (wider h)))

cast-cb : tie.Need-overflow_cast-cb
cast-cb c = let s = c.before.before.before.before in rw (to_z-of_z w32 _ s.ranges.b) (widened s.ranges.b)

mul-cb : tie.Need-overflow_mul-cb
mul-cb c =
    let s = c.before.before.before.before in
    let h = held-c s.requires.0 in
    rw (back s.args.self.c (wider h), back (pos 0 -ℤ s.args.self.c) (minus-in s.args.self.c (wider h)), wide s.ranges.b)
    (fits (product-in (pos 0 -ℤ s.args.self.c) s.args.b (minus-in s.args.self.c h) s.requires.1.second (omega arith)))

returns : tie.Need-returns
returns c t i =
    let s = c.before.before.before.before.before in
    let h = held-c s.requires.0 in
    let d = held-d s.requires.0 in
    c.sign_between.ensures
    ∙ rw (
      wide s.ranges.a,
      back s.args.self.d (wider d),
      back (s.args.a *ℤ s.args.self.d) (product-in s.args.a s.args.self.d s.requires.1.first d (omega arith)),
      back s.args.self.c (wider h),
      back (pos 0 -ℤ s.args.self.c) (minus-in s.args.self.c (wider h)),
      wide s.ranges.b,
      back ((pos 0 -ℤ s.args.self.c) *ℤ s.args.b) (product-in (pos 0 -ℤ s.args.self.c) s.args.b (minus-in s.args.self.c h) s.requires.1.second (omega arith)),
    )
    (compared t s.args.a s.args.b i)

pub sign_at_spec : {M : Type 1} → statement M
sign_at_spec = tie.close (tie.spec cast-ad mul-ad sub-cb cast-cb mul-cb (λ c κs. search rules) returns)
