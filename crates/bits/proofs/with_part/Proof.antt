-- `bits::with_part` meets its contract: the sum of the byte's three parts is `patched`, which is below 2 ^ 8.
use mathlib.Core.Path.{◌≡◌, ap, ◌∙◌}
use Prim.Native.Nat.{ℕ, ◌+◌, ◌*◌, ◌/◌, ◌%◌, ◌^◌, ◌<◌}
use native.Mathlib.Omega.{arith}
use lib.Pow.{pow_pos}
use borrow.Author.Rules.{rules}
use Rattle.rules.specs.Bits.{field}
use Rattle.bits.proofs.Bytes.{patched, patched-lt, field-patched}
use Rattle.bits.proofs.with_part.Statement.{statement}
use Rattle.bits.proofs.with_part.Tie as tie

abbrev sum : tie.After-power → ℕ
sum c =
    let byte = c.before.before.before.wide-x.result in
    let above = c.before.before.power-above.result in
    let below = c.before.power-below.result in
    byte / above * above + c.before.before.before.before.args.v % c.power.result * below + byte % below

is-patched : (c : tie.After-power) → let s = c.before.before.before.before in sum c ≡ patched s.args.room s.args.count s.requires.0 s.requires.1
    s.args.byte s.args.v
is-patched c = rw (c.before.before.before.wide-x.ensures.0, c.before.before.power-above.ensures, c.before.power-below.ensures, c.power.ensures)

small : (c : tie.After-power) → sum c < 2 ^ 8
small c =
    let s = c.before.before.before.before in
    rw (is-patched c) (patched-lt s.args.room s.args.count s.requires.0 s.requires.1 s.args.byte s.args.v s.ranges.byte.fits)

returns : tie.Need-returns
returns c =
    let s = c.before.before.before.before in
    ap (field 8) (is-patched c) ∙ field-patched s.args.room s.args.count s.requires.0 s.requires.1 s.args.byte s.args.v

pub with_part_spec : {M : Type 1} → statement M
with_part_spec =
    tie.close
    (tie.spec (λ c κs. search rules) (λ c κs. search rules) (λ c. search rules) (λ c κs. search rules) (λ c κs. search rules)
    (λ c. rw c.power.ensures (pow_pos _)) (λ c. rw c.before.before.power-above.ensures (pow_pos _)) (λ c. omega (arith, small c))
    (λ c. omega (arith, small c)) (λ c. omega (arith, small c)) (λ c. rw c.before.power-below.ensures (pow_pos _)) (λ c. omega (arith, small c))
    (λ c. omega (arith, small c)) returns)
