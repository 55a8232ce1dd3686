-- `read_factor` meets its contract.
use Rattle.std.proofs.Common.{◌≡◌, ℕ, ◌+◌, ◌*◌, ◌%◌, ◌^◌, ◌<◌, ◌≤◌, sym, ◌∙◌, arith}
use Rattle.script_polynomial.proofs.Factors.{shifted-is, followed-by, grown-within, factor-none, factor-last, factor-stops, factor-more}
use Rattle.script_polynomial.proofs.products.read_factor.Goals as goal
use Rattle.script_polynomial.proofs.products.read_factor.Goals.{In-Some}

-- The power of 16 that the letter stands for.
module _ (c : In-Some) where
  abbrev later : ℕ
  later = c.in-Some.later

  small : later < 16
  small = let s = c in omega (arith, (followed-by _ _ _ _ _ later s.requires.3 s.in-Some.ensures).0, s.requires.1, s.requires.2)

  power : 1 * 2 ^ (4 * later) % 18446744073709551616 ≡ 16 ^ later
  power = shifted-is later small

  room : let a = c.args in a.monomial + 16 ^ later ≤ a.limit
  room = grown-within _ _ _ _ _ later c.requires.3 c.in-Some.ensures

pub returns-in_default : goal.returns-in_default
returns-in_default c = factor-none _ _ _ _ _ _ c.requires.1 c.requires.3 c.byte_at.ensures c.in_default.ensures

pub overflow_mul-product : goal.overflow_mul-product
overflow_mul-product c = omega (arith, small c)

pub overflow_shl-product : goal.overflow_shl-product
overflow_shl-product c = omega (arith, small c)

pub overflow_add-product : goal.overflow_add-product
overflow_add-product c = omega (arith, power c, room c)

pub returns-then-byte-eq41 : goal.returns-then-byte-eq41
returns-then-byte-eq41 c =
    let s = (goal.at.returns-then-byte-eq41 c).In-Some in
    rw (power s) (factor-last _ _ _ _ _ _ c.requires.1 c.requires.3 c.byte_at.ensures _ c.in-Some.ensures c.byte_at-byte.ensures c.if-byte-eq41.true)

pub returns-then-not-space_may : goal.returns-then-not-space_may
returns-then-not-space_may c =
    let s = (goal.at.returns-then-not-space_may c).In-Some in
    let none = rw (power s) at (sym c.space_may.ensures ∙ c.if-not-space_may.true) in
    factor-stops _ _ _ _ _ _ c.requires.1 c.requires.3 c.byte_at.ensures _ c.in-Some.ensures c.byte_at-byte.ensures c.if-byte-eq41.false none

pub returns : goal.returns
returns c =
    let s = (goal.at.returns c).In-Some in
    let both = rw (power s) at (sym c.space_may.ensures ∙ c.if-not-space_may.false) in
    rw (power s) (factor-more _ _ _ _ _ _ c.requires.1 c.requires.3 c.byte_at.ensures _ c.in-Some.ensures c.byte_at-byte.ensures both)
