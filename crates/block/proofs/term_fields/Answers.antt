-- A word of both fields is cut where the exponents begin.
use Rattle.std.proofs.Common.{◌≡◌, ℕ, ◌*◌, ◌%◌, ◌^◌, ◌≤◌, ◌<◌, mod-eq_of_lt, arith}
use native.Mathlib.Nat.{one-mul}
use lib.Pow.{pow-lt}
use Rattle.pairs.proofs.Reading.{first_part, last-part}
use Rattle.block.proofs.term_fields.Goals as goal

shifted : (n : ℕ) → n ≤ 6 → 1 * 2 ^ (4 * n) % 2 ^ 64 ≡ 2 ^ (4 * n)
shifted n few = let small : 4 * n < 64 = omega arith in rw one-mul (mod-eq_of_lt (pow-lt small))

pub returns : goal.returns
returns c =
    let a = c.args in
    record {
      word = first_part a.src.now a.at 32 (4 * a.n) c.requires.0 c.get-whole.ensures;
      exponents = rw (shifted a.n c.if-n-gt6.false) (last-part a.src.now a.at 32 (4 * a.n) c.requires.0 c.get-whole.ensures);
    }
