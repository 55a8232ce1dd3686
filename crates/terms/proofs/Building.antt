-- The masks of a board, built one variable after the other: sixteen times the word so far, and the variable's bit.
-- Each word stays within 64 bits, since a board has at most sixteen variables.
use mathlib.Core.Path.{◌≡◌, sym, ap, ap₂, ◌∙◌}
use mathlib.Core.Bool.{Bool}
use mathlib.Core.List.{List}
use Prim.Native.Nat.{ℕ, suc, ◌+◌, ◌*◌, ◌-◌, ◌/◌, ◌%◌, ◌^◌, ◌<◌, ◌≤◌}
use native.Mathlib.Nat.{mul-le-mul_left, sub-zero}
use native.Mathlib.Omega.{arith}
use lib.ListN.{get_or}
use lib.Pow.{pow_pos, pow_mono}
use Rattle.rules.specs.Signs.{SignSet, negative, nought, positive, only, has, bit}
use Rattle.terms.specs.View.{numbers_from, numbers-cons, numbers-nil, length-numbers}
use Rattle.terms.specs.Masks.{mask}
use Rattle.terms.specs.Words.{sixteen, mask_below}
use Rattle.terms.specs.Exponents.{bit-back}

-- x is the mask of the first i variables
pub record Built (test : SignSet → Bool) (sets : List SignSet) (n i x : ℕ) : Type 0 where
  pub rest : x * 2 ^ (4 * (n - i)) + mask test (numbers_from sets i (n - i)) ≡ mask test (numbers_from sets 0 n)

module _ (test : SignSet → Bool) (sets : List SignSet) (n : ℕ) where
  pub built-none : Built test sets n 0 0
  built-none = record { rest = rw (sub-zero n) (omega arith) }

  split : (i : ℕ) → i < n → mask test (numbers_from sets i (n - i))
      ≡ bit (test (get_or sets i 0)) * 2 ^ (4 * (n - (i + 1))) + mask test (numbers_from sets (i + 1) (n - (i + 1)))
  unfolding mask
  split i h =
      let later = numbers_from sets (i + 1) (n - (i + 1)) in
      ap (mask test) (numbers-cons sets i n h)
      ∙ ap (λ (k : ℕ). bit (test (get_or sets i 0)) * 2 ^ (4 * k) + mask test later) (length-numbers sets (i + 1) (n - (i + 1)))

  -- one variable more
  pub built-more : {i x d : ℕ} → i < n → d ≡ bit (test (get_or sets i 0)) → Built test sets n i x → Built test sets n (i + 1) (16 * x + d)
  built-more {i} {x} {d} h e b = record { rest = moved _ _ ∙ rw e (sym (ap₂ (λ (y z : ℕ). x * y + z) same (split i h)) ∙ b.rest) }
    where
      moved : (p w : ℕ) → (16 * x + d) * p + w ≡ x * (16 * p) + (d * p + w)
      moved p w = omega arith

      same : 2 ^ (4 * (n - i)) ≡ 16 * 2 ^ (4 * (n - (i + 1)))
      same = let q : n - i ≡ suc (n - (i + 1)) = omega arith in rw q (sixteen (n - (i + 1)))

  -- all of them
  pub built-all : {i x : ℕ} → n ≤ i → Built test sets n i x → x ≡ mask test (numbers_from sets 0 n)
  unfolding mask
  built-all {i} {x} h b = let q : n - i ≡ 0 = omega arith in sym (ones x) ∙ (rw (numbers-nil sets i n h, q) at b.rest)
    where
      ones : (x : ℕ) → x * 1 + 0 ≡ x
      ones x = omega arith

  pub built-fits : {i x : ℕ} → n ≤ 16 → Built test sets n i x → x < 18446744073709551616
  built-fits {i} {x} h b =
      let most : mask test (numbers_from sets 0 n) < 2 ^ (4 * n) = rw (length-numbers sets 0 n) at (mask_below test (numbers_from sets 0 n)) in
      let wide : 2 ^ (4 * n) ≤ 2 ^ 64 = pow_mono {j = 64} (omega arith) in
      let times : x * 1 ≤ x * 2 ^ (4 * (n - i)) = mul-le-mul_left x (pow_pos (4 * (n - i))) in
      omega (arith, b.rest)

-- ---- the bits of a set

pub negative-bit : (s : SignSet) → s / 4 % 2 ≡ bit (has negative s)
unfolding has only
negative-bit s = bit-back (s / 4 % 2) (omega arith)

pub zero_bit : (s : SignSet) → s / 2 % 2 ≡ bit (has nought s)
unfolding has only
zero_bit s = bit-back (s / 2 % 2) (omega arith)

pub positive-bit : (s : SignSet) → s % 2 ≡ bit (has positive s)
unfolding has only
positive-bit s = let e : s % 2 ≡ s / 1 % 2 = omega arith in e ∙ bit-back (s / 1 % 2) (omega arith)
