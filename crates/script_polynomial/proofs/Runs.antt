-- A text and a run of bytes, compared one byte after the other.
use mathlib.Core.List.{List}
use mathlib.Core.Path.{◌≡◌, ap₂, ◌∙◌}
use Prim.Native.Nat.{ℕ, suc, ◌+◌, ◌≤◌, ◌<◌}
use native.Mathlib.Omega.{arith}
use lib.ListN.{length, drop, get_or, drop_of_length-le}
use lib.Seq.{drop-cons}
use borrow.Author.Tests.{eq-eqb, ne_eqb}
use Rattle.script_polynomial.specs.Agreement.{one_more, common}

-- How much of what is left of both agrees, behind the first i bytes.
abbrev pub left : List ℕ → List ℕ → ℕ → ℕ → ℕ
left text bytes at i = common (drop i bytes) (drop (at + i) text)

module _ (text bytes : List ℕ) (at i : ℕ) where
  -- The next byte agrees,
  pub byte-agrees : i < length bytes → at + i < length text → get_or text (at + i) 0 ≡ get_or bytes i 0 → left text bytes at i ≡ suc
      (left text bytes at (i + 1))
  unfolding common one_more
  byte-agrees h k e =
      let a : suc (at + i) ≡ at + (i + 1) = omega arith in
      let b : suc i ≡ i + 1 = omega arith in
      let first : left text bytes at i ≡ suc (common (drop (suc i) bytes) (drop (suc (at + i)) text)) =
      rw (drop-cons bytes i 0 h, drop-cons text (at + i) 0 k, eq-eqb (get_or text (at + i) 0) (get_or bytes i 0) e) in
      first ∙ ap₂ (λ (x y : ℕ). suc (common (drop x bytes) (drop y text))) b a

  -- or it does not,
  pub byte-differs : i < length bytes → at + i < length text → (get_or text (at + i) 0 ≡ get_or bytes i 0 → ⊥) → left text bytes at i ≡ 0
  unfolding common one_more
  byte-differs h k e = rw (drop-cons bytes i 0 h, drop-cons text (at + i) 0 k, ne_eqb (get_or text (at + i) 0) (get_or bytes i 0) e)

  -- or the text ends,
  pub text-ends : i < length bytes → length text ≤ at + i → left text bytes at i ≡ 0
  unfolding common
  text-ends h k = rw (drop-cons bytes i 0 h, drop_of_length-le text {i = at + i} k)

  -- or the bytes do.
  pub bytes-end : length bytes ≤ i → left text bytes at i ≡ 0
  unfolding common
  bytes-end h = rw (drop_of_length-le bytes {i = i} h)
