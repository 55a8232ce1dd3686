-- The runs of bytes as the code makes them: a copy byte by byte, a number digit by digit, a block pair by pair.
use mathlib.Core.Path.{◌≡◌, refl, ap}
use mathlib.Core.List.{List, [], ◌∷◌, ◌++◌}
use Prim.Native.Nat.{ℕ, suc, ◌+◌, ◌-◌, ◌/◌, ◌<◌, ◌≤◌}
use native.Mathlib.Numerals.{add-one}
use native.Mathlib.Omega.{arith}
use lib.ListN.{length, get_or, set, take, drop}
use lib.Seq.{take-suc, take_all, take-length}
use borrow.Author.Tests.{lt-ltb, le-ltb}
use Rattle.rules.specs.Report.{digit, of_two, decimal, hex_below_ten, hex_digit, hex_pair, hex_rest, hex_text, space}
use Rattle.lines.specs.Written.{Wrote, wrote-both, wrote_as}

-- ---- a copy

first_more : (bytes : List ℕ) (i : ℕ) → i < length bytes → take i bytes ++ (get_or bytes i 0 ∷ []) ≡ take (i + 1) bytes
first_more bytes i h = rw (add-one, take-suc bytes i 0 h)

-- A byte more.
pub copy_more : (bytes : List ℕ) (i : ℕ) {before text : List ℕ} {at : ℕ} → i < length bytes → Wrote before text at (take i bytes) (at + i)
    → Wrote before (set text (at + i) (get_or bytes i 0)) at (take (i + 1) bytes) (at + (i + 1))
copy_more bytes i h w = wrote_as (wrote-both w (record { stored = refl; behind = omega arith })) (first_more bytes i h)

pub first-whole : (bytes : List ℕ) (i : ℕ) → length bytes ≤ i → i ≤ length bytes → take i bytes ≡ bytes
first-whole bytes i h k = let e : i ≡ length bytes = omega arith in rw (e, take-length bytes)

-- ---- a number

module _ (n : ℕ) where
  pub one-digit : n < 10 → digit n ∷ [] ≡ decimal n
  unfolding decimal of_two
  one-digit h = rw (lt-ltb n 10 h)

  pub two_digits : 10 ≤ n → n < 100 → digit (n / 10) ∷ digit n ∷ [] ≡ decimal n
  unfolding decimal of_two
  two_digits h k = rw (le-ltb n 10 h, lt-ltb n 100 k)

  pub three-digits : 100 ≤ n → digit (n / 100) ∷ digit (n / 10) ∷ digit n ∷ [] ≡ decimal n
  unfolding decimal of_two
  three-digits h = rw (le-ltb n 10 (omega arith), le-ltb n 100 h)

-- ---- a block

pub hex-below-ten : (d : ℕ) → d < 10 → 48 + d ≡ hex_digit d
unfolding hex_digit hex_below_ten
hex-below-ten d h = rw (lt-ltb d 10 h)

pub hex-from-ten : (d : ℕ) → 10 ≤ d → 87 + d ≡ hex_digit d
unfolding hex_digit hex_below_ten
hex-from-ten d h = rw (le-ltb d 10 h)

rest_both : (xs ys : List ℕ) → hex_rest xs ++ hex_rest ys ≡ hex_rest (xs ++ ys)
unfolding hex_rest hex_pair
rest_both [] ys = refl
rest_both (x ∷ xs) ys = rw (← (rest_both xs ys))

rest-pair : (xs : List ℕ) (x : ℕ) → hex_rest xs ++ (space ∷ hex_pair x) ≡ hex_rest (xs ++ (x ∷ []))
unfolding hex_rest hex_pair
rest-pair xs x = rest_both xs (x ∷ [])

-- A pair more, behind a space.
pub rest_more : (block : List ℕ) (i : ℕ) {before text spaced after : List ℕ} {at next pair last : ℕ} → i < length block
    → Wrote before text at (hex_rest (take i block)) next → Wrote text spaced next (space ∷ []) pair
    → Wrote spaced after pair (hex_pair (get_or block i 0)) last → Wrote before after at (hex_rest (take (i + 1) block)) last
rest_more block i h w s p = wrote_as (wrote-both w (wrote-both s p)) (rw (← (first_more block i h)) (rest-pair (take i block) (get_or block i 0)))

-- The first pair, and the others behind it.
pub hex-whole : (block : List ℕ) → (length block ≡ 0 → ⊥)
    → hex_pair (get_or block 0 0) ++ hex_rest (take (length block - 1) (drop 1 block)) ≡ hex_text block
unfolding hex_text
hex-whole [] some = absurd (some refl)
hex-whole (byte ∷ block) some = ap (λ (rest : List ℕ). hex_pair byte ++ hex_rest rest) (take_all (suc (length block) - 1) block (omega arith))

pub hex-none : (block : List ℕ) → length block ≡ 0 → hex_text block ≡ []
unfolding hex_text
hex-none [] h = refl
hex-none (byte ∷ block) h = absurd (omega arith)
