-- Fields out of several bytes at once: the number that four or eight bytes make, a field within it, and a field of two parts.
use mathlib.Core.Path.{◌≡◌, refl, sym, ap, ◌∙◌}
use mathlib.Core.Bool.{Bool}
use mathlib.Core.List.{List}
use Prim.Native.Nat.{ℕ, min, ◌+◌, ◌-◌, ◌*◌, ◌/◌, ◌%◌, ◌^◌, ◌≤◌, ◌<◌}
use native.Mathlib.Nat.{mod-eq_of_lt, mul-div-mul_right}
use native.Mathlib.Omega.{arith}
use lib.ListN.{length, take, drop, get_or}
use lib.Pow.{pow-add, pow_pos, pow_mono, shl_exact, high, low, field as field_of}
use Rattle.rules.specs.Bits.{field, value, unpack}
use Rattle.bits.proofs.Fields.{value-field, value-take-lt}
use Rattle.bits.proofs.Bytes.{length-unpack, within-byte, value-take-add}
use Rattle.bits.proofs.Turns.{fits_word}

-- ---- the number that bytes make

-- One byte,
one_byte : (bytes : List ℕ) (i : ℕ) → i < length bytes → get_or bytes i 0 < 2 ^ 8 → value (take 8 (drop (8 * i) (unpack bytes))) ≡ get_or bytes i 0
unfolding field
one_byte bytes i h small =
    let e : 8 * i ≡ 8 * i + 0 = omega arith in
    rw (e, within-byte bytes i 0 8 h (omega arith)) (value-field 8 (get_or bytes i 0) ∙ mod-eq_of_lt small)

-- and one more behind so many bits.
next-byte : (bytes : List ℕ) (i j : ℕ) → i + j < length bytes → get_or bytes (i + j) 0 < 2 ^ 8
    → value (take (8 * j + 8) (drop (8 * i) (unpack bytes))) ≡ value (take (8 * j) (drop (8 * i) (unpack bytes))) * 256 + get_or bytes (i + j) 0
next-byte bytes i j h small =
    let l : 8 * i + (8 * j + 8) ≤ length (unpack bytes) = rw length-unpack (omega arith) in
    let e : 8 * i + 8 * j ≡ 8 * (i + j) = omega arith in
    rw (value-take-add (unpack bytes) (8 * i) (8 * j) 8 l, e, one_byte bytes (i + j) h small)

pub four_bytes : (bytes : List ℕ) (i : ℕ) → i + 4 ≤ length bytes → {first second third last : ℕ}
    → first ≡ get_or bytes i 0 → first < 2 ^ 8 → second ≡ get_or bytes (i + 1) 0 → second < 2 ^ 8
    → third ≡ get_or bytes (i + 2) 0 → third < 2 ^ 8 → last ≡ get_or bytes (i + 3) 0 → last < 2 ^ 8
    → ((first * 256 + second) * 256 + third) * 256 + last ≡ value (take 32 (drop (8 * i) (unpack bytes)))
four_bytes bytes i h {first} {second} {third} {last} a a' b b' c c' d d' =
    let one : value (take 8 (drop (8 * i) (unpack bytes))) ≡ first = one_byte bytes i (omega arith) (rw (← a) a') ∙ sym a in
    let two : value (take 16 (drop (8 * i) (unpack bytes))) ≡ first * 256 + second = next-byte bytes i 1 (omega arith) (rw (← b) b') ∙ rw (one, ← b) in
    let three : value (take 24 (drop (8 * i) (unpack bytes))) ≡ (first * 256 + second) * 256 + third =
    next-byte bytes i 2 (omega arith) (rw (← c) c') ∙ rw (two, ← c) in
    sym (next-byte bytes i 3 (omega arith) (rw (← d) d') ∙ rw (three, ← d))

pub below : (j : ℕ) (bs : List Bool) → j ≤ 32 → {r : ℕ} → r ≡ value (take j bs) → r < 4294967296
below j bs h e = omega (arith, e, value-take-lt j bs, pow_mono {i = j} {j = 32} h)

pub eight-bytes : (bytes : List ℕ) (i : ℕ) → i + 8 ≤ length bytes → {upper lower : ℕ} → upper ≡ value (take 32 (drop (8 * i) (unpack bytes)))
    → lower ≡ value (take 32 (drop (8 * (i + 4)) (unpack bytes))) → upper * 4294967296 + lower ≡ value (take 64 (drop (8 * i) (unpack bytes)))
eight-bytes bytes i h a b =
    let l : 8 * i + (32 + 32) ≤ length (unpack bytes) = rw length-unpack (omega arith) in
    let e : 8 * (i + 4) ≡ 8 * i + 32 = omega arith in
    rw (a, b, e) (sym (value-take-add (unpack bytes) (8 * i) 32 32 l))

-- ---- a field of two parts

pub no_bits : (bs : List Bool) {k : ℕ} → k ≡ 0 → 0 ≡ value (take k bs)
unfolding value
no_bits bs e = rw e

-- A bit by its byte.
by_byte : (at : ℕ) → 8 * (at / 8) + at % 8 ≡ at
by_byte at = omega arith

pub at_byte : (bytes : List ℕ) (at k : ℕ) {r : ℕ} → r ≡ value (take k (drop (8 * (at / 8) + at % 8) (unpack bytes))) → r ≡ value (take k (drop at (unpack bytes)))
at_byte bytes at k e = rw (by_byte at) at e

-- The first 32 bits from `at` on, and those behind them.
module _ (bytes : List ℕ) (at k : ℕ) (h : at + k ≤ 8 * length bytes) (long : 32 ≤ k) (short : k ≤ 64) {upper lower : ℕ}
    (a : upper ≡ value (take 32 (drop (8 * (at / 8) + at % 8) (unpack bytes))))
    (b : lower ≡ value (take (k - 32) (drop (8 * (at / 8 + 4) + at % 8) (unpack bytes)))) where
  pub in_two : upper * 2 ^ (k - 32) % 2 ^ 64 + lower ≡ value (take k (drop at (unpack bytes)))
  in_two =
      let l : at + (32 + (k - 32)) ≤ length (unpack bytes) = rw length-unpack (omega arith) in
      let e : 8 * (at / 8 + 4) + at % 8 ≡ at + 32 = omega arith in
      let f : 32 + (k - 32) ≡ k = omega arith in
      let small : upper < 2 ^ 32 = rw a (value-take-lt 32 (drop (8 * (at / 8) + at % 8) (unpack bytes))) in
      let room : 32 + (k - 32) ≤ 64 = omega arith in
      let lower-is : lower ≡ value (take (k - 32) (drop (at + 32) (unpack bytes))) = rw e at b in
      rw (shl_exact 32 (k - 32) 64 small room, at_byte bytes at 32 a, lower-is) (sym (rw f at (value-take-add (unpack bytes) at 32 (k - 32) l)))

  pub two-fit : upper * 2 ^ (k - 32) % 2 ^ 64 + lower < 2 ^ 64
  two-fit = rw in_two (fits_word bytes at k short)

-- ---- a field within eight bytes

-- The bits from the bit s on, k of them, of 64: what stands before them is shifted out above, what stands behind them below.
module _ (bs : List Bool) (at s k : ℕ) (short : s + k ≤ 64) (l : at + 64 ≤ length bs) where
  abbrev word : ℕ
  word = value (take 64 (drop at bs))

  upper : word / 2 ^ (64 - (s + k)) ≡ value (take (s + k) (drop at bs))
  upper =
      let e : s + k + (64 - (s + k)) ≡ 64 = omega arith in
      let l' : at + (s + k + (64 - (s + k))) ≤ length bs = omega arith in
      rw (rw e at (value-take-add bs at (s + k) (64 - (s + k)) l'))
      (high (value (take (s + k) (drop at bs))) (64 - (s + k)) (value-take-lt (64 - (s + k)) (drop (at + (s + k)) bs)))

  middle : word / 2 ^ (64 - (s + k)) % 2 ^ k ≡ value (take k (drop (at + s) bs))
  middle =
      rw (upper, value-take-add bs at s k (omega arith)) (low (value (take s (drop at bs))) k (value-take-lt k (drop (at + s) bs)))

  pub shifted-out : word * 2 ^ s % 2 ^ 64 / 2 ^ (64 - k) ≡ value (take k (drop (at + s) bs))
  shifted-out =
      let e : k + (64 - k) ≡ 64 = omega arith in
      let f : 64 - (s + k) + s ≡ 64 - k = omega arith in
      let g : word * 2 ^ s / 2 ^ (64 - k) ≡ word / 2 ^ (64 - (s + k)) =
      rw (← f, pow-add 2 (64 - (s + k)) s) (mul-div-mul_right word (2 ^ (64 - (s + k))) (pow_pos s)) in
      (rw e at (field_of (word * 2 ^ s) k (64 - k))) ∙ rw g middle

-- The eight bytes are those from the field's byte on, or the last eight.
pub out-of-eight : (bytes : List ℕ) (byte from k : ℕ) {first word : ℕ} → 0 < k → k ≤ 56 → from < 8 → 8 * byte + from + k ≤ 8 * length bytes → 8 ≤ length bytes
    → first ≡ min byte (length bytes - 8) → word ≡ value (take 64 (drop (8 * first) (unpack bytes)))
    → word * 2 ^ (8 * (byte - first) + from) % 2 ^ 64 / 2 ^ (64 - k) ≡ value (take k (drop (8 * byte + from) (unpack bytes)))
out-of-eight bytes byte from k {first} {word} some few b inside long f w =
    let s : 8 * (byte - first) + from + k ≤ 64 = omega arith in
    let l : 8 * first + 64 ≤ length (unpack bytes) = rw length-unpack (omega arith) in
    let e : 8 * first + (8 * (byte - first) + from) ≡ 8 * byte + from = omega arith in
    rw w (rw e at (shifted-out (unpack bytes) (8 * first) (8 * (byte - first) + from) k s l))
