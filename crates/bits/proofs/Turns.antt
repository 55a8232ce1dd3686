-- A turn of the loops of `get` and `put`: of the field of k bits at the bit `at`, `left` bits are left, and `count` of them lie in the byte `byte`,
-- whose last `room` bits are those from the next bit on.
use mathlib.Core.Path.{◌≡◌, sym}
use mathlib.Core.List.{List, ◌++◌}
use Prim.Native.Nat.{ℕ, min, ◌+◌, ◌-◌, ◌*◌, ◌/◌, ◌%◌, ◌^◌, ◌≤◌, ◌<◌}
use native.Mathlib.Omega.{arith}
use lib.ListN.{length, take, drop, get_or, set}
use lib.Seq.{sets}
use lib.Pow.{pow_mono, shl_exact}
use Rattle.rules.specs.Bits.{field, value, unpack}
use Rattle.bits.proofs.Stores.{sets-append}
use Rattle.bits.proofs.Fields.{length-field, field-split, value-take-lt}
use Rattle.bits.proofs.Bytes.{length-unpack, within-byte, unpack-set, value-take-add}

-- Where a loop stands.
pub record Standing (at k left byte room : ℕ) : Type 0 where
  pub left_at_most : left ≤ k
  pub some_room : 0 < room
  pub room_at_most : room ≤ 8
  pub next_bit : 0 < left → 8 * byte + (8 - room) ≡ at + (k - left)

-- What a turn knows, in a run of `size` bytes.
pub record Turn (size at k left byte room count : ℕ) : Type 0 where
  pub inside : at + k ≤ 8 * size
  pub standing : Standing at k left byte room
  pub more : 0 < left
  pub counted : count ≡ min room left

pub begins : (at k : ℕ) → Standing at k k (at / 8) (8 - at % 8)
begins at k = record { left_at_most = omega arith; some_room = omega arith; room_at_most = omega arith; next_bit = λ more. omega arith }

module _ {size at k left byte room count : ℕ} (t : Turn size at k left byte room count) where
  here : 8 * byte + (8 - room) ≡ at + (k - left)
  here = t.standing.next_bit t.more

  pub in-range : byte < size
  in-range = omega (arith, here)

  pub goes_on : Standing at k (left - count) (byte + 1) 8
  goes_on =
      record { left_at_most = omega arith; some_room = omega arith; room_at_most = omega arith; next_bit = λ more. omega (arith, here) }

-- ---- reading

module _ (bytes : List ℕ) {at k left byte room count : ℕ} (t : Turn (length bytes) at k left byte room count) where
  one-more : value (take (k - (left - count)) (drop at (unpack bytes)))
      ≡ value (take (k - left) (drop at (unpack bytes))) * 2 ^ count + value (take count (drop (8 - room) (field 8 (get_or bytes byte 0))))
  one-more =
      let e : k - (left - count) ≡ k - left + count = omega arith in
      let all : at + (k - left + count) ≤ length (unpack bytes) = rw length-unpack (omega arith) in
      let one : 8 - room + count ≤ 8 = omega arith in
      rw (e, value-take-add (unpack bytes) at (k - left) count all, ← here t, within-byte bytes byte (8 - room) count (in-range t) one)

  -- The bits that were passed, shifted, with the byte's part behind them, are the bits passed after the turn.
  pub reads_on : (sofar part : ℕ) → k ≤ 64 → sofar ≡ value (take (k - left) (drop at (unpack bytes)))
      → part ≡ value (take count (drop (8 - room) (field 8 (get_or bytes byte 0))))
      → sofar * 2 ^ count % 2 ^ 64 + part ≡ value (take (k - (left - count)) (drop at (unpack bytes)))
  reads_on sofar part short p q =
      let l : sofar < 2 ^ (k - left) = rw p (value-take-lt (k - left) (drop at (unpack bytes))) in
      let room_left : k - left + count ≤ 64 = omega arith in
      rw (shl_exact (k - left) count 64 l room_left, p, q) (sym one-more)

pub fits_word : (bytes : List ℕ) (at k : ℕ) → k ≤ 64 → value (take k (drop at (unpack bytes))) < 2 ^ 64
fits_word bytes at k short = omega (arith, value-take-lt k (drop at (unpack bytes)), pow_mono {i = k} {j = 64} short)

-- ---- storing

module _ (bytes : List ℕ) {at k left byte room count : ℕ} (t : Turn (length bytes) at k left byte room count) where
  -- After the turn's byte is stored, what is left to store gives the same whole.
  pub stores-on : (v patched : ℕ) → field 8 patched ≡ sets (field 8 (get_or bytes byte 0)) (8 - room) (field count (v / 2 ^ (left - count)))
      → sets (unpack (set bytes byte patched)) (at + (k - (left - count))) (field (left - count) v) ≡ sets (unpack bytes) (at + (k - left)) (field left v)
  stores-on v patched p =
      let e : count + (left - count) ≡ left = omega arith in
      let first = field count (v / 2 ^ (left - count)) in
      let two : field left v ≡ first ++ field (left - count) v = rw e at (field-split count (left - count) v) in
      let one : 8 - room + length first ≤ 8 = rw length-field (omega arith) in
      let next : at + (k - (left - count)) ≡ at + (k - left) + length first = rw length-field (omega arith) in
      rw (
        two,
        sets-append (unpack bytes) (at + (k - left)) first (field (left - count) v),
        next,
        unpack-set bytes byte (8 - room) patched first (in-range t) one p,
        here t,
      )
