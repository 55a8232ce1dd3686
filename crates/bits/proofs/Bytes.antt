-- Laws of `unpack`: the bits within one byte of a run, and the run after one byte is stored.
use mathlib.Core.Path.{◌≡◌, refl, sym, ap, ◌∙◌}
use mathlib.Core.Bool.{Bool}
use mathlib.Core.List.{List, [], ◌∷◌, ◌++◌}
use Prim.Native.Nat.{ℕ, zero, suc, ◌+◌, ◌-◌, ◌*◌, ◌/◌, ◌%◌, ◌^◌, ◌≤◌, ◌<◌}
use native.Mathlib.Nat.{add_assoc, mod-lt}
use native.Mathlib.Omega.{arith}
use lib.ListN.{length, take, drop, get_or, set, length-append, length-drop}
use lib.Seq.{sets, drop-drop, take-add, length-take-le, take-append-le, drop-append-le, drop-append-add}
use lib.Arith.{digits_lt}
use lib.Pow.{pow-add, pow_pos, shr_lt}
use Rattle.rules.specs.Bits.{field, value, unpack}
use Rattle.bits.proofs.Stores.{sets_first, sets-second, sets-middle}
use Rattle.bits.proofs.Fields.{length-field, field-mod, field-split, field-join, value-append, value-field, take-field, drop-field}

pub length-unpack : (bytes : List ℕ) → length (unpack bytes) ≡ 8 * length bytes
unfolding unpack
length-unpack [] = refl
length-unpack (b ∷ bytes) = rw (length-append, length-unpack bytes, length-field) (omega arith)

-- Bits that lie within one byte are bits of its field.
pub within-byte : (bytes : List ℕ) (i from count : ℕ) → i < length bytes → from + count ≤ 8
    → take count (drop (8 * i + from) (unpack bytes)) ≡ take count (drop from (field 8 (get_or bytes i 0)))
unfolding unpack
within-byte [] i from count h l = absurd (omega arith)
within-byte (b ∷ bytes) zero from count h l =
    let e : 8 * 0 + from ≡ from = omega arith in
    let l₁ : from ≤ length (field 8 b) = rw length-field (omega arith) in
    let l₂ : count ≤ length (drop from (field 8 b)) = rw (length-drop, length-field) (omega arith) in
    rw (e, drop-append-le from (field 8 b) (unpack bytes) l₁, take-append-le count (drop from (field 8 b)) (unpack bytes) l₂)
within-byte (b ∷ bytes) (suc i) from count h l =
    let e : 8 * suc i + from ≡ length (field 8 b) + (8 * i + from) = rw length-field (omega arith) in
    rw (e, drop-append-add (field 8 b) (unpack bytes) (8 * i + from)) (within-byte bytes i from count (omega arith) l)

-- A byte in three parts: the bits before a place, `count` bits from there on, where `room` bits are left, and the bits behind those.
module _ (room count : ℕ) (h : count ≤ room) (l : room ≤ 8) where
  field-byte : (v : ℕ) → field 8 v ≡ field (8 - room) (v / 2 ^ room) ++ field room v
  field-byte v = let e : 8 - room + room ≡ 8 = omega arith in rw e at (field-split (8 - room) room v)

  field_room : (v : ℕ) → field room v ≡ field count (v / 2 ^ (room - count)) ++ field (room - count) v
  field_room v = let e : count + (room - count) ≡ room = omega arith in rw e at (field-split count (room - count) v)

  -- The middle part's value, as a shift and a remainder give it.
  pub part-of-byte : (byte : ℕ) → byte / 2 ^ (room - count) % 2 ^ count ≡ value (take count (drop (8 - room) (field 8 byte)))
  part-of-byte byte = rw (field-byte byte, field_room byte, drop-field, take-field, value-field)

  -- The byte with other bits for its middle part, as one number.
  abbrev pub patched : ℕ → ℕ → ℕ
  patched byte v = byte / 2 ^ room * 2 ^ room + v % 2 ^ count * 2 ^ (room - count) + byte % 2 ^ (room - count)

  low-lt : (byte v : ℕ) → v % 2 ^ count * 2 ^ (room - count) + byte % 2 ^ (room - count) < 2 ^ room
  low-lt byte v =
      let e : count + (room - count) ≡ room = omega arith in
      rw (← pow-add 2 count (room - count), e) at (digits_lt (mod-lt v (pow_pos count)) (mod-lt byte (pow_pos (room - count))))

  pub patched-lt : (byte v : ℕ) → byte < 2 ^ 8 → patched byte v < 2 ^ 8
  patched-lt byte v b =
      let e : 8 - room + room ≡ 8 = omega arith in
      let b' : byte < 2 ^ (8 - room + room) = rw e b in
      rw add_assoc (rw (← pow-add 2 (8 - room) room, e) at (digits_lt (shr_lt (8 - room) room b') (low-lt byte v)))

  pub field-patched : (byte v : ℕ) → field 8 (patched byte v) ≡ sets (field 8 byte) (8 - room) (field count v)
  field-patched byte v =
      let e : 8 - room + room ≡ 8 = omega arith in
      let f : count + (room - count) ≡ room = omega arith in
      let low = v % 2 ^ count * 2 ^ (room - count) + byte % 2 ^ (room - count) in
      let outer : field 8 (byte / 2 ^ room * 2 ^ room + low) ≡ field (8 - room) (byte / 2 ^ room) ++ field room low =
      rw e at (field-join (8 - room) room (byte / 2 ^ room) low (low-lt byte v)) in
      let inner : field room low ≡ field count (v % 2 ^ count) ++ field (room - count) (byte % 2 ^ (room - count)) =
      rw f at (field-join count (room - count) (v % 2 ^ count) (byte % 2 ^ (room - count)) (mod-lt byte (pow_pos (room - count)))) in
      rw (add_assoc, outer, inner, field-mod count v, field-mod (room - count) byte, field-byte byte, field_room byte)
      (sym (sets-middle (field (8 - room) (byte / 2 ^ room)) (field count (byte / 2 ^ (room - count))) (field (room - count) byte) (field count v) (8 - room)
      (length-field (8 - room) (byte / 2 ^ room)) (length-field count v ∙ sym (length-field count (byte / 2 ^ (room - count))))))

-- A byte stored whose field differs by a run of bits is that run of bits stored.
pub unpack-set : (bytes : List ℕ) (i from byte : ℕ) (bs : List Bool) → i < length bytes → from + length bs ≤ 8
    → field 8 byte ≡ sets (field 8 (get_or bytes i 0)) from bs → unpack (set bytes i byte) ≡ sets (unpack bytes) (8 * i + from) bs
unfolding unpack
unpack-set [] i from byte bs h l e = absurd (omega arith)
unpack-set (b ∷ bytes) zero from byte bs h l e =
    let z : 8 * 0 + from ≡ from = omega arith in
    let l' : from + length bs ≤ length (field 8 b) = rw length-field l in
    rw (z, sets_first (field 8 b) (unpack bytes) from bs l') (ap (λ (bits : List Bool). bits ++ unpack bytes) e)
unpack-set (b ∷ bytes) (suc i) from byte bs h l e =
    let z : 8 * suc i + from ≡ length (field 8 b) + (8 * i + from) = rw length-field (omega arith) in
    rw (z, sets-second (field 8 b) (unpack bytes) (8 * i + from) bs) (ap (λ (bits : List Bool). field 8 b ++ bits) (unpack-set bytes i from byte bs (omega arith)
    l e))

-- The value of a run of bits is that of its first bits and that of the others.
pub value-take-add : (bs : List Bool) (at j k : ℕ) → at + (j + k) ≤ length bs
    → value (take (j + k) (drop at bs)) ≡ value (take j (drop at bs)) * 2 ^ k + value (take k (drop (at + j) bs))
value-take-add bs at j k h =
    let l : length (take k (drop j (drop at bs))) ≡ k = length-take-le k (drop j (drop at bs)) (rw (length-drop, length-drop) (omega arith)) in
    rw (take-add j k (drop at bs), value-append, l, drop-drop j at bs)
