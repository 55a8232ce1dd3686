-- Laws of `pack_bytes`: bits to bytes and back, and bytes whose first bits are given.
use mathlib.Core.Path.{◌≡◌, refl, sym, ap, ◌∙◌}
use mathlib.Core.Bool.{Bool, false}
use mathlib.Core.List.{List, [], ◌∷◌, ◌++◌}
use Prim.Native.Nat.{ℕ, zero, suc, ◌+◌, ◌-◌, ◌*◌, ◌≤◌, ◌<◌}
use native.Mathlib.Nat.{zero-add, suc-add, mod-eq_of_lt, zero-div}
use native.Mathlib.Omega.{arith}
use lib.ListN.{length, drop, get_or, replicate, length-drop}
use lib.Seq.{sets, sets-eq, take-append-le, drop-append-le, drop-nil, get_or-drop}
use Rattle.rules.specs.Bits.{is_one, field, unpack, pack_bytes}
use Rattle.bits.proofs.Bytes.{length-unpack}
use Rattle.bits.proofs.Fields.{value-field, take-field, drop-field}

pub length-pack_bytes : (k : ℕ) (bs : List Bool) → length (pack_bytes k bs) ≡ k
unfolding pack_bytes
length-pack_bytes zero bs = refl
length-pack_bytes (suc k) bs = ap suc (length-pack_bytes k (drop 8 bs))

-- Bytes from their bits.
pub pack_bytes-unpack : (bytes : List ℕ) → ((i : ℕ) → get_or bytes i 0 < 256) → pack_bytes (length bytes) (unpack bytes) ≡ bytes
unfolding unpack pack_bytes
pack_bytes-unpack [] small = refl
pack_bytes-unpack (byte ∷ bytes) small =
    rw (take-field 8 byte (unpack bytes), drop-field 8 byte (unpack bytes), value-field 8 byte, mod-eq_of_lt (small 0), pack_bytes-unpack bytes (λ i. small (suc i)))

nothing_left : (bs : List Bool) → length bs ≡ 0 → [] ≡ bs
nothing_left [] h = refl
nothing_left (b ∷ bs) h = absurd (omega arith)

-- The bytes of two runs of bits, the first of whole bytes.
pack_bytes-append : (j k : ℕ) (a b : List Bool) → length a ≡ 8 * j → pack_bytes (j + k) (a ++ b) ≡ pack_bytes j a ++ pack_bytes k b
unfolding pack_bytes
pack_bytes-append zero k a b h = rw (zero-add, ← nothing_left a h)
pack_bytes-append (suc j) k a b h =
    let l : 8 ≤ length a = omega arith in
    let l' : length (drop 8 a) ≡ 8 * j = rw length-drop (omega arith) in
    rw (suc-add, take-append-le 8 a b l, drop-append-le 8 a b l, pack_bytes-append j k (drop 8 a) b l')

drop-unpack : (k : ℕ) (bytes : List ℕ) → drop (8 * k) (unpack bytes) ≡ unpack (drop k bytes)
unfolding unpack field
drop-unpack zero bytes = refl
drop-unpack (suc k) [] = drop-nil (8 * suc k)
drop-unpack (suc k) (byte ∷ bytes) =
    let z : 8 * suc k ≡ suc (suc (suc (suc (suc (suc (suc (suc (8 * k)))))))) = omega arith in
    rw (z, drop-unpack k bytes)

-- Bytes that differ from others by k bytes' bits at the front are those with the k bytes stored.
pub front_bytes : (before after : List ℕ) (bs : List Bool) (k : ℕ) → ((i : ℕ) → get_or before i 0 < 256) → ((i : ℕ) → get_or after i 0 < 256)
    → length after ≡ length before
    → length bs ≡ 8 * k → k ≤ length before → unpack after ≡ sets (unpack before) 0 bs → after ≡ sets before 0 (pack_bytes k bs)
front_bytes before after bs k small small' same whole inside e =
    let others : (i : ℕ) → get_or (drop k before) i 0 < 256 = λ i. rw get_or-drop (small (k + i)) in
    let n : length after ≡ k + length (drop k before) = rw length-drop (omega arith) in
    let l : 0 + length bs ≤ length (unpack before) = rw length-unpack (omega arith) in
    let l' : 0 + length (pack_bytes k bs) ≤ length before = rw length-pack_bytes (omega arith) in
    let bits : unpack after ≡ bs ++ drop (8 * k) (unpack before) = e ∙ sets-eq bs (unpack before) 0 l ∙ rw (zero-add, whole) in
    let bytes : sets before 0 (pack_bytes k bs) ≡ pack_bytes k bs ++ drop k before = sets-eq (pack_bytes k bs) before 0 l' ∙ rw (zero-add, length-pack_bytes) in
    let same_bytes : pack_bytes (length after) (unpack after) ≡ pack_bytes k bs ++ drop k before =
    rw (bits, n, pack_bytes-append k (length (drop k before)) bs (drop (8 * k) (unpack before)) whole, drop-unpack k before, pack_bytes-unpack (drop k before) others)
    in
    sym (pack_bytes-unpack after small') ∙ same_bytes ∙ sym bytes

-- A field of zeros.
pub field-nought : (k : ℕ) → field k 0 ≡ replicate k false
unfolding field is_one
field-nought zero = refl
field-nought (suc k) = rw (zero-div, field-nought k)
