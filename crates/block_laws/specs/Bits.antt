-- Bit fields: a field that is written reads back, a field that is read writes back; the bits of bytes and the bytes of bits.
-- The other files here speak of fields by these laws alone.
use Rattle.std.specs.Prelude.{Bool, true, false, List, [], ◌∷◌, ◌++◌, ◌≡◌, refl, ℕ, zero, suc, ◌+◌, ◌-◌, ◌*◌, ◌/◌, ◌%◌, ◌^◌, ◌≤◌, ◌<◌, T, ltb, length, take, drop, get_or, replicate}
use Rattle.std.proofs.Common.{append_assoc, sym, ap, ◌∙◌, zero-lt-suc, le_of_suc-le-suc, mul_comm, mul_assoc, mul-le-mul_right, pow-suc, mod-lt, mod-eq_of_lt, one-add, arith, ltb→lt, lit<, length-append, length-take, length-drop, take-append-drop, pow_pos, pow_mono, take_at, drop_at, length-take-le}
use Rattle.std.proofs.Math.Nat.{mod-one, mul-add-div_right}
use Rattle.std.specs.Float.Ieee.Fits.{and_l, and_r}
use Rattle.std.proofs.lemmas.List.{length-replicate}
use Rattle.std.proofs.lemmas.Nat.{mod-pow-add}
use Rattle.std.proofs.Math.Pow.{high, are_bytes}
use Rattle.rules.specs.Signs.{bit}
use Rattle.rules.specs.Bits.{is_one, field, value, unpack, pack_bytes, bytes_for, padded, pack}
use Rattle.sign_laws.specs.Sets.{bit_below}

-- ---- One bit.

is_one-bit : (b : Bool) → is_one (bit b) ≡ b
unfolding is_one bit
is_one-bit true = refl
is_one-bit false = refl

bit-is_one : (v : ℕ) → v < 2 → bit (is_one v) ≡ v
unfolding is_one bit
bit-is_one zero small = refl
bit-is_one (suc zero) small = refl
bit-is_one (suc (suc v)) small = absurd (omega arith)

-- ---- A field and its value.

-- A field is as long as it says.
pub length-field : (k v : ℕ) → length (field k v) ≡ k
unfolding field
length-field zero v = refl
length-field (suc k) v = ap suc (length-field k v)

-- So many bits have a value below that power of two.
pub value-below : (bs : List Bool) → value bs < 2 ^ length bs
unfolding value
value-below [] = omega arith
value-below (b ∷ bs) = omega (arith, value-below bs, pow-suc 2 (length bs), mul-le-mul_right (2 ^ length bs) (le_of_suc-le-suc (bit_below b)))

-- The value of a field of k bits is the number's remainder at 2 to the power k.
pub value-field : (k v : ℕ) → value (field k v) ≡ v % 2 ^ k
unfolding value field
value-field zero v = sym (mod-one v)
value-field (suc k) v =
    rw (value-field k v, length-field k v, bit-is_one (v / 2 ^ k % 2) (mod-lt (v / 2 ^ k) (zero-lt-suc 1))) (sym (rw one-add at (mod-pow-add v 1 k)))

-- A field holds only the low bits of its number.
field-low : (k high low : ℕ) → field k (high * 2 ^ k + low) ≡ field k low
unfolding field
field-low zero high low = refl
field-low (suc k) high low =
    let doubled : high * 2 ^ suc k ≡ high * 2 * 2 ^ k = rw (pow-suc, mul_comm (2 ^ k) 2, mul_assoc) in
    let same : (high * 2 + low / 2 ^ k) % 2 ≡ low / 2 ^ k % 2 = omega arith in
    rw (doubled, field-low k (high * 2) low, mul-add-div_right (pow_pos k) (high * 2) low, same)

-- Bits are the field of their value.
pub field-value : (bs : List Bool) → field (length bs) (value bs) ≡ bs
unfolding field value
field-value [] = refl
field-value (b ∷ bs) =
    rw (high (bit b) (length bs) (value-below bs), field-low (length bs) (bit b) (value bs), field-value bs, mod-eq_of_lt (bit_below b), is_one-bit b)

-- ---- A field in front of a stream.

-- Behind a field stands the rest.
pub drop-field : (k v : ℕ) (rest : List Bool) → drop k (field k v ++ rest) ≡ rest
drop-field k v rest = drop_at (field k v) rest k (length-field k v)

-- A field that was written reads back.
pub written-field : (k v : ℕ) (rest : List Bool) → v < 2 ^ k → value (take k (field k v ++ rest)) ≡ v
written-field k v rest small = rw (take_at (field k v) rest k (length-field k v), value-field, mod-eq_of_lt small)

-- A field that was read writes back.
pub read-field : (k : ℕ) (bs : List Bool) → k ≤ length bs → field k (value (take k bs)) ++ drop k bs ≡ bs
read-field k bs long = rw (rw (length-take-le k bs long) at (field-value (take k bs))) (take-append-drop k bs)

-- A field of k bits is read below 2 to the power k.
pub read_below : (k : ℕ) (bs : List Bool) → value (take k bs) < 2 ^ k
read_below k bs = omega (arith, value-below (take k bs), pow_mono {i = length (take k bs)} {j = k} (rw length-take (omega arith)))

-- ---- Bits and bytes.

-- Every element is a byte: what a slice of bytes tells of its contents.
pub record AllBytes (bytes : List ℕ) : Type 0 where
  pub below : (i : ℕ) → get_or bytes i 0 < 256

-- Bytes that are written out are tested.
pub are-bytes : (bytes : List ℕ) → T (are_bytes bytes) → AllBytes bytes
are-bytes [] tested = record { below = λ i. lit< tt }
are-bytes (byte ∷ bytes) tested =
    let others = are-bytes bytes (and_r (ltb byte 256) (are_bytes bytes) tested) in
    record { below = λ i. elim i as (λ k. get_or (byte ∷ bytes) k 0 < 256) [ zero ↦ ltb→lt byte 256 (and_l (ltb byte 256) (are_bytes bytes) tested) | suc k ↦ others.below k ] }

-- Eight bits for a byte.
pub length-unpack : (bytes : List ℕ) → length (unpack bytes) ≡ 8 * length bytes
unfolding unpack
length-unpack [] = refl
length-unpack (byte ∷ bytes) = rw (length-append, length-unpack bytes, length-field) (omega arith)

-- The bits of bytes one after the other.
pub unpack-append : (front more : List ℕ) → unpack (front ++ more) ≡ unpack front ++ unpack more
unfolding unpack
unpack-append [] more = refl
unpack-append (byte ∷ front) more = rw (unpack-append front more, append_assoc)

length-pack_bytes : (k : ℕ) (bs : List Bool) → length (pack_bytes k bs) ≡ k
unfolding pack_bytes
length-pack_bytes zero bs = refl
length-pack_bytes (suc k) bs = ap suc (length-pack_bytes k (drop 8 bs))

pack_bytes-below : (k : ℕ) (bs : List Bool) (i : ℕ) → get_or (pack_bytes k bs) i 0 < 256
unfolding pack_bytes
pack_bytes-below zero bs i = omega arith
pack_bytes-below (suc k) bs zero = read_below 8 bs
pack_bytes-below (suc k) bs (suc i) = pack_bytes-below k (drop 8 bs) i

no_bits : (bs : List Bool) → length bs ≡ 0 → [] ≡ bs
no_bits [] none = refl
no_bits (b ∷ bs) none = absurd (omega arith)

unpack-pack_bytes : (k : ℕ) (bs : List Bool) → length bs ≡ 8 * k → unpack (pack_bytes k bs) ≡ bs
unfolding unpack pack_bytes
unpack-pack_bytes zero bs whole = no_bits bs whole
unpack-pack_bytes (suc k) bs whole =
    let byte : field 8 (value (take 8 bs)) ++ drop 8 bs ≡ bs = read-field 8 bs (omega arith) in
    rw (unpack-pack_bytes k (drop 8 bs) (rw length-drop (omega arith))) byte

pack_bytes-unpack : (bytes : List ℕ) → AllBytes bytes → pack_bytes (length bytes) (unpack bytes) ≡ bytes
unfolding unpack pack_bytes
pack_bytes-unpack [] small = refl
pack_bytes-unpack (byte ∷ bytes) small =
    rw (written-field 8 byte (unpack bytes) (small.below 0), drop-field 8 byte (unpack bytes), pack_bytes-unpack bytes (record { below = λ i. small.below (suc i) }))

-- ---- Zero bits up to the byte end.

-- Where fewer than eight bits more fill up bytes, the bits need that many bytes.
pub bytes_for-filled : (n more bytes : ℕ) → n + more ≡ 8 * bytes → more < 8 → bytes_for n ≡ bytes
unfolding bytes_for
bytes_for-filled n more bytes filled few = omega arith

-- Fewer than eight bits are added.
pub few-added : (n : ℕ) → bytes_for n * 8 - n < 8
unfolding bytes_for
few-added n = omega arith

length-padded : (bs : List Bool) → length (padded bs) ≡ 8 * bytes_for (length bs)
unfolding padded bytes_for
length-padded bs = rw (length-append bs _, length-replicate) (omega arith)

-- As many bytes as the bits need.
pub length-pack : (bs : List Bool) → length (pack bs) ≡ bytes_for (length bs)
unfolding pack
length-pack bs = length-pack_bytes (bytes_for (length bs)) (padded bs)

-- What is packed is bytes.
pub pack-bytes : (bs : List Bool) → AllBytes (pack bs)
unfolding pack
pack-bytes bs = record { below = pack_bytes-below (bytes_for (length bs)) (padded bs) }

-- The packed bits come back, with zero bits behind them.
pub unpack-pack : (bs : List Bool) → unpack (pack bs) ≡ bs ++ replicate (bytes_for (length bs) * 8 - length bs) false
unfolding pack padded
unpack-pack bs = unpack-pack_bytes (bytes_for (length bs)) (padded bs) (length-padded bs)

-- Bytes that hold bits and fewer than eight zero bits are the bytes which those bits pack to.
pub pack-unpacked : (bytes : List ℕ) (bs : List Bool) (zeros : ℕ) → AllBytes bytes → unpack bytes ≡ bs ++ replicate zeros false → zeros < 8 → pack bs ≡ bytes
unfolding pack padded
pack-unpacked bytes bs zeros small holds few =
    let filled : length bs + zeros ≡ 8 * length bytes = sym (sym (length-unpack bytes) ∙ ap length holds ∙ rw (length-append bs _, length-replicate)) in
    let count : bytes_for (length bs) ≡ length bytes = bytes_for-filled (length bs) zeros (length bytes) filled few in
    let added : length bytes * 8 - length bs ≡ zeros = omega arith in
    rw (count, added, ← holds) (pack_bytes-unpack bytes small)
