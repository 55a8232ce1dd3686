-- 01, "The block": "Bit fields, most significant bit first, no gaps." A number's bits, the number of a list of bits, and the bits of bytes.
use Rattle.std.specs.Prelude.{Bool, true, false, List, [], ◌∷◌, ◌++◌, ℕ, zero, suc, ◌+◌, ◌-◌, ◌*◌, ◌/◌, ◌%◌, ◌^◌, length, take, drop, replicate}
use Rattle.rules.specs.Signs.{bit}

unfoldable pub is_one : ℕ → Bool
is_one zero = false
is_one (suc n) = true

-- A field of k bits with the value v.
unfoldable pub field : ℕ → ℕ → List Bool
field zero v = []
field (suc k) v = is_one (v / 2 ^ k % 2) ∷ field k v

-- The value of a list of bits.
unfoldable pub value : List Bool → ℕ
value [] = 0
value (b ∷ bs) = bit b * 2 ^ length bs + value bs

-- The bits of a run of bytes.
unfoldable pub unpack : List ℕ → List Bool
unpack [] = []
unpack (byte ∷ bytes) = field 8 byte ++ unpack bytes

-- The first k bytes of a list of bits.
unfoldable pub pack_bytes : ℕ → List Bool → List ℕ
pack_bytes zero bs = []
pack_bytes (suc k) bs = value (take 8 bs) ∷ pack_bytes k (drop 8 bs)

-- "Then zero bits up to the byte end."
unfoldable pub bytes_for : ℕ → ℕ
bytes_for bits = (bits + 7) / 8

unfoldable pub padded : List Bool → List Bool
padded bs = bs ++ replicate (bytes_for (length bs) * 8 - length bs) false

unfoldable pub pack : List Bool → List ℕ
pack bs = pack_bytes (bytes_for (length bs)) (padded bs)

-- To unfold this is to unfold every definition of this file.
unfoldable pub open_bits : Unit {0}
unfolding is_one field value unpack pack_bytes bytes_for padded pack
open_bits = tt
