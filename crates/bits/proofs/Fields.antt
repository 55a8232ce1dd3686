-- Laws of `field` and `value`: a field of two parts, the value of a field, the field of a value.
-- A field of k bits is any list of k bits, and no two numbers below 2 ^ k have the same.
use mathlib.Core.Path.{◌≡◌, refl, sym, ap, ◌∙◌}
use mathlib.Core.Bool.{Bool, true, false}
use mathlib.Core.List.{List, [], ◌∷◌, ◌++◌}
use Prim.Native.Nat.{ℕ, zero, suc, ◌+◌, ◌*◌, ◌/◌, ◌%◌, ◌^◌, ◌≤◌, ◌<◌}
use native.Mathlib.Nat.{suc-add, add-mul, mul_assoc, mul_comm, pow-suc, mod-lt, mod-one, mod-eq_of_lt, mul-le-mul_right, mul-add-div_right, zero-add, zero-lt-suc}
use native.Mathlib.Numerals.{one-add}
use native.Mathlib.Omega.{arith}
use lib.ListN.{length, take, drop, length-append, length-take}
use lib.Seq.{take_at, drop_at}
use lib.Pow.{pow-add, pow_pos, pow_mono, mod-pow-add, split, high, shr-shr}
use Rattle.rules.specs.Signs.{bit}
use Rattle.rules.specs.Bits.{is_one, field, value}

-- ---- one bit

pub bit-lt : (b : Bool) → bit b < 2
unfolding bit
bit-lt true = omega arith
bit-lt false = omega arith

pub is_one-bit : (b : Bool) → is_one (bit b) ≡ b
unfolding bit is_one
is_one-bit true = refl
is_one-bit false = refl

pub bit-is_one : (n : ℕ) → n < 2 → bit (is_one n) ≡ n
unfolding bit is_one
bit-is_one zero h = refl
bit-is_one (suc zero) h = refl
bit-is_one (suc (suc n)) h = absurd (omega arith)

-- ---- fields

pub length-field : (k v : ℕ) → length (field k v) ≡ k
unfolding field
length-field zero v = refl
length-field (suc k) v = ap suc (length-field k v)

-- Only the last k bits of a number are in its field.
pub field-low : (k high low : ℕ) → field k (high * 2 ^ k + low) ≡ field k low
unfolding field
field-low zero h l = refl
field-low (suc k) h l =
    let e : h * 2 ^ suc k ≡ h * 2 * 2 ^ k = rw (pow-suc, mul_comm (2 ^ k) 2, mul_assoc) in
    let m : (h * 2 + l / 2 ^ k) % 2 ≡ l / 2 ^ k % 2 = omega arith in
    rw (e, field-low k (h * 2) l, mul-add-div_right (pow_pos k) (h * 2) l, m)

pub field-mod : (k v : ℕ) → field k (v % 2 ^ k) ≡ field k v
field-mod k v = sym (field-low k (v / 2 ^ k) (v % 2 ^ k)) ∙ ap (field k) (split v k)

-- A field of j + k bits is a field of j bits and then one of k bits.
pub field-split : (j k v : ℕ) → field (j + k) v ≡ field j (v / 2 ^ k) ++ field k v
unfolding field
field-split zero k v = rw zero-add
field-split (suc j) k v =
    let e : k + j ≡ j + k = omega arith in
    rw (suc-add, shr-shr v k j, e, field-split j k v)

-- The two fields of a number that is put together of two.
pub field-join : (j k high low : ℕ) → low < 2 ^ k → field (j + k) (high * 2 ^ k + low) ≡ field j high ++ field k low
field-join j k h l less = rw (field-split j k (h * 2 ^ k + l), high h k less, field-low k h l)

-- ---- values

pub value-lt : (bs : List Bool) → value bs < 2 ^ length bs
unfolding value
value-lt [] = omega arith
value-lt (b ∷ bs) =
    let one : bit b ≤ 1 = omega (arith, bit-lt b) in
    omega (arith, value-lt bs, pow-suc 2 (length bs), mul-le-mul_right (2 ^ length bs) one)

pub value-append : (xs ys : List Bool) → value (xs ++ ys) ≡ value xs * 2 ^ length ys + value ys
unfolding value
value-append [] ys = omega arith
value-append (x ∷ xs) ys = rw (value-append xs ys, length-append xs ys, pow-add, add-mul, mul_assoc) (omega arith)

-- The value of a field is the number, cut to the field's bits.
pub value-field : (k v : ℕ) → value (field k v) ≡ v % 2 ^ k
unfolding value field
value-field zero v = sym (mod-one v)
value-field (suc k) v =
    rw (value-field k v, length-field k v, bit-is_one (v / 2 ^ k % 2) (mod-lt (v / 2 ^ k) (zero-lt-suc 1)))
    (sym (rw one-add at (mod-pow-add v 1 k)))

-- The field of a list's value is the list.
pub field-value : (bs : List Bool) → field (length bs) (value bs) ≡ bs
unfolding field value
field-value [] = refl
field-value (b ∷ bs) =
    rw (high (bit b) (length bs) (value-lt bs), field-low (length bs) (bit b) (value bs), field-value bs, mod-eq_of_lt (bit-lt b), is_one-bit b)

-- ---- the first bits of a list

pub value-take-lt : (k : ℕ) (bs : List Bool) → value (take k bs) < 2 ^ k
value-take-lt k bs = omega (arith, value-lt (take k bs), pow_mono {i = length (take k bs)} {j = k} (rw length-take (omega arith)))

pub take-field : (k v : ℕ) (bs : List Bool) → take k (field k v ++ bs) ≡ field k v
take-field k v bs = take_at (field k v) bs k (length-field k v)

pub drop-field : (k v : ℕ) (bs : List Bool) → drop k (field k v ++ bs) ≡ bs
drop-field k v bs = drop_at (field k v) bs k (length-field k v)
