-- How many signs a set has, and how many it can lose: what the rounds count down.
-- The signs are counted by their three bits; a set below 8 is nothing but these.
use Rattle.std.specs.Prelude.{◌≡◌, refl, Bool, true, false, ◌≢◌, ℕ, ◌+◌, ◌-◌, ◌*◌, ◌≤◌, ◌<◌}
use Rattle.std.proofs.Common.{arith}
use Rattle.rules.specs.Signs.{Sign, negative, nought, positive, SignSet, full, only, has, bit, set_of, intersect}
use Rattle.sign_laws.specs.Sets.{bit_below, set_of-has, PartOf}

-- How many signs a set has.
unfoldable pub size : SignSet → ℕ
size a = bit (has negative a) + bit (has nought a) + bit (has positive a)

-- How many signs a set can lose and still have one.
unfoldable pub spare : SignSet → ℕ
spare a = size a - 1

-- ---- The bits of a set, and of a part of it.

bits_below : (a : SignSet) → (bit (has negative a) < 2) × (bit (has nought a) < 2) × (bit (has positive a) < 2)
bits_below a = (bit_below (has negative a), bit_below (has nought a), bit_below (has positive a))

by_bits : (a : SignSet) → a < 8 → bit (has negative a) * 4 + bit (has nought a) * 2 + bit (has positive a) ≡ a
unfolding set_of
by_bits a h = set_of-has a h

bit-part : {a b : SignSet} → PartOf b a → (x : Sign) → bit (has x b) ≤ bit (has x a)
unfolding bit
bit-part {a} {b} p x = of-truth (has x b) (has x a) (λ h. (p.each x (record { is = h })).is)
  where
    of-truth : (b c : Bool) → (b ≡ true → c ≡ true) → bit b ≤ bit c
    of-truth true c h = rw (h refl) (omega arith)
    of-truth false c h = omega arith

-- ---- What a set can lose.

-- A set can lose at most two signs.
pub spare-at-most : (a : SignSet) → spare a ≤ 2
unfolding spare size
spare-at-most a = omega (arith, bits_below a)

-- A part can lose no more.
pub spare-part : {a b : SignSet} → PartOf b a → spare b ≤ spare a
unfolding spare size
spare-part p = omega (arith, bit-part p negative, bit-part p nought, bit-part p positive)

-- A cut that changes a set below 8, and leaves a sign in it, takes a sign out.
pub spare-falls : {a b : SignSet} → a < 8 → b < 8 → PartOf b a → b ≢ 0 → a ≢ b → spare b < spare a
unfolding spare size
spare-falls {a} {b} h i p left differs =
    let one : 0 < size b = omega (arith, by_bits b i) in
    let fewer : size b < size a = omega (arith, by_bits a h, by_bits b i, bit-part p negative, bit-part p nought, bit-part p positive) in
    omega (arith, one, fewer)

-- A set below 8 that can lose two signs is full.
pub spare-full : (a : SignSet) → a < 8 → spare a ≡ 2 → a ≡ full
unfolding spare size
spare-full a h two = omega (arith, by_bits a h, bits_below a)

-- What has every sign leaves the full set full.
pub full-part : (b : SignSet) → PartOf full b → intersect full b ≡ full
unfolding intersect set_of has only bit
full-part b p = omega (arith, bit-part p negative, bit-part p nought, bit-part p positive, bits_below b)
