-- Pairs in a run of bytes are a first pair and the others. What the book's tests say of the pairs that are left, and what is known of those before,
-- give what they say of all.
use mathlib.Core.Path.{◌≡◌, refl, sym, ◌∙◌}
use mathlib.Core.Bool.{Bool, true, false, ◌&&◌}
use mathlib.Core.List.{List, [], ◌∷◌}
use Prim.Native.Nat.{ℕ, zero, suc, ◌+◌, ◌-◌, ◌*◌, ◌/◌, ◌%◌, ◌^◌, ◌≤◌, ◌<◌}
use native.Mathlib.Nat.{add_assoc, add-zero, pow-suc, mul-le-mul_right}
use native.Mathlib.Numerals.{add-one}
use native.Mathlib.Omega.{arith}
use Rattle.std.specs.Prelude.{Ok, Err}
use lib.Dec.{ltb}
use lib.ListN.{length, take, drop}
use lib.Pow.{pow_pos, pow_mono, high, low}
use lib.Seq.{drop-drop}
use borrow.Author.Tests.{lt-ltb, le-ltb, le-leb, lt-leb}
use Rattle.rules.specs.Bits.{value, unpack}
use Rattle.rules.specs.Pairs.{read_pairs, rising, above_zero, monomial_of}
use Rattle.block_laws.specs.Pairs.{four-bits-each}
use Rattle.bits.proofs.Bytes.{length-unpack, value-take-add}
use Rattle.bits.proofs.Fields.{value-take-lt}
use Rattle.pairs.specs.Pairs.{pairs_at, PairsInside, told_of, pairs_told}
use Rattle.pairs.specs.declared.PairsFault.TheVariants.{NotRising, SomeZero}

-- The field of k bits from a bit on.
abbrev pub field_at : List ℕ → ℕ → ℕ → ℕ
field_at bytes at k = value (take k (drop at (unpack bytes)))

next-pair : (bytes : List ℕ) (at count : ℕ) → (count ≡ 0 → ⊥)
    → pairs_at bytes at count ≡ record { variable = field_at bytes at 4; exponent = field_at bytes (at + 4) 4 } ∷ pairs_at bytes (at + 8) (count - 1)
unfolding read_pairs
next-pair bytes at zero some = absurd (some refl)
next-pair bytes at (suc count) some =
    let others : suc count - 1 ≡ count = omega arith in
    let eight : at + 4 + 4 ≡ at + 8 = omega arith in
    rw (others, drop-drop 4 at (unpack bytes), drop-drop 4 (at + 4) (unpack bytes), eight)

-- ---- two fields that are read at once

module _ (bytes : List ℕ) (at j k : ℕ) (inside : at + (j + k) ≤ 8 * length bytes) {word : ℕ} (w : word ≡ field_at bytes at (j + k)) where
  both-parts : word ≡ field_at bytes at j * 2 ^ k + field_at bytes (at + j) k
  both-parts = w ∙ value-take-add (unpack bytes) at j k (rw length-unpack inside)

  pub first_part : word / 2 ^ k ≡ field_at bytes at j
  first_part = rw both-parts (high (field_at bytes at j) k (value-take-lt k (drop (at + j) (unpack bytes))))

  pub last-part : word % 2 ^ k ≡ field_at bytes (at + j) k
  last-part = rw both-parts (low (field_at bytes at j) k (value-take-lt k (drop (at + j) (unpack bytes))))

-- ---- the loop

-- Before pair i: the pairs left rise from `least` on as all do from 0 on, and so for the exponents; those so far leave room for those left.
pub record PairsLeft (n : ℕ) (bytes : List ℕ) (at count i least : ℕ) (above : Bool) (exponents : ℕ) : Type 0 where
  pub up_to : i ≤ count
  pub rises : rising n least (pairs_at bytes (at + 8 * i) (count - i)) ≡ rising n 0 (pairs_at bytes at count)
  pub not_zero : (above && above_zero (pairs_at bytes (at + 8 * i) (count - i))) ≡ above_zero (pairs_at bytes at count)
  pub sum : exponents + monomial_of n (pairs_at bytes (at + 8 * i) (count - i)) ≡ monomial_of n (pairs_at bytes at count)
  pub room : exponents + 16 ^ (n - least) ≤ 16 ^ n

pub pairs-begin : (n : ℕ) (bytes : List ℕ) (at count : ℕ) → PairsLeft n bytes at count 0 0 true 0
pairs-begin n bytes at count =
    let here : at + 8 * 0 ≡ at = omega arith in
    let all : count - 0 ≡ count = omega arith in
    let whole : n - 0 ≡ n = omega arith in
    let none : 0 + monomial_of n (pairs_at bytes at count) ≡ monomial_of n (pairs_at bytes at count) = omega arith in
    record {
      up_to = omega arith;
      rises = rw (here, all);
      not_zero = rw (here, all);
      sum = rw (here, all, none);
      room = rw whole (omega arith);
    }

and_assoc : (a b c : Bool) → ((a && b) && c) ≡ (a && (b && c))
and_assoc true b c = refl
and_assoc false b c = refl

and-true : (a : Bool) → (a && true) ≡ a
and-true true = refl
and-true false = refl

-- 16 to the power of the followers, once more than the exponent says, is at most 16 to the power of all from `least` on.
place-taken : (n least variable exponent : ℕ) → least ≤ variable → variable < n → exponent < 16
    → exponent * 16 ^ (n - 1 - variable) + 16 ^ (n - 1 - variable) ≤ 16 ^ (n - least)
place-taken n least variable exponent rises below small =
    let k = n - 1 - variable in
    let enough : 2 ^ (4 * suc (n - 1 - variable)) ≤ 2 ^ (4 * (n - least)) = pow_mono (omega arith) in
    omega (
      arith,
      rw (four-bits-each (suc (n - 1 - variable)), four-bits-each (n - least)) at enough,
      pow-suc 16 (n - 1 - variable),
      mul-le-mul_right (16 ^ (n - 1 - variable)) small,
    )

-- One turn, at a pair that is there.
module _ {n : ℕ} {bytes : List ℕ} {at count i least : ℕ} {above : Bool} {exponents : ℕ} (inside : PairsInside bytes at count)
    (l : PairsLeft n bytes at count i least above exponents) (more : i < count) {pair : ℕ} (p : pair ≡ field_at bytes (at + 8 * i) 8) where
  pair_inside : at + 8 * i + 8 ≤ 8 * length bytes
  pair_inside = omega (arith, inside.at_most)

  is-next : pairs_at bytes (at + 8 * i) (count - i)
      ≡ record { variable = pair / 16; exponent = pair % 16 } ∷ pairs_at bytes (at + 8 * (i + 1)) (count - (i + 1))
  is-next =
      let behind : at + 8 * (i + 1) ≡ at + 8 * i + 8 = omega arith in
      let fewer : count - (i + 1) ≡ count - i - 1 = omega arith in
      let some : count - i ≡ 0 → ⊥ = λ none. omega arith in
      rw (behind, fewer, first_part bytes (at + 8 * i) 4 4 pair_inside p, last-part bytes (at + 8 * i) 4 4 pair_inside p)
      (next-pair bytes (at + 8 * i) (count - i) some)

  rises-now : rising n least (record { variable = pair / 16; exponent = pair % 16 } ∷ pairs_at bytes (at + 8 * (i + 1)) (count - (i + 1)))
      ≡ rising n 0 (pairs_at bytes at count)
  rises-now = rw is-next at l.rises

  exponent_small : pair % 16 < 16
  exponent_small = omega arith

  pub first_below : pair / 16 < least → Err NotRising ≡ pairs_told n (pairs_at bytes at count)
  unfolding rising told_of
  first_below less = rw (← rises-now, lt-leb least (pair / 16) less)

  module _ (enough : least ≤ pair / 16) where
    pub first-beyond : n ≤ pair / 16 → Err NotRising ≡ pairs_told n (pairs_at bytes at count)
    unfolding rising told_of
    first-beyond beyond = rw (← rises-now, le-leb least (pair / 16) enough, le-ltb (pair / 16) n beyond)

    module _ (below : pair / 16 < n) {placed : ℕ} (d : placed ≡ pair % 16 * 16 ^ (n - 1 - pair / 16)) where
      room-now : exponents + placed + 16 ^ (n - 1 - pair / 16) ≤ 16 ^ n
      room-now = rw d (omega (arith, place-taken n least (pair / 16) (pair % 16) enough below exponent_small, l.room))

      pub sum-small : n ≤ 16 → exponents + placed < 2 ^ 64
      sum-small few =
          let most : 2 ^ (4 * n) ≤ 2 ^ 64 = pow_mono {i = 4 * n} {j = 64} (omega arith) in
          let some : 0 < 2 ^ (4 * (n - 1 - pair / 16)) = pow_pos (4 * (n - 1 - pair / 16)) in
          omega (arith, room-now, rw (four-bits-each n) at most, rw (four-bits-each (n - 1 - pair / 16)) at some)

      pub pairs-go-on : {still : Bool} → still ≡ (above && ltb 0 (pair % 16)) → PairsLeft n bytes at count (i + 1) (pair / 16 + 1) still (exponents + placed)
      unfolding rising above_zero monomial_of
      pairs-go-on still =
          let followers : n - 1 - pair / 16 ≡ n - suc (pair / 16) = omega arith in
          record {
            up_to = omega arith;
            rises = rw (le-leb least (pair / 16) enough, lt-ltb (pair / 16) n below, ← add-one (pair / 16)) at rises-now;
            not_zero = rw (still, and_assoc) (rw is-next at l.not_zero);
            sum = rw (d, followers, add_assoc) (rw is-next at l.sum);
            room = rw (add-one (pair / 16), ← followers) room-now;
          }

-- At the end none is left.
module _ {n : ℕ} {bytes : List ℕ} {at count i least : ℕ} {above : Bool} {exponents : ℕ} (l : PairsLeft n bytes at count i least above exponents)
    (over : count ≤ i) where
  none_left : pairs_at bytes (at + 8 * i) (count - i) ≡ []
  unfolding read_pairs
  none_left = let none : count - i ≡ 0 = omega arith in rw none

  all-rise : rising n 0 (pairs_at bytes at count) ≡ true
  unfolding rising
  all-rise = sym (rw none_left at l.rises)

  all_above : above_zero (pairs_at bytes at count) ≡ above
  unfolding above_zero
  all_above = sym (rw (none_left, and-true above) at l.not_zero)

  pub pairs_end : above ≡ true → Ok exponents ≡ pairs_told n (pairs_at bytes at count)
  unfolding monomial_of told_of
  pairs_end all = rw (all-rise, all_above, all, ← (rw (none_left, add-zero) at l.sum))

  pub pairs-end-zero : above ≡ false → Err SomeZero ≡ pairs_told n (pairs_at bytes at count)
  unfolding told_of
  pairs-end-zero some = rw (all-rise, all_above, some)
