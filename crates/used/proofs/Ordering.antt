-- The order of first use as it is built, token by token: the slots listed so far, their numbers, and what the rest of the tape adds.
-- It is the invariant of the walk over the tape, and what each kind of token does to it.
use mathlib.Core.Path.{◌≡◌, refl, sym, ap, ◌∙◌}
use mathlib.Core.Bool.{false}
use mathlib.Core.List.{List, [], ◌∷◌, ◌++◌}
use Prim.Native.Nat.{ℕ, zero, suc, ◌+◌, ◌/◌, ◌<◌, ◌≤◌}
use native.Mathlib.Omega.{arith}
use lib.Dec.{eqb}
use lib.ListN.{length, get_or, set, take, replicate, length-append, get_or-replicate}
use lib.Seq.{sets, slice, length-sets}
use borrow.Author.Tests.{eq-eqb, ne_eqb}
use Rattle.rules.specs.Signs.{bit}
use Rattle.bits.proofs.Stores.{sets-append}
use Rattle.used.specs.FirstUse.{slots_of, listed, listed_unless, first_uses, order_of, place_if, number_of, Numbers, TapeFits, Ordered}
use Rattle.used.proofs.Slots.{slot-of-atom, slot-of-join, tape-next, tape-end}
use Rattle.used.proofs.FirstUse.{new-slot, known_slot, numbers-added}

-- ---- The slots that have no number yet: each new one takes one of them, so there are never more than 64.

unfoldable pub free : List ℕ → ℕ
free [] = 0
free (number ∷ later) = bit (eqb number 64) + free later

-- A slot without a number is one of them,
free-some : (number : List ℕ) (slot : ℕ) → slot < length number → get_or number slot 0 ≡ 64 → 0 < free number
unfolding free bit
free-some [] slot h e = absurd (omega arith)
free-some (number ∷ later) zero h e = rw (eq-eqb number 64 e) (omega arith)
free-some (number ∷ later) (suc slot) h e = omega (arith, free-some later slot (omega arith) e)

-- and there is one less when it gets one.
free-taken : (number : List ℕ) (slot n : ℕ) → slot < length number → get_or number slot 0 ≡ 64 → (n ≡ 64 → ⊥) → free (set number slot n) + 1 ≡ free number
unfolding free bit
free-taken [] slot n h e ne = absurd (omega arith)
free-taken (number ∷ later) zero n h e ne = rw (eq-eqb number 64 e, ne_eqb n 64 ne) (omega arith)
free-taken (number ∷ later) (suc slot) n h e ne = omega (arith, free-taken later slot n (omega arith) e ne)

-- ---- The walk.

-- Where the walk stands at place i: the order so far, which the rest of the tape makes into the whole order.
pub record Ordering (token : List ℕ) (count : ℕ) (array array' number : List ℕ) (used i : ℕ) : Type 0 where
  pub order : List ℕ
  pub within : i ≤ count
  pub rest : first_uses order (slots_of (slice i count token)) ≡ order_of (take count token)
  pub counted : used ≡ length order
  pub left : free number + used ≡ 64
  pub stored : array' ≡ sets array 0 order
  pub numbers : Numbers order number

-- Nothing is listed at the start, and no slot has a number.
pub ordering-starts : (token : List ℕ) (count : ℕ) (array number : List ℕ) → number ≡ replicate 64 64 → Ordering token count array array number 0 0
unfolding free bit number_of place_if listed
ordering-starts token count array number e = record {
  order = [];
  within = omega arith;
  rest = refl;
  counted = refl;
  left = rw e;
  stored = refl;
  numbers = record { size = rw e; each = λ slot h. rw e (get_or-replicate 64 slot 64 0 h) };
}

module _ {token : List ℕ} {count : ℕ} {array array' number : List ℕ} {used i : ℕ} (tape : TapeFits token count) (h : i < count)
    (sofar : Ordering token count array array' number used i) where
  -- An AND or an OR adds nothing,
  pub ordering-join : 16777216 ≤ get_or token i 0 → Ordering token count array array' number used (i + 1)
  ordering-join j = record {
    order = sofar.order;
    within = omega arith;
    rest =
        let next : slots_of (slice i count token) ≡ slots_of (slice (i + 1) count token) =
        ap slots_of (tape-next token count i h tape.long) ∙ slot-of-join (get_or token i 0) (slice (i + 1) count token) j in
        ap (first_uses sofar.order) (sym next) ∙ sofar.rest;
    counted = sofar.counted;
    left = sofar.left;
    stored = sofar.stored;
    numbers = sofar.numbers;
  }

  module _ (a : get_or token i 0 < 16777216) where
    abbrev slot : ℕ
    slot = get_or token i 0 / 8

    -- An atom names a slot below 64.
    pub slot_small : slot < 64
    slot_small = omega (arith, tape.slots i h a)

    slot-there : slot < length number
    slot-there = omega (arith, sofar.numbers.size, slot_small)

    -- The rest goes on from the order with the atom's slot.
    next-slot : first_uses (listed_unless (listed sofar.order slot) slot sofar.order) (slots_of (slice (i + 1) count token)) ≡ order_of (take count token)
    unfolding first_uses
    next-slot =
        let next : slots_of (slice i count token) ≡ slot ∷ slots_of (slice (i + 1) count token) =
        ap slots_of (tape-next token count i h tape.long) ∙ slot-of-atom (get_or token i 0) (slice (i + 1) count token) a in
        ap (first_uses sofar.order) (sym next) ∙ sofar.rest

    -- and neither does an atom whose slot has a number.
    pub ordering-known : (get_or number slot 0 ≡ 64 → ⊥) → Ordering token count array array' number used (i + 1)
    unfolding listed_unless
    ordering-known ne = record {
      order = sofar.order;
      within = omega arith;
      rest = rw (known_slot sofar.order slot (λ e. ne (sofar.numbers.each slot slot_small ∙ e))) at next-slot;
      counted = sofar.counted;
      left = sofar.left;
      stored = sofar.stored;
      numbers = sofar.numbers;
    }

    module _ (none : get_or number slot 0 ≡ 64) where
      -- Where its slot has none, there is room for another one,
      pub used-below : used < 64
      used-below = omega (arith, free-some number slot slot-there none, sofar.left)

      -- which goes behind those listed.
      pub ordering-new : Ordering token count array (set array' used slot) (set number slot used) (used + 1) (i + 1)
      unfolding listed_unless
      ordering-new =
          let new : listed sofar.order slot ≡ false =
          new-slot sofar.order slot (omega (arith, sofar.counted, used-below)) (sym (sofar.numbers.each slot slot_small) ∙ none) in
          let size : length (sofar.order ++ (slot ∷ [])) ≡ length sofar.order + 1 = length-append sofar.order (slot ∷ []) in
          record {
            order = sofar.order ++ (slot ∷ []);
            within = omega arith;
            rest = rw new at next-slot;
            counted = omega (arith, sofar.counted, size);
            left = omega (arith, free-taken number slot used slot-there none (λ e. omega (arith, used-below, e)), sofar.left);
            stored = last_stored;
            numbers = rw sofar.counted (numbers-added slot_small new sofar.numbers);
          }
        where
          last_stored : set array' used slot ≡ sets array 0 (sofar.order ++ (slot ∷ []))
          last_stored =
              let place : used ≡ 0 + length sofar.order = omega (arith, sofar.counted) in
              rw (sofar.stored, place) (sym (sets-append array 0 sofar.order (slot ∷ [])))

-- The array of the order keeps its size.
pub array_size : {token : List ℕ} {count : ℕ} {array array' number : List ℕ} {used i : ℕ}
    → Ordering token count array array' number used i → length array' ≡ length array
array_size {array = array} walk = ap length walk.stored ∙ length-sets array 0 walk.order

-- The walk is done: the order is that of the tape.
pub ordered : {token : List ℕ} {count : ℕ} {array array' number : List ℕ} {used i : ℕ} → Ordering token count array array' number used i → count ≤ i
    → Ordered (order_of (take count token)) array array' number used
unfolding first_uses slots_of
ordered {token} {count} {array} {array'} {number} {used} {i} walk h =
    let all : slots_of (slice i count token) ≡ slots_of [] = ap slots_of (tape-end token count i walk.within h) in
    let whole : walk.order ≡ order_of (take count token) = ap (first_uses walk.order) (sym all) ∙ walk.rest in
    record {
      counted = rw (← whole) walk.counted;
      few = omega (arith, walk.left);
      stored = rw (← whole) walk.stored;
      numbers = rw (← whole) walk.numbers;
    }
