-- The four words of a record: bit p is set exactly if place p is named.
use Rattle.std.specs.Prelude.{◌≡◌, refl, Bool, true, false, ◌||◌, List, [], ◌∷◌, ℕ, zero, suc, ◌+◌, ◌-◌, ◌*◌, ◌/◌, ◌%◌, ◌^◌, ◌<◌, max, eqb, length, get_or, set}
use Rattle.std.proofs.Common.{sym, ap, ◌∙◌, arith, pow-suc, length-set, get_or-set_same, get_or-set_other, pow-add, eqb-true, eq-eqb, ne_eqb}
use Rattle.std.proofs.Math.Logic.{dite}
use Rattle.std.proofs.Math.Decide.{dec_lt}
use Rattle.std.proofs.Math.Nat.{div-eq_of_lt, zero-div}
use Rattle.std.specs.Int.Bits.{bit_or, or_step}
use Rattle.std.proofs.lemmas.Nat.{or_shr, shl-shr}
use Rattle.std.proofs.Math.Pow.{pow-lt}
use Rattle.std.proofs.lemmas.Bool.{eqb-false}
use Rattle.rules.specs.Signs.{bit}
use Rattle.reasons.specs.Records.{no_places, with_place, words_from, words_of}

-- Bit p of the words.
unfoldable pub bit_at : List ℕ → ℕ → ℕ
bit_at words p = get_or words (p / 64) 0 / 2 ^ (p % 64) % 2

unfoldable pub is_named : ℕ → List ℕ → Bool
is_named p [] = false
is_named p (q ∷ l) = eqb p q || is_named p l

-- ---- Bits of one number.

last_bit : (h m : ℕ) → m < 2 → (h * 2 + m) % 2 ≡ m
last_bit h m k = omega arith

or-bit : (a b k : ℕ) → bit_or a b / 2 ^ k % 2 ≡ max (a / 2 ^ k % 2) (b / 2 ^ k % 2)
or-bit a b k =
    let c = a / 2 ^ k in
    let d = b / 2 ^ k in
    rw (or_shr a b k, or_step c d) (last_bit (bit_or (c / 2) (d / 2)) (max (c % 2) (d % 2)) (omega arith))

-- Bit k of 2 ^ j.
power-same : (k : ℕ) → 2 ^ k / 2 ^ k % 2 ≡ 1
power-same k = let e : 2 ^ k ≡ 1 * 2 ^ k = omega arith in ap (λ (m : ℕ). m / 2 ^ k % 2) e ∙ rw (shl-shr 1 k)

small-shifted : (a b : ℕ) → a < b → a / b % 2 ≡ 0
small-shifted a b h = rw (div-eq_of_lt h)

power_below : (j k : ℕ) → j < k → 2 ^ j / 2 ^ k % 2 ≡ 0
power_below j k h = small-shifted (2 ^ j) (2 ^ k) (pow-lt h)

power-above : (j k : ℕ) → k < j → 2 ^ j / 2 ^ k % 2 ≡ 0
power-above j k h =
    let d = j - k - 1 in
    let e : j ≡ suc d + k = omega arith in
    let f : 2 ^ suc d ≡ 2 ^ d * 2 = pow-suc 2 d in
    rw (e, pow-add 2 (suc d) k, shl-shr (2 ^ suc d) k, f) (even (2 ^ d))
  where
    even : (m : ℕ) → m * 2 % 2 ≡ 0
    even m = omega arith

power-bit : (p q : ℕ) → 2 ^ q / 2 ^ p % 2 ≡ bit (eqb p q)
unfolding bit
power-bit p q =
    dite (dec_lt q p) (λ h. rw (ne_eqb p q (λ e. absurd (omega arith))) (power_below q p h))
    (λ h. dite (dec_lt p q) (λ k. rw (ne_eqb p q (λ e. absurd (omega arith))) (power-above q p k))
    (λ k. let e : p ≡ q = omega arith in rw (eq-eqb p q e, e) (power-same q)))

-- ---- One place more.

-- Bit p of a number with bit q too.
one-more : (w p q : ℕ) → bit_or w (2 ^ q) / 2 ^ p % 2 ≡ max (w / 2 ^ p % 2) (bit (eqb p q))
one-more w p q = or-bit w (2 ^ q) p ∙ ap (max (w / 2 ^ p % 2)) (power-bit p q)

-- Places of one word are the same by their bits, others are not.
one_word : (p q : ℕ) → p / 64 ≡ q / 64 → eqb (p % 64) (q % 64) ≡ eqb p q
one_word p q e = by-test (eqb (p % 64) (q % 64)) refl
  where
    by-test : (b : Bool) → eqb (p % 64) (q % 64) ≡ b → b ≡ eqb p q
    by-test true f = let g : p % 64 ≡ q % 64 = eqb-true (p % 64) (q % 64) f in sym (eq-eqb p q (omega arith))
    by-test false f = sym (ne_eqb p q (λ g. eqb-false (p % 64) (q % 64) f (ap (λ (x : ℕ). x % 64) g)))

max-zero : (a : ℕ) → a ≡ max a 0
max-zero a = omega arith

place-bit : (words : List ℕ) → length words ≡ 4 → (p q : ℕ) → p < 256 → bit_at (with_place words q) p ≡ max (bit_at words p) (bit (eqb p q))
unfolding bit_at with_place bit
place-bit words long p q low = by-test (eqb (p / 64) (q / 64)) refl
  where
    with-q : ℕ
    with-q = bit_or (get_or words (q / 64) 0) (2 ^ (q % 64))

    by-test : (b : Bool) → eqb (p / 64) (q / 64) ≡ b → get_or (set words (q / 64) with-q) (p / 64) 0 / 2 ^ (p % 64) % 2
        ≡ max (get_or words (p / 64) 0 / 2 ^ (p % 64) % 2) (bit (eqb p q))
    by-test true f =
        let e : p / 64 ≡ q / 64 = eqb-true (p / 64) (q / 64) f in
        rw (← one_word p q e, e, get_or-set_same words (q / 64) with-q 0 (omega arith)) (one-more (get_or words (q / 64) 0) (p % 64) (q % 64))
    by-test false f =
        let h : p / 64 ≡ q / 64 → ⊥ = eqb-false (p / 64) (q / 64) f in
        rw (get_or-set_other words (q / 64) (p / 64) with-q 0 h, ne_eqb p q (λ e. h (ap (λ (x : ℕ). x / 64) e))) (max-zero _)

-- ---- All places.

pub still-four : (words : List ℕ) (q : ℕ) → length words ≡ 4 → length (with_place words q) ≡ 4
unfolding with_place
still-four words q long = length-set words (q / 64) _ ∙ long

bits-from : (words : List ℕ) → length words ≡ 4 → (p : ℕ) → p < 256 → (l : List ℕ)
    → bit_at (words_from words l) p ≡ max (bit_at words p) (bit (is_named p l))
unfolding words_from is_named bit
bits-from words long p low [] = max-zero (bit_at words p)
bits-from words long p low (q ∷ l) =
    bits-from (with_place words q) (still-four words q long) p low l
    ∙ ap (λ (b : ℕ). max b (bit (is_named p l))) (place-bit words long p q low) ∙ both (bit_at words p) (eqb p q) (is_named p l)
  where
    both : (a : ℕ) (b c : Bool) → max (max a (bit b)) (bit c) ≡ max a (bit (b || c))
    both a true true = omega arith
    both a true false = omega arith
    both a false true = omega arith
    both a false false = omega arith

-- A place below 256 has its bit set exactly if it is named.
pub bit-named : (l : List ℕ) (p : ℕ) → p < 256 → bit_at (words_of l) p ≡ bit (is_named p l)
unfolding words_of bit_at
bit-named l p low = bits-from no_places refl p low l ∙ ap (λ (b : ℕ). max b (bit (is_named p l))) (none (p / 64) (p % 64))
    ∙ zero-max (bit (is_named p l))
  where
    zero-max : (b : ℕ) → max 0 b ≡ b
    zero-max b = omega arith

    nothing : (i : ℕ) → get_or no_places i 0 ≡ 0
    nothing zero = refl
    nothing (suc zero) = refl
    nothing (suc (suc zero)) = refl
    nothing (suc (suc (suc zero))) = refl
    nothing (suc (suc (suc (suc i)))) = refl

    none : (i k : ℕ) → get_or no_places i 0 / 2 ^ k % 2 ≡ 0
    none i k = rw (nothing i, zero-div (2 ^ k))
