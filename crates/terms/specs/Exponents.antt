-- The variables of a board by their exponents in a monomial: those with an odd one, and those with one above 0.
-- A variable's bit is the lowest of the four of its exponent.
use Rattle.std.specs.Prelude.{◌≡◌, refl, Bool, true, false, not, ◌&&◌, [], ◌∷◌, ◌⊎◌, ℕ, zero, suc, ◌+◌, ◌*◌, ◌/◌, ◌%◌, ◌^◌, ◌<◌, ◌≤◌, eqb, length}
use Rattle.std.proofs.Common.{sym, ap, ap₂, ◌∙◌, ⊎_elim, mod-lt, mod-eq_of_lt, div-add-mod', mul_comm, eq-or-lt_of_le, pow_pos}
use Rattle.std.proofs.Math.Nat.{div-div-eq-div-mul}
use native.Mathlib.Omega.{arith, pow_step}
use Rattle.std.specs.Int.Bits.{bit_and, bit_or, and_zero_r}
use Rattle.std.proofs.lemmas.Nat.{and_block, and_mod, and_le_r, or_shr, or_mod, and_mask}
use Rattle.sign_laws.specs.Booleans.{and_first, and_second}
use Rattle.rules.specs.Signs.{SignSet, bit}
use Rattle.rules.specs.Polynomial.{Board, exponent, odd}
use Rattle.terms.specs.Masks.{mask, any_bit}
use Rattle.terms.specs.Words.{word, xor, sixteen, mask_below}

-- the exponent of a variable, by a shift of four bits for each variable that follows
power-of-four-bits : (k : ℕ) → 2 ^ (4 * k) ≡ 16 ^ k
power-of-four-bits zero = refl
power-of-four-bits (suc k) = sixteen k ∙ ap (λ (n : ℕ). 16 * n) (power-of-four-bits k) ∙ sym (power-of-sixteen k)
  where
    power-of-sixteen : (k : ℕ) → 16 ^ suc k ≡ 16 * 16 ^ k
    power-of-sixteen k = omega (arith, pow_step 16 k)

pub exponent-shifted : (m followers : ℕ) → m / 2 ^ (4 * followers) % 16 ≡ exponent m followers
unfolding exponent
exponent-shifted m followers = ap (λ (k : ℕ). m / k % 16) (power-of-four-bits followers)

-- ---- the odd exponents

-- what lies above a word is not read
and_low : (m k b : ℕ) → b < 2 ^ k → bit_and (m % 2 ^ k) b ≡ bit_and m b
and_low m k b h =
    sym (ap (λ (x : ℕ). bit_and (m % 2 ^ k) x) (mod-eq_of_lt h)) ∙ sym (and_mod m b k) ∙ mod-eq_of_lt (below_both (bit_and m b) b (2 ^ k) (and_le_r m b) h)
  where
    below_both : (x b p : ℕ) → x ≤ b → b < p → x < p
    below_both x b p l h = omega arith

pub bit-back : (r : ℕ) → r < 2 → r ≡ bit (eqb r 1)
unfolding bit
bit-back zero h = refl
bit-back (suc zero) h = refl
bit-back (suc (suc r)) h = absurd (omega arith)

-- the lowest bit of an exponent
odd-bit : (m k : ℕ) → m / 2 ^ (4 * k) % 2 ≡ bit (odd (exponent m k))
unfolding odd
odd-bit m k = lowest (m / 2 ^ (4 * k)) ∙ rw (exponent-shifted m k)
  where
    lowest : (n : ℕ) → n % 2 ≡ bit (eqb (n % 16 % 2) 1)
    lowest n = let e : n % 16 % 2 ≡ n % 2 = omega arith in rw e (bit-back (n % 2) (omega arith))

-- the odd exponents
pub odd-word : (m : ℕ) (ss : Board) → bit_and m (mask (λ s. true) ss) ≡ word (λ e s. odd e) ss m
unfolding word mask bit
odd-word m [] = and_zero_r m
odd-word m (s ∷ ss) =
    let p = 2 ^ (4 * length ss) in
    let rest = mask (λ s. true) ss in
    let below = mask_below (λ s. true) ss in
    ap (λ (x : ℕ). bit_and x (1 * p + rest)) (sym (div-add-mod' m p))
    ∙ and_block (4 * length ss) (m / p) 1 (m % p) rest (mod-lt m (pow_pos (4 * length ss))) below
    ∙ ap₂ (λ (x y : ℕ). x * p + y) (and_mask (m / p) 1 ∙ odd-bit m (length ss)) (and_low m (4 * length ss) rest below ∙ odd-word m ss)

word_same : (t u : ℕ → SignSet → Bool) (m n : ℕ) → ((k : ℕ) (s : SignSet) → t (exponent m k) s ≡ u (exponent n k) s) → (ss : Board) → word t ss m ≡ word u ss n
unfolding word
word_same t u m n same [] = refl
word_same t u m n same (s ∷ ss) = ap₂ (λ (b : Bool) (x : ℕ). bit b * 2 ^ (4 * length ss) + x) (same (length ss) s) (word_same t u m n same ss)

-- ---- the exponents above 0, from the four bits of each

any_bit-shifted : (m k : ℕ) → any_bit m / 2 ^ k ≡ any_bit (m / 2 ^ k)
any_bit-shifted m k =
    or_shr (bit_or (bit_or m (m / 2)) (m / 4)) (m / 8) k
    ∙ ap₂ bit_or (or_shr (bit_or m (m / 2)) (m / 4) k ∙ ap₂ bit_or (or_shr m (m / 2) k ∙ ap (bit_or (m / 2 ^ k)) (later 2)) (later 4)) (later 8)
  where
    later : (d : ℕ) → m / d / 2 ^ k ≡ m / 2 ^ k / d
    later d = div-div-eq-div-mul m d (2 ^ k) ∙ ap (λ (n : ℕ). m / n) (mul_comm d (2 ^ k)) ∙ sym (div-div-eq-div-mul m (2 ^ k) d)

four_bits : ℕ → ℕ
four_bits e = bit_or (bit_or (bit_or (e % 2) (e / 2 % 2)) (e / 4 % 2)) (e / 8 % 2)

any_bit-lowest : (n : ℕ) → any_bit n % 2 ≡ four_bits (n % 16)
unfolding four_bits
any_bit-lowest n =
    or_mod (bit_or (bit_or n (n / 2)) (n / 4)) (n / 8) 1
    ∙ ap₂ bit_or (or_mod (bit_or n (n / 2)) (n / 4) 1 ∙ ap₂ bit_or (or_mod n (n / 2) 1 ∙ ap₂ bit_or a b) c) d
  where
    a : n % 2 ≡ n % 16 % 2
    a = omega arith

    b : n / 2 % 2 ≡ n % 16 / 2 % 2
    b = omega arith

    c : n / 4 % 2 ≡ n % 16 / 4 % 2
    c = omega arith

    d : n / 8 % 2 ≡ n % 16 / 8 % 2
    d = omega arith

-- what holds of the numbers below n by one computed test
below_all : ℕ → (ℕ → Bool) → Bool
below_all zero f = true
below_all (suc n) f = f n && below_all n f

below_at : (n : ℕ) (f : ℕ → Bool) → below_all n f ≡ true → (e : ℕ) → e < n → f e ≡ true
unfolding below_all
below_at zero f h e l = absurd (omega arith)
below_at (suc n) f h e l = ⊎_elim (λ (q : e ≡ n). rw q (and_first (f n) (below_all n f) h)) (λ (k : e < n). below_at n f (and_second (f n) (below_all n f) h) e k) (last l)
  where
    last : e < suc n → (e ≡ n) ⊎ (e < n)
    last l = eq-or-lt_of_le (omega arith)

four-bits-some : (e : ℕ) → e < 16 → eqb (four_bits e) 1 ≡ not (eqb e 0)
unfolding four_bits below_all
four-bits-some e h = same (eqb (four_bits e) 1) (not (eqb e 0)) (below_at 16 (λ (e : ℕ). not (xor (eqb (four_bits e) 1) (not (eqb e 0)))) refl e h)
  where
    same : (a b : Bool) → not (xor a b) ≡ true → a ≡ b
    same true true h = refl
    same true false h = sym h
    same false true h = h
    same false false h = refl

bit_test : (b : Bool) → eqb (bit b) 1 ≡ b
unfolding bit
bit_test true = refl
bit_test false = refl

-- the exponents above 0
pub factor-word : (m : ℕ) (ss : Board) → bit_and (any_bit m) (mask (λ s. true) ss) ≡ word (λ e s. not (eqb e 0)) ss m
factor-word m ss = odd-word (any_bit m) ss ∙ word_same (λ e s. odd e) (λ e s. not (eqb e 0)) (any_bit m) m (λ k s. above k) ss
  where
    above : (k : ℕ) → odd (exponent (any_bit m) k) ≡ not (eqb (exponent m k) 0)
    above k =
        sym (bit_test (odd (exponent (any_bit m) k)))
        ∙ ap (λ (n : ℕ). eqb n 1) (sym (odd-bit (any_bit m) k) ∙ ap (λ (n : ℕ). n % 2) (any_bit-shifted m (4 * k)) ∙ any_bit-lowest (m / 2 ^ (4 * k)))
        ∙ four-bits-some (m / 2 ^ (4 * k) % 16) (omega arith) ∙ ap (λ (n : ℕ). not (eqb n 0)) (exponent-shifted m k)
