-- The bits of a word, one by one, lowest first; what the operations of the code do to each of them.
-- A bit is 0 or 1. Bits above the word are 0.
use Rattle.std.specs.Prelude.{◌≡◌, refl, ◌⊎◌}
use Rattle.std.proofs.Common.{sym, ap₂, ◌∙◌, subst, inl, inr, pow-suc, div-one, zero-add, suc-add, arith, pow_pos}
use Rattle.std.proofs.Math.Path.{ap}
use Rattle.std.proofs.Math.Decide.{ℕ_discrete}
use Prim.Native.Nat.{ℕ, zero, suc, ◌+◌, ◌-◌, ◌*◌, ◌/◌, ◌%◌, ◌^◌, ◌≤◌, ◌<◌, min, max}
use Rattle.std.proofs.Math.Nat.{zero-max, pow-succ', div-div-eq-div-mul}
use Rattle.std.proofs.Math.Arith.{digits_div, digits_mod}
use Rattle.std.specs.Int.Bits.{bit_and, bit_or, bit_xor, differ, and_step, or_step, xor_step}
use Rattle.std.specs.Int.Count.{count_trailing_zeros, under}

unfoldable pub bit : ℕ → ℕ → ℕ
bit a zero = a % 2
bit a (suc k) = bit (a / 2) k

-- the bit k of a is set
infix 4 ◌Has◌
pub record ◌Has◌ (a k : ℕ) : Type 0 where
  pub is : bit a k ≡ 1

pub bit_below : (a k : ℕ) → bit a k < 2
unfolding bit
bit_below a zero = omega arith
bit_below a (suc k) = bit_below (a / 2) k

-- as the code asks for it
pub bit_shifted : (a k : ℕ) → a / 2 ^ k % 2 ≡ bit a k
unfolding bit
bit_shifted a zero = ap (λ (x : ℕ). x % 2) (div-one a)
bit_shifted a (suc k) = ap (λ (x : ℕ). x % 2) (ap (λ (x : ℕ). a / x) (pow-succ' 2 k) ∙ sym (div-div-eq-div-mul a 2 (2 ^ k))) ∙ bit_shifted (a / 2) k

-- the bits of a word without its first j
pub bit-after : (a j k : ℕ) → bit (a / 2 ^ j) k ≡ bit a (j + k)
unfolding bit
bit-after a zero k = ap₂ bit (div-one a) (sym (zero-add k))
bit-after a (suc j) k =
    ap (λ (x : ℕ). bit x k) (ap (λ (x : ℕ). a / x) (pow-succ' 2 j) ∙ sym (div-div-eq-div-mul a 2 (2 ^ j)))
    ∙ bit-after (a / 2) j k ∙ sym (ap (bit a) (suc-add j k))

pub bit-of-none : (k : ℕ) → bit 0 k ≡ 0
unfolding bit
bit-of-none zero = refl
bit-of-none (suc k) = bit-of-none k

-- ---- two words

-- an operation that works on each two digits apart
module _ (op f : ℕ → ℕ → ℕ) (step : (a b : ℕ) → op a b ≡ op (a / 2) (b / 2) * 2 + f (a % 2) (b % 2))
    (small : (x y : ℕ) → x < 2 → y < 2 → f x y < 2) where
  bit-by : (a b k : ℕ) → bit (op a b) k ≡ f (bit a k) (bit b k)
  unfolding bit
  bit-by a b zero = ap (λ (x : ℕ). x % 2) (step a b) ∙ digits_mod (op (a / 2) (b / 2)) (small (a % 2) (b % 2) (omega arith) (omega arith))
  bit-by a b (suc k) =
      ap (λ (x : ℕ). bit x k) (ap (λ (x : ℕ). x / 2) (step a b) ∙ digits_div (op (a / 2) (b / 2)) (small (a % 2) (b % 2) (omega arith) (omega arith)))
      ∙ bit-by (a / 2) (b / 2) k

two_cases : (P : ℕ → Type 0) → P 0 → P 1 → (x : ℕ) → x < 2 → P x
two_cases P a b zero h = a
two_cases P a b (suc zero) h = b
two_cases P a b (suc (suc x)) h = absurd (omega arith)

pub and-bit : (a b k : ℕ) → bit (bit_and a b) k ≡ min (bit a k) (bit b k)
and-bit = bit-by bit_and min and_step (λ x y h k. two_cases (λ (x : ℕ). min x y < 2) (omega arith)
    (two_cases (λ (y : ℕ). min 1 y < 2) (omega arith) (omega arith) y k) x h)

pub or-bit : (a b k : ℕ) → bit (bit_or a b) k ≡ max (bit a k) (bit b k)
or-bit = bit-by bit_or max or_step (λ x y h k. two_cases (λ (x : ℕ). max x y < 2)
    (two_cases (λ (y : ℕ). max 0 y < 2) (omega arith) (omega arith) y k)
    (two_cases (λ (y : ℕ). max 1 y < 2) (omega arith) (omega arith) y k) x h)

pub xor-bit : (a b k : ℕ) → bit (bit_xor a b) k ≡ differ (bit a k) (bit b k)
xor-bit = bit-by bit_xor differ xor_step (λ x y h k. two_cases (λ (x : ℕ). differ x y < 2) k
    (two_cases (λ (y : ℕ). differ 1 y < 2) (omega arith) (omega arith) y k) x h)

-- what of the bits of both is set
pub has_both : {a b k : ℕ} → a Has k → b Has k → bit_and a b Has k
has_both {a} {b} {k} h l = record { is = and-bit a b k ∙ ap₂ min h.is l.is }

pub has_first : {a : ℕ} (b : ℕ) {k : ℕ} → a Has k → bit_or a b Has k
has_first {a} b {k} h = record {
  is = or-bit a b k ∙ ap (λ (x : ℕ). max x (bit b k)) h.is ∙ two_cases (λ (y : ℕ). max 1 y ≡ 1) refl refl (bit b k) (bit_below b k);
}

pub has-second : (a : ℕ) {b k : ℕ} → b Has k → bit_or a b Has k
has-second a {b} {k} h = record {
  is = or-bit a b k ∙ ap (max (bit a k)) h.is ∙ two_cases (λ (x : ℕ). max x 1 ≡ 1) refl refl (bit a k) (bit_below a k);
}

-- a bit of two words together that is not the first one's
pub has-other : (a b : ℕ) {k : ℕ} → bit_or a b Has k → bit a k ≡ 0 → b Has k
has-other a b {k} h e = record { is = sym (zero-max (bit b k)) ∙ ap (λ (x : ℕ). max x (bit b k)) (sym e) ∙ sym (or-bit a b k) ∙ h.is }

-- the bits of a that are not b's
pub record Needed (a b k : ℕ) : Type 0 where
  pub there : a Has k
  pub not_there : bit b k ≡ 0

pub needed : {a b k : ℕ} → bit_and a (bit_xor a b) Has k → Needed a b k
needed {a} {b} {k} h = by (bit a k) (bit_below a k) refl (bit b k) (bit_below b k) refl
    (sym (and-bit a (bit_xor a b) k ∙ ap (min (bit a k)) (xor-bit a b k)) ∙ h.is)
  where
    by : (x : ℕ) → x < 2 → bit a k ≡ x → (y : ℕ) → y < 2 → bit b k ≡ y → min x (differ x y) ≡ 1 → Needed a b k
    by zero l e y m f g = absurd (omega arith)
    by (suc zero) l e zero m f g = record { there = record { is = e }; not_there = f }
    by (suc zero) l e (suc zero) m f g = absurd (omega arith)
    by (suc zero) l e (suc (suc y)) m f g = absurd (omega arith)
    by (suc (suc x)) l e y m f g = absurd (omega arith)

-- ---- one bit

own-bit : (k : ℕ) → bit (2 ^ k) k ≡ 1
unfolding bit
own-bit zero = refl
own-bit (suc k) = ap (λ (x : ℕ). bit x k) (let e = pow-suc 2 k in omega arith) ∙ own-bit k

pub has-own : (k : ℕ) → 2 ^ k Has k
has-own k = record { is = own-bit k }

at-most : (a k : ℕ) → bit a k ≡ 1 → 2 ^ k ≤ a
unfolding bit
at-most a zero e = let z : 2 ^ 0 ≡ 1 = refl in omega arith
at-most a (suc k) e = let f = pow-suc 2 k in let g = at-most (a / 2) k e in omega arith

pub power-at-most : {a k : ℕ} → a Has k → 2 ^ k ≤ a
power-at-most {a} {k} h = at-most a k h.is

-- all other bits of a word stay where one is taken away
taken-away : (k i a : ℕ) → bit a k ≡ 1 → (i ≡ k → ⊥) → bit (a - 2 ^ k) i ≡ bit a i
unfolding bit
taken-away zero zero a e f = absurd (f refl)
taken-away zero (suc i) a e f = ap (λ (x : ℕ). bit x i) (let z : 2 ^ 0 ≡ 1 = refl in omega arith)
taken-away (suc k) zero a e f = let g = pow-suc 2 k in let h = at-most (a / 2) k e in omega arith
taken-away (suc k) (suc i) a e f =
    ap (λ (x : ℕ). bit x i) (let g = pow-suc 2 k in let h = at-most (a / 2) k e in omega arith)
    ∙ taken-away k i (a / 2) e (λ d. f (ap suc d))

-- so a bit of the word is the one or is still there
pub is-or-stays : {a i : ℕ} (k : ℕ) → a Has k → a Has i → (i ≡ k) ⊎ (a - 2 ^ k Has i)
is-or-stays {a} {i} k h l = by (ℕ_discrete i k)
  where
    by : Dec (i ≡ k) → (i ≡ k) ⊎ (a - 2 ^ k Has i)
    by (yes e) = inl e
    by (no f) = inr (record { is = taken-away k i a h.is f ∙ l.is })

-- and what is left was there
pub was-there : {a i : ℕ} (k : ℕ) → a Has k → a - 2 ^ k Has i → a Has i
was-there {a} {i} k h l = by (ℕ_discrete i k)
  where
    by : Dec (i ≡ k) → a Has i
    by (yes e) = subst (λ (j : ℕ). a Has j) (sym e) h
    by (no f) = record { is = sym (taken-away k i a h.is f) ∙ l.is }

-- ---- the lowest bit of a word

lowest-bit : (d a : ℕ) → 0 < a → a < 2 ^ d → bit a (count_trailing_zeros d a) ≡ 1
unfolding bit count_trailing_zeros
lowest-bit zero a h l = let z : 2 ^ 0 ≡ 1 = refl in absurd (omega arith)
lowest-bit (suc d) a h l = by (a % 2) refl (λ e. lowest-bit d (a / 2) (omega arith) (let f = pow-suc 2 d in omega arith))
  where
    by : (r : ℕ) → a % 2 ≡ r → (a % 2 ≡ 0 → bit (a / 2) (count_trailing_zeros d (a / 2)) ≡ 1) → bit a (under r (count_trailing_zeros d (a / 2))) ≡ 1
    by zero e more = more e
    by (suc r) e more = omega arith

pub has-lowest : (d : ℕ) {a : ℕ} → 0 < a → a < 2 ^ d → a Has count_trailing_zeros d a
has-lowest d {a} h l = record { is = lowest-bit d a h l }

pub lowest-below : (d a : ℕ) → 0 < a → a < 2 ^ d → count_trailing_zeros d a < d
unfolding count_trailing_zeros
lowest-below zero a h l = let z : 2 ^ 0 ≡ 1 = refl in absurd (omega arith)
lowest-below (suc d) a h l = by (a % 2) refl (λ e. lowest-below d (a / 2) (omega arith) (let f = pow-suc 2 d in omega arith))
  where
    by : (r : ℕ) → a % 2 ≡ r → (a % 2 ≡ 0 → count_trailing_zeros d (a / 2) < d) → under r (count_trailing_zeros d (a / 2)) < suc d
    by zero e more = let m = more e in omega arith
    by (suc r) e more = omega arith

pub below-lowest : (d a k : ℕ) → k < count_trailing_zeros d a → bit a k ≡ 0
unfolding bit count_trailing_zeros
below-lowest zero a k h = absurd (omega arith)
below-lowest (suc d) a k h = by (a % 2) refl k (below-lowest d (a / 2)) h
  where
    by : (r : ℕ) → a % 2 ≡ r → (k : ℕ) → ((i : ℕ) → i < count_trailing_zeros d (a / 2) → bit (a / 2) i ≡ 0)
        → k < under r (count_trailing_zeros d (a / 2)) → bit a k ≡ 0
    by zero e zero more l = e
    by zero e (suc i) more l = more i (omega arith)
    by (suc r) e k more l = absurd (omega arith)

-- ---- no bits, and all of them

pub none_has : {k : ℕ} → 0 Has k → ⊥
none_has {k} h = let e = h.is in let f = bit-of-none k in omega arith

all-bits : (d k : ℕ) → k < d → bit (2 ^ d - 1) k ≡ 1
unfolding bit
all-bits zero k h = absurd (omega arith)
all-bits (suc d) zero h = let e = pow-suc 2 d in let f = pow_pos d in omega arith
all-bits (suc d) (suc k) h = ap (λ (x : ℕ). bit x k) (let e = pow-suc 2 d in let f = pow_pos d in omega arith) ∙ all-bits d k (omega arith)

pub all_have : (d k : ℕ) → k < d → 2 ^ d - 1 Has k
all_have d k h = record { is = all-bits d k h }
