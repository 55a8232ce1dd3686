-- Words over the variables of a board, one bit for each: the operations on words are those on the tests, one variable at a time.
-- So what is asked of two masks is whether some variable passes one test and not the other, or both, or whether an odd number do.
use Rattle.std.specs.Prelude.{◌≡◌, Bool, true, false, not, ◌&&◌, ◌||◌, ℕ, suc, ◌+◌, ◌*◌, ◌%◌, ◌^◌, ◌<◌, eqb}
use Rattle.std.proofs.Math.Path.{refl, ap₂}
use Rattle.std.proofs.Common.{ap, ◌∙◌, zero-add, eq-eqb, ne_eqb, eqb-true}
use mathlib.Core.List.{[], ◌∷◌}
use native.Mathlib.Omega.{arith, pow_step}
use Rattle.std.proofs.lemmas.Bool.{eqb-false}
use Rattle.std.specs.Int.Bits.{bit_and, bit_or, and_block, or_block}
use Rattle.std.specs.Int.Count.{ones}
use Rattle.std.proofs.lemmas.Nat.{ones_cat}
use Rattle.std.proofs.Math.ListN.{length}
use Rattle.sign_laws.specs.Booleans.{both_ways}
use Rattle.rules.specs.Signs.{SignSet, bit}
use Rattle.rules.specs.Polynomial.{Board, exponent}
use Rattle.terms.specs.Masks.{mask, lacks, meets}

-- the word of the variables that pass a test on their exponents and sets; a mask is such a word, whatever the monomial
unfoldable pub word : (ℕ → SignSet → Bool) → Board → ℕ → ℕ
word test [] m = 0
word test (s ∷ ss) m = bit (test (exponent m (length ss)) s) * 2 ^ (4 * length ss) + word test ss m

-- one of the two and not both
abbrev pub xor : Bool → Bool → Bool
xor true b = not b
xor false b = b

pub xor-false : (a : Bool) → xor a false ≡ a
xor-false true = refl
xor-false false = refl

pub xor_assoc : (a b c : Bool) → xor (xor a b) c ≡ xor a (xor b c)
xor_assoc true true true = refl
xor_assoc true true false = refl
xor_assoc true false c = refl
xor_assoc false b c = refl

-- ---- a word is a bit and a shorter word

-- sixteen times as much
pub sixteen : (k : ℕ) → 2 ^ (4 * suc k) ≡ 16 * 2 ^ (4 * k)
sixteen k =
    let e : 4 * suc k ≡ suc (suc (suc (suc (4 * k)))) = omega arith in
    rw e (omega (arith, pow_step 2 (suc (suc (suc (4 * k)))), pow_step 2 (suc (suc (4 * k))), pow_step 2 (suc (4 * k)), pow_step 2 (4 * k)))

low_bit : (b : Bool) (p r : ℕ) → r < p → bit b * p + r < 16 * p
unfolding bit
low_bit true p r h = omega arith
low_bit false p r h = omega arith

pub word_below : (test : ℕ → SignSet → Bool) (ss : Board) (m : ℕ) → word test ss m < 2 ^ (4 * length ss)
unfolding word
word_below test [] m = omega arith
word_below test (s ∷ ss) m = rw (sixteen (length ss)) (low_bit (test (exponent m (length ss)) s) _ _ (word_below test ss m))

-- ---- and, or

and-bit : (a b : Bool) → bit_and (bit a) (bit b) ≡ bit (a && b)
unfolding bit
and-bit true true = refl
and-bit true false = refl
and-bit false b = refl

or-bit : (a b : Bool) → bit_or (bit a) (bit b) ≡ bit (a || b)
unfolding bit
or-bit true true = refl
or-bit true false = refl
or-bit false true = refl
or-bit false false = refl

module _ (t u : ℕ → SignSet → Bool) (m : ℕ) where
  pub word_and : (ss : Board) → bit_and (word t ss m) (word u ss m) ≡ word (λ e s. t e s && u e s) ss m
  unfolding word
  word_and [] = refl
  word_and (s ∷ ss) =
      and_block (4 * length ss) (bit (t (exponent m (length ss)) s)) (bit (u (exponent m (length ss)) s))
      (word t ss m) (word u ss m) (word_below t ss m) (word_below u ss m)
      ∙ ap₂ (λ (x y : ℕ). x * 2 ^ (4 * length ss) + y) (and-bit _ _) (word_and ss)

  pub word-or : (ss : Board) → bit_or (word t ss m) (word u ss m) ≡ word (λ e s. t e s || u e s) ss m
  unfolding word
  word-or [] = refl
  word-or (s ∷ ss) =
      or_block (4 * length ss) (bit (t (exponent m (length ss)) s)) (bit (u (exponent m (length ss)) s))
      (word t ss m) (word u ss m) (word_below t ss m) (word_below u ss m)
      ∙ ap₂ (λ (x y : ℕ). x * 2 ^ (4 * length ss) + y) (or-bit _ _) (word-or ss)

-- a mask is a word in any monomial
pub mask_word : (test : SignSet → Bool) (ss : Board) (m : ℕ) → mask test ss ≡ word (λ e s. test s) ss m
unfolding word mask
mask_word test [] m = refl
mask_word test (s ∷ ss) m = ap (λ (x : ℕ). bit (test s) * 2 ^ (4 * length ss) + x) (mask_word test ss m)

pub mask_below : (test : SignSet → Bool) (ss : Board) → mask test ss < 2 ^ (4 * length ss)
mask_below test ss = rw (mask_word test ss 0) (word_below (λ e s. test s) ss 0)

-- ---- tests of words

-- some variable passes, and an odd number of them
unfoldable pub any_of : (ℕ → SignSet → Bool) → Board → ℕ → Bool
any_of test [] m = false
any_of test (s ∷ ss) m = test (exponent m (length ss)) s || any_of test ss m

unfoldable pub odd_of : (ℕ → SignSet → Bool) → Board → ℕ → Bool
odd_of test [] m = false
odd_of test (s ∷ ss) m = xor (test (exponent m (length ss)) s) (odd_of test ss m)

any_same : {t u : ℕ → SignSet → Bool} → ((e : ℕ) (s : SignSet) → t e s ≡ u e s) → (ss : Board) (m : ℕ) → any_of t ss m ≡ any_of u ss m
unfolding any_of
any_same same [] m = refl
any_same same (s ∷ ss) m = ap₂ ◌||◌ (same (exponent m (length ss)) s) (any_same same ss m)

bit-words : (a b : Bool) (p r t : ℕ) → r < p → t < p → not (eqb (bit a * p + r) (bit b * p + t)) ≡ xor a b || not (eqb r t)
unfolding bit
bit-words true true p r t h k = ap not (both_ways (eqb (1 * p + r) (1 * p + t)) (eqb r t)
    (λ e. eq-eqb r t (omega (arith, eqb-true (1 * p + r) (1 * p + t) e))) (λ e. eq-eqb (1 * p + r) (1 * p + t) (omega (arith, eqb-true r t e))))
bit-words true false p r t h k = ap not (ne_eqb (1 * p + r) (0 * p + t) (λ (e : 1 * p + r ≡ 0 * p + t). omega arith))
bit-words false true p r t h k = ap not (ne_eqb (0 * p + r) (1 * p + t) (λ (e : 0 * p + r ≡ 1 * p + t). omega arith))
bit-words false false p r t h k = ap not (both_ways (eqb (0 * p + r) (0 * p + t)) (eqb r t)
    (λ e. eq-eqb r t (omega (arith, eqb-true (0 * p + r) (0 * p + t) e))) (λ e. eq-eqb (0 * p + r) (0 * p + t) (omega (arith, eqb-true r t e))))

words-differ : (t u : ℕ → SignSet → Bool) (ss : Board) (m : ℕ) → not (eqb (word t ss m) (word u ss m)) ≡ any_of (λ e s. xor (t e s) (u e s)) ss m
unfolding word any_of
words-differ t u [] m = refl
words-differ t u (s ∷ ss) m =
    bit-words (t (exponent m (length ss)) s) (u (exponent m (length ss)) s) (2 ^ (4 * length ss)) (word t ss m) (word u ss m) (word_below t ss m) (word_below u ss m)
    ∙ ap (λ (b : Bool). xor (t (exponent m (length ss)) s) (u (exponent m (length ss)) s) || b) (words-differ t u ss m)

no_word : (ss : Board) (m : ℕ) → word (λ e s. false) ss m ≡ 0
unfolding word bit
no_word [] m = refl
no_word (s ∷ ss) m = rw (no_word ss m) (omega arith)

ones_bit : (b : Bool) → ones (bit b) ≡ bit b
unfolding bit ones
ones_bit true = refl
ones_bit false = refl

odd-next : (b : Bool) (n : ℕ) → eqb (n % 2) 1 ≡ b → eqb ((1 + n) % 2) 1 ≡ not b
odd-next true n e = ne_eqb ((1 + n) % 2) 1 (λ (f : (1 + n) % 2 ≡ 1). omega (arith, eqb-true (n % 2) 1 e))
odd-next false n e = eq-eqb ((1 + n) % 2) 1 (last_bit n (eqb-false (n % 2) 1 e))
  where
    last_bit : (n : ℕ) → (n % 2 ≡ 1 → ⊥) → (1 + n) % 2 ≡ 1
    last_bit n f = omega arith

odd-more : (a b : Bool) (n : ℕ) → eqb (n % 2) 1 ≡ b → eqb ((bit a + n) % 2) 1 ≡ xor a b
unfolding bit
odd-more true b n e = odd-next b n e
odd-more false b n e = rw (zero-add n) e

-- an odd number of bits is an odd number of variables
pub word-odd : (t : ℕ → SignSet → Bool) (ss : Board) (m : ℕ) → eqb (ones (word t ss m) % 2) 1 ≡ odd_of t ss m
unfolding word odd_of ones
word-odd t [] m = refl
word-odd t (s ∷ ss) m =
    ap (λ (n : ℕ). eqb (n % 2) 1) (ones_cat (4 * length ss) (bit (t (exponent m (length ss)) s)) (word t ss m) (word_below t ss m)
    ∙ ap (λ (n : ℕ). n + ones (word t ss m)) (ones_bit (t (exponent m (length ss)) s))) ∙ odd-more _ _ _ (word-odd t ss m)

-- what is asked of two masks
module _ (t u : ℕ → SignSet → Bool) (ss : Board) (m : ℕ) where
  lack : (a b : Bool) → xor (a && b) a ≡ a && not b
  lack true true = refl
  lack true false = refl
  lack false b = refl

  pub word-lacks : lacks (word t ss m) (word u ss m) ≡ any_of (λ e s. t e s && not (u e s)) ss m
  word-lacks = rw (word_and t u m ss) (words-differ (λ e s. t e s && u e s) t ss m ∙ any_same (λ e s. lack (t e s) (u e s)) ss m)

  pub word-meets : meets (word t ss m) (word u ss m) ≡ any_of (λ e s. t e s && u e s) ss m
  word-meets =
      rw (word_and t u m ss, ← no_word ss m) (words-differ (λ e s. t e s && u e s) (λ e s. false) ss m ∙ any_same (λ e s. xor-false (t e s && u e s)) ss m)
