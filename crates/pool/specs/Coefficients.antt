-- A coefficient in a word: twice the number, or, below 0, twice the numbers between it and 0 and one more. Each word is one coefficient.
use Rattle.std.specs.Prelude.{◌≡◌, ℕ, zero, suc, ◌+◌, ◌*◌, ◌/◌, ◌%◌, ◌<◌, eqb, ℤ, pos, negsuc}
use Rattle.std.proofs.Common.{sym, ap, ◌∙◌, arith, eq-eqb, ne_eqb, eqb-true}
use Rattle.sign_laws.specs.Booleans.{both_ways}
use Rattle.rules.specs.Polynomial.{same_number}

unfoldable pub coefficient_word : ℤ → ℕ
coefficient_word (pos n) = 2 * n
coefficient_word (negsuc n) = 2 * n + 1

unfoldable pub by_rest : ℕ → ℕ → ℤ
by_rest zero half = pos half
by_rest (suc k) half = negsuc half

unfoldable pub coefficient_of : ℕ → ℤ
coefficient_of w = by_rest (w % 2) (w / 2)

-- Each is the other's way back.
pub word_back : (c : ℤ) → coefficient_of (coefficient_word c) ≡ c
unfolding coefficient_of coefficient_word by_rest
word_back (pos n) = let r : 2 * n % 2 ≡ 0 = omega arith in let h : 2 * n / 2 ≡ n = omega arith in rw (r, h)
word_back (negsuc n) = let r : (2 * n + 1) % 2 ≡ 1 = omega arith in let h : (2 * n + 1) / 2 ≡ n = omega arith in rw (r, h)

pub coefficient-back : (w : ℕ) → coefficient_word (coefficient_of w) ≡ w
unfolding coefficient_of coefficient_word by_rest
coefficient-back w = by-rest (w % 2) (w / 2) (omega arith, omega arith)
  where
    by-rest : (r h : ℕ) → (w ≡ 2 * h + r) × (r < 2) → coefficient_word (by_rest r h) ≡ w
    by-rest zero h e = omega (arith, e.0)
    by-rest (suc zero) h e = omega (arith, e.0)
    by-rest (suc (suc k)) h e = absurd (omega (arith, e.1))

-- So words are compared in the place of coefficients.
words_same : (c d : ℤ) → eqb (coefficient_word d) (coefficient_word c) ≡ same_number c d
unfolding coefficient_word same_number
words_same (pos a) (pos b) = both_ways (eqb (2 * b) (2 * a)) (eqb a b)
    (λ e. let f = eqb-true (2 * b) (2 * a) e in eq-eqb a b (omega (arith, f))) (λ e. let f = eqb-true a b e in eq-eqb (2 * b) (2 * a) (omega (arith, f)))
words_same (pos a) (negsuc b) = ne_eqb (2 * b + 1) (2 * a) (λ e. omega arith)
words_same (negsuc a) (pos b) = ne_eqb (2 * b) (2 * a + 1) (λ e. omega arith)
words_same (negsuc a) (negsuc b) = both_ways (eqb (2 * b + 1) (2 * a + 1)) (eqb a b)
    (λ e. let f = eqb-true (2 * b + 1) (2 * a + 1) e in eq-eqb a b (omega (arith, f)))
    (λ e. let f = eqb-true a b e in eq-eqb (2 * b + 1) (2 * a + 1) (omega (arith, f)))

pub same-words : (c : ℤ) (w : ℕ) → eqb w (coefficient_word c) ≡ same_number c (coefficient_of w)
same-words c w = ap (λ (v : ℕ). eqb v (coefficient_word c)) (sym (coefficient-back w)) ∙ words_same c (coefficient_of w)
