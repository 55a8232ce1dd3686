-- A row of marks in a word: mark i is bit i. A word's first marks, the word of a row, and the one undoes the other.
use Rattle.std.specs.Prelude.{◌≡◌, refl, Bool, true, false, List, [], ◌∷◌, ℕ, zero, suc, ◌+◌, ◌-◌, ◌*◌, ◌/◌, ◌%◌, ◌^◌, ◌<◌, ◌≤◌, eqb, length, get_or, set}
use Rattle.std.proofs.Common.{sym, ap, ◌∙◌, true≢false, div-one, mul_comm, one-mul, mod-eq_of_lt, arith, pow_pos, eq-eqb, ne_eqb, eqb-true}
use Rattle.std.proofs.Math.Nat.{div-div-eq-div-mul, pow-succ', mod-one}
use Rattle.std.proofs.Math.Dec.{eqb-suc-zero}
use Rattle.std.proofs.Math.Arith.{mod-mul}
use Rattle.std.proofs.Math.Pow.{pow-lt}
use Rattle.std.proofs.lemmas.Bool.{eqb-false}
use Rattle.sign_laws.specs.Booleans.{both_ways}
use Rattle.rules.specs.Pool.{count, unless_none}
use Rattle.pool_laws.specs.Rows.{set_same}

-- The first k marks of a word.
unfoldable pub marks : ℕ → ℕ → List Bool
marks zero w = []
marks (suc k) w = eqb (w % 2) 1 ∷ marks k (w / 2)

-- The word of a row.
unfoldable pub row_word : List Bool → ℕ
row_word [] = 0
row_word (true ∷ row) = 1 + 2 * row_word row
row_word (false ∷ row) = 2 * row_word row

pub marks-length : (k w : ℕ) → length (marks k w) ≡ k
unfolding marks
marks-length zero w = refl
marks-length (suc k) w = ap suc (marks-length k (w / 2))

-- The word of a word's first marks is the word's rest.
pub word-of-marks : (k w : ℕ) → row_word (marks k w) ≡ w % 2 ^ k
unfolding marks row_word
word-of-marks zero w = sym (mod-one w)
word-of-marks (suc k) w = by-test (eqb (w % 2) 1) refl (word-of-marks k (w / 2))
  where
    whole : w % 2 ^ suc k ≡ (w / 2 % 2 ^ k) * 2 + w % 2
    whole = ap (λ (n : ℕ). w % n) (pow-succ' 2 k ∙ mul_comm 2 (2 ^ k)) ∙ mod-mul w (pow_pos k) (omega arith)

    by-test : (b : Bool) → eqb (w % 2) 1 ≡ b → row_word (marks k (w / 2)) ≡ w / 2 % 2 ^ k → row_word (b ∷ marks k (w / 2)) ≡ w % 2 ^ suc k
    by-test true e f = let g = eqb-true (w % 2) 1 e in omega (arith, g, f, whole)
    by-test false e f = let g = eqb-false (w % 2) 1 e in let r : w % 2 ≡ 0 = omega (arith, g) in omega (arith, r, f, whole)

-- The marks of a row's word are the row.
pub marks-of-word : (row : List Bool) → marks (length row) (row_word row) ≡ row
unfolding marks row_word
marks-of-word [] = refl
marks-of-word (true ∷ row) =
    let half : (1 + 2 * row_word row) / 2 ≡ row_word row = omega arith in
    let first : eqb ((1 + 2 * row_word row) % 2) 1 ≡ true = eq-eqb ((1 + 2 * row_word row) % 2) 1 (omega arith) in
    rw (half, first) (ap (λ (r : List Bool). true ∷ r) (marks-of-word row))
marks-of-word (false ∷ row) =
    let half : 2 * row_word row / 2 ≡ row_word row = omega arith in
    let first : eqb (2 * row_word row % 2) 1 ≡ false = ne_eqb (2 * row_word row % 2) 1 (λ e. omega arith) in
    rw (half, first) (ap (λ (r : List Bool). false ∷ r) (marks-of-word row))

-- The mark of a number.
pub mark-at : (k w i : ℕ) → i < k → get_or (marks k w) i false ≡ eqb (w / 2 ^ i % 2) 1
unfolding marks
mark-at zero w i h = absurd (omega arith)
mark-at (suc k) w zero h = rw (div-one w)
mark-at (suc k) w (suc i) h =
    mark-at k (w / 2) i (omega arith) ∙ ap (λ (x : ℕ). eqb (x % 2) 1) (div-div-eq-div-mul w 2 (2 ^ i) ∙ ap (λ (x : ℕ). w / x) (sym (pow-succ' 2 i)))

-- A mark set, and a mark taken away.
pub word-marked : (row : List Bool) (i : ℕ) → i < length row → get_or row i false ≡ false → row_word (set row i true) ≡ row_word row + 2 ^ i
unfolding row_word
word-marked [] i h e = absurd (omega arith)
word-marked (false ∷ row) zero h e = omega arith
word-marked (true ∷ row) zero h e = absurd (true≢false e)
word-marked (true ∷ row) (suc i) h e = let p = pow-succ' 2 i in omega (arith, p, word-marked row i (omega arith) e)
word-marked (false ∷ row) (suc i) h e = let p = pow-succ' 2 i in omega (arith, p, word-marked row i (omega arith) e)

pub word-unmarked : (row : List Bool) (i : ℕ) → i < length row → get_or row i false ≡ true → row_word (set row i false) + 2 ^ i ≡ row_word row
unfolding row_word
word-unmarked [] i h e = absurd (omega arith)
word-unmarked (true ∷ row) zero h e = omega arith
word-unmarked (false ∷ row) zero h e = absurd (true≢false (sym e))
word-unmarked (true ∷ row) (suc i) h e = let p = pow-succ' 2 i in omega (arith, p, word-unmarked row i (omega arith) e)
word-unmarked (false ∷ row) (suc i) h e = let p = pow-succ' 2 i in omega (arith, p, word-unmarked row i (omega arith) e)

-- A row without a mark has the word 0.
pub count_word : (row : List Bool) → eqb (count row) 0 ≡ eqb (row_word row) 0
unfolding row_word count
count_word [] = refl
count_word (true ∷ row) = eqb-suc-zero (count row) ∙ sym (ne_eqb (1 + 2 * row_word row) 0 (λ e. omega arith))
count_word (false ∷ row) =
    count_word row ∙ both_ways (eqb (row_word row) 0) (eqb (2 * row_word row) 0)
    (λ e. let f = eqb-true (row_word row) 0 e in eq-eqb (2 * row_word row) 0 (omega (arith, f)))
    (λ e. let f = eqb-true (2 * row_word row) 0 e in eq-eqb (row_word row) 0 (omega (arith, f)))

-- A row's word is below the power of its length.
pub word_below : (row : List Bool) → row_word row < 2 ^ length row
unfolding row_word
word_below [] = omega arith
word_below (true ∷ row) = let p = pow-succ' 2 (length row) in omega (arith, p, word_below row)
word_below (false ∷ row) = let p = pow-succ' 2 (length row) in omega (arith, p, word_below row)

-- ---- By sums and differences.

module _ (w i : ℕ) (h : i < 32) where
  rest : row_word (marks 32 w) ≡ w % 4294967296
  rest = word-of-marks 32 w

  pub mark-shifted : 1 * 2 ^ i % 18446744073709551616 ≡ 2 ^ i
  mark-shifted = let few : i < 64 = omega arith in let below : 2 ^ i < 2 ^ 64 = pow-lt few in rw (one-mul (2 ^ i), mod-eq_of_lt below)

  pub mark-small : 2 ^ i < 4294967296
  mark-small = pow-lt h

  -- A mark that is as it shall be.
  pub mark-kept : (on : Bool) → get_or (marks 32 w) i false ≡ on → w % 4294967296 ≡ row_word (set (marks 32 w) i on)
  mark-kept on e = sym (ap row_word (set_same (marks 32 w) i false on (omega (arith, marks-length 32 w)) e) ∙ rest)

  pub mark-given : get_or (marks 32 w) i false ≡ false → w % 4294967296 + 1 * 2 ^ i % 18446744073709551616 ≡ row_word (set (marks 32 w) i true)
  mark-given e = rw mark-shifted (omega (arith, rest, word-marked (marks 32 w) i (omega (arith, marks-length 32 w)) e))

  pub mark-there : get_or (marks 32 w) i false ≡ true → 1 * 2 ^ i % 18446744073709551616 ≤ w % 4294967296
  mark-there e = rw mark-shifted (omega (arith, rest, word-unmarked (marks 32 w) i (omega (arith, marks-length 32 w)) e))

  pub mark-taken : get_or (marks 32 w) i false ≡ true → w % 4294967296 - 1 * 2 ^ i % 18446744073709551616 ≡ row_word (set (marks 32 w) i false)
  mark-taken e = rw mark-shifted (omega (arith, rest, word-unmarked (marks 32 w) i (omega (arith, marks-length 32 w)) e))

-- No mark among the first 32.
pub no-mark : (w : ℕ) → eqb (w % 4294967296) 0 ≡ eqb (count (marks 32 w)) 0
no-mark w = ap (λ (x : ℕ). eqb x 0) (sym (word-of-marks 32 w)) ∙ sym (count_word (marks 32 w))

-- A number kept unless no mark is left.
pub none_left : (row : List Bool) (n : ℕ) → unless_none (row_word row) n ≡ unless_none (count row) n
unfolding unless_none
none_left row n = by_both (count row) (row_word row) (count_word row)
  where
    by_both : (k j : ℕ) → eqb k 0 ≡ eqb j 0 → unless_none j n ≡ unless_none k n
    by_both zero zero e = refl
    by_both zero (suc j) e = absurd (true≢false (e ∙ eqb-suc-zero j))
    by_both (suc k) zero e = absurd (true≢false (sym (sym (eqb-suc-zero k) ∙ e)))
    by_both (suc k) (suc j) e = refl
