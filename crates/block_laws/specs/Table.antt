-- The table, its polynomials and their terms: what is within the limits reads back when it is written; what is accepted is within
-- the limits and is written with the bits that were read.
use Rattle.std.specs.Prelude.{Bool, List, [], ◌∷◌, ◌++◌, ◌≡◌, refl, ℕ, zero, suc, ◌+◌, ◌*◌, ◌^◌, ◌≤◌, ◌<◌, leb, ltb, ℤ, pos, negsuc, nat_abs, length, take, drop}
use Rattle.std.proofs.Math.Bool.{and-eq-true_iff}
use Rattle.std.proofs.Common.{append_assoc, sym, ap, subst₂, arith, length-append, length-drop, lt-ltb, le-leb, ltb-true, leb-true}
use Rattle.rules.specs.Polynomial.{Term, Polynomial}
use Rattle.rules.specs.Bits.{field, value}
use Rattle.rules.specs.Pairs.{read_pairs, write_pairs, pairs_of, monomial_of}
use Rattle.rules.specs.Block.{Edition, edition1, edition2, Stream, read, require, afterwards, signed, first_bits, read_exponents, read_term, read_terms}
use Rattle.rules.specs.Block.{read_polynomial, read_table, minus_bit, write_exponents, write_term, write_terms, write_polynomial, write_table}
use Rattle.rules.specs.Limits.{TermWithin, TermsWithin, no_terms, terms, PolynomialWithin, TableWithin, no_polynomials, polynomials}
use Rattle.block_laws.specs.Bits.{length-field, drop-field, written-field, read_below}
use Rattle.block_laws.specs.Accepted.{require-read, afterwards-read, same_read, stream, behind, Passed, passed-nothing, passed-both, passed-field}
use Rattle.block_laws.specs.Pairs.{PairsWithin, within-rising, within-above-zero, tested-within, length_pairs, pairs-read-back, behind-pairs}
use Rattle.block_laws.specs.Pairs.{length-read-pairs, pairs-written-back, pairs-within, monomial-of-pairs, pairs-at-most, pairs-of-monomial}

-- ---- A coefficient by its minus bit and its magnitude.

minus-below : (c : ℤ) → minus_bit c < 2 ^ 1
unfolding minus_bit
minus-below (pos a) = omega arith
minus-below (negsuc a) = omega arith

signed-written : (c : ℤ) → signed (minus_bit c) (nat_abs c) ≡ c
unfolding minus_bit signed
signed-written (pos a) = refl
signed-written (negsuc a) = refl

minus-read : (minus magnitude : ℕ) → minus < 2 → 0 < magnitude → minus_bit (signed minus magnitude) ≡ minus
unfolding minus_bit signed
minus-read zero magnitude one_bit not_zero = refl
minus-read (suc zero) zero one_bit not_zero = absurd (omega arith)
minus-read (suc zero) (suc magnitude) one_bit not_zero = refl
minus-read (suc (suc minus)) magnitude one_bit not_zero = absurd (omega arith)

magnitude-read : (minus magnitude : ℕ) → nat_abs (signed minus magnitude) ≡ magnitude
unfolding signed
magnitude-read zero magnitude = refl
magnitude-read (suc minus) zero = refl
magnitude-read (suc minus) (suc magnitude) = refl

-- ---- The exponents of a term, in either edition.

-- Exponents that are written read back, and what follows them is left.
exponents-read-back : (edition : Edition) (n m allowed : ℕ) (rest : List Bool) → n ≤ 16 → m < 2 ^ (4 * n)
    → read_exponents edition n (stream allowed (write_exponents edition n m ++ rest)) ≡ read m (stream allowed rest)
unfolding read_exponents write_exponents require
exponents-read-back edition1 n m allowed rest few fits = rw (written-field (4 * n) m rest fits, drop-field)
exponents-read-back edition2 n m allowed rest few fits =
    let within = pairs-within n m in
    let at-most = pairs-at-most n m in
    let count_fits : length (pairs_of n m) < 2 ^ 5 = omega arith in
    let long : 8 * length (pairs_of n m) ≤ length (write_pairs (pairs_of n m) ++ rest) = rw (length-append, length_pairs) (omega arith) in
    rw (
      append_assoc,
      written-field 5 (length (pairs_of n m)) (write_pairs (pairs_of n m) ++ rest) count_fits,
      drop-field,
      le-leb _ _ at-most,
      le-leb _ _ long,
      pairs-read-back (pairs_of n m) rest few within,
      within-rising within,
      within-above-zero within,
      monomial-of-pairs n m fits,
      behind-pairs (pairs_of n m) rest,
    )

-- They have the bits that a term is asked for first.
first-bits : (edition : Edition) (n m : ℕ) → first_bits edition n ≤ length (write_exponents edition n m)
unfolding first_bits write_exponents
first-bits edition1 n m = rw length-field (omega arith)
first-bits edition2 n m = rw (length-append, length-field) (omega arith)

pairs-accepted : (n count : ℕ) (s : Stream) → value (take 5 s.bits) ≡ count → 5 ≤ length s.bits → 8 * count ≤ length (drop 5 s.bits)
    → PairsWithin n 0 (read_pairs count (drop 5 s.bits))
    → Passed (write_exponents edition2 n (monomial_of n (read_pairs count (drop 5 s.bits)))) 0 s (behind (8 * count) (behind 5 s))
unfolding write_exponents
pairs-accepted n count s count_is five long within =
    let its-pairs : Passed (write_pairs (read_pairs count (drop 5 s.bits))) 0 (behind 5 s) (behind (8 * count) (behind 5 s)) =
    record { over = sym (pairs-written-back count (drop 5 s.bits) long); counted = omega arith } in
    rw (pairs-of-monomial within, length-read-pairs count (drop 5 s.bits), ← count_is)
    (passed-both (passed-field 5 s five) (rw (← count_is) at its-pairs))

-- Exponents that are accepted are written with the bits that were read.
exponents-accepted : (edition : Edition) (n : ℕ) (s : Stream) {m : ℕ} {s₁ : Stream} → first_bits edition n ≤ length s.bits
    → read_exponents edition n s ≡ read m s₁ → Passed (write_exponents edition n m) 0 s s₁
unfolding read_exponents first_bits
exponents-accepted edition1 n s first accepted =
    let same = same_read accepted in
    subst₂ (λ (x : ℕ) (y : Stream). Passed (write_exponents edition1 n x) 0 s y) same.0 same.1
    (unfold write_exponents in passed-field (4 * n) s first)
exponents-accepted edition2 n s first accepted =
    let at-most = require-read 21 accepted in
    let long = require-read 6 at-most.1 in
    let rise = require-read 22 long.1 in
    let above_zero = require-read 23 rise.1 in
    let same = same_read above_zero.1 in
    subst₂ (λ (x : ℕ) (y : Stream). Passed (write_exponents edition2 n x) 0 s y) same.0 same.1
    (pairs-accepted n _ s refl first (leb-true _ _ long.0) (tested-within n 0 _ (drop 5 s.bits) rise.0 above_zero.0))

-- ---- A term: the first two of its three laws; the third, its length, is in Sizes.

-- A written term, followed by any bits, reads back.
term-reads-back : (edition : Edition) (n above : ℕ) (t : Term) (allowed : ℕ) (rest : List Bool) → n ≤ 16 → TermWithin above t → above ≤ 2 ^ (4 * n)
    → read_term edition n above (stream allowed (write_term edition n t ++ rest)) ≡ read t (stream allowed rest)
unfolding read_term write_term require afterwards
term-reads-back edition n above t allowed rest few within room =
    let minus = minus_bit t.coefficient in
    let magnitude = nat_abs t.coefficient in
    let exponents : List Bool = write_exponents edition n t.monomial in
    let fields : List Bool = field 1 minus ++ (field 31 magnitude ++ (exponents ++ rest)) in
    let in_a_row : field 1 minus ++ (field 31 magnitude ++ exponents) ++ rest ≡ fields = simp append_assoc in
    let long : 32 + first_bits edition n ≤ length fields = simp (length-append, length-field) (omega (arith, first-bits edition n t.monomial)) in
    let falls = within.falls in
    let minus-fits = minus-below t.coefficient in
    let magnitude-fits = within.magnitude in
    let monomial-fits : t.monomial < 2 ^ (4 * n) = omega arith in
    rw (in_a_row, le-leb _ _ long)
    (simp (
      drop-field,
      written-field,
      lt-ltb 0 magnitude within.not_zero,
      exponents-read-back edition n t.monomial allowed rest few monomial-fits,
      lt-ltb t.monomial above falls,
      signed-written,
    ))

-- The term of the fields that were read.
fields-accepted : (edition : Edition) (n above : ℕ) (s : Stream) {s₁ : Stream} (minus magnitude monomial : ℕ) → 32 ≤ length s.bits → 0 < magnitude
    → monomial < above → value (take 1 s.bits) ≡ minus → value (take 31 (drop 1 s.bits)) ≡ magnitude
    → Passed (write_exponents edition n monomial) 0 (behind 31 (behind 1 s)) s₁
    → (let t : Term = record { coefficient = signed minus magnitude; monomial = monomial } in
    Passed (write_term edition n t) 0 s s₁ × TermWithin above t)
unfolding write_term
fields-accepted edition n above s minus magnitude monomial long not_zero falls minus_is magnitude-is exponents =
    let long-behind-minus : 31 ≤ length (drop 1 s.bits) = rw length-drop (omega arith) in
    let one_bit : minus < 2 = rw (← minus_is) (read_below 1 s.bits) in (
      rw (minus-read minus magnitude one_bit not_zero, magnitude-read minus magnitude, ← minus_is, ← magnitude-is)
          (passed-both (passed-field 1 s (omega arith)) (passed-both (passed-field 31 (behind 1 s) long-behind-minus) exponents)),
      record {
        not_zero = rw (magnitude-read minus magnitude) not_zero;
        magnitude = rw (magnitude-read minus magnitude, ← magnitude-is) (read_below 31 (drop 1 s.bits));
        falls = falls;
      },
    )

-- An accepted term is its written bits, and is within the limits.
term-accepted : (edition : Edition) (n above : ℕ) (s : Stream) {t : Term} {s₁ : Stream} → read_term edition n above s ≡ read t s₁
    → Passed (write_term edition n t) 0 s s₁ × TermWithin above t
unfolding read_term
term-accepted edition n above s accepted =
    let long = require-read 6 accepted in
    let not_zero = require-read 8 long.1 in
    let exponents = afterwards-read _ _ not_zero.1 in
    let falls = require-read 9 exponents.then_read in
    let same = same_read falls.1 in
    let enough : 32 + first_bits edition n ≤ length s.bits = leb-true _ _ long.0 in
    let first : first_bits edition n ≤ length (drop 31 (drop 1 s.bits)) = simp length-drop (omega arith) in
    subst₂ (λ (x : Term) (y : Stream). Passed (write_term edition n x) 0 s y × TermWithin above x) same.0 same.1
    (fields-accepted edition n above s _ _ _ (omega arith) (ltb-true _ _ not_zero.0) (ltb-true _ _ falls.0) refl refl
    (exponents-accepted edition n (behind 31 (behind 1 s)) first exponents.first_read))

-- ---- The terms of a polynomial.

terms-read-back : (edition : Edition) (n above : ℕ) (p : Polynomial) (allowed : ℕ) (rest : List Bool) → n ≤ 16 → TermsWithin above p
    → above ≤ 2 ^ (4 * n)
    → read_terms edition (length p) n above (stream allowed (write_terms edition n p ++ rest)) ≡ read p (stream allowed rest)
unfolding read_terms write_terms afterwards
terms-read-back edition n above [] allowed rest few within room = refl
terms-read-back edition n above (t ∷ ts) allowed rest few (terms first others) room =
    let room-below : t.monomial ≤ 2 ^ (4 * n) = omega (arith, first.falls) in
    rw (
      append_assoc,
      term-reads-back edition n above t allowed (write_terms edition n ts ++ rest) few first room,
      terms-read-back edition n t.monomial ts allowed rest few others room-below,
    )

record TermsAccepted (edition : Edition) (n above count : ℕ) (s : Stream) (p : Polynomial) (s₁ : Stream) : Type 0 where
  passed : Passed (write_terms edition n p) 0 s s₁
  within : TermsWithin above p
  counted : length p ≡ count

no-terms-accepted : (edition : Edition) (n above : ℕ) (s : Stream) → TermsAccepted edition n above 0 s [] s
unfolding write_terms
no-terms-accepted edition n above s = record { passed = passed-nothing s; within = no_terms; counted = refl }

more-terms-accepted : {edition : Edition} {n above count : ℕ} {s s₁ s₂ : Stream} {t : Term} {ts : Polynomial}
    → Passed (write_term edition n t) 0 s s₁ × TermWithin above t
    → TermsAccepted edition n t.monomial count s₁ ts s₂ → TermsAccepted edition n above (suc count) s (t ∷ ts) s₂
unfolding write_terms
more-terms-accepted first others =
    record { passed = passed-both first.0 others.passed; within = terms first.1 others.within; counted = ap suc others.counted }

terms-accepted : (edition : Edition) (count n above : ℕ) (s : Stream) {p : Polynomial} {s₁ : Stream}
    → read_terms edition count n above s ≡ read p s₁ → TermsAccepted edition n above count s p s₁
unfolding read_terms
terms-accepted edition zero n above s accepted =
    let same = same_read accepted in
    subst₂ (λ (x : Polynomial) (y : Stream). TermsAccepted edition n above 0 s x y) same.0 same.1 (no-terms-accepted edition n above s)
terms-accepted edition (suc count) n above s accepted =
    let first = afterwards-read _ _ accepted in
    let others = afterwards-read _ _ first.then_read in
    let same = same_read others.then_read in
    subst₂ (λ (x : Polynomial) (y : Stream). TermsAccepted edition n above (suc count) s x y) same.0 same.1
    (more-terms-accepted (term-accepted edition n above s first.first_read)
    (terms-accepted edition count n first.part.monomial first.between others.first_read))

-- ---- A polynomial.

polynomial-reads-back : (edition : Edition) (n : ℕ) (p : Polynomial) (allowed : ℕ) (rest : List Bool) → n ≤ 16 → PolynomialWithin n p
    → read_polynomial edition n (stream allowed (write_polynomial edition n p ++ rest)) ≡ read p (stream allowed rest)
unfolding read_polynomial write_polynomial require
polynomial-reads-back edition n p allowed rest few within =
    let long : 5 ≤ length (field 5 (length p) ++ (write_terms edition n p ++ rest)) = simp (length-append, length-field) (omega arith) in
    let count_fits : length p < 2 ^ 5 = omega (arith, within.at-most) in
    rw (append_assoc, le-leb _ _ long, drop-field, written-field 5 (length p) _ count_fits, lt-ltb _ _ within.not_none, le-leb _ _ within.at-most)
    (terms-read-back edition n (2 ^ (4 * n)) p allowed rest few within.each (omega arith))

polynomial-accepted : (edition : Edition) (n : ℕ) (s : Stream) {p : Polynomial} {s₁ : Stream} → read_polynomial edition n s ≡ read p s₁
    → Passed (write_polynomial edition n p) 0 s s₁ × PolynomialWithin n p
unfolding read_polynomial write_polynomial
polynomial-accepted edition n s accepted =
    let long = require-read 6 accepted in
    let count = require-read 7 long.1 in
    let bounds = (and-eq-true_iff _ _).0 count.0 in
    let all = terms-accepted edition _ n _ (behind 5 s) count.1 in (
      rw all.counted (passed-both (passed-field 5 s (leb-true _ _ long.0)) all.passed),
      record { not_none = rw all.counted (ltb-true _ _ bounds.0); at-most = rw all.counted (leb-true _ _ bounds.1); each = all.within },
    )

-- ---- The table.

-- A table within the limits, written, reads back, and what follows it is left.
pub table-reads-back : (edition : Edition) (n : ℕ) (table : List Polynomial) (allowed : ℕ) (rest : List Bool) → n ≤ 16 → TableWithin n table
    → read_table edition (length table) n (stream allowed (write_table edition n table ++ rest)) ≡ read table (stream allowed rest)
unfolding read_table write_table afterwards
table-reads-back edition n [] allowed rest few within = refl
table-reads-back edition n (p ∷ ps) allowed rest few (polynomials first others) =
    rw (
      append_assoc,
      polynomial-reads-back edition n p allowed (write_table edition n ps ++ rest) few first,
      table-reads-back edition n ps allowed rest few others,
    )

-- What an accepted table tells: its bits are those that are written, it is within the limits and as long as was asked.
pub record TableAccepted (edition : Edition) (n m : ℕ) (s : Stream) (table : List Polynomial) (s₁ : Stream) : Type 0 where
  pub passed : Passed (write_table edition n table) 0 s s₁
  pub within : TableWithin n table
  pub counted : length table ≡ m

no-polynomials-accepted : (edition : Edition) (n : ℕ) (s : Stream) → TableAccepted edition n 0 s [] s
unfolding write_table
no-polynomials-accepted edition n s = record { passed = passed-nothing s; within = no_polynomials; counted = refl }

more-polynomials-accepted : {edition : Edition} {n m : ℕ} {s s₁ s₂ : Stream} {p : Polynomial} {ps : List Polynomial}
    → Passed (write_polynomial edition n p) 0 s s₁ × PolynomialWithin n p
    → TableAccepted edition n m s₁ ps s₂ → TableAccepted edition n (suc m) s (p ∷ ps) s₂
unfolding write_table
more-polynomials-accepted first others =
    record { passed = passed-both first.0 others.passed; within = polynomials first.1 others.within; counted = ap suc others.counted }

-- A table that is accepted is within the limits, and its bits are those that are written.
pub table-accepted : (edition : Edition) (m n : ℕ) (s : Stream) {table : List Polynomial} {s₁ : Stream} → read_table edition m n s ≡ read table s₁
    → TableAccepted edition n m s table s₁
unfolding read_table
table-accepted edition zero n s accepted =
    let same = same_read accepted in
    subst₂ (λ (x : List Polynomial) (y : Stream). TableAccepted edition n 0 s x y) same.0 same.1 (no-polynomials-accepted edition n s)
table-accepted edition (suc m) n s accepted =
    let first = afterwards-read _ _ accepted in
    let others = afterwards-read _ _ first.then_read in
    let same = same_read others.then_read in
    subst₂ (λ (x : List Polynomial) (y : Stream). TableAccepted edition n (suc m) s x y) same.0 same.1
    (more-polynomials-accepted (polynomial-accepted edition n s first.first_read)
    (table-accepted edition m n first.between others.first_read))

-- An edition 1 term keeps "6 for the term as a whole, then 8, 9".
pub term-of-edition1 : (n above : ℕ) (s : Stream) → read_term edition1 n above s
    ≡ require (leb (32 + 4 * n) (length s.bits)) 6
    (require (ltb 0 (value (take 31 (drop 1 s.bits)))) 8
    (require (ltb (value (take (4 * n) (drop 31 (drop 1 s.bits)))) above) 9
    (read (record {
      coefficient = signed (value (take 1 s.bits)) (value (take 31 (drop 1 s.bits)));
      monomial = value (take (4 * n) (drop 31 (drop 1 s.bits)));
    })
    (behind (4 * n) (behind 31 (behind 1 s))))))
unfolding read_term first_bits read_exponents afterwards
term-of-edition1 n above s = refl
