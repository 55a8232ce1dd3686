-- 02, #109: the pairs of a monomial. A monomial's pairs rise and give it back; pairs that rise are those of their monomial; and their bits.
use Rattle.rules.specs.Bits.{value}
use Rattle.std.specs.Prelude.{Bool, true, List, [], ◌∷◌, ◌++◌, ◌≡◌, refl, ℕ, zero, suc, ◌+◌, ◌-◌, ◌*◌, ◌/◌, ◌%◌, ◌^◌, ◌≤◌, ◌<◌, length, drop}
use Rattle.std.proofs.Math.Bool.{and-eq-true_iff}
use Rattle.std.proofs.Common.{append_assoc, sym, ap, ◌∙◌, pow-suc, mod-lt, mod-eq_of_lt, mul_comm, mul_assoc, mul-le-mul_right, arith, length-append, length-drop, pow-add, pow_pos, pow_mono, drop_at, drop-drop, lt-ltb, le-leb, ltb-true, leb-true, take}
use Rattle.std.proofs.Math.Decide.{dec_lt}
use Rattle.std.proofs.Math.Nat.{mod-one, div-eq_of_lt, mul-add-div_right}
use Rattle.std.proofs.lemmas.Nat.{mod-pow-add}
use Rattle.std.proofs.Math.Pow.{high}
use Rattle.rules.specs.Polynomial.{exponent}
use Rattle.rules.specs.Pairs.{Pair, pair_unless, pairs_from, pairs_of, write_pairs, read_pairs, rising, above_zero, monomial_of}
use Rattle.block_laws.specs.Bits.{length-field, drop-field, written-field, read-field, read_below}

-- ---- Pairs that rise.

-- What is asked of a pair: a number from the least that is allowed up to n, an exponent from 1 to 15.
pub record PairWithin (n least : ℕ) (p : Pair) : Type 0 where
  pub rises : least ≤ p.variable
  pub below : p.variable < n
  pub not_zero : 0 < p.exponent
  pub four_bits : p.exponent < 16

-- And of all pairs of a term: each number is above the one before.
pub data PairsWithin (n : ℕ) : ℕ → List Pair → Type 0 where
  no_pairs : {least : ℕ} → PairsWithin n least []
  pairs : {least : ℕ} {p : Pair} {ps : List Pair} → PairWithin n least p → PairsWithin n (suc p.variable) ps → PairsWithin n least (p ∷ ps)

-- Pairs that rise from one number on rise from any smaller one on.
pub from_less : {n least : ℕ} {ps : List Pair} (fewer : ℕ) → fewer ≤ least → PairsWithin n least ps → PairsWithin n fewer ps
from_less fewer h no_pairs = no_pairs
from_less {n} fewer h (pairs {p = p} first others) =
    let further : PairWithin n fewer p =
    record { rises = omega (arith, first.rises); below = first.below; not_zero = first.not_zero; four_bits = first.four_bits } in
    pairs further others

-- Such pairs pass the tests,
pub within-rising : {n least : ℕ} {ps : List Pair} → PairsWithin n least ps → rising n least ps ≡ true
unfolding rising
within-rising no_pairs = refl
within-rising (pairs first others) = rw (le-leb _ _ first.rises, lt-ltb _ _ first.below, within-rising others)

pub within-above-zero : {n least : ℕ} {ps : List Pair} → PairsWithin n least ps → above_zero ps ≡ true
unfolding above_zero
within-above-zero no_pairs = refl
within-above-zero (pairs first others) = rw (lt-ltb _ _ first.not_zero, within-above-zero others)

-- and pairs that were read and pass them are such.
pub tested-within : (n least count : ℕ) (bits : List Bool) → rising n least (read_pairs count bits) ≡ true → above_zero (read_pairs count bits) ≡ true
    → PairsWithin n least (read_pairs count bits)
unfolding rising above_zero read_pairs
tested-within n least zero bits rise above = no_pairs
tested-within n least (suc count) bits rise above =
    let least_first = (and-eq-true_iff _ _).0 rise in
    let both = (and-eq-true_iff _ _).0 least_first.0 in
    let exponents = (and-eq-true_iff _ _).0 above in
    pairs (record {
      rises = leb-true _ _ both.0;
      below = ltb-true _ _ both.1;
      not_zero = ltb-true _ _ exponents.0;
      four_bits = read_below 4 (drop 4 bits);
    }) (tested-within n (suc (value (take 4 bits))) count (drop 4 (drop 4 bits)) least_first.1 exponents.1)

-- ---- Their bits.

-- Eight bits for a pair.
pub length_pairs : (ps : List Pair) → length (write_pairs ps) ≡ 8 * length ps
unfolding write_pairs
length_pairs [] = refl
length_pairs (p ∷ ps) = simp (length-append, length-field) (omega (arith, length_pairs ps))

-- Pairs that are written read back,
pub pairs-read-back : {n least : ℕ} (ps : List Pair) (rest : List Bool) → n ≤ 16 → PairsWithin n least ps
    → read_pairs (length ps) (write_pairs ps ++ rest) ≡ ps
unfolding read_pairs write_pairs
pairs-read-back [] rest few within = refl
pairs-read-back (p ∷ ps) rest few (pairs first others) =
    let variable-fits : p.variable < 2 ^ 4 = omega (arith, first.below) in
    let exponent-fits : p.exponent < 2 ^ 4 = first.four_bits in
    rw (
      append_assoc,
      append_assoc,
      drop-field,
      drop-field,
      written-field 4 p.variable _ variable-fits,
      written-field 4 p.exponent _ exponent-fits,
      pairs-read-back ps rest few others,
    )

-- and the rest is left behind them.
pub behind-pairs : (ps : List Pair) (rest : List Bool) → drop (8 * length ps) (write_pairs ps ++ rest) ≡ rest
behind-pairs ps rest = drop_at (write_pairs ps) rest (8 * length ps) (length_pairs ps)

pub length-read-pairs : (count : ℕ) (bits : List Bool) → length (read_pairs count bits) ≡ count
unfolding read_pairs
length-read-pairs zero bits = refl
length-read-pairs (suc count) bits = ap suc (length-read-pairs count (drop 4 (drop 4 bits)))

-- Pairs that were read write back.
pub pairs-written-back : (count : ℕ) (bits : List Bool) → 8 * count ≤ length bits → write_pairs (read_pairs count bits) ++ drop (8 * count) bits ≡ bits
unfolding read_pairs write_pairs
pairs-written-back zero bits long = refl
pairs-written-back (suc count) bits long =
    let more : 8 * suc count ≡ 8 + 8 * count = omega arith in
    let eight : drop (8 * suc count) bits ≡ drop (8 * count) (drop 4 (drop 4 bits)) =
    ap (λ (k : ℕ). drop k bits) more ∙ sym (drop-drop (8 * count) 8 bits) ∙ ap (drop (8 * count)) (sym (drop-drop 4 4 bits)) in
    let long-behind : 8 * count ≤ length (drop 4 (drop 4 bits)) = simp length-drop (omega arith) in
    let long-exponent : 4 ≤ length (drop 4 bits) = rw length-drop (omega arith) in
    rw (eight, append_assoc, append_assoc, pairs-written-back count (drop 4 (drop 4 bits)) long-behind, read-field 4 (drop 4 bits) long-exponent)
    (read-field 4 bits (omega arith))

-- ---- Powers of 16.

pub four-bits-each : (k : ℕ) → 2 ^ (4 * k) ≡ 16 ^ k
four-bits-each zero = refl
four-bits-each (suc k) =
    let next : 4 * suc k ≡ 4 + 4 * k = omega arith in
    let sixteen : 2 ^ (4 + 4 * k) ≡ 16 * 2 ^ (4 * k) = pow-add 2 4 (4 * k) in
    rw next (omega (arith, sixteen, pow-suc 16 k, four-bits-each k))

digits : (m k : ℕ) → m % 16 ^ suc k ≡ exponent m k * 16 ^ k + m % 16 ^ k
unfolding exponent
digits m k =
    let four : 4 * suc k ≡ 4 + 4 * k = omega arith in
    rw (← four-bits-each (suc k), ← four-bits-each k, four) (mod-pow-add m 4 (4 * k))

first-digit : (e k rest : ℕ) → e < 16 → rest < 16 ^ k → exponent (e * 16 ^ k + rest) k ≡ e
unfolding exponent
first-digit e k rest small below =
    let under : rest < 2 ^ (4 * k) = rw four-bits-each below in
    rw (← four-bits-each k, high e (4 * k) under) (mod-eq_of_lt small)

-- ---- The pairs of a monomial.

pair_unless-within : {n k : ℕ} (e : ℕ) {later : List Pair} → suc k ≤ n → e < 16 → PairsWithin n (n - k) later
    → PairsWithin n (n - suc k) (pair_unless (n - suc k) e later)
unfolding pair_unless
pair_unless-within {n} {k} zero room small within = from_less (n - suc k) (omega arith) within
pair_unless-within {n} {k} (suc e) room small within =
    let first : PairWithin n (n - suc k) (record { variable = n - suc k; exponent = suc e }) =
    record { rises = omega arith; below = omega arith; not_zero = omega arith; four_bits = small } in
    pairs first (from_less (suc (n - suc k)) (omega arith) within)

exponent-below : (m k : ℕ) → exponent m k < 16
unfolding exponent
exponent-below m k = mod-lt (m / 16 ^ k) (omega arith)

pairs_from-within : (n k m : ℕ) → k ≤ n → PairsWithin n (n - k) (pairs_from n k m)
unfolding pairs_from
pairs_from-within n zero m room = no_pairs
pairs_from-within n (suc k) m room = pair_unless-within (exponent m k) room (exponent-below m k) (pairs_from-within n k m (omega arith))

-- A monomial's pairs rise from 0.
pub pairs-within : (n m : ℕ) → PairsWithin n 0 (pairs_of n m)
unfolding pairs_of
pairs-within n m = from_less 0 (omega arith) (pairs_from-within n n m (omega arith))

pair_unless-monomial : (n v e : ℕ) (later : List Pair) → monomial_of n (pair_unless v e later) ≡ e * 16 ^ (n - suc v) + monomial_of n later
unfolding pair_unless monomial_of
pair_unless-monomial n v zero later = omega arith
pair_unless-monomial n v (suc e) later = refl

pairs_from-monomial : (n k m : ℕ) → k ≤ n → monomial_of n (pairs_from n k m) ≡ m % 16 ^ k
unfolding pairs_from monomial_of
pairs_from-monomial n zero m room = sym (mod-one m)
pairs_from-monomial n (suc k) m room =
    let followers : n - suc (n - suc k) ≡ k = omega arith in
    pair_unless-monomial n (n - suc k) (exponent m k) (pairs_from n k m) ∙ rw (followers, pairs_from-monomial n k m (omega arith)) (sym (digits m k))

-- The pairs of a monomial of n variables give it back.
pub monomial-of-pairs : (n m : ℕ) → m < 2 ^ (4 * n) → monomial_of n (pairs_of n m) ≡ m
unfolding pairs_of
monomial-of-pairs n m small = pairs_from-monomial n n m (omega arith) ∙ mod-eq_of_lt (rw four-bits-each at small)

pair_unless-length : (v e : ℕ) (later : List Pair) → length (pair_unless v e later) ≤ suc (length later)
unfolding pair_unless
pair_unless-length v zero later = omega arith
pair_unless-length v (suc e) later = omega arith

pairs_from-length : (n k m : ℕ) → length (pairs_from n k m) ≤ k
unfolding pairs_from
pairs_from-length n zero m = omega arith
pairs_from-length n (suc k) m = omega (arith, pair_unless-length (n - suc k) (exponent m k) (pairs_from n k m), pairs_from-length n k m)

-- At most n pairs.
pub pairs-at-most : (n m : ℕ) → length (pairs_of n m) ≤ n
unfolding pairs_of
pairs-at-most n m = pairs_from-length n n m

-- ---- The monomial of pairs.

monomial-below : {n least : ℕ} {ps : List Pair} (k : ℕ) → n ≤ least + k → PairsWithin n least ps → monomial_of n ps < 16 ^ k
unfolding monomial_of
monomial-below k room no_pairs = rw (← four-bits-each k) (pow_pos (4 * k))
monomial-below {n} k room (pairs {p = p} first others) =
    let followers = n - suc p.variable in
    let rest = monomial-below (n - suc p.variable) (omega (arith, first.below)) others in
    let enough : 2 ^ (4 * suc (n - suc p.variable)) ≤ 2 ^ (4 * k) = pow_mono (omega (arith, first.below, first.rises)) in
    omega (
      arith,
      rest,
      rw (four-bits-each (suc (n - suc p.variable)), four-bits-each k) at enough,
      pow-suc 16 (n - suc p.variable),
      mul-le-mul_right (16 ^ (n - suc p.variable)) first.four_bits,
    )

no_digit : (m k : ℕ) → m < 16 ^ k → exponent m k ≡ 0
unfolding exponent
no_digit m k below = rw (div-eq_of_lt below)

pairs_from-zero : (n k : ℕ) → pairs_from n k 0 ≡ []
unfolding pairs_from pair_unless
pairs_from-zero n zero = refl
pairs_from-zero n (suc k) = rw (no_digit 0 k (rw (← four-bits-each k) (pow_pos (4 * k))), pairs_from-zero n k)

-- What stands above 16 to the power k says nothing of the last k variables.
pairs_from-low : (n k above m : ℕ) → pairs_from n k (above * 16 ^ k + m) ≡ pairs_from n k m
unfolding pairs_from exponent
pairs_from-low n zero above m = refl
pairs_from-low n (suc k) above m =
    let higher : above * 16 ^ suc k ≡ above * 16 * 16 ^ k = rw (pow-suc, mul_comm (16 ^ k) 16, mul_assoc) in
    let positive : 0 < 16 ^ k = rw (← four-bits-each k) (pow_pos (4 * k)) in
    let same : (above * 16 + m / 16 ^ k) % 16 ≡ m / 16 ^ k % 16 = omega arith in
    rw (higher, pairs_from-low n k (above * 16) m, mul-add-div_right positive (above * 16) m, same)

pair_unless-some : (v e : ℕ) (later : List Pair) → 0 < e → pair_unless v e later ≡ record { variable = v; exponent = e } ∷ later
unfolding pair_unless
pair_unless-some v zero later some = absurd (omega arith)
pair_unless-some v (suc e) later some = refl

first_back : (n k : ℕ) {least : ℕ} (p : Pair) (ps : List Pair) → suc k ≤ n → n ≤ least + suc k → PairWithin n least p
    → PairsWithin n (suc p.variable) ps
    → ((from : ℕ) (qs : List Pair) → n ≤ from + k → PairsWithin n from qs → pairs_from n k (monomial_of n qs) ≡ qs)
    → pairs_from n (suc k) (monomial_of n (p ∷ ps)) ≡ p ∷ ps
unfolding pairs_from monomial_of pair_unless
first_back n k p ps room all first others back = by-place (dec_lt (n - suc p.variable) k)
  where
    by-place : Dec (n - suc p.variable < k)
        → pair_unless (n - suc k) (exponent (p.exponent * 16 ^ (n - suc p.variable) + monomial_of n ps) k)
        (pairs_from n k (p.exponent * 16 ^ (n - suc p.variable) + monomial_of n ps)) ≡ p ∷ ps
    by-place (yes later) =
        let from_itself : PairWithin n p.variable p =
        record { rises = omega arith; below = first.below; not_zero = first.not_zero; four_bits = first.four_bits } in
        let place : n ≤ p.variable + k = omega (arith, first.below) in
        rw (no_digit _ k (monomial-below k place (pairs from_itself others))) (back p.variable (p ∷ ps) place (pairs from_itself others))
    by-place (no here) =
        let followers : n - suc p.variable ≡ k = omega (arith, first.rises, first.below) in
        let variable-is : n - suc k ≡ p.variable = omega (arith, first.below) in
        let place : n ≤ suc p.variable + k = omega (arith, first.below) in
        rw (
          followers,
          variable-is,
          first-digit p.exponent k (monomial_of n ps) first.four_bits (monomial-below k place others),
          pairs_from-low n k p.exponent (monomial_of n ps),
          back (suc p.variable) ps place others,
        )
        (pair_unless-some p.variable p.exponent ps first.not_zero)

pairs_from-back : (n k least : ℕ) (ps : List Pair) → k ≤ n → n ≤ least + k → PairsWithin n least ps → pairs_from n k (monomial_of n ps) ≡ ps
unfolding monomial_of
pairs_from-back n zero least [] room all within = pairs_from-zero n 0
pairs_from-back n zero least (p ∷ ps) room all (pairs first others) = absurd (omega (arith, first.rises, first.below))
pairs_from-back n (suc k) least [] room all within = pairs_from-zero n (suc k)
pairs_from-back n (suc k) least (p ∷ ps) room all (pairs first others) =
    first_back n k p ps room all first others (λ from qs place within. pairs_from-back n k from qs (omega arith) place within)

-- Pairs that rise from 0 are those of their monomial.
pub pairs-of-monomial : {n : ℕ} {ps : List Pair} → PairsWithin n 0 ps → pairs_of n (monomial_of n ps) ≡ ps
unfolding pairs_of
pairs-of-monomial {n} {ps} within = pairs_from-back n n 0 ps (omega arith) (omega arith) within

-- Their monomial is one of n variables.
pub monomial-fits : {n : ℕ} {ps : List Pair} → PairsWithin n 0 ps → monomial_of n ps < 2 ^ (4 * n)
monomial-fits {n} within = rw four-bits-each (monomial-below n (omega arith) within)
