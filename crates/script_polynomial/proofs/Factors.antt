-- A factor and the byte behind it, and one factor after the other: the product so far is one number, whose exponents are at most 15 and which is at
-- most the limit.
use Rattle.std.specs.Prelude.{None, Some, Ok, Err}
use mathlib.Core.Bool.{true, false, ◌&&◌}
use mathlib.Core.List.{List}
use mathlib.Core.Path.{◌≡◌, sym, ap, ◌∙◌}
use Prim.Native.Nat.{ℕ, zero, suc, ◌+◌, ◌-◌, ◌*◌, ◌/◌, ◌%◌, ◌^◌, ◌≤◌, ◌<◌}
use native.Mathlib.Nat.{suc-mul, mul_assoc, one-mul, mod-eq_of_lt, zero-div, zero-mul}
use native.Mathlib.Omega.{arith}
use lib.Dec.{eqb, leb, ltb}
use lib.ListN.{length, drop, get_or}
use lib.Pow.{pow-add, pow-lt}
use borrow.Author.Tests.{eq-eqb, eqb-true, lt-ltb, le-ltb, le-leb, lt-leb, ltb-true, leb-true}
use Rattle.rules.specs.Polynomial.{exponent}
use Rattle.terms.specs.Exponents.{exponent-shifted}
use Rattle.sign_laws.specs.Booleans.{and_first, and_second, and_intro, and-false, never_both, never_true}
use Rattle.rules.specs.Reader.{Reader, give}
use Rattle.rules.specs.Combine.{say}
use Rattle.script_laws.specs.Products.{beyond-sixteen}
use Rattle.rules.specs.Text.{letter}
use Rattle.rules.specs.Reading.{factor_may, any_may, letters, after_factor}
use Rattle.script_laws.specs.Steps.{got, stop, read_part}
use Rattle.script_polynomial.specs.At.{read_at, byte_inside, stops_as, reaches-as}
use Rattle.script_polynomial.specs.Closing.{byte-said, byte-unsaid, ends, ends-not, goes_on}
use Rattle.script_polynomial.specs.Found.{NumberOf, NumberFound}
use Rattle.script_polynomial.specs.Letters.{Packed, LetterOf, LetterFound, factors_left, Onward, FactorOf, FactorFound}
use Rattle.script_polynomial.specs.declared.Stop.{Stop}
use Rattle.script_polynomial.specs.declared.products.Factor.{Factor}
use Rattle.script_polynomial.specs.declared.products.Factor.TheVariants.{Last, More}
use Rattle.script_polynomial.proofs.Letters.{some-power, here, letter-stops, letter-on}

-- ---- Powers of 16 by a shift.

pub shifted-is : (j : ℕ) → j < 16 → 1 * 2 ^ (4 * j) % 18446744073709551616 ≡ 16 ^ j
shifted-is j h =
    let few : 4 * j < 64 = omega arith in
    let below : 2 ^ (4 * j) < 2 ^ 64 = pow-lt few in
    rw (one-mul (2 ^ (4 * j)), mod-eq_of_lt below) (beyond-sixteen j)

-- ---- Which letter may come next.

-- With a factor more the product is higher by a power.
one-more : (m j : ℕ) → m / 16 ^ j * 16 ^ j ≡ m → suc (m / 16 ^ j) * 16 ^ j ≡ m + 16 ^ j
one-more m j e = suc-mul (m / 16 ^ j) (16 ^ j) ∙ ap (λ (x : ℕ). x + 16 ^ j) e

module _ (n limit after m byte : ℕ) (inside : after < n) where
  pub letter-low : byte < 97 → LetterFound n limit after m byte None
  unfolding LetterOf letter
  letter-low low = record { found = λ j l is. absurd (omega (arith, is, low)) }

  pub letter-far : n ≤ byte - 97 → LetterFound n limit after m byte None
  unfolding LetterOf letter
  letter-far far = record { found = λ j l is. absurd (omega (arith, is, far, inside)) }

  pub letter-before : after < n - 1 - (byte - 97) → LetterFound n limit after m byte None
  unfolding LetterOf letter
  letter-before before = record { found = λ j l is. absurd (omega (arith, is, before, l, inside)) }

  module _ (packed : Packed limit after m) (few : n ≤ 16) (low : 97 ≤ byte) (near : byte - 97 < n) where
    pub letter-spent : (m / 2 ^ (4 * (n - 1 - (byte - 97)))) % 16 ≡ 15 → LetterFound n limit after m byte None
    unfolding LetterOf letter factor_may exponent
    letter-spent full = record {
      found = λ j l is.
          let j-is : n - 1 - (byte - 97) ≡ j = omega (arith, is, l, inside) in
          let digit : m / 16 ^ j % 16 ≡ 15 = rw j-is at (sym (exponent-shifted m (n - 1 - (byte - 97))) ∙ full) in
          rw (le-ltb (m / 16 ^ j % 16) 15 (omega (arith, digit)));
    }

    pub letter-over : limit - m < 1 * 2 ^ (4 * (n - 1 - (byte - 97))) % 18446744073709551616 → LetterFound n limit after m byte None
    unfolding LetterOf letter factor_may
    letter-over over = record {
      found = λ j l is.
          let j-is : n - 1 - (byte - 97) ≡ j = omega (arith, is, l, inside) in
          let high : limit - m < 16 ^ j = rw (shifted-is (n - 1 - (byte - 97)) (omega arith), j-is) at over in
          let sum : suc (m / 16 ^ j) * 16 ^ j ≡ m + 16 ^ j = one-more m j (packed.multiple j l) in
          rw (sum, lt-leb (m + 16 ^ j) limit (omega (arith, high, packed.below)), and-false (ltb (m / 16 ^ j % 16) 15));
    }

    pub letter-taken : n - 1 - (byte - 97) ≤ after → ((m / 2 ^ (4 * (n - 1 - (byte - 97)))) % 16 ≡ 15 → ⊥)
        → 1 * 2 ^ (4 * (n - 1 - (byte - 97))) % 18446744073709551616 ≤ limit - m → LetterFound n limit after m byte (Some (n - 1 - (byte - 97)))
    unfolding LetterOf letter factor_may exponent
    letter-taken l not_full fits =
        let j = n - 1 - (byte - 97) in
        let digit : m / 2 ^ (4 * j) % 16 ≡ m / 16 ^ j % 16 = exponent-shifted m j in
        let sum : suc (m / 16 ^ j) * 16 ^ j ≡ m + 16 ^ j = one-more m j (packed.multiple j l) in
        let power = rw (shifted-is j (omega arith)) at fits in
        let some = packed.below in
        record {
          found = (
            l,
            omega arith,
            and_intro (lt-ltb (m / 16 ^ j % 16) 15 (omega (arith, digit, not_full)))
                (rw sum (le-leb (m + 16 ^ j) limit (omega (arith, power, some)))),
          );
        }

-- ---- The product with one factor more.

module _ (n limit after m byte j : ℕ) (packed : Packed limit after m) (found : LetterFound n limit after m byte (Some j)) where
  pub followed-by : (j ≤ after) × (byte ≡ letter (n - suc j)) × (factor_may n limit j (m / 16 ^ j) ≡ true)
  unfolding LetterOf
  followed-by = found.found

  grown : suc (m / 16 ^ j) * 16 ^ j ≡ m + 16 ^ j
  grown = one-more m j (packed.multiple j followed-by.0)

  pub grown-within : m + 16 ^ j ≤ limit
  unfolding factor_may
  grown-within = rw grown at (leb-true (suc (m / 16 ^ j) * 16 ^ j) limit
      (and_second (ltb (m / 16 ^ j % 16) 15) (leb (suc (m / 16 ^ j) * 16 ^ j) limit) followed-by.2))

  quotient : (m + 16 ^ j) / 16 ^ j ≡ suc (m / 16 ^ j)
  quotient = ap (λ (x : ℕ). x / 16 ^ j) (sym grown) ∙ here j (suc (m / 16 ^ j))

  grown-multiple : (i : ℕ) → i ≤ j → (m + 16 ^ j) / 16 ^ i * 16 ^ i ≡ m + 16 ^ j
  grown-multiple i l =
      let split : 16 ^ j ≡ 16 ^ (j - i) * 16 ^ i = ap (λ (x : ℕ). 16 ^ x) (omega arith) ∙ pow-add 16 (j - i) i in
      let all : m + 16 ^ j ≡ suc (m / 16 ^ j) * 16 ^ (j - i) * 16 ^ i =
      sym grown ∙ ap (λ (x : ℕ). suc (m / 16 ^ j) * x) split ∙ sym (mul_assoc (suc (m / 16 ^ j)) (16 ^ (j - i)) (16 ^ i)) in
      ap (λ (x : ℕ). x / 16 ^ i * 16 ^ i) all ∙ ap (λ (x : ℕ). x * 16 ^ i) (here i (suc (m / 16 ^ j) * 16 ^ (j - i))) ∙ sym all

  pub grown-packed : any_may 0 limit (m + 16 ^ j) ≡ true → Packed limit j (m + 16 ^ j)
  unfolding any_may
  grown-packed any = record {
    multiple = grown-multiple;
    digit = ltb-true ((m + 16 ^ j) % 16) 15 (and_first (ltb ((m + 16 ^ j) % 16) 15) (ltb (m + 16 ^ j) limit) any);
    below = ltb-true (m + 16 ^ j) limit (and_second (ltb ((m + 16 ^ j) % 16) 15) (ltb (m + 16 ^ j) limit) any);
  }

-- ---- A factor and the byte behind it.

module _ (text : List ℕ) (at n limit after m : ℕ) (inside : after < n) (packed : Packed limit after m) {byte : ℕ}
    (byte-is : byte ≡ get_or text at 0) where
  pub factor-none : LetterFound n limit after m byte None → FactorFound text at n limit after m (Err (record { at = at }))
  unfolding LetterOf FactorOf
  factor-none h = record {
    found = λ k enough. record {
      reading = letter-stops n limit (after_factor n limit k) text at byte-is after m inside (packed.multiple after (omega arith)) packed.digit
          packed.below
          h.found;
    };
  }

  module _ (j : ℕ) (found : LetterFound n limit after m byte (Some j)) where
    pub factor-here : at < length text
    unfolding letter
    factor-here = byte_inside text at (omega (arith, byte-is, (followed-by n limit after m byte j packed found).1))

    on : (k : ℕ) → read_at text at (factors_left n limit k after m) ≡ read_at text (at + 1) (after_factor n limit k j (suc (m / 16 ^ j)))
    on k =
        let f = followed-by n limit after m byte j packed found in
        letter-on n limit (after_factor n limit k) text at byte-is after m inside (packed.multiple after (omega arith)) packed.digit
        packed.below factor-here j f.0 f.1 f.2

    module _ {next : ℕ} (next-is : next ≡ get_or text (at + 1) 0) where
      total : suc (m / 16 ^ j) * 16 ^ j ≡ m + 16 ^ j
      total = grown n limit after m byte j packed found

      -- What stands behind the factor,
      abbrev behind : ℕ → Reader ℕ
      behind k = after_factor n limit k j (suc (m / 16 ^ j))

      -- and behind a space after it.
      abbrev further : ℕ → Reader ℕ
      further k = letters n limit (after_factor n limit k) j (suc (m / 16 ^ j))

      ended : next ≡ 41 → (k : ℕ) → read_at text (at + 1) (behind k) ≡ got (suc (m / 16 ^ j) * 16 ^ j) (at + 1 + 1) (drop (at + 1 + 1) text)
      unfolding after_factor say read_part
      ended e zero = byte-said text (at + 1) next-is 41 (give (suc (m / 16 ^ j) * 16 ^ j)) (omega arith) e
      ended e (suc k) = ends text (at + 1) next-is (suc (m / 16 ^ j) * 16 ^ j) (any_may n limit (suc (m / 16 ^ j) * 16 ^ j)) (further k) e

      pub factor-last : next ≡ 41 → FactorFound text at n limit after m (Ok (Last (m + 16 ^ j) (at + 2)))
      unfolding FactorOf
      factor-last e =
          let later : at + 1 < length text = byte_inside text (at + 1) (omega (arith, next-is, e)) in
          let two : at + 1 + 1 ≡ at + 2 = omega arith in
          record {
            found = (
              λ k enough. record { reading = on k ∙ ended e k ∙ rw (total, two); inside = omega (arith, later) },
              grown-within n limit after m byte j packed found,
            );
          }

      -- Neither the end nor a space, or a space where no factor may come.
      pub factor-stops : (next ≡ 41 → ⊥) → (eqb next 32 && any_may 0 limit (m + 16 ^ j)) ≡ false → FactorFound text at n limit after m
          (Err (record { at = at + 1 }))
      unfolding FactorOf after_factor say any_may
      factor-stops other none = record { found = λ k enough. record { reading = on k ∙ by k } }
        where
          no-any : next ≡ 32 → any_may 0 limit (m + 16 ^ j) ≡ false
          no-any e = never_true (any_may 0 limit (m + 16 ^ j)) (λ any. never_both (and_intro (eq-eqb next 32 e) any) none)

          by : (k : ℕ) → read_at text (at + 1) (behind k) ≡ stop (at + 1)
          by zero = byte-unsaid text (at + 1) next-is 41 (give (suc (m / 16 ^ j) * 16 ^ j)) other
          by (suc k) = ends-not text (at + 1) next-is (suc (m / 16 ^ j) * 16 ^ j) (any_may n limit (suc (m / 16 ^ j) * 16 ^ j)) (further k) other
              (λ e. rw total (no-any e))

      -- Another factor.
      pub factor-more : (eqb next 32 && any_may 0 limit (m + 16 ^ j)) ≡ true → FactorFound text at n limit after m (Ok (More j (m + 16 ^ j) (at + 2)))
      unfolding FactorOf after_factor any_may
      factor-more both =
          let later : at + 1 < length text = byte_inside text (at + 1) (omega (arith, next-is, e)) in
          let packed₁ = grown-packed n limit after m byte j packed found any in
          record {
            found = record {
              packed = packed₁;
              variable = let l = (followed-by n limit after m byte j packed found).0 in omega (arith, l, inside);
              more = omega (arith, some-power j);
              inside = omega (arith, later);
              reading = λ k enough. on k ∙ by k (omega (arith, enough, packed₁.below, some-power j));
            };
          }
        where
          e : next ≡ 32
          e = eqb-true next 32 (and_first (eqb next 32) (any_may 0 limit (m + 16 ^ j)) both)

          any : any_may 0 limit (m + 16 ^ j) ≡ true
          any = and_second (eqb next 32) (any_may 0 limit (m + 16 ^ j)) both

          two : at + 1 + 1 ≡ at + 2
          two = omega arith

          same : suc (m / 16 ^ j) ≡ (m + 16 ^ j) / 16 ^ j
          same = sym (quotient n limit after m byte j packed found)

          by : (k : ℕ) → 0 < k → read_at text (at + 1) (behind k) ≡ read_at text (at + 2) (factors_left n limit (k - 1) j (m + 16 ^ j))
          by zero some = absurd (omega (arith, some))
          by (suc k) some =
              let k-is : k ≡ suc k - 1 = omega arith in
              goes_on text (at + 1) next-is (suc (m / 16 ^ j) * 16 ^ j) (any_may n limit (suc (m / 16 ^ j) * 16 ^ j)) (further k) e (rw total any)
              ∙ ap (λ (p : ℕ). read_at text p (further k)) two ∙ ap (λ (h : ℕ). read_at text (at + 2)
              (letters n limit (after_factor n limit k) j h)) same
              ∙ ap (λ (i : ℕ). read_at text (at + 2) (factors_left n limit i j (m + 16 ^ j))) k-is

-- ---- One factor after the other.

-- The product m was read, and another factor is to come at the position `next`.
pub record SoFar (text : List ℕ) (at n limit next after m : ℕ) : Type 0 where
  pub packed : Packed limit after m
  pub variable : after < n
  pub inside : next ≤ length text
  pub fuel : ℕ
  pub enough : limit ≤ m + suc fuel
  pub same : read_at text at (letters n limit (after_factor n limit limit) (n - 1) 0) ≡ read_at text next (factors_left n limit fuel after m)

pub factors-begin : (text : List ℕ) (at n limit : ℕ) → at ≤ length text → 0 < n → 0 < limit → SoFar text at n limit at (n - 1) 0
factors-begin text at n limit inside some high = record {
  packed = record { multiple = λ j l. rw (zero-div (16 ^ j), zero-mul (16 ^ j)); digit = omega arith; below = high };
  variable = omega arith;
  inside = inside;
  fuel = limit;
  enough = omega arith;
  same = rw (zero-div (16 ^ (n - 1)));
}

module _ (text : List ℕ) (at n limit : ℕ) {next after m : ℕ} (l : SoFar text at n limit next after m) where
  pub factors-stop : {stop : Stop} → FactorFound text next n limit after m (Err stop)
      → NumberFound text at (letters n limit (after_factor n limit limit) (n - 1) 0) (λ x. x ≤ limit) (Err stop)
  unfolding NumberOf FactorOf
  factors-stop found = record { found = stops_as l.same (found.found l.fuel l.enough) }

  pub factors-end : {factor : Factor} → FactorFound text next n limit after m (Ok factor) → {value behind : ℕ} → factor ≡ Last value behind
      → NumberFound text at (letters n limit (after_factor n limit limit) (n - 1) 0) (λ x. x ≤ limit) (Ok (record { value = value; behind = behind }))
  unfolding NumberOf FactorOf
  factors-end found e = let f = (rw e at found).found in record { found = (reaches-as l.same (f.0 l.fuel l.enough), f.1) }

  module _ {factor : Factor} (found : FactorFound text next n limit after m (Ok factor)) {after' m' behind : ℕ}
      (e : factor ≡ More after' m' behind) where
    onward : Onward text next n limit after m after' m' behind
    unfolding FactorOf
    onward = (rw e at found).found

    pub factors-less : limit - m' < limit - m
    factors-less = let o = onward in omega (arith, o.more, o.packed.below)

    pub factors-go-on : SoFar text at n limit behind after' m'
    factors-go-on = let o = onward in record {
      packed = o.packed;
      variable = o.variable;
      inside = o.inside;
      fuel = l.fuel - 1;
      enough = omega (arith, l.enough, o.more);
      same = l.same ∙ o.reading l.fuel l.enough;
    }
