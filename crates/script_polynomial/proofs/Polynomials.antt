-- Polynomials: a number, a product, or a sum, with the space behind it.
use Rattle.std.specs.Prelude.{Result, Ok, Err}
use mathlib.Core.Bool.{Bool, true, false}
use mathlib.Core.List.{List, [], ◌∷◌, map}
use mathlib.Core.Path.{◌≡◌, refl, sym, ap, ◌∙◌}
use Prim.Native.Nat.{ℕ, suc, ◌+◌, ◌-◌, ◌*◌, ◌%◌, ◌^◌, ◌≤◌, ◌<◌}
use native.Mathlib.Nat.{one-mul, mod-eq_of_lt, pow-suc, pow-le-pow_right, one-le-pow}
use native.Mathlib.Omega.{arith}
use lib.IntN.{ℤ}
use lib.ListN.{length, drop, get_or, length-set}
use lib.Pow.{pow-lt}
use lib.Seq.{sets}
use Rattle.rules.specs.Polynomial.{Term, Polynomial}
use Rattle.rules.specs.Reader.{Reader, give}
use Rattle.rules.specs.Combine.{say, ◌then◌}
use Rattle.rules.specs.Text.{bytes}
use Rattle.rules.specs.Reading.{beyond, next_term, other_terms, polynomial}
use Rattle.script_laws.specs.Steps.{got, stop, read_part}
use Rattle.script_polynomial.specs.At.{read_at, byte_inside, then-stops, then-on, stops_as, reaches-as}
use Rattle.script_polynomial.specs.Agreement.{common, run-stops, run_on}
use Rattle.script_polynomial.specs.Closing.{byte-said, byte-unsaid}
use Rattle.script_polynomial.specs.Terms.{product_term, alone_term, others_of, sum_of_terms, opens_with, Room, TermRead, TermOf}
use Rattle.script_polynomial.specs.Terms.{TermFound}
use Rattle.script_polynomial.specs.Terms.{SumRead, SumOf, SumFound, ConstantOf, ConstantFound, SpaceOf, SpaceFound}
use Rattle.script_polynomial.specs.Terms.{OthersIn, OthersFound}
use Rattle.script_polynomial.specs.declared.Read.{Read}
use Rattle.script_polynomial.specs.declared.Stop.{Stop}
use Rattle.script_polynomial.proofs.Added.{read_as}
use Rattle.script_polynomial.proofs.Beginnings.{polynomial-constant, polynomial-alone, polynomial-sum}

-- ---- The highest monomial, by a shift.

module _ (n : ℕ) (some : 0 < n) (few : n ≤ 16) where
  pub half_is : 1 * 2 ^ (4 * n - 1) % 18446744073709551616 ≡ 2 ^ (4 * n - 1)
  half_is =
      let small : 4 * n - 1 < 64 = omega arith in
      let below : 2 ^ (4 * n - 1) < 2 ^ 64 = pow-lt small in
      rw (one-mul (2 ^ (4 * n - 1)), mod-eq_of_lt below)

  pub half-some : 1 ≤ 2 ^ (4 * n - 1)
  half-some = one-le-pow (4 * n - 1) 2 (omega arith)

  pub half-small : 2 ^ (4 * n - 1) ≤ 9223372036854775808
  half-small = let le : 4 * n - 1 ≤ 63 = omega arith in pow-le-pow_right {n = 2} (omega arith) le

  pub two-halves : 2 ^ (4 * n - 1) - 1 + 2 ^ (4 * n - 1) ≡ beyond n - 1
  two-halves =
      let e : 4 * n ≡ suc (4 * n - 1) = omega arith in
      let double : 2 ^ (4 * n) ≡ 2 ^ (4 * n - 1) * 2 = ap (λ (k : ℕ). 2 ^ k) e ∙ pow-suc 2 (4 * n - 1) in
      omega (arith, double, half-some)

-- ---- The space behind.

module _ (text : List ℕ) (at count : ℕ) {b : ℕ} (b-is : b ≡ get_or text at 0) where
  pub no-space : (b ≡ 32 → ⊥) → SpaceFound text at count (Err (record { at = at }))
  unfolding SpaceOf
  no-space other = record { is_found = (refl, λ e. other (b-is ∙ e)) }

  pub one-space : b ≡ 32 → SpaceFound text at count (Ok (record { value = count; behind = at + 1 }))
  unfolding SpaceOf
  one-space e = record { is_found = (refl, refl, sym b-is ∙ e) }

-- Whatever is given behind a space: the count and the position, or where it stopped.
spaced-reading : {text : List ℕ} {at count : ℕ} (p : Polynomial) (sum : Result (Read ℕ) Stop) → SpaceFound text at count sum → {place : ℕ} {cs cs' : List ℤ}
    {ms ms' : List ℕ}
    → length p ≡ count → Room cs ms place count → cs' ≡ sets cs place (map (λ t. t.coefficient) p) → ms' ≡ sets ms place (map (λ t. t.monomial) p)
    → SumFound text at (say (bytes " ") (give p)) place cs cs' ms ms' sum
unfolding SpaceOf SumOf read_part
spaced-reading {text} {at} p (Err stopped) h counted room c m =
    let s = h.is_found in
    record { is_found = record { reading = byte-unsaid text at refl 32 (give p) s.1 ∙ ap stop (sym s.0) } }
spaced-reading {text} {at} p (Ok sum) h counted room c m =
    let s = h.is_found in
    let there : at + 1 ≡ sum.behind = sym s.1 in
    record {
      is_found = record {
        terms = p;
        reaches = record {
          reading = byte-said text at refl 32 (give p) (omega arith) s.2 ∙ ap (λ (q : ℕ). got p q (drop q text)) there;
          inside = omega (arith, s.1, byte_inside text at (omega (arith, s.2)));
        };
        counted = counted ∙ sym s.0;
        room = record { coefficients = omega (arith, room.coefficients, s.0); monomials = omega (arith, room.monomials, s.0) };
        coefficient = c;
        monomial = m;
      };
    }

pub sum-as : {text : List ℕ} {at at' : ℕ} {r r' : Reader Polynomial} {place : ℕ} {cs cs' : List ℤ} {ms ms' : List ℕ} (sum : Result (Read ℕ) Stop)
    → read_at text at r ≡ read_at text at' r' → SumFound text at' r' place cs cs' ms ms' sum → SumFound text at r place cs cs' ms ms' sum
unfolding SumOf
sum-as (Err stopped) same h = record { is_found = stops_as same h.is_found }
sum-as (Ok sum) same h = record { is_found = read_as same h.is_found }

-- ---- A product alone.

module _ (text : List ℕ) (at n : ℕ) {limit : ℕ} (limit_is : limit ≡ beyond n - 1) {cs cs' : List ℤ} {ms ms' : List ℕ} where
  pub alone-stopped : {stop : Stop} → TermFound text at (product_term n limit) 0 cs cs' ms ms' (Err stop)
      → SumFound text at (alone_term n) 0 cs cs' ms ms' (Err stop)
  unfolding TermOf SumOf
  alone-stopped h = record { is_found = then-stops _ (rw limit_is at h).is_found }

  module _ {number : Read ℕ} (h : TermFound text at (product_term n limit) 0 cs cs' ms ms' (Ok number)) where
    pub alone-term : TermRead text at (product_term n (beyond n - 1)) 0 cs cs' ms ms' number.value number.behind
    unfolding TermOf
    alone-term = (rw limit_is at h).is_found

    pub alone-read : Room cs ms 0 16 → (sum : Result (Read ℕ) Stop) → SpaceFound text number.behind 1 sum → SumFound text at (alone_term n) 0 cs cs' ms ms' sum
    alone-read room sum space =
        let t = alone-term in
        let one : Room cs ms 0 1 = record { coefficients = omega (arith, room.coefficients); monomials = omega (arith, room.monomials) } in
        sum-as sum (then-on _ t.reaches) (spaced-reading (t.term ∷ []) sum space refl one t.coefficient t.monomial)

-- ---- The terms behind the first one of a sum.

module _ (text : List ℕ) (at n above : ℕ) {b : ℕ} (b-is : b ≡ get_or text at 0) where
  pub others-unspaced : (b ≡ 32 → ⊥) → {cs cs' : List ℤ} {ms ms' : List ℕ} → OthersFound text at n above cs cs' ms ms' (Err (record { at = at }))
  unfolding OthersIn
  others-unspaced other = record { is_found = λ t same. record { reading = byte-unsaid text at b-is 32 (behind_space t) other } }
    where
      behind_space : Term → Reader Polynomial
      behind_space t = next_term n t.monomial (other_terms n 14) then λ ts. say (bytes " ") (give (t ∷ ts))

  module _ (space : b ≡ 32) where
    on : (t : Term) → t.monomial ≡ above
        → read_at text at (others_of n t) ≡ read_at text (at + 1) (next_term n above (other_terms n 14) then λ ts. say (bytes " ") (give (t ∷ ts)))
    on t same = byte-said text at b-is 32 (next_term n t.monomial (other_terms n 14) then λ ts. say (bytes " ") (give (t ∷ ts))) (omega arith) space
        ∙ ap (λ (m : ℕ). read_at text (at + 1) (next_term n m (other_terms n 14) then λ ts. say (bytes " ") (give (t ∷ ts)))) same

  module _ (space : b ≡ 32) {cs cs' : List ℤ} {ms ms' : List ℕ} where
    pub others-stopped : {stop : Stop} → SumFound text (at + 1) (next_term n above (other_terms n 14)) 1 cs cs' ms ms' (Err stop)
        → OthersFound text at n above cs cs' ms ms' (Err stop)
    unfolding SumOf OthersIn
    others-stopped h = record { is_found = λ t same. stops_as (on space t same) (then-stops _ h.is_found) }

    module _ {found : Read ℕ} (h : SumFound text (at + 1) (next_term n above (other_terms n 14)) 1 cs cs' ms ms' (Ok found)) where
      abbrev count : ℕ
      count = found.value

      abbrev behind : ℕ
      behind = found.behind

      pub others-terms : SumRead text (at + 1) (next_term n above (other_terms n 14)) 1 cs cs' ms ms' count behind
      unfolding SumOf
      others-terms = h.is_found

      pub others-read : (sum : Result (Read ℕ) Stop) → SpaceFound text behind (count + 1) sum → OthersFound text at n above cs cs' ms ms' sum
      unfolding SpaceOf OthersIn read_part
      others-read (Err stopped) spaced =
          let s = spaced.is_found in
          let ts = others-terms in
          record {
            is_found = λ t same. record {
              reading = on space t same ∙ then-on _ ts.reaches ∙ byte-unsaid text behind refl 32 (give (t ∷ ts.terms)) s.1 ∙ ap stop (sym s.0);
            };
          }
      others-read (Ok sum) spaced =
          let s = spaced.is_found in
          let ts = others-terms in
          let there : behind + 1 ≡ sum.behind = sym s.1 in
          record {
            is_found = record {
              terms = ts.terms;
              reaches = λ t same. record {
                reading = on space t same ∙ then-on _ ts.reaches ∙ byte-said text behind refl 32 (give (t ∷ ts.terms)) (omega arith) s.2
                    ∙ ap (λ (q : ℕ). got (t ∷ ts.terms) q (drop q text)) there;
                inside = omega (arith, s.1, byte_inside text behind (omega (arith, s.2)));
              };
              counted = omega (arith, ts.counted, s.0);
              room = record { coefficients = omega (arith, ts.room.coefficients, s.0); monomials = omega (arith, ts.room.monomials, s.0) };
              coefficient = ts.coefficient;
              monomial = ts.monomial;
            };
          }

-- ---- A sum.

module _ (text : List ℕ) (at n : ℕ) {start : ℕ} (told : start ≡ at + common (40 ∷ 43 ∷ 32 ∷ []) (drop at text)) where
  abbrev inner : Reader Polynomial
  inner = product_term n (beyond n - 1) then λ t. others_of n t

  pub sum-unsaid : start - at < 3 → {cs cs' : List ℤ} {ms ms' : List ℕ} → SumFound text at (sum_of_terms n) 0 cs cs' ms ms' (Err (record { at = start }))
  unfolding SumOf
  sum-unsaid short = record { is_found = run-stops inner text at (40 ∷ 43 ∷ 32 ∷ []) told short }

  module _ (long : 3 ≤ start - at) {limit : ℕ} (limit_is : limit ≡ beyond n - 1) {cs cs₁ : List ℤ} {ms ms₁ : List ℕ} where
    pub sum-stopped : {stop : Stop} → TermFound text start (product_term n limit) 0 cs cs₁ ms ms₁ (Err stop)
        → SumFound text at (sum_of_terms n) 0 cs cs₁ ms ms₁ (Err stop)
    unfolding TermOf SumOf
    sum-stopped h = record {
      is_found = stops_as (run_on inner text at (40 ∷ 43 ∷ 32 ∷ []) told long) (then-stops _ (rw limit_is at h).is_found);
    }

    pub sum-read : {number : Read ℕ} → TermFound text start (product_term n limit) 0 cs cs₁ ms ms₁ (Ok number)
        → {cs₂ : List ℤ} {ms₂ : List ℕ} (sum : Result (Read ℕ) Stop)
        → OthersFound text number.behind n number.value cs₁ cs₂ ms₁ ms₂ sum → SumFound text at (sum_of_terms n) 0 cs cs₂ ms ms₂ sum
    unfolding SumOf OthersIn
    sum-read h (Err stopped) others =
        let t = alone-term text start n limit_is h in
        record {
          is_found = stops_as (run_on inner text at (40 ∷ 43 ∷ 32 ∷ []) told long ∙ then-on _ t.reaches) (others.is_found t.term t.powers);
        }
    sum-read h (Ok sum) others =
        let t = alone-term text start n limit_is h in
        let o = others.is_found in
        let cs-long : length cs₁ ≡ length cs = ap length t.coefficient ∙ length-set cs 0 t.term.coefficient in
        let ms-long : length ms₁ ≡ length ms = ap length t.monomial ∙ length-set ms 0 t.term.monomial in
        record {
          is_found = record {
            terms = t.term ∷ o.terms;
            reaches = reaches-as (run_on inner text at (40 ∷ 43 ∷ 32 ∷ []) told long ∙ then-on _ t.reaches) (o.reaches t.term t.powers);
            counted = o.counted;
            room = record { coefficients = omega (arith, o.room.coefficients, cs-long); monomials = omega (arith, o.room.monomials, ms-long) };
            coefficient = o.coefficient ∙ ap (λ (xs : List ℤ). sets xs 1 (map (λ u. u.coefficient) o.terms)) t.coefficient;
            monomial = o.monomial ∙ ap (λ (xs : List ℕ). sets xs 1 (map (λ u. u.monomial) o.terms)) t.monomial;
          };
        }

-- ---- A polynomial.

module _ (text : List ℕ) (at n : ℕ) {plus : Bool} (plus-is : plus ≡ opens_with text at 43) {cs cs' : List ℤ} {ms ms' : List ℕ} where
  pub by-sum : plus ≡ true → (sum : Result (Read ℕ) Stop) → SumFound text at (sum_of_terms n) 0 cs cs' ms ms' sum → SumFound text at (polynomial n) 0 cs cs' ms ms' sum
  by-sum e sum h = sum-as sum (polynomial-sum text at n (sym plus-is ∙ e)) h

  module _ {star : Bool} (star-is : star ≡ opens_with text at 42) where
    pub by_product : star ≡ true → (sum : Result (Read ℕ) Stop) → SumFound text at (alone_term n) 0 cs cs' ms ms' sum → SumFound text at
        (polynomial n) 0 cs cs' ms ms' sum
    by_product e sum h = sum-as sum (polynomial-alone text at n (sym star-is ∙ e)) h

    module _ (p : plus ≡ false) (s : star ≡ false) where
      pub number-stops : {stop : Stop} → ConstantFound text at 32 0 cs cs' ms ms' (Err stop)
          → SumFound text at (polynomial n) 0 cs cs' ms ms' (Err stop)
      unfolding ConstantOf SumOf
      number-stops h = record { is_found = stops_as (polynomial-constant text at n (sym plus-is ∙ p) (sym star-is ∙ s)) h.is_found }

      pub by_number : {behind : ℕ} → ConstantFound text at 32 0 cs cs' ms ms' (Ok behind)
          → SumFound text at (polynomial n) 0 cs cs' ms ms' (Ok (record { value = 1; behind = behind }))
      unfolding ConstantOf SumOf
      by_number h = record { is_found = read_as (polynomial-constant text at n (sym plus-is ∙ p) (sym star-is ∙ s)) h.is_found }
