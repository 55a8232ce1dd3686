-- The terms of a sum, one after the other.
use Rattle.std.specs.Prelude.{Result, Ok, Err}
use mathlib.Core.Bool.{Bool, true, false, ◌&&◌}
use mathlib.Core.List.{List, [], ◌∷◌, map}
use mathlib.Core.Path.{◌≡◌, refl, sym, ap, ap₂, ◌∙◌}
use Prim.Native.Nat.{ℕ, zero, suc, ◌+◌, ◌-◌, ◌≤◌, ◌<◌}
use native.Mathlib.Numerals.{add-one}
use native.Mathlib.Omega.{arith}
use lib.Dec.{ltb}
use lib.IntN.{ℤ}
use lib.ListN.{length, drop, get_or, set, length-set}
use lib.Seq.{sets}
use borrow.Author.Tests.{ltb-true}
use Rattle.sign_laws.specs.Booleans.{and_first}
use Rattle.rules.specs.Polynomial.{Polynomial}
use Rattle.rules.specs.Reader.{Reader, give}
use Rattle.rules.specs.Combine.{say, ◌then◌}
use Rattle.rules.specs.Reading.{number_or, constant_of, next_term, other_terms}
use Rattle.script_laws.specs.Steps.{got, stop, read_part}
use Rattle.script_polynomial.specs.At.{read_at, byte_inside, then-stops, then-on, stops_as, reaches-as}
use Rattle.script_polynomial.specs.Joined.{then-as}
use Rattle.script_polynomial.specs.Closing.{byte-said, byte-unsaid, ends, ends-not, goes_on}
use Rattle.script_polynomial.specs.Found.{ValueFound}
use Rattle.script_polynomial.specs.Terms.{product_term, opens_with, Room, TermRead, TermOf, TermFound, SumRead, SumOf, SumFound}
use Rattle.script_polynomial.specs.Terms.{ConstantOf, ConstantFound, AfterOf, AfterFound, Further, StepOf, StepFound}
use Rattle.script_polynomial.specs.declared.Read.{Read}
use Rattle.script_polynomial.specs.declared.Stop.{Stop}
use Rattle.script_polynomial.specs.declared.sums.Step.{Step}
use Rattle.script_polynomial.specs.declared.sums.Step.TheVariants.{Last, More}
use Rattle.script_polynomial.proofs.Signed.{value-stopped, value_read}
use Rattle.script_polynomial.proofs.Beginnings.{next-constant, next-product}

-- ---- A number as a term.

module _ (text : List ℕ) (at last : ℕ) where
  pub constant-stopped : {stop : Stop} → ValueFound text at (number_or last (λ c. c) []) (Err stop) → {place : ℕ} {cs : List ℤ} {ms : List ℕ}
      → ConstantFound text at last place cs cs ms ms (Err stop)
  unfolding ConstantOf
  constant-stopped h = record { is_found = then-stops _ (value-stopped h) }

  pub constant-read : {number : Read ℤ} → ValueFound text at (number_or last (λ c. c) []) (Ok number) → {c' : ℤ} → c' ≡ number.value
      → {place : ℕ} {cs : List ℤ} {ms : List ℕ} → Room cs ms place 1
      → ConstantFound text at last place cs (set cs place c') ms (set ms place 0) (Ok number.behind)
  unfolding ConstantOf read_part
  constant-read {number} h same {place} {cs} room =
      let found = value_read h in
      record {
        is_found = record {
          terms = constant_of number.value;
          reaches = record { reading = then-on _ found; inside = found.inside };
          counted = refl;
          room = room;
          coefficient = ap (set cs place) same;
          monomial = refl;
        };
      }

-- ---- Behind a term.

module _ (text : List ℕ) (at : ℕ) {b : ℕ} (b-is : b ≡ get_or text at 0) (n most above : ℕ) where
  pub after-end : b ≡ 41 → AfterFound text at n most above (Ok (Last (at + 1)))
  unfolding AfterOf other_terms read_part say
  after-end e = record { is_found = record { reading = by most; inside = omega (arith, byte_inside text at (omega (arith, b-is, e))) } }
    where
      by : (k : ℕ) → read_at text at (other_terms n k above) ≡ got [] (at + 1) (drop (at + 1) text)
      by zero = byte-said text at b-is 41 (give []) (omega arith) e
      by (suc k) = ends text at b-is [] true (next_term n above (other_terms n k)) e

  pub after-spent : (b ≡ 41 → ⊥) → most ≡ 0 → AfterFound text at n most above (Err (record { at = at }))
  unfolding AfterOf other_terms say
  after-spent other none = rw none (record { is_found = record { reading = byte-unsaid text at b-is 41 (give []) other } })

  pub after-other : (b ≡ 41 → ⊥) → (most ≡ 0 → ⊥) → (b ≡ 32 → ⊥) → AfterFound text at n most above (Err (record { at = at }))
  unfolding AfterOf other_terms
  after-other other some no-space = record { is_found = record { reading = by most some } }
    where
      by : (k : ℕ) → (k ≡ 0 → ⊥) → read_at text at (other_terms n k above) ≡ stop at
      by zero none = absurd (none refl)
      by (suc k) none = ends-not text at b-is [] true (next_term n above (other_terms n k)) other (λ e. absurd (no-space e))

  pub after_more : (most ≡ 0 → ⊥) → b ≡ 32 → AfterFound text at n most above (Ok (More above (at + 1)))
  unfolding AfterOf other_terms
  after_more some e = record {
    is_found = record {
      same = refl;
      some = omega (arith, some);
      inside = omega (arith, byte_inside text at (omega (arith, b-is, e)));
      reading = by most some;
    };
  }
    where
      by : (k : ℕ) → (k ≡ 0 → ⊥) → read_at text at (other_terms n k above) ≡ read_at text (at + 1) (next_term n above (other_terms n (k - 1)))
      by zero none = absurd (none refl)
      by (suc k) none =
          let k-is : suc k - 1 ≡ k = omega arith in
          goes_on text at b-is [] true (next_term n above (other_terms n k)) e refl ∙ rw k-is

-- ---- The next term, and those behind it.

-- Terms that were read by a reader that reads the same.
pub read_as : {text : List ℕ} {at at' : ℕ} {r r' : Reader Polynomial} {place : ℕ} {cs cs' : List ℤ} {ms ms' : List ℕ} {count behind : ℕ}
    → read_at text at r ≡ read_at text at' r' → SumRead text at' r' place cs cs' ms ms' count behind
    → SumRead text at r place cs cs' ms ms' count behind
read_as same h = record {
  terms = h.terms;
  reaches = reaches-as same h.reaches;
  counted = h.counted;
  room = h.room;
  coefficient = h.coefficient;
  monomial = h.monomial;
}

module _ (text : List ℕ) (at above : ℕ) {may : Bool} (e : may ≡ (ltb 1 above && opens_with text at 42)) (so : may ≡ true) where
  taken : (ltb 1 above && opens_with text at 42) ≡ true
  taken = sym e ∙ so

  pub above-one : 1 < above
  above-one = ltb-true 1 above (and_first (ltb 1 above) (opens_with text at 42) taken)

module _ (text : List ℕ) (at n most above : ℕ) {place : ℕ} {cs cs' : List ℤ} {ms ms' : List ℕ} where
  -- No product comes.
  module _ {may : Bool} (e : may ≡ (ltb 1 above && opens_with text at 42)) (none : may ≡ false) where
    pub constant-stops : {stop : Stop} → ConstantFound text at 41 place cs cs' ms ms' (Err stop)
        → StepFound text at n most above place cs cs' ms ms' (Err stop)
    unfolding ConstantOf StepOf
    constant-stops h = record { is_found = stops_as (next-constant text at n above (other_terms n most) (sym e ∙ none)) h.is_found }

    pub constant-last : {behind : ℕ} → ConstantFound text at 41 place cs cs' ms ms' (Ok behind)
        → StepFound text at n most above place cs cs' ms ms' (Ok (Last behind))
    unfolding ConstantOf StepOf
    constant-last h = record { is_found = read_as (next-constant text at n above (other_terms n most) (sym e ∙ none)) h.is_found }

  module _ {may : Bool} (e : may ≡ (ltb 1 above && opens_with text at 42)) (so : may ≡ true) where
    pub step-stopped : {stop : Stop} → TermFound text at (product_term n (above - 1)) place cs cs' ms ms' (Err stop)
        → StepFound text at n most above place cs cs' ms ms' (Err stop)
    unfolding TermOf StepOf
    step-stopped h = record {
      is_found = stops_as (next-product text at n above (other_terms n most) (taken text at above e so)) (then-stops _ h.is_found);
    }

    module _ {number : Read ℕ} (h : TermFound text at (product_term n (above - 1)) place cs cs' ms ms' (Ok number)) where
      abbrev m : ℕ
      m = number.value

      abbrev behind : ℕ
      behind = number.behind

      pub term-there : TermRead text at (product_term n (above - 1)) place cs cs' ms ms' m behind
      unfolding TermOf
      term-there = h.is_found

      on : read_at text at (next_term n above (other_terms n most)) ≡ read_at text behind (other_terms n most m then λ ts. give (term-there.term ∷ ts))
      on =
          let t = term-there in
          next-product text at n above (other_terms n most) (taken text at above e so) ∙ then-on _ t.reaches
          ∙ ap (λ (x : ℕ). read_at text behind (other_terms n most x then λ ts. give (t.term ∷ ts))) t.powers

      pub step-read : Room cs ms place 1 → (step : Result Step Stop) → AfterFound text behind n most m step
          → StepFound text at n most above place cs cs' ms ms' step
      unfolding AfterOf StepOf read_part
      step-read room (Err stopped) after = record { is_found = stops_as on (then-stops _ after.is_found) }
      step-read room (Ok (Last further)) after = record {
        is_found = record {
          terms = term-there.term ∷ [];
          reaches = record { reading = on ∙ then-on _ after.is_found; inside = after.is_found.inside };
          counted = refl;
          room = room;
          coefficient = term-there.coefficient;
          monomial = term-there.monomial;
        };
      }
      step-read room (Ok (More below further)) after =
          let next = after.is_found in
          record {
            is_found = record {
              term = term-there.term;
              powers = term-there.powers ∙ sym next.same;
              some = next.some;
              inside = next.inside;
              reading = rw next.same (on ∙ then-as text behind further (other_terms n most m) (next_term n m (other_terms n (most - 1)))
                  (λ ts. give (term-there.term ∷ ts)) next.reading);
              coefficient = term-there.coefficient;
              monomial = term-there.monomial;
            };
          }

-- ---- All of them.

module _ (text : List ℕ) (at n most above place : ℕ) {cs cs₁ : List ℤ} {ms ms₁ : List ℕ} where
  pub terms-stopped : {stop : Stop} → StepFound text at n most above place cs cs₁ ms ms₁ (Err stop)
      → SumFound text at (next_term n above (other_terms n most)) place cs cs₁ ms ms₁ (Err stop)
  unfolding StepOf SumOf
  terms-stopped h = record { is_found = h.is_found }

  module _ {step : Step} (h : StepFound text at n most above place cs cs₁ ms ms₁ (Ok step)) where
    pub terms-last : {behind : ℕ} → step ≡ Last behind
        → SumFound text at (next_term n above (other_terms n most)) place cs cs₁ ms ms₁ (Ok (record { value = 1; behind = behind }))
    unfolding StepOf SumOf
    terms-last e = record { is_found = (rw e at h).is_found }

    module _ {below behind : ℕ} (e : step ≡ More below behind) where
      pub further-on : Further text at n most above place cs cs₁ ms ms₁ below behind
      unfolding StepOf
      further-on = (rw e at h).is_found

      pub terms-less : {cs₂ : List ℤ} {ms₂ : List ℕ} {stop : Stop}
          → SumFound text behind (next_term n below (other_terms n (most - 1))) (place + 1) cs₁ cs₂ ms₁ ms₂ (Err stop)
          → SumFound text at (next_term n above (other_terms n most)) place cs cs₂ ms ms₂ (Err stop)
      unfolding SumOf
      terms-less later = let f = further-on in record { is_found = stops_as f.reading (then-stops _ later.is_found) }

      pub terms-more : {cs₂ : List ℤ} {ms₂ : List ℕ} {rest : Read ℕ}
          → SumFound text behind (next_term n below (other_terms n (most - 1))) (place + 1) cs₁ cs₂ ms₁ ms₂ (Ok rest)
          → SumFound text at (next_term n above (other_terms n most)) place cs cs₂ ms ms₂ (Ok (record { value = rest.value + 1; behind = rest.behind }))
      unfolding SumOf read_part
      terms-more later =
          let f = further-on in
          let l = later.is_found in
          let cs-long : length cs₁ ≡ length cs = ap length f.coefficient ∙ length-set cs place f.term.coefficient in
          let ms-long : length ms₁ ≡ length ms = ap length f.monomial ∙ length-set ms place f.term.monomial in
          record {
            is_found = record {
              terms = f.term ∷ l.terms;
              reaches = record { reading = f.reading ∙ then-on _ l.reaches; inside = l.reaches.inside };
              counted = omega (arith, l.counted);
              room = record { coefficients = omega (arith, l.room.coefficients, cs-long); monomials = omega (arith, l.room.monomials, ms-long) };
              coefficient = l.coefficient ∙ ap₂ (λ (xs : List ℤ) (p : ℕ). sets xs p (map (λ t. t.coefficient) l.terms)) f.coefficient
                  (add-one place);
              monomial = l.monomial ∙ ap₂ (λ (xs : List ℕ) (p : ℕ). sets xs p (map (λ t. t.monomial) l.terms)) f.monomial (add-one place);
            };
          }

-- The terms have room.
pub terms-counted : {text : List ℕ} {at : ℕ} {r : Reader Polynomial} {place : ℕ} {cs cs' : List ℤ} {ms ms' : List ℕ} {sum : Read ℕ}
    → SumFound text at r place cs cs' ms ms' (Ok sum) → place + sum.value ≤ length cs
unfolding SumOf
terms-counted h = h.is_found.room.coefficients
