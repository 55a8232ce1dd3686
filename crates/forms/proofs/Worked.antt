-- The working table is what its callers rely on: the four passes, taken together, from what the reader left.
-- The last law is what the function `working` returns.
use mathlib.Core.Path.{◌≡◌, refl, sym, ap, ◌∙◌, subst}
use mathlib.Core.Bool.{Bool, true, false}
use mathlib.Core.List.{List}
use mathlib.Core.Logic.{⊎_elim}
use Prim.Native.Nat.{ℕ, zero, suc, ◌+◌, ◌-◌, ◌*◌, ◌^◌, ◌<◌, ◌≤◌}
use native.Mathlib.Nat.{eq-or-lt_of_le}
use native.Mathlib.Omega.{arith}
use borrow.Author.Tests.{lt-ltb, ltb-true, eq-eqb, eqb-true, eqb-false}
use lib.Dec.{eqb, ltb}
use lib.IntN.{ℤ, pos, nat_abs}
use lib.ListN.{length, get_or, set, length-set, replicate, length-replicate}
use lib.Seq.{get_or-set_same, get_or-set_other}
use Rattle.rules.specs.Signs.{SignSet, bit}
use Rattle.rules.specs.Polynomial.{Polynomial, Atom, normal, same}
use Rattle.rules.specs.Limits.{TermsWithin, terms}
use Rattle.terms.specs.View.{terms_from}
use Rattle.table.specs.Table.{form_at}
use Rattle.level_laws.specs.Same.{same-equal, same-itself}
use Rattle.sign_laws.specs.Booleans.{and_intro, and_first, and_second}
use Rattle.normal_laws.specs.Shape.{normal-within}
use Rattle.forms.specs.declared.WorkingTable.{WorkingTable}
use Rattle.normal.specs.Stores.{stores-length, stored}
use Rattle.normal.specs.Normal.{turned_set}
use Rattle.forms.specs.Slots.{slot_of, Readable, number_of, numbered_slots, is_own, filled_coefficients, filled_monomials, filled_counts, variable_coefficients}
use Rattle.forms.specs.Slots.{variable_monomials, variable_counts}
use Rattle.forms.specs.Working.{TableRead, blank, with_forms, with_numbers, with_fillers, with_variables, working_of, Worked}
use Rattle.forms.proofs.Searches.{number-within}
use Rattle.forms.proofs.Own.{normal-own, filler, filler-own, fillers-apart, filler-outside}
use Rattle.forms.proofs.Passes.{Sized, form_in, normalized-sized, normalized-form, slot_number, number-form, number-first, number-own, filled-sized, filled-own}
use Rattle.forms.proofs.Passes.{filled-other, variables-sized, variables-form, variables-variable}

-- ---- What the passes start from.

terms-length : (cs : List ℤ) (ms : List ℕ) (i k : ℕ) → length (terms_from cs ms i k) ≡ k
unfolding terms_from
terms-length cs ms i zero = refl
terms-length cs ms i (suc k) = ap suc (terms-length cs ms (suc i) k)

places-within : (cs : List ℤ) (ms : List ℕ) (above i k : ℕ) → TermsWithin above (terms_from cs ms i k) → (j : ℕ) → i ≤ j → j < i + k → nat_abs (get_or cs j (pos 0)) < 2 ^ 31
unfolding terms_from
places-within cs ms above i zero within j h m = absurd (omega arith)
places-within cs ms above i (suc k) (terms first later) j h m = ⊎_elim
    (λ (e : i ≡ j). rw (← e) first.magnitude)
    (λ (past : i < j). places-within cs ms (get_or ms i 0) (suc i) k later j past (omega arith))
    (eq-or-lt_of_le h)

-- The reader's bounds are what the walk over the slots asks for.
pub readable : (cs : List ℤ) (ms ts : List ℕ) (m n : ℕ) → TableRead cs ms ts m n → Readable cs ts m
readable cs ms ts m n read = record {
  most = read.polynomials;
  counts = omega (arith, read.counts, read.polynomials);
  few = few;
  bounded = λ i h. record {
    there = omega (arith, few i h, read.coefficients, read.polynomials);
    magnitude = λ j p q. places-within cs ms (2 ^ (4 * n)) (16 * i) (get_or ts i 0) (read.within i h).each j p q;
  };
}
  where
    few : (i : ℕ) → i < m → get_or ts i 0 ≤ 16
    few i h = rw (terms-length cs ms (16 * i) (get_or ts i 0)) at (read.within i h).at-most

no-count : (n k : ℕ) → get_or (replicate n 0) k 0 ≤ 16
no-count zero k = omega arith
no-count (suc n) zero = omega arith
no-count (suc n) (suc k) = no-count n k

one_bit : (b : Bool) → bit b ≤ 16
unfolding bit
one_bit true = omega arith
one_bit false = omega arith

few-counts : (plain : Bool) (k : ℕ) → get_or (set (replicate 81 0) 80 (bit plain)) k 0 ≤ 16
few-counts plain k = by (eqb 80 k) refl
  where
    by : (b : Bool) → eqb 80 k ≡ b → get_or (set (replicate 81 0) 80 (bit plain)) k 0 ≤ 16
    by true e = subst (λ (k : ℕ). get_or (set (replicate 81 0) 80 (bit plain)) k 0 ≤ 16) (eqb-true 80 k e)
        (rw (get_or-set_same (replicate 81 0) 80 (bit plain) 0 (omega (arith, length-replicate {A = ℕ} 81 0))) (one_bit plain))
    by false e = rw (get_or-set_other (replicate 81 0) 80 k (bit plain) 0 (λ f. eqb-false 80 k e (sym f))) (no-count 81 k)

-- The empty table has its lengths.
pub blank-sized : (plain : Bool) → Sized (blank plain)
unfolding blank
blank-sized plain = record {
  laid = record {
    coefficients = length-replicate 1280 (pos 0);
    monomials = length-replicate {A = ℕ} 1280 0;
    counts = length-set (replicate 81 0) 80 (bit plain) ∙ length-replicate {A = ℕ} 81 0;
    few = few-counts plain;
  };
  numbers = length-replicate {A = ℕ} 64 0;
  flags = length-replicate 64 false;
}

-- ---- The numbers.

module _ (m : ℕ) (few : m ≤ 64) (w : WorkingTable) (sized : Sized w) where
  -- The numbers leave the arrays as long as they were.
  pub numbered-sized : Sized (with_numbers m w)
  numbered-sized = record {
    laid = sized.laid;
    numbers = stores-length 0 (λ j. j) (λ j x. number_of w.coefficient w.monomial w.terms j) w.number 0 (m - 0) ∙ sized.numbers;
    flags = sized.flags;
  }

  number_at : (i : ℕ) → i < m → get_or (with_numbers m w).number i 0 ≡ slot_number w i
  number_at i h =
      stored 0 (λ j. j) (λ j x. number_of w.coefficient w.monomial w.terms j) (λ j o e. e) w.number 0 (m - 0) i (omega arith) (omega arith)
      (omega (arith, sized.numbers))

  is-own : (i : ℕ) → i < m → slot_number w i ≡ i → is_own (with_numbers m w).number m i ≡ true
  unfolding is_own
  is-own i h e = and_intro (lt-ltb i m h) (eq-eqb (get_or (with_numbers m w).number i 0) i (number_at i h ∙ e))

  own-number : (i : ℕ) → is_own (with_numbers m w).number m i ≡ true → (i < m) × (slot_number w i ≡ i)
  unfolding is_own
  own-number i e =
      let h : i < m = ltb-true i m (and_first (ltb i m) (eqb (get_or (with_numbers m w).number i 0) i) e) in
      (h, sym (number_at i h) ∙ eqb-true (get_or (with_numbers m w).number i 0) i (and_second (ltb i m) (eqb (get_or (with_numbers m w).number i 0) i) e))

  -- The number of a slot is its own number.
  number-owns : (i : ℕ) → i < m → is_own (with_numbers m w).number m (slot_number w i) ≡ true
  number-owns i h =
      is-own (slot_number w i) (omega (arith, number-within w.coefficient w.monomial w.terms i))
      (number-own w (slot_number w i) (λ j l e. number-first w i j l (e ∙ number-form w i)))

  -- Slots that are their own numbers hold different forms.
  own-apart : (i j : ℕ) → is_own (with_numbers m w).number m i ≡ true → is_own (with_numbers m w).number m j ≡ true → form_in w i ≡ form_in w j → i < j → ⊥
  own-apart i j own-i own-j e h = number-first w j i (omega (arith, (own-number j own-j).1)) e

-- ---- The whole table.

module _ (plain : Bool) (cs : List ℤ) (ms ts : List ℕ) (m n : ℕ) (read : TableRead cs ms ts m n) where
  abbrev normals : WorkingTable
  normals = with_forms cs ms ts m (blank plain)

  abbrev own : ℕ → Bool
  own = is_own (with_numbers m normals).number m

  abbrev whole : WorkingTable
  whole = with_variables n (with_fillers m (with_numbers m normals))

  normals-sized : Sized normals
  normals-sized = normalized-sized cs ms ts m (readable cs ms ts m n read) (blank plain) (blank-sized plain)

  with-numbers : Sized (with_numbers m normals)
  with-numbers = numbered-sized m read.polynomials normals normals-sized

  whole-sized : Sized whole
  whole-sized = variables-sized n read.variables (with_fillers m (with_numbers m normals)) (filled-sized m (with_numbers m normals) with-numbers)

  module _ (k : ℕ) (h : k < 64) where
    own-form : own k ≡ true → form_in whole k ≡ form_in normals k
    own-form e =
        variables-form n read.variables (with_fillers m (with_numbers m normals)) (filled-sized m (with_numbers m normals) with-numbers) k h
        ∙ filled-own m (with_numbers m normals) with-numbers k h e

    other-form : own k ≡ false → form_in whole k ≡ filler k
    other-form e =
        variables-form n read.variables (with_fillers m (with_numbers m normals)) (filled-sized m (with_numbers m normals) with-numbers) k h
        ∙ filled-other m (with_numbers m normals) with-numbers k h e

  -- The polynomial of a normal form.
  normal-of : (i : ℕ) → i < m → form_in normals i ≡ (normal (record { polynomial = slot_of cs ms ts i; set = 1 })).polynomial
  normal-of i h = ap (λ (a : Atom). a.polynomial) (normalized-form cs ms ts m (readable cs ms ts m n read) (blank plain) (blank-sized plain) i 1 h)

  -- Each of the first 64 slots holds its own normal form.
  own-normal : (k : ℕ) (s : SignSet) → k < 64 → normal (record { polynomial = form_in whole k; set = s }) ≡ record { polynomial = form_in whole k; set = s }
  own-normal k s h = by-test (own k) refl
    where
      by-test : (b : Bool) → own k ≡ b → normal (record { polynomial = form_in whole k; set = s }) ≡ record { polynomial = form_in whole k; set = s }
      by-test true e =
          rw (own-form k h e ∙ normal-of k (own-number m read.polynomials normals normals-sized k e).0)
          (normal-own (record { polynomial = slot_of cs ms ts k; set = 1 }) s)
      by-test false e = rw (other-form k h e) (filler-own k s)

  not-filler : (k j : ℕ) → k < m → form_in normals k ≡ filler j → ⊥
  not-filler k j h e = filler-outside j (rw (sym (normal-of k h) ∙ e) at (normal-within (record { polynomial = slot_of cs ms ts k; set = 1 }) (read.within k h)))

  -- And no two of them the same.
  whole_apart : (j k : ℕ) → j < 64 → k < 64 → form_in whole j ≡ form_in whole k → j ≡ k
  whole_apart j k h l e = by_tests (own j) (own k) refl refl
    where
      own_below : (i : ℕ) → own i ≡ true → i < m
      own_below i o = (own-number m read.polynomials normals normals-sized i o).0

      both : own j ≡ true → own k ≡ true → form_in normals j ≡ form_in normals k → j ≡ k
      both a b same-form =
          let not-below : ¬ (j < k) = own-apart m read.polynomials normals normals-sized j k a b same-form in
          let not-above : ¬ (k < j) = own-apart m read.polynomials normals normals-sized k j b a (sym same-form) in
          omega arith

      by_tests : (a b : Bool) → own j ≡ a → own k ≡ b → j ≡ k
      by_tests true true a b = both a b (sym (own-form j h a) ∙ e ∙ own-form k l b)
      by_tests true false a b = absurd (not-filler j k (own_below j a) (sym (own-form j h a) ∙ e ∙ other-form k l b))
      by_tests false true a b = absurd (not-filler k j (own_below k b) (sym (own-form k l b) ∙ sym e ∙ other-form j h a))
      by_tests false false a b = fillers-apart j k (sym (other-form j h a) ∙ e ∙ other-form k l b)

  distinct : (j k : ℕ) → j < 64 → k < 64 → same (form_in whole j) (form_in whole k) ≡ eqb j k
  distinct j k h l = by-test (eqb j k) refl
    where
      different : (eqb j k ≡ false) → (b : Bool) → same (form_in whole j) (form_in whole k) ≡ b → b ≡ false
      different e true f = absurd (eqb-false j k e (whole_apart j k h l (same-equal (form_in whole j) (form_in whole k) f)))
      different e false f = refl

      by-test : (b : Bool) → eqb j k ≡ b → same (form_in whole j) (form_in whole k) ≡ b
      by-test true e = ap (λ (i : ℕ). same (form_in whole j) (form_in whole i)) (sym (eqb-true j k e)) ∙ same-itself (form_in whole j)
      by-test false e = different e (same (form_in whole j) (form_in whole k)) refl

  number-of : (i : ℕ) → i < m → get_or whole.number i 0 ≡ slot_number normals i
  number-of i h = number_at m read.polynomials normals normals-sized i h

  number_small : (i : ℕ) → i < m → slot_number normals i < 64
  number_small i h = omega (arith, number-within normals.coefficient normals.monomial normals.terms i, read.polynomials)

  -- The slot that is the number of polynomial i holds its normal form.
  numbered-form : (i : ℕ) → i < m → form_in whole (get_or whole.number i 0) ≡ form_in normals i
  numbered-form i h =
      ap (form_in whole) (number-of i h) ∙ own-form (slot_number normals i) (number_small i h) (number-owns m read.polynomials normals normals-sized i h)
      ∙ number-form normals i

  -- The working table of what the reader left is as its callers rely on.
  pub worked : Worked plain cs ms ts m n (working_of plain cs ms ts m n)
  unfolding working_of form_at
  worked = record {
    is = refl;
    forms = record {
      variables = read.variables;
      coefficients = whole-sized.laid.coefficients;
      monomials = whole-sized.laid.monomials;
      counts = whole-sized.laid.counts;
      few = whole-sized.laid.few;
      own = own-normal;
      distinct = distinct;
      each_variable = variables-variable n read.variables (with_fillers m (with_numbers m normals)) (filled-sized m (with_numbers m normals) with-numbers);
    };
    below = λ i h. rw (number-of i h) (number_small i h);
    atoms = λ i s h.
        ap (λ (p : Polynomial). record { polynomial = p; set = turned_set (get_or whole.turned i false) s }) (numbered-form i h)
        ∙ normalized-form cs ms ts m (readable cs ms ts m n read) (blank plain) (blank-sized plain) i s h;
  }

-- What the calls of the passes leave, one after the other, is the working table.
pub assembled : (plain : Bool) (cs : List ℤ) (ms ts : List ℕ) (m n : ℕ) {c₁ c₂ c₃ : List ℤ} {m₁ m₂ m₃ t₁ t₂ t₃ numbers : List ℕ} {flags : List Bool}
    → c₁ ≡ (with_forms cs ms ts m (blank plain)).coefficient → flags ≡ (with_forms cs ms ts m (blank plain)).turned
    → m₁ ≡ (with_forms cs ms ts m (blank plain)).monomial → t₁ ≡ (with_forms cs ms ts m (blank plain)).terms
    → numbers ≡ numbered_slots c₁ m₁ t₁ (blank plain).number m
    → (c₂ ≡ filled_coefficients (is_own numbers m) c₁) × (m₂ ≡ filled_monomials (is_own numbers m) m₁) × (t₂ ≡ filled_counts (is_own numbers m) t₁)
    → (c₃ ≡ variable_coefficients n c₂) × (m₃ ≡ variable_monomials n m₂) × (t₃ ≡ variable_counts n t₂)
    → record { coefficient = c₃; monomial = m₃; terms = t₃; number = numbers; turned = flags } ≡ working_of plain cs ms ts m n
unfolding working_of
assembled plain cs ms ts m n coefficients turned monomials counts number fill variables =
    rw (variables.0, variables.1, variables.2, fill.0, fill.1, fill.2, number, coefficients, turned, monomials, counts)
