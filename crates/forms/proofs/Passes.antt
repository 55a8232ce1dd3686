-- What each slot of the working table holds after each pass: the normal form, then a filler unless the slot is its form's number, and the variables.
-- Each law is of one pass, over any working table whose arrays have their lengths.
use mathlib.Core.Path.{◌≡◌, refl, ap, ap₂, ◌∙◌}
use mathlib.Core.Bool.{Bool, true, false, cond}
use mathlib.Core.List.{List, [], ◌∷◌}
use mathlib.Core.Logic.{⊎_elim}
use Prim.Native.Nat.{ℕ, suc, ◌+◌, ◌-◌, ◌*◌, ◌^◌, ◌<◌, ◌≤◌}
use native.Mathlib.Omega.{arith}
use native.Mathlib.Nat.{eq-or-lt_of_le}
use lib.IntN.{ℤ, pos}
use lib.ListN.{length, get_or}
use Rattle.rules.specs.Signs.{SignSet}
use Rattle.rules.specs.Polynomial.{Polynomial, normal, same, variable}
use Rattle.terms.specs.View.{terms_from}
use Rattle.level_laws.specs.Same.{same-equal, same-itself}
use Rattle.sign_laws.specs.Booleans.{never_both}
use Rattle.forms.specs.declared.WorkingTable.{WorkingTable}
use Rattle.normal.specs.Stores.{stores, stores-length, stores-all, kept, stored}
use Rattle.normal.specs.Normal.{turned_set}
use Rattle.forms.specs.Slots.{slot_of, slot_turned, Readable, Laid, number_of, is_own}
use Rattle.forms.specs.Working.{with_forms, with_fillers, with_variables}
use Rattle.normal.specs.NormalRuns.{terms-alike}
use Rattle.forms.proofs.NormalSlots.{slots_length, slot-normal}
use Rattle.forms.proofs.Searches.{first_passes, first-first, first-behind, number-within}
use Rattle.forms.proofs.Own.{filler}

-- The arrays of a working table have their lengths, and no slot more than sixteen terms.
pub record Sized (w : WorkingTable) : Type 0 where
  pub laid : Laid w.coefficient w.monomial w.terms
  pub numbers : length w.number ≡ 64
  pub flags : length w.turned ≡ 64

-- The form in slot k.
abbrev pub form_in : WorkingTable → ℕ → Polynomial
form_in w k = slot_of w.coefficient w.monomial w.terms k

-- A slot whose places and whose count stay holds the same form.
form-stays : (w v : WorkingTable) (k : ℕ) → get_or v.terms k 0 ≡ get_or w.terms k 0
    → ((j : ℕ) → 16 * k ≤ j → j < 16 * k + get_or w.terms k 0 → get_or v.coefficient j (pos 0) ≡ get_or w.coefficient j (pos 0))
    → ((j : ℕ) → 16 * k ≤ j → j < 16 * k + get_or w.terms k 0 → get_or v.monomial j 0 ≡ get_or w.monomial j 0) → form_in v k ≡ form_in w k
form-stays w v k count coefficients monomials =
    ap (terms_from v.coefficient v.monomial (16 * k)) count
    ∙ terms-alike w.coefficient v.coefficient w.monomial v.monomial (16 * k) (get_or w.terms k 0) coefficients monomials

-- A slot with one term.
one-term : (w : WorkingTable) (k : ℕ) (c : ℤ) (m : ℕ) → get_or w.terms k 0 ≡ 1 → get_or w.coefficient (16 * k) (pos 0) ≡ c → get_or w.monomial (16 * k) 0 ≡ m
    → form_in w k ≡ record { coefficient = c; monomial = m } ∷ []
unfolding terms_from
one-term w k c m count coefficient monomial =
    ap (terms_from w.coefficient w.monomial (16 * k)) count ∙ ap₂ (λ (x : ℤ) (y : ℕ). record { coefficient = x; monomial = y } ∷ []) coefficient monomial

-- ---- The normal forms.

module _ (cs : List ℤ) (ms ts : List ℕ) (m : ℕ) (readable : Readable cs ts m) (w : WorkingTable) (sized : Sized w) where
  normal-count : (i : ℕ) → i < m → get_or (with_forms cs ms ts m w).terms i 0 ≡ get_or ts i 0
  normal-count i h = stored 0 (λ j. j) (λ j x. get_or ts j 0) (λ j o e. e) w.terms 0 (m - 0) i (omega arith) (omega arith)
      (omega (arith, readable.most, sized.laid.counts))

  -- The normal forms leave the arrays as long as they were, and no slot with more than sixteen terms.
  pub normalized-sized : Sized (with_forms cs ms ts m w)
  normalized-sized = record {
    laid = record {
      coefficients = slots_length cs ts w.coefficient 0 m ∙ sized.laid.coefficients;
      monomials = stores-length 0 (λ j. j) (λ j x. get_or ms j 0) w.monomial 0 (16 * m - 0) ∙ sized.laid.monomials;
      counts = stores-length 0 (λ j. j) (λ j x. get_or ts j 0) w.terms 0 (m - 0) ∙ sized.laid.counts;
      few = stores-all (λ (x : ℕ). x ≤ 16) 0 (λ j. j) (λ j x. get_or ts j 0) w.terms 0 (m - 0) (λ j x h o p. readable.few j (omega arith)) sized.laid.few;
    };
    numbers = sized.numbers;
    flags = stores-length false (λ j. j) (λ j x. slot_turned cs ts j) w.turned 0 (m - 0) ∙ sized.flags;
  }

  -- Polynomial i has its normal form in slot i, and the flag tells whether it was negated.
  pub normalized-form : (i : ℕ) (s : SignSet) → i < m
      → record { polynomial = form_in (with_forms cs ms ts m w) i; set = turned_set (get_or (with_forms cs ms ts m w).turned i false) s }
      ≡ normal (record { polynomial = slot_of cs ms ts i; set = s })
  normalized-form i s h =
      let few = readable.few i h in
      let there : 16 * i + get_or ts i 0 ≤ length w.coefficient = omega (arith, readable.most, sized.laid.coefficients) in
      let flag = stored false (λ j. j) (λ j x. slot_turned cs ts j) (λ j o e. e) w.turned 0 (m - 0) i (omega arith) (omega arith)
      (omega (arith, readable.most, sized.flags)) in
      let form : form_in (with_forms cs ms ts m w) i ≡ terms_from (with_forms cs ms ts m w).coefficient ms (16 * i) (get_or ts i 0)
      = ap (terms_from (with_forms cs ms ts m w).coefficient (with_forms cs ms ts m w).monomial (16 * i)) (normal-count i h)
      ∙ terms-alike (with_forms cs ms ts m w).coefficient (with_forms cs ms ts m w).coefficient ms (with_forms cs ms ts m w).monomial (16 * i) (get_or ts i 0)
      (λ j p q. refl)
      (λ j p q. stored 0 (λ o. o) (λ o x. get_or ms o 0) (λ o l e. e) w.monomial 0 (16 * m - 0) j (omega arith) (omega arith)
      (omega (arith, readable.most, sized.laid.monomials))) in
      ap₂ (λ (p : Polynomial) (b : Bool). record { polynomial = p; set = turned_set b s }) form flag
      ∙ slot-normal cs ts ms w.coefficient 0 m i s (omega arith) (omega arith) few there

-- ---- The numbers.

module _ (w : WorkingTable) (i : ℕ) where
  -- The slot that is the number of slot i.
  abbrev pub slot_number : ℕ
  slot_number = number_of w.coefficient w.monomial w.terms i

-- It holds the form of slot i.
pub number-form : (w : WorkingTable) (i : ℕ) → form_in w (slot_number w i) ≡ form_in w i
unfolding number_of
number-form w i = ⊎_elim
    (λ (e : slot_number w i ≡ i). ap (form_in w) e)
    (λ (l : slot_number w i < i). same-equal (form_in w (slot_number w i)) (form_in w i) (first_passes (λ j. same (form_in w j) (form_in w i)) 0 i (omega arith)))
    (eq-or-lt_of_le (number-within w.coefficient w.monomial w.terms i))

-- No slot before it does.
pub number-first : (w : WorkingTable) (i j : ℕ) → j < slot_number w i → form_in w j ≡ form_in w i → ⊥
unfolding number_of
number-first w i j h e =
    never_both (ap (λ (p : Polynomial). same p (form_in w i)) e ∙ same-itself (form_in w i)) (first-first (λ j. same (form_in w j) (form_in w i)) 0 i j (omega arith) h)

-- A slot that holds the form of none before it is its own number.
pub number-own : (w : WorkingTable) (i : ℕ) → ((j : ℕ) → j < i → form_in w j ≡ form_in w i → ⊥) → slot_number w i ≡ i
unfolding number_of
number-own w i none =
    first-behind (λ j. same (form_in w j) (form_in w i)) 0 i (λ j h l. fails j (omega arith) (same (form_in w j) (form_in w i)) refl) ∙ omega arith
  where
    fails : (j : ℕ) → j < i → (b : Bool) → same (form_in w j) (form_in w i) ≡ b → same (form_in w j) (form_in w i) ≡ false
    fails j h true e = absurd (none j h (same-equal (form_in w j) (form_in w i) e))
    fails j h false e = e

-- ---- The fillers.

slots_apart : (i j : ℕ) → 16 * i ≡ 16 * j → i ≡ j
slots_apart i j e = omega arith

-- A slot that passes the test keeps all its places.
passed-kept : {A : Type 0} (none : A) (test : ℕ → Bool) (value : ℕ → A) (l : List A) (i j : ℕ) → i < 64 → 1024 ≤ length l → test i ≡ true → 16 * i ≤ j → j < 16 * i + 16
    → get_or (stores none (λ o. 16 * o) (λ o x. cond (test o) x (value o)) l 0 64) j none ≡ get_or l j none
passed-kept none test value l i j h there passes from to = ⊎_elim
    (λ (e : 16 * i ≡ j). rw (← e)
    (stored none (λ o. 16 * o) (λ o x. cond (test o) x (value o)) slots_apart l 0 64 i (omega arith) (omega arith) (omega arith)
    ∙ ap (λ (b : Bool). cond b (get_or l (16 * i) none) (value i)) passes))
    (λ (past : 16 * i < j). kept none (λ o. 16 * o) (λ o x. cond (test o) x (value o)) l 0 64 j (λ o p q e. omega arith))
    (eq-or-lt_of_le from)

module _ (m : ℕ) (w : WorkingTable) (sized : Sized w) where
  -- So do the fillers.
  pub filled-sized : Sized (with_fillers m w)
  filled-sized = record {
    laid = record {
      coefficients = stores-length (pos 0) (λ j. 16 * j) (λ j x. cond (is_own w.number m j) x (pos 0)) w.coefficient 0 64 ∙ sized.laid.coefficients;
      monomials = stores-length 0 (λ j. 16 * j) (λ j x. cond (is_own w.number m j) x (j + 1)) w.monomial 0 64 ∙ sized.laid.monomials;
      counts = stores-length 0 (λ j. j) (λ j x. cond (is_own w.number m j) x 1) w.terms 0 64 ∙ sized.laid.counts;
      few = stores-all (λ (x : ℕ). x ≤ 16) 0 (λ j. j) (λ j x. cond (is_own w.number m j) x 1) w.terms 0 64 (λ j x h o p. either (is_own w.number m j) x p)
          sized.laid.few;
    };
    numbers = sized.numbers;
    flags = sized.flags;
  }
    where
      either : (b : Bool) (x : ℕ) → x ≤ 16 → cond b x 1 ≤ 16
      either true x h = h
      either false x h = omega arith

  module _ (i : ℕ) (h : i < 64) where
    filled-count : get_or (with_fillers m w).terms i 0 ≡ cond (is_own w.number m i) (get_or w.terms i 0) 1
    filled-count = stored 0 (λ j. j) (λ j x. cond (is_own w.number m j) x 1) (λ j o e. e) w.terms 0 64 i (omega arith) (omega arith)
        (omega (arith, sized.laid.counts))

    -- A slot that is its own number keeps its form.
    pub filled-own : is_own w.number m i ≡ true → form_in (with_fillers m w) i ≡ form_in w i
    filled-own own =
        let few = sized.laid.few i in
        form-stays w (with_fillers m w) i (filled-count ∙ ap (λ (b : Bool). cond b (get_or w.terms i 0) 1) own)
        (λ j p q. passed-kept (pos 0) (is_own w.number m) (λ o. pos 0) w.coefficient i j h (omega (arith, sized.laid.coefficients)) own p (omega arith))
        (λ j p q. passed-kept 0 (is_own w.number m) (λ o. o + 1) w.monomial i j h (omega (arith, sized.laid.monomials)) own p (omega arith))

    -- Every other slot has its filler.
    pub filled-other : is_own w.number m i ≡ false → form_in (with_fillers m w) i ≡ filler i
    filled-other other =
        one-term (with_fillers m w) i (pos 0) (i + 1) (filled-count ∙ ap (λ (b : Bool). cond b (get_or w.terms i 0) 1) other)
        (stored (pos 0) (λ j. 16 * j) (λ j x. cond (is_own w.number m j) x (pos 0)) slots_apart w.coefficient 0 64 i (omega arith) (omega arith)
        (omega (arith, sized.laid.coefficients))
        ∙ ap (λ (b : Bool). cond b (get_or w.coefficient (16 * i) (pos 0)) (pos 0)) other)
        (stored 0 (λ j. 16 * j) (λ j x. cond (is_own w.number m j) x (j + 1)) slots_apart w.monomial 0 64 i (omega arith) (omega arith)
        (omega (arith, sized.laid.monomials))
        ∙ ap (λ (b : Bool). cond b (get_or w.monomial (16 * i) 0) (i + 1)) other)

-- ---- The variables.

later-apart : (i j : ℕ) → 16 * (64 + i) ≡ 16 * (64 + j) → i ≡ j
later-apart i j e = omega arith

module _ (n : ℕ) (few : n ≤ 16) (w : WorkingTable) (sized : Sized w) where
  -- And so do the variables.
  pub variables-sized : Sized (with_variables n w)
  variables-sized = record {
    laid = record {
      coefficients = stores-length (pos 0) (λ j. 16 * (64 + j)) (λ j x. pos 1) w.coefficient 0 (n - 0) ∙ sized.laid.coefficients;
      monomials = stores-length 0 (λ j. 16 * (64 + j)) (λ j x. 16 ^ (n - suc j)) w.monomial 0 (n - 0) ∙ sized.laid.monomials;
      counts = stores-length 0 (λ j. 64 + j) (λ j x. 1) w.terms 0 (n - 0) ∙ sized.laid.counts;
      few = stores-all (λ (x : ℕ). x ≤ 16) 0 (λ j. 64 + j) (λ j x. 1) w.terms 0 (n - 0) (λ j x h o p. omega arith) sized.laid.few;
    };
    numbers = sized.numbers;
    flags = sized.flags;
  }

  -- The first 64 slots keep their forms.
  pub variables-form : (k : ℕ) → k < 64 → form_in (with_variables n w) k ≡ form_in w k
  variables-form k h =
      let most = sized.laid.few k in
      form-stays w (with_variables n w) k (kept 0 (λ j. 64 + j) (λ j x. 1) w.terms 0 (n - 0) k (λ j p q e. omega arith))
      (λ j p q. kept (pos 0) (λ o. 16 * (64 + o)) (λ o x. pos 1) w.coefficient 0 (n - 0) j (λ o r t e. omega arith))
      (λ j p q. kept 0 (λ o. 16 * (64 + o)) (λ o x. 16 ^ (n - suc o)) w.monomial 0 (n - 0) j (λ o r t e. omega arith))

  -- Slot 64 + i holds variable i.
  pub variables-variable : (i : ℕ) → i < n → form_in (with_variables n w) (64 + i) ≡ variable n i
  unfolding variable
  variables-variable i h =
      one-term (with_variables n w) (64 + i) (pos 1) (16 ^ (n - suc i))
      (stored 0 (λ j. 64 + j) (λ j x. 1) (λ j o e. omega arith) w.terms 0 (n - 0) i (omega arith) (omega arith) (omega (arith, sized.laid.counts)))
      (stored (pos 0) (λ j. 16 * (64 + j)) (λ j x. pos 1) later-apart w.coefficient 0 (n - 0) i (omega arith) (omega arith) (omega (arith, sized.laid.coefficients)))
      (stored 0 (λ j. 16 * (64 + j)) (λ j x. 16 ^ (n - suc j)) later-apart w.monomial 0 (n - 0) i (omega arith) (omega arith) (omega (arith, sized.laid.monomials)))
