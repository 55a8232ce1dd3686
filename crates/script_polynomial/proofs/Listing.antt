-- The table with one more polynomial: its number, and the arrays that hold it.
use mathlib.Core.Bool.{Bool, true, false, cond}
use mathlib.Core.List.{List, [], ◌∷◌, ◌++◌, map}
use mathlib.Core.Path.{◌≡◌, refl, sym, ap, ap₂, ◌∙◌}
use Prim.Native.Nat.{ℕ, suc, ◌+◌, ◌*◌, ◌≤◌, ◌<◌}
use native.Mathlib.Nat.{add-zero, zero-add}
use native.Mathlib.Omega.{arith}
use lib.IntN.{ℤ, pos}
use lib.ListN.{length, get_or, set, drop, length-append, length-map}
use lib.Seq.{sets, sets-eq, get_or-drop, drop-drop}
use Rattle.rules.specs.Polynomial.{Term, Polynomial, same}
use Rattle.rules.specs.Limits.{PolynomialWithin, TableWithin, no_polynomials, polynomials}
use Rattle.rules.specs.Answer.{knows, added_unless, here_or, number_in}
use Rattle.sign_laws.specs.Booleans.{neither}
use Rattle.level_laws.specs.Same.{same-itself}
use Rattle.length_laws.specs.Table.{number-within}
use Rattle.terms.specs.View.{terms_from}
use Rattle.block.specs.Held.{slots}
use Rattle.forms.specs.Slots.{slot_of, first_from}
use Rattle.forms.specs.Working.{TableRead}
use Rattle.forms.specs.Holding.{Holds, table-read}
use Rattle.array_laws.specs.Arrays.{table_fits, arrays-hold}
use Rattle.script_laws.specs.PlainBlocks.{table-every}
use Rattle.script_laws.specs.Known.{Table, with}
use Rattle.script_polynomial.specs.Slots.{spaced_text, texts_from}
use Rattle.script_polynomial.specs.Tabled.{Tabled}

-- ---- Numbers.

-- The first slot with a polynomial is its number in the table that the slots hold.
pub first-number : (p : Polynomial) (f : ℕ → Polynomial) (table : List Polynomial) (i : ℕ) →
    ((j : ℕ) → j < length table → f (i + j) ≡ get_or table j [])
    → first_from (λ j. same p (f j)) i (length table) ≡ i + number_in table p
unfolding first_from number_in here_or
first-number p f [] i each = sym (add-zero i)
first-number p f (q ∷ qs) i each =
    let here : f i ≡ q = ap f (sym (add-zero i)) ∙ each 0 (omega arith) in
    rw here (by (same p q) (first-number p f qs (suc i) (λ j h. ap f (omega arith) ∙ each (suc j) (omega (arith, h)))))
  where
    by : (x : Bool) → first_from (λ j. same p (f j)) (suc i) (length qs) ≡ suc i + number_in qs p
        → cond x i (first_from (λ j. same p (f j)) (suc i) (length qs)) ≡ i + here_or x (suc (number_in qs p))
    by true later = omega arith
    by false later = omega (arith, later)

module _ (p : Polynomial) where
  pub new-number : (table : List Polynomial) → knows table p ≡ false → number_in table p ≡ length table
  unfolding knows number_in here_or
  new-number [] e = refl
  new-number (q ∷ qs) e =
      let both = (neither (same p q) (knows qs p)).0 e in
      rw both.0 (ap suc (new-number qs both.1))

  pub old-number : (table : List Polynomial) → number_in table p < length table → knows table p ≡ true
  old-number table h = by (knows table p) refl
    where
      by : (x : Bool) → knows table p ≡ x → x ≡ true
      by true e = refl
      by false e = absurd (omega (arith, h, new-number table e))

  pub number-new : (table : List Polynomial) → length table ≤ number_in table p → knows table p ≡ false
  number-new table h = by (knows table p) refl
    where
      by : (x : Bool) → knows table p ≡ x → x ≡ false
      by false e = refl
      by true e = absurd (omega (arith, h, number-within table p e))

  added-number : (table : List Polynomial) → knows table p ≡ false → number_in (table ++ (p ∷ [])) p ≡ length table
  unfolding knows number_in here_or
  added-number [] e = rw (same-itself p)
  added-number (q ∷ qs) e =
      let both = (neither (same p q) (knows qs p)).0 e in
      rw both.0 (ap suc (added-number qs both.1))

  pub with_number : (table : List Polynomial) → number_in (with table p) p ≡ number_in table p
  unfolding added_unless
  with_number table = by (knows table p) refl
    where
      by : (x : Bool) → knows table p ≡ x → number_in (added_unless x p table) p ≡ number_in table p
      by true e = refl
      by false e = added-number table e ∙ sym (new-number table e)

-- ---- The texts.

pub texts-are : (n : ℕ) (cs : List ℤ) (ms ts : List ℕ) (table : List Polynomial) (i : ℕ) →
    ((j : ℕ) → j < length table → slot_of cs ms ts (i + j) ≡ get_or table j [])
    → texts_from n cs ms ts i (length table) ≡ map (spaced_text n) table
unfolding texts_from
texts-are n cs ms ts [] i each = refl
texts-are n cs ms ts (q ∷ qs) i each =
    let here : slot_of cs ms ts i ≡ q = ap (slot_of cs ms ts) (sym (add-zero i)) ∙ each 0 (omega arith) in
    ap₂ (λ (s : List ℕ) (l : List (List ℕ)). s ∷ l) (ap (spaced_text n) here)
    (texts-are n cs ms ts qs (suc i) (λ j h. ap (slot_of cs ms ts) (omega arith) ∙ each (suc j) (omega (arith, h))))

-- ---- The arrays.

module _ {n : ℕ} {cs₀ : List ℤ} {ms₀ ts₀ : List ℕ} {table : List Polynomial} {cs : List ℤ} {ms ts : List ℕ}
    (t : Tabled n cs₀ ms₀ ts₀ table cs ms ts) where
  pub tabled-holds : Holds cs ms ts table
  tabled-holds =
      rw (t.coefficient, t.monomial, t.terms)
      (arrays-hold table (table_fits t.within) t.polynomials cs₀ ms₀ ts₀ t.coefficients t.monomials t.counts)

  pub tabled-read : TableRead cs ms ts (length table) n
  tabled-read = table-read cs ms ts n table tabled-holds t.variables t.polynomials t.within

  pub tabled-table : Table n table
  tabled-table = record { each = table-every t.within; few = t.polynomials }

  pub tabled-texts : texts_from n cs ms ts 0 (length table) ≡ map (spaced_text n) table
  tabled-texts = texts-are n cs ms ts table 0 (λ j h. ap (slot_of cs ms ts) (zero-add j) ∙ tabled-holds.each j h)

  pub tabled-first : (p : Polynomial) → first_from (λ j. same p (slot_of cs ms ts j)) 0 (length table) ≡ number_in table p
  tabled-first p = first-number p (slot_of cs ms ts) table 0 (λ j h. ap (slot_of cs ms ts) (zero-add j) ∙ tabled-holds.each j h) ∙ zero-add
      (number_in table p)

module _ {A : Type 0} (part : Term → A) (p : Polynomial) where
  slots-more : (table : List Polynomial) (i : ℕ) (array : List A) → slots part i (table ++ (p ∷ [])) array ≡ sets (slots part i table array)
      (16 * (i + length table)) (map part p)
  unfolding slots
  slots-more [] i array = rw (add-zero i)
  slots-more (q ∷ qs) i array =
      let there : suc i + length qs ≡ i + suc (length qs) = omega arith in
      slots-more qs (suc i) (sets array (16 * i) (map part q)) ∙ ap (λ (k : ℕ). sets (slots part (suc i) qs (sets array (16 * i) (map part q)))
      (16 * k) (map part p)) there

counts-more : (p : Polynomial) (table : List Polynomial) (i : ℕ) (array : List ℕ)
    → sets array i (map length (table ++ (p ∷ []))) ≡ set (sets array i (map length table)) (i + length table) (length p)
counts-more p [] i array = ap (λ (k : ℕ). set array k (length p)) (sym (add-zero i))
counts-more p (q ∷ qs) i array =
    let there : suc i + length qs ≡ i + suc (length qs) = omega arith in
    counts-more p qs (suc i) (set array i (length q)) ∙ ap (λ (k : ℕ). set (sets (set array i (length q)) (suc i) (map length qs)) k (length p)) there

within_more : {n : ℕ} {table : List Polynomial} {p : Polynomial} → TableWithin n table → PolynomialWithin n p → TableWithin n (table ++ (p ∷ []))
within_more no_polynomials h = polynomials h no_polynomials
within_more (polynomials q qs) h = polynomials q (within_more qs h)

module _ {n : ℕ} {cs₀ : List ℤ} {ms₀ ts₀ : List ℕ} {table : List Polynomial} {cs : List ℤ} {ms ts : List ℕ} (t : Tabled n cs₀ ms₀ ts₀ table cs ms ts)
    (p : Polynomial) where
  pub tabled-same : knows table p ≡ true → Tabled n cs₀ ms₀ ts₀ (with table p) cs ms ts
  unfolding added_unless
  tabled-same e = rw e t

  pub tabled-more : knows table p ≡ false → PolynomialWithin n p → length table < 64 → {cs' : List ℤ} {ms' ts' : List ℕ}
      → cs' ≡ sets cs (16 * length table) (map (λ u. u.coefficient) p) → ms' ≡ sets ms (16 * length table) (map (λ u. u.monomial) p)
      → ts' ≡ set ts (length table) (length p) → Tabled n cs₀ ms₀ ts₀ (with table p) cs' ms' ts'
  unfolding added_unless
  tabled-more e h room {cs'} {ms'} {ts'} c m k = rw e (record {
    some_variables = t.some_variables;
    variables = t.variables;
    polynomials = rw (length-append table (p ∷ [])) (omega (arith, room));
    within = within_more t.within h;
    coefficients = t.coefficients;
    monomials = t.monomials;
    counts = t.counts;
    coefficient = c ∙ ap₂ (λ (xs : List ℤ) (i : ℕ). sets xs (16 * i) (map (λ u. u.coefficient) p)) t.coefficient (sym (zero-add (length table)))
        ∙ sym (slots-more (λ u. u.coefficient) p table 0 cs₀);
    monomial = m ∙ ap₂ (λ (xs : List ℕ) (i : ℕ). sets xs (16 * i) (map (λ u. u.monomial) p)) t.monomial (sym (zero-add (length table)))
        ∙ sym (slots-more (λ u. u.monomial) p table 0 ms₀);
    terms = k ∙ ap₂ (λ (xs : List ℕ) (i : ℕ). set xs i (length p)) t.terms (sym (zero-add (length table))) ∙ sym (counts-more p table 0 ts₀);
  })

  pub with-one : knows table p ≡ false → length (with table p) ≡ length table + 1
  unfolding added_unless
  with-one e = rw e (length-append table (p ∷ []))

  pub with_none : knows table p ≡ true → length (with table p) ≡ length table
  unfolding added_unless
  with_none e = rw e

-- ---- The polynomial that was read, back from its places.

run-back : (p : Polynomial) (vs : List ℤ) (ps : List ℕ) (i : ℕ) (x : List ℤ) (y : List ℕ) → drop i vs ≡ map (λ t. t.coefficient) p ++ x
    → drop i ps ≡ map (λ t. t.monomial) p ++ y
    → terms_from vs ps i (length p) ≡ p
unfolding terms_from
run-back [] vs ps i x y a b = refl
run-back (t ∷ ts) vs ps i x y a b =
    let c : get_or vs i (pos 0) ≡ t.coefficient = ap (λ (k : ℕ). get_or vs k (pos 0)) (sym (add-zero i)) ∙ sym (get_or-drop i vs 0 (pos 0)) ∙ ap
    (λ (l : List ℤ). get_or l 0 (pos 0)) a in
    let m : get_or ps i 0 ≡ t.monomial = ap (λ (k : ℕ). get_or ps k 0) (sym (add-zero i)) ∙ sym (get_or-drop i ps 0 0) ∙ ap
    (λ (l : List ℕ). get_or l 0 0) b in
    let next : suc i ≡ i + 1 = omega arith in
    let later = run-back ts vs ps (suc i) x y (ap (λ (k : ℕ). drop k vs) next ∙ sym (drop-drop 1 i vs) ∙ ap (λ (l : List ℤ). drop 1 l) a)
    (ap (λ (k : ℕ). drop k ps) next ∙ sym (drop-drop 1 i ps) ∙ ap (λ (l : List ℕ). drop 1 l) b) in
    ap₂ (λ (u : Term) (us : Polynomial). u ∷ us) (ap₂ (λ (z : ℤ) (k : ℕ). record { coefficient = z; monomial = k }) c m) later

pub read_back : (p : Polynomial) (vs : List ℤ) (ps : List ℕ) {vs' : List ℤ} {ps' : List ℕ} → length p ≤ length vs → length p ≤ length ps
    → vs' ≡ sets vs 0 (map (λ t. t.coefficient) p) → ps' ≡ sets ps 0 (map (λ t. t.monomial) p) → terms_from vs' ps' 0 (length p) ≡ p
read_back p vs ps room-v room-p a b =
    run-back p _ _ 0 _ _ (a ∙ sets-eq (map (λ t. t.coefficient) p) vs 0 (rw (length-map p (λ t. t.coefficient)) (omega (arith, room-v))))
    (b ∙ sets-eq (map (λ t. t.monomial) p) ps 0 (rw (length-map p (λ t. t.monomial)) (omega (arith, room-p))))
