-- The polynomials of a script, from what is known of its products.
use Rattle.std.specs.Prelude.{true, ◌≡◌, ℕ, zero, suc, ◌+◌, ◌-◌, ◌*◌, ◌<◌, ◌≤◌, ltb, ℤ, length}
use mathlib.Core.List.{List, [], ◌∷◌, ◌++◌, append_assoc, append-nil}
use Rattle.std.proofs.Math.Path.{refl, sym, ap, subst}
use Rattle.std.proofs.Common.{◌∙◌, lt-ltb, ltb-true}
use native.Mathlib.Omega.{arith}
use Rattle.rules.specs.Polynomial.{Term, Polynomial}
use Rattle.rules.specs.Limits.{TermWithin, TermsWithin, no_terms, terms, PolynomialWithin}
use Rattle.rules.specs.Reader.{Reader, give}
use Rattle.script_laws.specs.Leading.{Leads, arrived}
use Rattle.rules.specs.Combine.{say, ◌then◌, Choice}
use Rattle.script_laws.specs.CombineLaws.{Reads, Passed, passed, read-then, then_read, fine-read, Fine, fine-give, said-giving, Just, just, say-just, fine-say, say-leads, said, Behind, tellable, differs_from_all, differ, Chosen, this, other, leads-chosen, chosen-leads, no-choice, choices, fine-choices}
use Rattle.rules.specs.Text.{bytes, if_so, number_text, factors, term_text, summands, polynomial_text}
use Rattle.rules.specs.Reading.{choice, product, constant_of, next_term, other_terms, beyond, polynomial}
use Rattle.script_laws.specs.Signed.{Valued, parentheses, is_parenthesis, NumberOr, is_number, is-other, number-back, number-there, other-there, number-fine}

-- A term that is no constant, of at most this monomial.
pub record ProductWithin (limit : ℕ) (t : Term) : Type 0 where
  pub coefficient : Valued t.coefficient
  pub not_constant : 0 < t.monomial
  pub at-most : t.monomial ≤ limit

-- What stands behind "(* ".
unfoldable pub product_text : ℕ → Term → List ℕ
product_text n t = number_text t.coefficient ++ (factors 0 n t.monomial ++ bytes ")")

term-product : (n : ℕ) (t : Term) → 0 < t.monomial → term_text n t ≡ bytes "(* " ++ product_text n t
unfolding term_text product_text if_so
term-product n t h = rw (lt-ltb 0 t.monomial h)

valued-within : (c : ℤ) → Valued c → {above : ℕ} (m : ℕ) → m < above → TermWithin above (record { coefficient = c; monomial = m })
valued-within c h m k = let some = h.size.not_zero in let small = h.size.at-most in record { not_zero = some; magnitude = omega arith; falls = k }

within-valued : {above : ℕ} (t : Term) → TermWithin above t → Valued t.coefficient
within-valued t h = let some = h.not_zero in let small = h.magnitude in record { size = record { not_zero = some; at-most = omega arith } }

-- The terms below a monomial, so many at most.
pub record Below (above k : ℕ) (ts : Polynomial) : Type 0 where
  pub within : TermsWithin above ts
  pub few : length ts ≤ k

pub record SomeBelow (above k : ℕ) (ts : Polynomial) : Type 0 where
  pub within : TermsWithin above ts
  pub some : 1 ≤ length ts
  pub few : length ts ≤ suc k

unfoldable pub others_text : ℕ → Polynomial → List ℕ
others_text n ts = summands n ts ++ bytes ")"

-- The next term and the others: as the others, without the first space.
unfoldable pub next_text : ℕ → Polynomial → List ℕ
next_text n [] = []
next_text n (t ∷ ts) = term_text n t ++ others_text n ts

no-digit-41 : 41 < 48
no-digit-41 = omega arith

no-digit-32 : 32 < 48
no-digit-32 = omega arith

sum-shape : (p m : List ℕ) → p ++ (bytes " " ++ ((m ++ bytes ")") ++ bytes " ")) ≡ ((p ++ (bytes " " ++ m)) ++ bytes ")") ++ bytes " "
sum-shape p m =
    ap (λ (l : List ℕ). p ++ (bytes " " ++ l)) (append_assoc m (bytes ")") (bytes " "))
    ∙ sym (append_assoc p (bytes " " ++ m) (bytes ") "))
    ∙ sym (append_assoc (p ++ (bytes " " ++ m)) (bytes ")") (bytes " "))

module _ (n : ℕ) (product-reads : (limit : ℕ) → 1 ≤ limit → limit < beyond n → Reads (product n limit) (ProductWithin limit) (product_text n)) where
  -- ---- The next term, if the others are read.
  module _ (k above : ℕ) (some_below : 1 ≤ above) (no-higher : above ≤ beyond n) (others : ℕ → Reader Polynomial)
      (others-read : (m : ℕ) → 1 ≤ m → m ≤ beyond n → Reads (others m) (Below m k) (others_text n)) where
    abbrev product_choice : List (Choice Polynomial)
    product_choice = choice (ltb 1 above) (bytes "(* ") (product n (above - 1) then λ t. others t.monomial then λ ts. give (t ∷ ts)) ∷ []

    Back : List ℕ → Polynomial → Type 0
    Back t ts = SomeBelow above k ts × (t ≡ next_text n ts)

    constant-back : (c : ℤ) → Valued c → {t : List ℕ} → t ≡ number_text c ++ (41 ∷ []) → Back t (constant_of c)
    unfolding Back next_text others_text summands term_text if_so
    constant-back c h text = (record { within = terms (valued-within c h 0 some_below) no_terms; some = omega arith; few = omega arith }, text)

    product-text : (t : Term) (ts : Polynomial) → 0 < t.monomial → bytes "(* " ++ (product_text n t ++ (others_text n ts ++ [])) ≡ next_text n (t ∷ ts)
    unfolding next_text
    product-text t ts h =
        ap (λ (l : List ℕ). bytes "(* " ++ (product_text n t ++ l)) (append-nil (others_text n ts)) ∙ sym (ap (λ (l : List ℕ). l ++ others_text n ts) (term-product n t h))

    others-back : (t : Term) → ProductWithin (above - 1) t → {u : List ℕ} {ts : Polynomial} → Passed (Below t.monomial k) (others_text n) (λ l. give (t ∷ l)) u ts
        → Back (bytes "(* " ++ (product_text n t ++ u)) ts
    unfolding Back
    others-back t h (passed ts b u arrived) =
        let at-most = h.at-most in
        let falls : t.monomial < above = omega arith in
        let few = b.few in (
          record { within = terms (valued-within t.coefficient h.coefficient t.monomial falls) b.within; some = omega arith; few = omega arith },
          product-text t ts h.not_constant,
        )

    limit-below : {t : Term} → ProductWithin (above - 1) t → t.monomial ≤ beyond n
    limit-below h = let at-most = h.at-most in omega arith

    product-back : {u : List ℕ} {ts : Polynomial} → Passed (ProductWithin (above - 1)) (product_text n) (λ t. others t.monomial then λ l. give (t ∷ l)) u ts
        → Back (bytes "(* " ++ u) ts
    product-back (passed t h u way) = others-back t h (read-then (others-read t.monomial h.not_constant (limit-below h)) _ way)

    reads-product : ltb 1 above ≡ true → Reads (product n (above - 1)) (ProductWithin (above - 1)) (product_text n)
    reads-product e = let two : 1 < above = ltb-true 1 above e in product-reads (above - 1) (omega arith) (omega arith)

    next-back : {t : List ℕ} {ts : Polynomial} → NumberOr 41 no-digit-41 constant_of product_choice t ts → Back t ts
    next-back {t = t} {ts = ts} (is-other (other x6)) = elim x6 [ ]
    next-back {t} (is_number c h text result) = subst (Back t) result (constant-back c h text)
    next-back (is-other (this u e way)) = product-back (read-then (reads-product e) _ way)

    constant-there : (c : ℤ) → Valued c → Leads (next_term n above others) (next_text n (constant_of c)) (constant_of c)
    unfolding next_term next_text others_text summands term_text if_so tellable differs_from_all differ parentheses is_parenthesis
    constant-there c h = number-there 41 no-digit-41 constant_of product_choice refl refl c h

    product-there : (t : Term) (ts : Polynomial) → ltb 1 above ≡ true → ProductWithin (above - 1) t → Below t.monomial k ts
        → Leads (next_term n above others) (next_text n (t ∷ ts)) (t ∷ ts)
    unfolding next_term tellable differs_from_all differ parentheses is_parenthesis
    product-there t ts e h below = other-there 41 no-digit-41 constant_of product_choice refl refl
        (subst (λ (u : List ℕ). Chosen product_choice u (t ∷ ts)) (product-text t ts h.not_constant)
        (this _ e (then_read (reads-product e) _ t h (then_read (others-read t.monomial h.not_constant (limit-below h)) _ ts below arrived))))

    term-there : (c : ℤ) (m : ℕ) (ts : Polynomial) → TermWithin above (record { coefficient = c; monomial = m }) → TermsWithin m ts → length ts ≤ k
        → Leads (next_term n above others) (next_text n (record { coefficient = c; monomial = m } ∷ ts)) (record { coefficient = c; monomial = m } ∷ ts)
    term-there c zero [] h hs few = constant-there c (within-valued _ h)
    term-there c zero (t ∷ ts) h (terms k ks) few = let falls = k.falls in absurd (omega arith)
    term-there c (suc m) ts h hs few =
        let falls : suc m < above = h.falls in
        product-there (record { coefficient = c; monomial = suc m }) ts (lt-ltb 1 above (omega arith))
        (record { coefficient = within-valued _ h; not_constant = omega arith; at-most = omega arith }) (record { within = hs; few = few })

    next-there : (ts : Polynomial) → SomeBelow above k ts → Leads (next_term n above others) (next_text n ts) ts
    next-there [] h = let some = h.some in absurd (omega arith)
    next-there (t ∷ ts) h = by-within h.within (let few = h.few in omega arith)
      where
        by-within : {t : Term} {ts : Polynomial} → TermsWithin above (t ∷ ts) → length ts ≤ k → Leads (next_term n above others) (next_text n (t ∷ ts)) (t ∷ ts)
        by-within (terms {t = t} {ts = ts} h hs) few = term-there t.coefficient t.monomial ts h hs few

    next-fine : Fine (next_term n above others)
    unfolding next_term
    next-fine = number-fine 41 no-digit-41 constant_of product_choice (choices (λ e. fine-read (reads-product e) _ (λ t h.
        fine-read (others-read t.monomial h.not_constant (limit-below h)) _ (λ ts b. fine-give (t ∷ ts)))) no-choice)

    pub next-reads : Reads (next_term n above others) (SomeBelow above k) (next_text n)
    unfolding next_term Back
    next-reads = record { fine = next-fine; there = next-there; back = λ t ts way. next-back (number-back 41 no-digit-41 constant_of product_choice way) }

  -- ---- The others, by their number.

  others-text : (t : Term) (ts : Polynomial) → bytes " " ++ next_text n (t ∷ ts) ≡ others_text n (t ∷ ts)
  unfolding next_text others_text summands
  others-text t ts = ap (λ (l : List ℕ). 32 ∷ l) (sym (append_assoc (term_text n t) (summands n ts) (bytes ")")))

  OthersBack : ℕ → ℕ → List ℕ → Polynomial → Type 0
  OthersBack k above t ts = Below above k ts × (t ≡ others_text n ts)

  none-back : (k above : ℕ) {t : List ℕ} {ts : Polynomial} → Just (bytes ")") [] t ts → OthersBack k above t ts
  unfolding OthersBack others_text summands
  none-back k above just = (record { within = no_terms; few = omega arith }, refl)

  some_back : (k above : ℕ) {u : List ℕ} (ts : Polynomial) → SomeBelow above k ts → u ≡ next_text n ts → OthersBack (suc k) above (bytes " " ++ u) ts
  unfolding OthersBack
  some_back k above [] h same = let some = h.some in absurd (omega arith)
  some_back k above (t ∷ ts) h same = (record { within = h.within; few = h.few }, ap (λ (l : List ℕ). bytes " " ++ l) same ∙ others-text t ts)

  module _ (k above : ℕ) (next : Reads (next_term n above (other_terms n k)) (SomeBelow above k) (next_text n)) where
    abbrev end_or_next : List (Choice Polynomial)
    end_or_next = choice true (bytes ")") (give []) ∷ choice true (bytes " ") (next_term n above (other_terms n k)) ∷ []

    end_back : {u : List ℕ} {ts : Polynomial} → Leads (give []) u ts → OthersBack (suc k) above (bytes ")" ++ u) ts
    end_back arrived = none-back (suc k) above just

    chosen-back : {t : List ℕ} {ts : Polynomial} → Chosen end_or_next t ts → OthersBack (suc k) above t ts
    chosen-back {t = t} {ts = ts} (other (other x10)) = elim x10 [ ]
    chosen-back (this u e way) = end_back way
    chosen-back (other (this u {a = ts} e way)) = let (below, same) = next.back u ts way in some_back k above ts below same

    chosen-there : (ts : Polynomial) → Below above (suc k) ts → Chosen end_or_next (others_text n ts) ts
    unfolding others_text summands
    chosen-there [] h = this [] refl arrived
    chosen-there (t ∷ ts) h = let few = h.few in subst (λ (l : List ℕ). Chosen end_or_next l (t ∷ ts)) (others-text t ts)
        (other (this (next_text n (t ∷ ts)) refl (next.there (t ∷ ts) (record { within = h.within; some = omega arith; few = few }))))

    more-read : Reads (other_terms n (suc k) above) (Below above (suc k)) (others_text n)
    unfolding other_terms OthersBack tellable differs_from_all differ
    more-read = record {
      fine = fine-choices refl (choices (λ e. fine-give []) (choices (λ e. next.fine) no-choice));
      there = λ ts h. chosen-leads end_or_next refl (chosen-there ts h);
      back = λ t ts way. chosen-back (leads-chosen end_or_next way);
    }

  none_there : (above : ℕ) (ts : Polynomial) → Below above 0 ts → Leads (other_terms n 0 above) (others_text n ts) ts
  unfolding other_terms others_text summands
  none_there above [] h = said-giving (bytes ")") []
  none_there above (t ∷ ts) h = let few = h.few in absurd (omega arith)

  none_read : (above : ℕ) → Reads (other_terms n 0 above) (Below above 0) (others_text n)
  unfolding other_terms OthersBack
  none_read above = record { fine = fine-say (bytes ")") (fine-give []); there = none_there above; back = λ t ts way. none-back 0 above (say-just (bytes ")") way) }

  others-read : (k above : ℕ) → 1 ≤ above → above ≤ beyond n → Reads (other_terms n k above) (Below above k) (others_text n)
  others-read zero above some no-higher = none_read above
  others-read (suc k) above some no-higher =
      more-read k above (next-reads k above some no-higher (other_terms n k) (λ m a b. others-read k m a b))

  -- ---- The whole polynomial, with the space behind it.

  module _ (some-variable : 1 < beyond n) where
    whole-product : Reads (product n (beyond n - 1)) (ProductWithin (beyond n - 1)) (product_text n)
    whole-product = product-reads (beyond n - 1) (omega arith) (omega arith)

    later-read : (t : Term) → ProductWithin (beyond n - 1) t → Reads (next_term n t.monomial (other_terms n 14)) (SomeBelow t.monomial 14) (next_text n)
    later-read t h = let at-most = h.at-most in next-reads 14 t.monomial h.not_constant (omega arith) (other_terms n 14) (λ m a b. others-read 14 m a b)

    abbrev product_or_sum : List (Choice Polynomial)
    product_or_sum =
        choice true (bytes "(* ") (product n (beyond n - 1) then λ t. say (bytes " ") (give (t ∷ [])))
        ∷ choice true (bytes "(+ (* ") (product n (beyond n - 1) then λ t. say (bytes " ")
        (next_term n t.monomial (other_terms n 14) then λ ts. say (bytes " ") (give (t ∷ ts))))
        ∷ []

    PolynomialBack : List ℕ → Polynomial → Type 0
    PolynomialBack t p = PolynomialWithin n p × (t ≡ polynomial_text n p ++ bytes " ")

    alone-back : (c : ℤ) → Valued c → {t : List ℕ} → t ≡ number_text c ++ (32 ∷ []) → PolynomialBack t (constant_of c)
    unfolding PolynomialBack polynomial_text term_text if_so
    alone-back c h text =
        let above : 0 < beyond n = omega arith in
        (record { not_none = omega arith; at-most = omega arith; each = terms (valued-within c h 0 above) no_terms }, text)

    product-within : (t : Term) → ProductWithin (beyond n - 1) t → TermWithin (beyond n) t
    product-within t h = let at-most = h.at-most in let falls : t.monomial < beyond n = omega arith in valued-within t.coefficient h.coefficient t.monomial falls

    one-text : (t : Term) → 0 < t.monomial → bytes "(* " ++ (product_text n t ++ bytes " ") ≡ polynomial_text n (t ∷ []) ++ bytes " "
    unfolding polynomial_text
    one-text t h = ap (λ (l : List ℕ). l ++ bytes " ") (sym (term-product n t h))

    one-back : (t : Term) → ProductWithin (beyond n - 1) t → {u : List ℕ} {p : Polynomial} → Just (bytes " ") (t ∷ []) u p → PolynomialBack (bytes "(* " ++ (product_text n t ++ u)) p
    unfolding PolynomialBack
    one-back t h just = (record { not_none = omega arith; at-most = omega arith; each = terms (product-within t h) no_terms }, one-text t h.not_constant)

    sum-text : (t u : Term) (us : Polynomial) → 0 < t.monomial
        → bytes "(+ (* " ++ (product_text n t ++ (bytes " " ++ (next_text n (u ∷ us) ++ bytes " "))) ≡ polynomial_text n (t ∷ u ∷ us) ++ bytes " "
    unfolding polynomial_text summands next_text others_text
    sum-text t u us h =
        ap (λ (l : List ℕ). bytes "(+ (* " ++ l) (ap (λ (l : List ℕ). product_text n t ++ (bytes " " ++ (l ++ bytes " "))) (sym (append_assoc (term_text n u) (summands n us) (bytes ")")))
        ∙ sum-shape (product_text n t) (term_text n u ++ summands n us))
        ∙ ap (λ (l : List ℕ). (bytes "(+ " ++ ((l ++ (bytes " " ++ (term_text n u ++ summands n us))) ++ bytes ")")) ++ bytes " ") (sym (term-product n t h))

    sum_back : (t : Term) → ProductWithin (beyond n - 1) t → (ts : Polynomial) → SomeBelow t.monomial 14 ts → {u : List ℕ} {p : Polynomial} → Just (bytes " ") (t ∷ ts) u p
        → PolynomialBack (bytes "(+ (* " ++ (product_text n t ++ (bytes " " ++ (next_text n ts ++ u)))) p
    unfolding PolynomialBack
    sum_back t h [] k just = let some = k.some in absurd (omega arith)
    sum_back t h (u ∷ us) k just = let few = k.few in
        (record { not_none = omega arith; at-most = omega arith; each = terms (product-within t h) k.within }, sum-text t u us h.not_constant)

    later-back : (t : Term) → ProductWithin (beyond n - 1) t → {u : List ℕ} {p : Polynomial}
        → Passed (SomeBelow t.monomial 14) (next_text n) (λ ts. say (bytes " ") (give (t ∷ ts))) u p → PolynomialBack (bytes "(+ (* " ++ (product_text n t ++ (bytes " " ++ u))) p
    later-back t h (passed ts k u way) = sum_back t h ts k (say-just (bytes " ") way)

    space-back : (t : Term) → ProductWithin (beyond n - 1) t → {u : List ℕ} {p : Polynomial}
        → Behind (bytes " ") (next_term n t.monomial (other_terms n 14) then λ ts. say (bytes " ") (give (t ∷ ts))) u p → PolynomialBack (bytes "(+ (* " ++ (product_text n t ++ u)) p
    space-back t h {p = p} behind = subst (λ (l : List ℕ). PolynomialBack (bytes "(+ (* " ++ (product_text n t ++ l)) p) (sym behind.whole)
        (later-back t h (read-then (later-read t h) _ behind.leads))

    first_back : {u : List ℕ} {p : Polynomial} → Passed (ProductWithin (beyond n - 1)) (product_text n) (λ t. say (bytes " ") (give (t ∷ []))) u p → PolynomialBack (bytes "(* " ++ u) p
    first_back (passed t h u way) = one-back t h (say-just (bytes " ") way)

    second_back : {u : List ℕ} {p : Polynomial}
        → Passed (ProductWithin (beyond n - 1)) (product_text n) (λ t. say (bytes " ") (next_term n t.monomial (other_terms n 14) then λ ts. say (bytes " ") (give (t ∷ ts)))) u p
        → PolynomialBack (bytes "(+ (* " ++ u) p
    second_back (passed t h u way) = space-back t h (say-leads (bytes " ") way)

    polynomial-back : {t : List ℕ} {p : Polynomial} → NumberOr 32 no-digit-32 constant_of product_or_sum t p → PolynomialBack t p
    polynomial-back {t = t} {p = p} (is-other (other (other x11))) = elim x11 [ ]
    polynomial-back {t} (is_number c h text result) = subst (PolynomialBack t) result (alone-back c h text)
    polynomial-back (is-other (this u e way)) = first_back (read-then whole-product _ way)
    polynomial-back (is-other (other (this u e way))) = second_back (read-then whole-product _ way)

    -- ---- And back.

    constant-written : (c : ℤ) → Valued c → Leads (polynomial n) (polynomial_text n (constant_of c) ++ bytes " ") (constant_of c)
    unfolding polynomial polynomial_text term_text if_so tellable differs_from_all differ parentheses is_parenthesis
    constant-written c h = number-there 32 no-digit-32 constant_of product_or_sum refl refl c h

    other-written : {t : List ℕ} {p : Polynomial} → Chosen product_or_sum t p → Leads (polynomial n) t p
    unfolding polynomial tellable differs_from_all differ parentheses is_parenthesis
    other-written h = other-there 32 no-digit-32 constant_of product_or_sum refl refl h

    product-written : (t : Term) → ProductWithin (beyond n - 1) t → Leads (polynomial n) (polynomial_text n (t ∷ []) ++ bytes " ") (t ∷ [])
    product-written t h = other-written (subst (λ (l : List ℕ). Chosen product_or_sum l (t ∷ [])) (one-text t h.not_constant)
        (this _ refl (then_read whole-product _ t h (said-giving (bytes " ") (t ∷ [])))))

    sum-written : (t u : Term) (us : Polynomial) → ProductWithin (beyond n - 1) t → SomeBelow t.monomial 14 (u ∷ us)
        → Leads (polynomial n) (polynomial_text n (t ∷ u ∷ us) ++ bytes " ") (t ∷ u ∷ us)
    sum-written t u us h k = other-written (subst (λ (l : List ℕ). Chosen product_or_sum l (t ∷ u ∷ us)) (sum-text t u us h.not_constant)
        (other (this _ refl (then_read whole-product _ t h (said (bytes " ") (then_read (later-read t h) _ (u ∷ us) k (said-giving (bytes " ") (t ∷ u ∷ us))))))))

    term-written : (c : ℤ) (m : ℕ) (ts : Polynomial) → TermWithin (beyond n) (record { coefficient = c; monomial = m }) → TermsWithin m ts → length ts ≤ 15
        → Leads (polynomial n) (polynomial_text n (record { coefficient = c; monomial = m } ∷ ts) ++ bytes " ") (record { coefficient = c; monomial = m } ∷ ts)
    term-written c zero [] h hs few = constant-written c (within-valued _ h)
    term-written c zero (t ∷ ts) h (terms k ks) few = let falls = k.falls in absurd (omega arith)
    term-written c (suc m) [] h hs few =
        let falls : suc m < beyond n = h.falls in
        product-written (record { coefficient = c; monomial = suc m }) (record { coefficient = within-valued _ h; not_constant = omega arith; at-most = omega arith })
    term-written c (suc m) (t ∷ ts) h hs few =
        let falls : suc m < beyond n = h.falls in
        sum-written (record { coefficient = c; monomial = suc m }) t ts (record { coefficient = within-valued _ h; not_constant = omega arith; at-most = omega arith })
        (record { within = hs; some = omega arith; few = few })

    polynomial-there : (p : Polynomial) → PolynomialWithin n p → Leads (polynomial n) (polynomial_text n p ++ bytes " ") p
    polynomial-there [] h = let some = h.not_none in absurd (omega arith)
    polynomial-there (t ∷ ts) h = by-within h.each (let few = h.at-most in omega arith)
      where
        by-within : {t : Term} {ts : Polynomial} → TermsWithin (beyond n) (t ∷ ts) → length ts ≤ 15 → Leads (polynomial n) (polynomial_text n (t ∷ ts) ++ bytes " ") (t ∷ ts)
        by-within (terms {t = t} {ts = ts} h hs) few = term-written t.coefficient t.monomial ts h hs few

    polynomial-fine : Fine (polynomial n)
    unfolding polynomial
    polynomial-fine = number-fine 32 no-digit-32 constant_of product_or_sum (
        choices (λ e. fine-read whole-product _ (λ t h. fine-say (bytes " ") (fine-give (t ∷ []))))
        (choices (λ e. fine-read whole-product _ (λ t h. fine-say (bytes " ") (fine-read (later-read t h) _ (λ ts k. fine-say (bytes " ") (fine-give (t ∷ ts)))))) no-choice))

    pub polynomial-reads : Reads (polynomial n) (PolynomialWithin n) (λ p. polynomial_text n p ++ bytes " ")
    unfolding polynomial PolynomialBack
    polynomial-reads = record {
      fine = polynomial-fine;
      there = polynomial-there;
      back = λ t p way. polynomial-back (number-back 32 no-digit-32 constant_of product_or_sum way);
    }
