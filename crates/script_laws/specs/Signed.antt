-- Numbers of either sign, or what else may stand at their place.
use Rattle.std.specs.Prelude.{Bool, ◌&&◌, ◌≡◌, ℕ, zero, suc, ◌-◌, ◌<◌, ◌≤◌, eqb, ℤ, pos, negsuc, neg_ℤ, nat_abs}
use Rattle.std.proofs.Math.Bool.{true, false}
use Rattle.std.proofs.lemmas.Bool.{false≢true}
use mathlib.Core.List.{List, [], ◌∷◌, ◌++◌, append-nil}
use Rattle.std.proofs.Math.Path.{refl}
use Rattle.std.proofs.Common.{sym, ap, subst, arith, eqb-true, leb-true}
use Rattle.std.proofs.Math.Dec.{leb}
use Rattle.sign_laws.specs.Booleans.{and_first, and_second}
use Rattle.rules.specs.Reader.{Reader, give}
use Rattle.script_laws.specs.Leading.{Leads, arrived}
use Rattle.rules.specs.Combine.{given, say, ◌then◌, Choice, one_of}
use Rattle.script_laws.specs.CombineLaws.{Reads, Passed, passed, read-then, then_read, fine-read, Fine, fine-give, said-giving, Just, just, say-just, fine-say, Apart, left-stuck, right-stuck, bytes_apart, leads-left, leads-right, Either, by_left, by_right, or-leads, goes_left, open-or, apart-or, tellable, Chosen, this, other, leads-chosen, chosen-leads, AllFine, choices, open-choices}
use Rattle.rules.specs.Text.{bytes, digits, number_text}
use Rattle.rules.specs.Reading.{magnitude, number_or}
use Rattle.script_laws.specs.Numbers.{Sized, magnitude-reads}

-- ---- A text that begins with a digit begins with no parenthesis.

-- Does each beginning begin with a parenthesis?
unfoldable pub is_parenthesis : List ℕ → Bool
is_parenthesis [] = false
is_parenthesis (b ∷ t) = eqb b 40

unfoldable pub parentheses : {A : Type 0} → List (Choice A) → Bool
parentheses [] = true
parentheses (c ∷ cs) = is_parenthesis c.beginning && parentheses cs

digit-no-parenthesis : (b c : ℕ) → (leb 49 b && leb b 57) ≡ true → eqb c 40 ≡ true → eqb b c ≡ true → ⊥
digit-no-parenthesis b c d e f =
    let from : 49 ≤ b = leb-true 49 b (and_first (leb 49 b) (leb b 57) d) in
    let there : c ≡ 40 = eqb-true c 40 e in
    let same : b ≡ c = eqb-true b c f in
    omega arith

module _ {A : Type 0} where
  not-both : (p q : Bool) (r : Reader ℕ) (more : ℕ → Reader A) (s : Reader A) → (p ≡ true → q ≡ true → ⊥) → Apart (given p r then more) (given q s)
  unfolding given ◌then◌
  not-both false q r more s h = left-stuck
  not-both true false r more s h = right-stuck
  not-both true true r more s h = absurd (h refl refl)

  digit-apart : (last : ℕ) (more : ℕ → Reader A) (p : Bool) (s : List ℕ) (r : Reader A) → is_parenthesis s ≡ true → Apart (magnitude last then more) (given p (say s r))
  unfolding magnitude given say is_parenthesis ◌then◌
  digit-apart last more false s r e = right-stuck
  digit-apart last more true [] r e = absurd (false≢true e)
  digit-apart last more true (c ∷ s) r e = bytes_apart (λ b. not-both (leb 49 b && leb b 57) (eqb b c) _ more (say s r) (λ d f. digit-no-parenthesis b c d e f))

  digits-apart : (last : ℕ) (more : ℕ → Reader A) (cs : List (Choice A)) → parentheses cs ≡ true → Apart (magnitude last then more) (one_of cs)
  unfolding parentheses one_of
  digits-apart last more [] e = right-stuck
  digits-apart last more (c ∷ cs) e =
      apart-or (digit-apart last more c.allowed c.beginning c.further (and_first (is_parenthesis c.beginning) (parentheses cs) e))
      (digits-apart last more cs (and_second (is_parenthesis c.beginning) (parentheses cs) e))

-- ---- Numbers.

-- The coefficients that a block may have.
pub record Valued (c : ℤ) : Type 0 where
  pub size : Sized (nat_abs c)

minus-valued : (x : ℕ) → Sized x → Valued (neg_ℤ (pos x))
minus-valued zero h = let some = h.not_zero in absurd (omega arith)
minus-valued (suc x) h = record { size = h }

minus-text : (x : ℕ) → Sized x → number_text (neg_ℤ (pos x)) ≡ bytes "(- " ++ digits x ++ bytes ")"
unfolding number_text
minus-text zero h = let some = h.not_zero in absurd (omega arith)
minus-text (suc x) h = refl

module _ {A : Type 0} (last : ℕ) (no_digit : last < 48) (as_is : ℤ → A) (others : List (Choice A)) where
  -- What stands behind "(- ".
  abbrev negative : Reader A
  negative = magnitude 41 then λ x. say (last ∷ []) (give (as_is (neg_ℤ (pos x))))

  abbrev minus_first : List (Choice A)
  minus_first = record { allowed = true; beginning = bytes "(- "; further = negative } ∷ others

  -- A text is a number with the byte behind it, or one of the others.
  pub data NumberOr (t : List ℕ) (a : A) : Type 0 where
    is_number : (c : ℤ) → Valued c → t ≡ number_text c ++ (last ∷ []) → as_is c ≡ a → NumberOr t a
    is-other : Chosen others t a → NumberOr t a

  close-reads : Reads (magnitude 41) Sized (λ x. digits x ++ (41 ∷ []))
  close-reads = magnitude-reads 41 (omega arith)

  positive-text : (x : ℕ) → (digits x ++ (last ∷ [])) ++ [] ≡ number_text (pos x) ++ (last ∷ [])
  unfolding number_text
  positive-text x = append-nil (digits x ++ (last ∷ []))

  negative-text : (x : ℕ) → Sized x → bytes "(- " ++ ((digits x ++ (41 ∷ [])) ++ (last ∷ [])) ≡ number_text (neg_ℤ (pos x)) ++ (last ∷ [])
  negative-text x h = ap (λ (l : List ℕ). l ++ (last ∷ [])) (sym (minus-text x h))

  positive_back : {t : List ℕ} {a : A} → Passed Sized (λ x. digits x ++ (last ∷ [])) (λ x. give (as_is (pos x))) t a → NumberOr t a
  positive_back (passed x h u arrived) = is_number (pos x) (record { size = h }) (positive-text x) refl

  negative_back : {t : List ℕ} {a : A} → Passed Sized (λ x. digits x ++ (41 ∷ [])) (λ x. say (last ∷ []) (give (as_is (neg_ℤ (pos x))))) t a → NumberOr (bytes "(- " ++ t) a
  negative_back (passed x h u way) = ended x h (say-just (last ∷ []) way)
    where
      ended : (x : ℕ) → Sized x → {u : List ℕ} {a : A} → Just (last ∷ []) (as_is (neg_ℤ (pos x))) u a → NumberOr (bytes "(- " ++ ((digits x ++ (41 ∷ [])) ++ u)) a
      ended x h just = is_number (neg_ℤ (pos x)) (minus-valued x h) (negative-text x h) refl

  choice-back : {t : List ℕ} {a : A} → Chosen minus_first t a → NumberOr t a
  choice-back (this u e way) = negative_back (read-then close-reads _ way)
  choice-back (other h) = is-other h

  pub number-back : {t : List ℕ} {a : A} → Leads (number_or last as_is others) t a → NumberOr t a
  unfolding number_or
  number-back way = by-either (or-leads (magnitude last then λ x. give (as_is (pos x))) (one_of minus_first) way)
    where
      by-either : {t : List ℕ} {a : A} → Either (magnitude last then λ x. give (as_is (pos x))) (one_of minus_first) t a → NumberOr t a
      by-either (by_left w) = positive_back (read-then (magnitude-reads last no_digit) _ w)
      by-either (by_right w) = choice-back (leads-chosen minus_first w)

  module _ (told : tellable minus_first ≡ true) (others-open : parentheses others ≡ true) where
    apart : Apart (magnitude last then λ x. give (as_is (pos x))) (one_of minus_first)
    unfolding parentheses is_parenthesis
    apart = digits-apart last _ minus_first others-open

    pub number-there : (c : ℤ) → Valued c → Leads (number_or last as_is others) (number_text c ++ (last ∷ [])) (as_is c)
    unfolding number_or
    number-there (pos x) h =
        leads-left apart (subst (λ (t : List ℕ). Leads (magnitude last then λ y. give (as_is (pos y))) t (as_is (pos x))) (positive-text x)
        (then_read (magnitude-reads last no_digit) _ x h.size arrived))
    number-there (negsuc x) h =
        leads-right apart (chosen-leads minus_first told (subst (λ (t : List ℕ). Chosen minus_first t (as_is (negsuc x))) (negative-text (suc x) h.size)
        (this _ refl (then_read close-reads _ (suc x) h.size (said-giving (last ∷ []) (as_is (negsuc x)))))))

    pub other-there : {t : List ℕ} {a : A} → Chosen others t a → Leads (number_or last as_is others) t a
    unfolding number_or
    other-there h = leads-right apart (chosen-leads minus_first told (other h))

  pub number-fine : AllFine others → Fine (number_or last as_is others)
  unfolding number_or
  number-fine h =
      let positive : Fine (magnitude last then λ x. give (as_is (pos x))) = fine-read (magnitude-reads last no_digit) _ (λ x k. fine-give (as_is (pos x))) in
      let minus : Fine negative = fine-read close-reads _ (λ x k. fine-say (last ∷ []) (fine-give (as_is (neg_ℤ (pos x))))) in
      record {
        everywhere = open-or positive.everywhere (open-choices (choices (λ e. minus) h));
        at_first = goes_left (one_of minus_first) positive.at_first;
      }
