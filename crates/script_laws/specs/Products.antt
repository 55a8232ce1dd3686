-- A whole product, behind "(* ".
use mathlib.Core.List.{List, [], ◌∷◌, ◌++◌, append_assoc, append-nil}
use Rattle.std.specs.Prelude.{◌≡◌, refl, ℕ, zero, suc, ◌-◌, ◌*◌, ◌^◌, ◌<◌, ◌≤◌, ℤ}
use Rattle.std.proofs.Common.{sym, ◌∙◌, pow-suc, arith}
use Rattle.std.proofs.Math.Path.{ap, subst}
use Rattle.rules.specs.Polynomial.{Term}
use Rattle.rules.specs.Reader.{give}
use Rattle.script_laws.specs.Leading.{Leads, arrived}
use Rattle.rules.specs.Combine.{◌then◌}
use Rattle.script_laws.specs.CombineLaws.{Reads, Passed, passed, read-then, then_read, fine-read, fine-give, tellable, differs_from_all, differ, no-choice}
use Rattle.rules.specs.Text.{number_text}
use Rattle.rules.specs.Reading.{number_or, product, letters, after_factor, beyond}
use Rattle.script_laws.specs.Signed.{Valued, parentheses, is_parenthesis, NumberOr, is_number, is-other, number-back, number-there, number-fine}
use Rattle.script_laws.specs.Factors.{Between, letters_text, letters-read, letters-text}
use Rattle.script_laws.specs.Polynomials.{ProductWithin, product_text}

-- ---- The coefficient, with the space behind it.

no_digit : 32 < 48
no_digit = omega arith

coefficient-back : {t : List ℕ} {c : ℤ} → NumberOr 32 no_digit (λ x. x) [] t c → Valued c × (t ≡ number_text c ++ (32 ∷ []))
coefficient-back {t} {c} (is_number x h text same) = subst (λ (y : ℤ). Valued y × (t ≡ number_text y ++ (32 ∷ []))) same (h, text)
coefficient-back (is-other h) = elim h [ ]

coefficient-reads : Reads (number_or 32 (λ x. x) []) Valued (λ c. number_text c ++ (32 ∷ []))
unfolding tellable differs_from_all differ parentheses is_parenthesis
coefficient-reads = record {
  fine = number-fine 32 no_digit (λ x. x) [] no-choice;
  there = λ c h. number-there 32 no_digit (λ x. x) [] refl refl c h;
  back = λ t c way. coefficient-back (number-back 32 no_digit (λ x. x) [] way);
}

-- ---- And the factors.

four-twos : (k : ℕ) → 2 ^ suc (suc (suc (suc k))) ≡ 2 ^ k * 16
four-twos k = rw (pow-suc 2 (suc (suc (suc k))), pow-suc 2 (suc (suc k)), pow-suc 2 (suc k), pow-suc 2 k) (omega arith)

pub beyond-sixteen : (n : ℕ) → beyond n ≡ 16 ^ n
beyond-sixteen zero = refl
beyond-sixteen (suc n) =
    let four : 4 * suc n ≡ suc (suc (suc (suc (4 * n)))) = omega arith in
    ap (λ (e : ℕ). 2 ^ e) four ∙ four-twos (4 * n) ∙ ap (λ (x : ℕ). x * 16) (beyond-sixteen n) ∙ sym (pow-suc 16 n)

module _ (before limit : ℕ) (inside : limit < beyond (suc before)) (some : 1 ≤ limit) where
  within : limit < 16 ^ suc before
  within = subst (λ (x : ℕ). limit < x) (beyond-sixteen (suc before)) inside

  abbrev term_of : ℤ → ℕ → Term
  term_of c m = record { coefficient = c; monomial = m }

  product-text : (c : ℤ) (m : ℕ) → Between limit m → (number_text c ++ (32 ∷ [])) ++ (letters_text (suc before) m ++ []) ≡ product_text (suc before) (term_of c m)
  unfolding product_text
  product-text c m b =
      ap (λ (l : List ℕ). (number_text c ++ (32 ∷ [])) ++ l) (append-nil (letters_text (suc before) m))
      ∙ append_assoc (number_text c) (32 ∷ []) (letters_text (suc before) m)
      ∙ ap (λ (l : List ℕ). number_text c ++ l) (letters-text before limit within m b)

  Back : List ℕ → Term → Type 0
  Back t term = ProductWithin limit term × (t ≡ product_text (suc before) term)

  factors-back : (c : ℤ) → Valued c → {u : List ℕ} {term : Term} → Passed (Between limit) (letters_text (suc before)) (λ m. give (term_of c m)) u term
      → Back ((number_text c ++ (32 ∷ [])) ++ u) term
  unfolding Back
  factors-back c h (passed m b u arrived) = (record { coefficient = h; not_constant = b.not_constant; at-most = b.at-most }, product-text c m b)

  coefficient-first : {t : List ℕ} {term : Term}
      → Passed Valued (λ c. number_text c ++ (32 ∷ [])) (λ c. letters (suc before) limit (after_factor (suc before) limit limit) (suc before - 1) 0 then λ m. give (term_of c m)) t term
      → Back t term
  coefficient-first (passed c h u way) = factors-back c h (read-then (letters-read before limit within some) _ way)

  product-there : (c : ℤ) (m : ℕ) → Valued c → Between limit m → Leads (product (suc before) limit) (product_text (suc before) (term_of c m)) (term_of c m)
  unfolding product
  product-there c m h b = subst (λ (l : List ℕ). Leads (product (suc before) limit) l (term_of c m)) (product-text c m b)
      (then_read coefficient-reads _ c h (then_read (letters-read before limit within some) _ m b arrived))

  pub product-reads : Reads (product (suc before) limit) (ProductWithin limit) (product_text (suc before))
  unfolding product Back
  product-reads = record {
    fine = fine-read coefficient-reads _ (λ c h. fine-read (letters-read before limit within some) _ (λ m b. fine-give (term_of c m)));
    there = λ t h. product-there t.coefficient t.monomial h.coefficient (record { not_constant = h.not_constant; at-most = h.at-most });
    back = λ t term way. coefficient-first (read-then coefficient-reads _ way);
  }
