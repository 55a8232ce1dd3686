-- The law of the masks: the sign of a monomial from the masks of a board is the book's sign of that monomial on that board.
-- What is asked of two masks is what is asked of each factor (Words, Exponents), and that decides the book's product (Factors).
use Rattle.std.specs.Prelude.{◌≡◌, not, ◌&&◌, ◌||◌, ℕ, eqb}
use Rattle.std.proofs.Common.{sym, ap, ap₂, ◌∙◌}
use Rattle.std.specs.Int.Bits.{bit_and, bit_or}
use Rattle.rules.specs.Signs.{negative, nought, positive, has}
use Rattle.rules.specs.Polynomial.{Board, odd, monomial_sign}
use Rattle.terms.specs.Masks.{MasksOf, any_bit, sign_by}
use Rattle.terms.specs.Words.{word, word_and, word-or, mask_word, word-lacks, word-meets, word-odd}
use Rattle.terms.specs.Exponents.{odd-word, factor-word}
use Rattle.terms.specs.Factors.{by-factors}
use Rattle.terms.specs.declared.masks.Masks.{Masks}

-- the masks, and what is made of them, as words over the variables
module _ (ss : Board) (k : Masks) (of : MasksOf ss k) (m : ℕ) where
  factors : bit_and (any_bit m) k.all ≡ word (λ e s. not (eqb e 0)) ss m
  factors = ap (bit_and (any_bit m)) of.all ∙ factor-word m ss

  odds : bit_and m k.all ≡ word (λ e s. odd e) ss m
  odds = ap (bit_and m) of.all ∙ odd-word m ss

  can-be-negative : k.negative ≡ word (λ e s. has negative s) ss m
  can-be-negative = of.negative ∙ mask_word (has negative) ss m

  can-be-zero : k.zero ≡ word (λ e s. has nought s) ss m
  can-be-zero = of.zero ∙ mask_word (has nought) ss m

  can-be-positive : k.positive ≡ word (λ e s. has positive s) ss m
  can-be-positive = of.positive ∙ mask_word (has positive) ss m

  nonzero : bit_or k.negative k.positive ≡ word (λ e s. has negative s || has positive s) ss m
  nonzero = ap₂ bit_or can-be-negative can-be-positive ∙ word-or _ _ m ss

  any : bit_or (bit_or k.negative k.positive) k.zero ≡ word (λ e s. (has negative s || has positive s) || has nought s) ss m
  any = ap₂ bit_or nonzero can-be-zero ∙ word-or _ _ m ss

  negatives : bit_and (bit_and m k.all) k.negative ≡ word (λ e s. odd e && has negative s) ss m
  negatives = ap₂ bit_and odds can-be-negative ∙ word_and _ _ m ss

-- The masks give the book's sign.
pub sign-by-masks : {board : Board} {k : Masks} → MasksOf board k → (m : ℕ) → sign_by k m ≡ monomial_sign board m
unfolding sign_by
sign-by-masks {board} {k} of m =
    rw (factors board k of m, any board k of m, nonzero board k of m, can-be-zero board k of m, negatives board k of m, can-be-positive board k of m)
    (rw (
      word-lacks (λ e s. not (eqb e 0)) (λ e s. (has negative s || has positive s) || has nought s) board m,
      word-lacks (λ e s. not (eqb e 0)) (λ e s. has negative s || has positive s) board m,
      word-meets (λ e s. not (eqb e 0)) (λ e s. has nought s) board m,
      word-meets (λ e s. odd e && has negative s) (λ e s. has positive s) board m,
      word-odd (λ e s. odd e && has negative s) board m,
    ) (sym (by-factors board m)))
