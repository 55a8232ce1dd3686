-- The words of one term, by the sign of its coefficient, and of a run of places, one after the other.
-- The words so far, with those of the places that are left, stay the words of all.
use mathlib.Core.Path.{◌≡◌, refl, sym, ap, ◌∙◌}
use mathlib.Core.Bool.{Bool, true, false, true≢false}
use mathlib.Core.List.{List}
use Prim.Native.Nat.{ℕ, zero, suc, ◌+◌, ◌/◌, ◌%◌, ◌^◌, ◌<◌, ◌≤◌}
use native.Mathlib.Omega.{arith}
use borrow.Author.Tests.{ltb-true, ltb-false}
use lib.Bits.{bit_or, or_zero_r}
use lib.Dec.{eqb}
use lib.IntN.{ℤ, pos, negsuc}
use lib.ListN.{get_or}
use lib.Signed.{lt_z}
use Rattle.rules.specs.Signs.{Sign, negative, nought, positive, sign_of, SignSet, only, has, open_signs}
use Rattle.rules.specs.Polynomial.{Polynomial, Board, monomial_sign}
use Rattle.terms.specs.View.{terms_of, terms-cons, terms-nil}
use Rattle.terms.specs.Signed.{Signed}
use Rattle.deduce.specs.declared.Run.{Run}
use Rattle.masks.specs.declared.Mask.{Mask}
use Rattle.masks.specs.Words.{or-three}
use Rattle.masks.specs.Weights.{weight_of, when, weigh, word}
use Rattle.masks.specs.Masks.{Weighed, MaskOf, joined}

-- ---- the bit of a monomial

pub when-there : {b : Bool} {w r : ℕ} → b ≡ true → r ≡ w → r ≡ when b w
unfolding when
when-there e f = rw e f

-- a set has the sign where its bit is set
pub bit-positive : (m : ℕ) (s : SignSet) {r : ℕ} → r ≡ when (eqb (s % 2) 1) (2 ^ (m % 125 % 64)) → r ≡ when (has positive s) (weight_of positive m)
unfolding has only weight_of
bit-positive m s e = let same : s % 2 ≡ s / 1 % 2 = omega arith in e ∙ ap (λ (n : ℕ). when (eqb n 1) (2 ^ (m % 125 % 64))) same

pub bit-negative : (m : ℕ) (s : SignSet) {r : ℕ} → r ≡ when (eqb (s / 4 % 2) 1) (2 ^ ((m % 125 + 22) % 64))
    → r ≡ when (has negative s) (weight_of negative m)
unfolding has only weight_of
bit-negative m s e = e

-- ---- the sign of a coefficient

pub sign_below : (c : ℤ) → lt_z c (pos 0) ≡ true → sign_of c ≡ negative
unfolding sign_of
sign_below (pos n) e = absurd (omega (arith, ltb-true n 0 e))
sign_below (negsuc n) e = refl

pub sign_above : (c : ℤ) → lt_z (pos 0) c ≡ true → sign_of c ≡ positive
unfolding sign_of
sign_above (pos zero) e = absurd (omega (arith, ltb-true 0 0 e))
sign_above (pos (suc n)) e = refl
sign_above (negsuc n) e = absurd (true≢false (sym e))

pub sign-neither : (c : ℤ) → lt_z c (pos 0) ≡ false → lt_z (pos 0) c ≡ false → sign_of c ≡ nought
unfolding sign_of
sign-neither (pos zero) e f = refl
sign-neither (pos (suc n)) e f = absurd (omega (arith, ltb-false 0 (suc n) f))
sign-neither (negsuc n) e f = absurd (true≢false e)

module _ {c : ℤ} {m : ℕ} {s : SignSet} {a b : ℕ} (f : a ≡ when (has positive s) (weight_of positive m))
    (g : b ≡ when (has negative s) (weight_of negative m)) where
  pub weighed-below : sign_of c ≡ negative → Weighed c m s (record { negative = a; positive = b })
  unfolding weigh open_signs
  weighed-below e = record { negative = rw e f; positive = rw e g }

  pub weighed-above : sign_of c ≡ positive → Weighed c m s (record { negative = b; positive = a })
  unfolding weigh open_signs
  weighed-above e = record { negative = rw e g; positive = rw e f }

pub weighed-none : {c : ℤ} {m : ℕ} {s : SignSet} → sign_of c ≡ nought → Weighed c m s (record { negative = 0; positive = 0 })
unfolding weigh weight_of when open_signs
weighed-none {s = s} e = record { negative = rw e (by (has nought s)); positive = rw e (by (has nought s)) }
  where
    by : (b : Bool) → 0 ≡ when b 0
    by true = refl
    by false = refl

-- ---- the walk

-- the words at hand are those of the places before i: with those of the places from i on they are those of all
pub record Walked (cs : List ℤ) (ms : List ℕ) (ss : List SignSet) (from to : ℕ) (sofar : Mask) (i : ℕ) : Type 0 where
  pub on : from ≤ i
  pub negatives : {board : Board} → Signed board ms ss from to
      → bit_or sofar.negative (word negative board (terms_of cs ms i to)) ≡ word negative board (terms_of cs ms from to)
  pub positives : {board : Board} → Signed board ms ss from to
      → bit_or sofar.positive (word positive board (terms_of cs ms i to)) ≡ word positive board (terms_of cs ms from to)

-- one word, one place further
word-step : (z : Sign) (board : Board) (cs : List ℤ) (ms : List ℕ) {s : SignSet} (i to a w b : ℕ) → i < to → s ≡ monomial_sign board (get_or ms i 0)
    → w ≡ weigh z (sign_of (get_or cs i (pos 0))) (get_or ms i 0) s → b ≡ bit_or a w
    → bit_or b (word z board (terms_of cs ms (i + 1) to)) ≡ bit_or a (word z board (terms_of cs ms i to))
unfolding word
word-step z board cs ms i to a w b h e f g =
    ap (λ (x : ℕ). bit_or x (word z board (terms_of cs ms (i + 1) to))) g
    ∙ or-three a w (word z board (terms_of cs ms (i + 1) to))
    ∙ ap (λ (x : ℕ). bit_or a (bit_or x (word z board (terms_of cs ms (i + 1) to))))
    (f ∙ ap (weigh z (sign_of (get_or cs i (pos 0))) (get_or ms i 0)) e)
    ∙ ap (λ (p : Polynomial). bit_or a (word z board p)) (sym (terms-cons cs ms i to h))

module _ {cs : List ℤ} {ms : List ℕ} {ss : List SignSet} {from to : ℕ} {sofar : Mask} {i : ℕ} (k : Walked cs ms ss from to sofar i) where
  pub walk : {r next : Mask} → i < to → Weighed (get_or cs i (pos 0)) (get_or ms i 0) (get_or ss i 0) r → next ≡ joined sofar r
      → Walked cs ms ss from to next (i + 1)
  walk {r} {next} h w e = record {
    on = omega arith;
    negatives = λ {board} signed. word-step negative board cs ms i to sofar.negative r.negative next.negative h (signed.at i k.on h)
        w.negative
        (ap (λ (x : Mask). x.negative) e) ∙ k.negatives signed;
    positives = λ {board} signed. word-step positive board cs ms i to sofar.positive r.positive next.positive h (signed.at i k.on h)
        w.positive
        (ap (λ (x : Mask). x.positive) e) ∙ k.positives signed;
  }

-- the end of the run
pub walked_all : {cs : List ℤ} {ms : List ℕ} {ss : List SignSet} {run : Run} {sofar : Mask} {i : ℕ} → Walked cs ms ss run.from run.to sofar i
    → run.to ≤ i
    → MaskOf cs ms ss run sofar
unfolding word
walked_all {cs} {ms} {run = run} {sofar} {i} k h = record {
  on = λ signed. record {
    negative = sym (or_zero_r sofar.negative) ∙ (rw (terms-nil cs ms i run.to h) at (k.negatives signed));
    positive = sym (or_zero_r sofar.positive) ∙ (rw (terms-nil cs ms i run.to h) at (k.positives signed));
  };
}
