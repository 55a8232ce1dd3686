-- The set by terms of p + u·q1 + v·q2, monomial by monomial, and where it may be left: a set that holds negative and positive numbers keeps them.
use mathlib.Core.Path.{◌≡◌, refl, sym, ap, ap₂, ◌∙◌}
use mathlib.Core.Bool.{Bool, true, false, false≢true}
use mathlib.Core.List.{List, [], ◌∷◌}
use Prim.Native.Nat.{ℕ, zero, suc, ◌+◌, ◌<◌, ◌≤◌}
use native.Mathlib.Omega.{arith}
use lib.IntN.{ℤ, pos, negsuc, neg_ℤ, ◌+ℤ◌, ◌-ℤ◌, ◌*ℤ◌}
use lib.ListN.{get_or}
use mir.Syntax.{w32, w64}
use mir.Val.{SFits, to_z, of_z}
use mir.ValLaws.{to_z-of_z}
use Rattle.whole.specs.Solver.{solve, #, con, neg, ◌:+◌, ◌:-◌, ◌:*◌}
use Rattle.rules.specs.Signs.{Sign, negative, nought, positive, sign_of, SignSet, kind, any, only, sum_of_signs, sum, product, mirror, intersect, inside}
use Rattle.rules.specs.Signs.{open_signs}
use Rattle.rules.specs.Polynomial.{Polynomial, Board, monomial_sign, by_terms_from}
use Rattle.rules.specs.Deduce.{is_zero, found}
use Rattle.rules.specs.TwoAtoms.{unless_zero, plus_times, pair_found, pair_mirrored, tried}
use Rattle.sign_laws.specs.Booleans.{never_true}
use Rattle.sign_laws.specs.Lists.{Every}
use Rattle.sign_laws.specs.Sets.{◌In◌, in-empty, in-only, in_all, in-inside, in-mirror}
use Rattle.removal_laws.specs.Terms.{Signed as HasSign, product-signed, monomial_sign-small, monomial_sign-signed}
use Rattle.terms.specs.View.{term_at, terms_of, terms-cons, terms-nil}
use Rattle.terms.specs.Signed.{Signed}
use Rattle.interval.specs.Coefficients.{back}
use Rattle.interval.specs.Kinds.{by-kind}
use Rattle.deduce.specs.Merge.{On}
use Rattle.deduce.specs.Last.{asks_zero}
use Rattle.two_atoms.specs.declared.sum.Lead.{Lead}
use Rattle.two_atoms.specs.Sums.{term, sum_from, Led}
use Rattle.two_atoms.specs.Totals.{total_from, Stepped}
use Rattle.two_atoms.proofs.Sums.{plus-both, plus-first, plus-second, plus-first-alone, plus-second-alone}

-- ---- what one monomial adds

sum-nought : (s : SignSet) → s < 8 → sum s 2 ≡ s
unfolding open_signs
sum-nought zero h = refl
sum-nought (suc zero) h = refl
sum-nought (suc (suc zero)) h = refl
sum-nought (suc (suc (suc zero))) h = refl
sum-nought (suc (suc (suc (suc zero)))) h = refl
sum-nought (suc (suc (suc (suc (suc zero))))) h = refl
sum-nought (suc (suc (suc (suc (suc (suc zero)))))) h = refl
sum-nought (suc (suc (suc (suc (suc (suc (suc zero))))))) h = refl
sum-nought (suc (suc (suc (suc (suc (suc (suc (suc s)))))))) h = absurd (omega arith)

product-nought : (s : SignSet) → s < 8 → HasSign s → product 2 s ≡ 2
unfolding open_signs
product-nought zero h k = in-empty k.held
product-nought (suc zero) h k = refl
product-nought (suc (suc zero)) h k = refl
product-nought (suc (suc (suc zero))) h k = refl
product-nought (suc (suc (suc (suc zero)))) h k = refl
product-nought (suc (suc (suc (suc (suc zero))))) h k = refl
product-nought (suc (suc (suc (suc (suc (suc zero)))))) h k = refl
product-nought (suc (suc (suc (suc (suc (suc (suc zero))))))) h k = refl
product-nought (suc (suc (suc (suc (suc (suc (suc (suc s)))))))) h k = absurd (omega arith)

-- a monomial with the coefficient 0 adds nothing, so that it may be added or left out
added : {board : Board} → Every HasSign board → (sofar : SignSet) → sofar < 8 → (c : ℤ) (m : ℕ) (rest : Polynomial)
    → by_terms_from sofar board (unless_zero (is_zero c) (term c m) rest)
    ≡ by_terms_from (sum sofar (product (only (sign_of c)) (monomial_sign board m))) board rest
unfolding by_terms_from unless_zero is_zero only sign_of
added {board} signed sofar low (pos zero) m rest = ap (λ (s : SignSet). by_terms_from s board rest)
    (sym (ap (sum sofar) (product-nought (monomial_sign board m) (monomial_sign-small board m) (monomial_sign-signed signed m)) ∙ sum-nought sofar low))
added signed sofar low (pos (suc n)) m rest = refl
added signed sofar low (negsuc n) m rest = refl

minus-times : (x w b : ℤ) → x -ℤ w *ℤ b ≡ x +ℤ neg_ℤ w *ℤ b
minus-times x w b = solve (x ∷ w ∷ b ∷ []) (# 0 :- # 1 :* # 2) (# 0 :+ neg (# 1) :* # 2) tt

-- p + u·q1 + v·q2 as a monomial and the rest, v being -w
abbrev with_rest : ℤ → ℤ → ℕ → ℤ → Polynomial → Polynomial
with_rest x b m w rest = let c = x +ℤ neg_ℤ w *ℤ b in unless_zero (is_zero c) (term c m) rest

-- a monomial is taken off p + u·q1 + v·q2, which leaves the rest
pub record Taken (ms : List ℕ) (ss : List SignSet) (i m j n k o : ℕ) (all : ℤ → Polynomial) (x b : ℤ) (s : SignSet)
    (rest : ℤ → Polynomial) : Type 0 where
  pub monomial : ℕ
  pub sign : {board : Board} → Signed board ms ss i m → Signed board ms ss j n → Signed board ms ss k o → s ≡ monomial_sign board monomial
  pub is : (w : ℤ) → all w ≡ with_rest x b monomial w (rest w)

module _ {ms : List ℕ} {ss : List SignSet} {i m j n k o : ℕ} {all : ℤ → Polynomial} {x b : ℤ} {s : SignSet} {rest : ℤ → Polynomial}
    (t : Taken ms ss i m j n k o all x b s rest) {board : Board} (f : Signed board ms ss i m) (g : Signed board ms ss j n)
    (h : Signed board ms ss k o)
    (signed : Every HasSign board) where
  pub taken-signed : HasSign s
  taken-signed = rw (t.sign f g h) (monomial_sign-signed signed t.monomial)

  pub taken-adds : (w : ℤ) (sofar : SignSet) → sofar < 8
      → by_terms_from (sum sofar (product (only (sign_of (x -ℤ w *ℤ b))) s)) board (rest w) ≡ by_terms_from sofar board (all w)
  taken-adds w sofar low =
      ap (λ (y : SignSet). by_terms_from (sum sofar y) board (rest w))
      (ap₂ (λ (c : ℤ) (y : SignSet). product (only (sign_of c)) y) (minus-times x w b) (t.sign f g h))
      ∙ sym (added signed sofar low (x +ℤ neg_ℤ w *ℤ b) t.monomial (rest w)) ∙ sym (ap (by_terms_from sofar board) (t.is w))

-- ---- the ways of taking one off

no-sum : (w : ℤ) → pos 0 +ℤ neg_ℤ w *ℤ pos 0 ≡ pos 0
no-sum w = solve (w ∷ []) (con (pos 0) :+ neg (# 0) :* con (pos 0)) (con (pos 0)) tt

module _ {cs : List ℤ} {ms : List ℕ} {ss : List SignSet} {i m j n : ℕ} {u : ℤ} (k o : ℕ) {l : Lead} (h : Led cs ms ss i m j n u l) where
  -- p + u·q1 and q2 as their first term and the rest
  opened : l.there ≡ true → k < o → (w : ℤ)
      → total_from cs ms i m j n k o u w ≡ plus_times (term l.c l.monomial ∷ sum_from cs ms l.i m l.j n u) (neg_ℤ w)
      (term_at cs ms k ∷ terms_of cs ms (k + 1) o)
  opened t a w = ap₂ (λ (p q : Polynomial). plus_times p (neg_ℤ w) q) (h.sum t) (terms-cons cs ms k o a)

  pub taken-both : l.there ≡ true → k < o → l.monomial ≡ get_or ms k 0
      → Taken ms ss i m j n k o (λ (w : ℤ). total_from cs ms i m j n k o u w) l.c (get_or cs k (pos 0)) l.s
      (λ (w : ℤ). total_from cs ms l.i m l.j n (k + 1) o u w)
  taken-both t a e = record {
    monomial = l.monomial;
    sign = λ x y z. h.sign x y;
    is = λ w. opened t a w ∙ plus-both (neg_ℤ w) (term l.c l.monomial) (term_at cs ms k) _ _ e;
  }

  pub taken-first : l.there ≡ true → k < o → (l.monomial ≡ get_or ms k 0 → ⊥) → get_or ms k 0 < l.monomial
      → Taken ms ss i m j n k o (λ (w : ℤ). total_from cs ms i m j n k o u w) l.c (pos 0) l.s
      (λ (w : ℤ). total_from cs ms l.i m l.j n k o u w)
  taken-first t a e b = record {
    monomial = l.monomial;
    sign = λ x y z. h.sign x y;
    is = λ w. opened t a w
        ∙ plus-first (neg_ℤ w) (term l.c l.monomial) (term_at cs ms k) (sum_from cs ms l.i m l.j n u) (terms_of cs ms (k + 1) o) e b
        ∙ ap (λ (q : Polynomial). with_rest l.c (pos 0) l.monomial w (plus_times (sum_from cs ms l.i m l.j n u) (neg_ℤ w) q))
        (sym (terms-cons cs ms k o a));
  }

  pub taken-second : l.there ≡ true → k < o → (l.monomial ≡ get_or ms k 0 → ⊥) → l.monomial ≤ get_or ms k 0
      → Taken ms ss i m j n k o (λ (w : ℤ). total_from cs ms i m j n k o u w) (pos 0) (get_or cs k (pos 0)) (get_or ss k 0)
      (λ (w : ℤ). total_from cs ms i m j n (k + 1) o u w)
  taken-second t a e b = record {
    monomial = get_or ms k 0;
    sign = λ x y z. z.at k (omega arith) a;
    is = λ w. opened t a w
        ∙ plus-second (neg_ℤ w) (term l.c l.monomial) (term_at cs ms k) (sum_from cs ms l.i m l.j n u) (terms_of cs ms (k + 1) o) e b
        ∙ ap (λ (p : Polynomial). with_rest (pos 0) (get_or cs k (pos 0)) (get_or ms k 0) w (plus_times p (neg_ℤ w) (terms_of cs ms (k + 1) o)))
        (sym (h.sum t));
  }

  pub taken-second-alone : l.there ≡ false → k < o
      → Taken ms ss i m j n k o (λ (w : ℤ). total_from cs ms i m j n k o u w) (pos 0) (get_or cs k (pos 0)) (get_or ss k 0)
      (λ (w : ℤ). total_from cs ms i m j n (k + 1) o u w)
  taken-second-alone t a = record {
    monomial = get_or ms k 0;
    sign = λ x y z. z.at k (omega arith) a;
    is = λ w. ap₂ (λ (p q : Polynomial). plus_times p (neg_ℤ w) q) (h.none t).0 (terms-cons cs ms k o a)
        ∙ plus-second-alone (neg_ℤ w) (term_at cs ms k) (terms_of cs ms (k + 1) o)
        ∙ ap (λ (p : Polynomial). with_rest (pos 0) (get_or cs k (pos 0)) (get_or ms k 0) w (plus_times p (neg_ℤ w) (terms_of cs ms (k + 1) o)))
        (sym (h.none t).0);
  }

  -- q2 is at its end: the first term of p + u·q1, or none
  pub taken-first-alone : o ≤ k
      → Taken ms ss i m j n k o (λ (w : ℤ). total_from cs ms i m j n k o u w) l.c (pos 0) l.s
      (λ (w : ℤ). total_from cs ms l.i m l.j n k o u w)
  unfolding unless_zero is_zero
  taken-first-alone a = record {
    monomial = l.monomial;
    sign = λ x y z. h.sign x y;
    is = λ w. rw (terms-nil cs ms k o a) (by w l.there refl);
  }
    where
      by : (w : ℤ) (b : Bool) → l.there ≡ b → plus_times (sum_from cs ms i m j n u) (neg_ℤ w) []
          ≡ with_rest l.c (pos 0) l.monomial w (plus_times (sum_from cs ms l.i m l.j n u) (neg_ℤ w) [])
      by w true t = rw (h.sum t) (plus-first-alone (neg_ℤ w) (term l.c l.monomial) (sum_from cs ms l.i m l.j n u))
      by w false t = rw ((h.none t).0, (h.none t).1.0, (h.none t).1.1, no-sum w)

-- the sign of the coefficient, from the bits of its numbers
pub value-back : {x b : ℤ} (w : ℤ) {r : SignSet} → SFits w64 x → SFits w32 b → r ≡ only (sign_of (to_z w64 (of_z w64 x) -ℤ w *ℤ to_z w32 (of_z w32 b)))
    → r ≡ only (sign_of (x -ℤ w *ℤ b))
value-back {x} w f g e = rw (to_z-of_z w64 x f, back g) at e

-- the step that takes it off, from the bits of its numbers
pub stepped : {cs : List ℤ} {ms : List ℕ} {ss : List SignSet} {i m j n k o : ℕ} {u x b : ℤ} {s : SignSet} {i' j' k' : ℕ} → SFits w64 x → SFits w32 b
    → Taken ms ss i m j n k o (λ (w : ℤ). total_from cs ms i m j n k o u w) x b s (λ (w : ℤ). total_from cs ms i' m j' n k' o u w)
    → On i i' m → On j j' n → On k k' o → i + j + k < i' + j' + k'
    → Stepped cs ms ss i m j n k o u (record { x = to_z w64 (of_z w64 x); b = to_z w32 (of_z w32 b); s = s; i = i'; j = j'; k = k' })
stepped {x = x} {b} f g t first second third less = record {
  signed = taken-signed t;
  adds = rw (to_z-of_z w64 x f, back g) (taken-adds t);
  first = first;
  second = second;
  third = third;
  less_left = less;
}

-- ---- where the walk may be left

-- negative numbers, or positive ones, stay in sums
pub data Outer : Sign → Type 0 where
  below : Outer negative
  above : Outer positive

pub stays-first : {x : Sign} → Outer x → (y : Sign) → x In sum_of_signs x y
unfolding open_signs
stays-first below negative = record { is = refl }
stays-first below nought = record { is = refl }
stays-first below positive = record { is = refl }
stays-first above negative = record { is = refl }
stays-first above nought = record { is = refl }
stays-first above positive = record { is = refl }

stays-in-sum : {x : Sign} → Outer x → {a b : SignSet} → x In a → HasSign b → x In sum a b
unfolding sum
stays-in-sum o h k = in_all sum_of_signs h k.held (stays-first o k.sign)

pub stays : {x : Sign} → Outer x → {board : Board} → Every HasSign board → (p : Polynomial) {sofar : SignSet} → x In sofar
    → x In by_terms_from sofar board p
unfolding by_terms_from
stays o signed [] h = h
stays o signed (t ∷ ts) h = stays o signed ts (stays-in-sum o h
    (product-signed (record { sign = sign_of t.coefficient; held = in-only (sign_of t.coefficient) }) (monomial_sign-signed signed t.monomial)))

-- a set by its number that asks for 0 has both
pub has_both : (s : SignSet) → s < 8 → asks_zero (kind s) ≡ true → (negative In s) × (positive In s)
unfolding asks_zero open_signs
has_both = by-kind (λ s k. s < 8 → asks_zero k ≡ true → (negative In s) × (positive In s))
    (λ h e. absurd (false≢true e)) (λ h e. absurd (false≢true e)) (λ h e. absurd (false≢true e)) (λ h e. absurd (false≢true e))
    (λ h e. absurd (false≢true e))
    (λ h e. (record { is = refl }, record { is = refl })) (λ h e. absurd (false≢true e)) seven
  where
    seven : (k : ℕ) → suc (suc (suc (suc (suc (suc (suc k)))))) < 8 → asks_zero any ≡ true
        → (negative In suc (suc (suc (suc (suc (suc (suc k))))))) × (positive In suc (suc (suc (suc (suc (suc (suc k)))))))
    seven zero h e = (record { is = refl }, record { is = refl })
    seven (suc k) h e = absurd (omega arith)

not_in : negative In 3 → ⊥
unfolding open_signs
not_in h = false≢true h.is

pub nothing-found : (s : SignSet) → negative In s → (strict : Bool) → pair_found s strict ≡ 7
unfolding pair_found found
nothing-found s h strict = rw (never_true (inside s 3) (λ e. not_in (in-inside s 3 e h)))

pub nothing-mirrored : (s : SignSet) → positive In s → (strict : Bool) → pair_mirrored s strict ≡ 7
unfolding pair_mirrored open_signs
nothing-mirrored s h strict = ap mirror (nothing-found (mirror s) (in-mirror h) strict)

-- both are found from by no test
pub mixed-tried : (s t : SignSet) → negative In s → positive In s → negative In t → positive In t → (a b strict : Bool) → tried a b s strict
    ≡ tried a b t strict
unfolding tried
mixed-tried s t f g h k a b strict = by a b
  where
    by : (a b : Bool) → tried a b s strict ≡ tried a b t strict
    by true true = ap₂ (λ (x y : SignSet). intersect x y ∷ []) (nothing-found s f strict ∙ sym (nothing-found t h strict))
        (nothing-mirrored s g strict ∙ sym (nothing-mirrored t k strict))
    by true false = ap (λ (x : SignSet). x ∷ []) (nothing-found s f strict ∙ sym (nothing-found t h strict))
    by false true = ap (λ (x : SignSet). x ∷ []) (nothing-mirrored s g strict ∙ sym (nothing-mirrored t k strict))
    by false false = refl
