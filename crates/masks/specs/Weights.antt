-- Each monomial has a weight, a bit of a word, for either sign that it can have; a polynomial has one word for its parts that can be negative, and
-- one for those that can be positive. If a set by terms lies inside ≥, the negative word's bits are among the positive one's: law `passing`.
use Rattle.std.specs.Prelude.{◌≡◌, Bool, not, cond, [], ◌∷◌, ◌++◌, ℕ, ◌+◌, ◌%◌, ◌^◌, eqb, ℤ, pos, ◌+ℤ◌, ◌*ℤ◌}
use Rattle.std.proofs.Math.Path.{refl}
use Rattle.std.proofs.Common.{sym, ap, ap₂, ◌∙◌, subst, eqb-true, eq-eqb}
use Rattle.std.proofs.Math.Bool.{true, false}
use Rattle.std.proofs.lemmas.Bool.{false≢true}
use mathlib.Core.List.Memᴰ.{head as here}
use mathlib.Core.List.Memᴰ.{tail as later}
use mathlib.Core.List.{Memᴰ as Member}
use Rattle.std.specs.Int.Bits.{bit_or}
use Rattle.std.proofs.Math.IntN.{one, +ℤ_idl, +ℤ_assoc, *ℤ-one, *ℤ-zero}
use Rattle.rules.specs.Signs.{Sign, negative, nought, positive, sign_of, SignSet, Kind, named, kind, only, has, sum, product_of_signs, complement}
use Rattle.rules.specs.Signs.{mirror_of_sign, inside, open_signs}
use Rattle.rules.specs.Polynomial.{Term, Polynomial, Board, monomial_sign, by_terms, each_coefficient}
use Rattle.rules.specs.TwoAtoms.{plus_times}
use Rattle.rules.specs.Meaning.{value_by}
use Rattle.whole.specs.Differences.{*ℤ-assoc, *ℤ-+ℤ}
use Rattle.sign_laws.specs.Booleans.{never_true, never_both}
use Rattle.sign_laws.specs.Lists.{Every}
use Rattle.sign_laws.specs.Sets.{◌In◌, only_one, has-complement}
use Rattle.sign_laws.specs.Whole.{◌∈◌, ∈-sum, ∈-own, sign-product, by_sign, by_equal, wider}
use Rattle.deduction_laws.specs.FractionSets.{Side, L, U, asked}
use Rattle.deduction_laws.specs.Deduction.{turned}
use Rattle.removal_laws.specs.Terms.{Signed}
use Rattle.removal_laws.specs.Kinds.{only-if, by-check, each-kind, name-part}
use Rattle.removal_laws.specs.AskedTerms.{coefficient_at, one_at, try-asks}
use Rattle.masks.specs.Words.{or-three, ◌Among◌, none_among, among-itself, among_first, among_second, both-among}

-- The weight of a monomial where it has a sign. No law asks which bit it is.
unfoldable pub weight_of : Sign → ℕ → ℕ
weight_of positive m = 2 ^ (m % 125 % 64)
weight_of nought m = 0
weight_of negative m = 2 ^ ((m % 125 + 22) % 64)

unfoldable pub when : Bool → ℕ → ℕ
when true w = w
when false w = 0

-- What a term adds to the word of the sign z: by x, the sign of its coefficient, and the set of its monomial m. It has the sign z where x times the
-- monomial's sign is z.
unfoldable pub weigh : Sign → Sign → ℕ → SignSet → ℕ
weigh z x m s = when (has (product_of_signs x z) s) (weight_of (product_of_signs x z) m)

unfoldable pub word : Sign → Board → Polynomial → ℕ
word z board [] = 0
word z board (t ∷ ts) = bit_or (weigh z (sign_of t.coefficient) t.monomial (monomial_sign board t.monomial)) (word z board ts)

-- ---- The word has what its terms add, and no more.

abbrev weighed : Sign → Board → Term → ℕ
weighed z board t = weigh z (sign_of t.coefficient) t.monomial (monomial_sign board t.monomial)

word_holds : (z : Sign) (board : Board) {t : Term} {p : Polynomial} → Member t p → weighed z board t Among word z board p
unfolding word
word_holds z board {t} (here {x = x} {xs = ts} e) = among_first (word z board ts)
    (subst (λ (x : Term). weighed z board t Among weighed z board x) e (among-itself (weighed z board t)))
word_holds z board (later {x = x} h) = among_second (weighed z board x) (word_holds z board h)

word-least : (z : Sign) (board : Board) (a : ℕ) (p : Polynomial) → ((t : Term) → Member t p → weighed z board t Among a) → word z board p Among a
unfolding word
word-least z board a [] each = none_among a
word-least z board a (t ∷ ts) each = both-among (each t (here refl)) (word-least z board a ts (λ u h. each u (later h)))

-- ---- The coefficient of a monomial, by the signs of the terms that have it.

-- The term has another monomial, or a coefficient of another sign.
record Other (x : Sign) (m : ℕ) (t : Term) : Type 0 where
  pub other : t.monomial ≡ m → sign_of t.coefficient ≡ x → ⊥

-- The two signs that a coefficient has.
data Outer : Sign → Type 0 where
  below : Outer negative
  above : Outer positive

outer-mirror : {x : Sign} → Outer x → Outer (mirror_of_sign x)
unfolding mirror_of_sign
outer-mirror below = above
outer-mirror above = below

no_such : (s x : Sign) → (s ≡ x → ⊥) → s In complement (only x)
no_such s x f = record { is = has-complement s (only x) ∙ ap not (never_true (has s (only x)) (λ e. f (only_one (record { is = e })))) }

zero-there : {x : Sign} → Outer x → pos 0 ∈ complement (only x)
unfolding open_signs
zero-there below = by_sign nought refl refl
zero-there above = by_sign nought refl refl

weak-sum : {x : Sign} → Outer x → inside (sum (complement (only x)) (complement (only x))) (complement (only x)) ≡ true
unfolding open_signs
weak-sum below = refl
weak-sum above = refl

strict-first : {x : Sign} → Outer x → inside (sum (only x) (complement (only (mirror_of_sign x)))) (only x) ≡ true
unfolding open_signs
strict-first below = refl
strict-first above = refl

strict-second : {x : Sign} → Outer x → inside (sum (complement (only (mirror_of_sign x))) (only x)) (only x) ≡ true
unfolding open_signs
strict-second below = refl
strict-second above = refl

-- one term's part of it
weak-part : {x : Sign} → Outer x → (m : ℕ) (t : Term) → Other x m t → t.coefficient *ℤ one_at m t.monomial ∈ complement (only x)
unfolding one
weak-part {x} o m t f = by (eqb t.monomial m) refl
  where
    by : (b : Bool) → eqb t.monomial m ≡ b → t.coefficient *ℤ cond b (pos 1) (pos 0) ∈ complement (only x)
    by true e = by_equal (*ℤ-one t.coefficient) (record { sign = no_such (sign_of t.coefficient) x (f.other (eqb-true t.monomial m e)) })
    by false e = by_equal (*ℤ-zero t.coefficient) (zero-there o)

weak-coefficient : {x : Sign} → Outer x → (m : ℕ) (p : Polynomial) → ((t : Term) → Member t p → Other x m t) → coefficient_at m p ∈ complement (only x)
unfolding value_by
weak-coefficient o m [] each = zero-there o
weak-coefficient o m (t ∷ ts) each = wider (∈-sum (weak-part o m t (each t (here refl))) (weak-coefficient o m ts (λ u h. each u (later h))))
    (weak-sum o)

-- a term has the one sign, and none has the mirrored one
strict-coefficient : {x : Sign} → Outer x → (t : Term) → sign_of t.coefficient ≡ x → (p : Polynomial) → Member t p
    → ((u : Term) → Member u p → Other (mirror_of_sign x) t.monomial u) → coefficient_at t.monomial p ∈ only x
unfolding value_by one
strict-coefficient {x = x} o t e [] x3 each = elim x3 [ ]
strict-coefficient {x} o t e (u ∷ us) (here f) each = wider (∈-sum
    (subst (λ (u : Term). u.coefficient *ℤ one_at t.monomial u.monomial ∈ only x) f
    (by_equal (ap (λ (b : Bool). t.coefficient *ℤ cond b (pos 1) (pos 0)) (eq-eqb t.monomial t.monomial refl) ∙ *ℤ-one t.coefficient)
    (subst (λ (y : Sign). t.coefficient ∈ only y) e (∈-own t.coefficient))))
    (weak-coefficient (outer-mirror o) t.monomial us (λ v h. each v (later h)))) (strict-first o)
strict-coefficient o t e (u ∷ us) (later h) each = wider (∈-sum (weak-part (outer-mirror o) t.monomial u (each u (here refl)))
    (strict-coefficient o t e us h (λ v k. each v (later k)))) (strict-second o)

-- ---- What is asked of a coefficient.

-- The sign that no part may have, for a set by terms inside ≥ (≤).
abbrev pub against : Side → Sign
against L = negative
against U = positive

not-asked : (side : Side) {x : Sign} → Outer x → (k : Kind) → has (product_of_signs x (against side)) (named k) ≡ true
    → has x (named (asked side k)) ≡ true → ⊥
unfolding open_signs
not-asked side {x} o k h e = false≢true
    (sym (ap not e) ∙ by-check (has (product_of_signs x (against side)) (named k)) (not (has x (named (asked side k)))) (check side o) h)
  where
    test : Side → Sign → Kind → Bool
    test side x k = only-if (has (product_of_signs x (against side)) (named k)) (not (has x (named (asked side k))))

    check : (side : Side) {x : Sign} → Outer x → test side x k ≡ true
    check L below = each-kind (test L negative) refl k
    check L above = each-kind (test L positive) refl k
    check U below = each-kind (test U negative) refl k
    check U above = each-kind (test U positive) refl k

mirrored-both : (x z : Sign) → product_of_signs (mirror_of_sign x) (mirror_of_sign z) ≡ product_of_signs x z
unfolding open_signs
mirrored-both negative negative = refl
mirrored-both negative nought = refl
mirrored-both negative positive = refl
mirrored-both nought negative = refl
mirrored-both nought nought = refl
mirrored-both nought positive = refl
mirrored-both positive negative = refl
mirrored-both positive nought = refl
mirrored-both positive positive = refl

-- A term whose coefficient has the mirrored sign adds the same weight to the other word.
opposite : (z x : Sign) (board : Board) (t : Term) → sign_of t.coefficient ≡ mirror_of_sign x
    → has (product_of_signs x z) (monomial_sign board t.monomial) ≡ true
    → weighed (mirror_of_sign z) board t ≡ weight_of (product_of_signs x z) t.monomial
unfolding weigh when
opposite z x board t e h = rw (e, mirrored-both x z, h)

-- A polynomial whose coefficients are as asked: each part against it has one for it, of the same monomial and of the same sign of that.
module _ (side : Side) (board : Board) (p : Polynomial) (asks : (m : ℕ) → coefficient_at m p ∈ named (asked side (kind (monomial_sign board m)))) where
  abbrev other_word : ℕ
  other_word = word (mirror_of_sign (against side)) board p

  no_part : (t : Term) → Member t p → {x : Sign} → Outer x → sign_of t.coefficient ≡ x
      → has (product_of_signs x (against side)) (monomial_sign board t.monomial) ≡ true
      → (weight_of (product_of_signs x (against side)) t.monomial Among other_word → ⊥) → ⊥
  no_part t h {x} o e there none =
      let z = against side in
      let m = t.monomial in
      let others : (u : Term) → Member u p → Other (mirror_of_sign x) m u = λ u k. record {
        other = λ same f. none (subst (λ (n : ℕ). weight_of (product_of_signs x z) n Among other_word) same
            (subst (λ (w : ℕ). w Among other_word)
            (opposite z x board u f (ap (λ (n : ℕ). has (product_of_signs x z) (monomial_sign board n)) same ∙ there))
            (word_holds (mirror_of_sign z) board k)));
      } in
      let k = kind (monomial_sign board m) in
      not-asked side o k ((name-part (monomial_sign board m)).each (product_of_signs x z) (record { is = there })).is
      (subst (λ (y : Sign). has y (named (asked side k)) ≡ true) (only_one (strict-coefficient o t e p h others).sign) (asks m).sign.is)

  part : (t : Term) → Member t p → {x : Sign} → Outer x → sign_of t.coefficient ≡ x
      → weigh (against side) x t.monomial (monomial_sign board t.monomial) Among other_word
  unfolding weigh when
  part t h {x} o e = by (has y (monomial_sign board t.monomial)) refl
    where
      y : Sign
      y = product_of_signs x (against side)

      w : ℕ
      w = weight_of y t.monomial

      among : (b : Bool) → eqb (bit_or w other_word) other_word ≡ b → has y (monomial_sign board t.monomial) ≡ true → w Among other_word
      among true d f = record { is = eqb-true (bit_or w other_word) other_word d }
      among false d f = absurd (no_part t h o e f (λ k. never_both (eq-eqb (bit_or w other_word) other_word k.is) d))

      by : (b : Bool) → has y (monomial_sign board t.monomial) ≡ b → when b w Among other_word
      by true f = among (eqb (bit_or w other_word) other_word) refl f
      by false f = none_among other_word

  no-weight : (m : ℕ) (s : SignSet) → weigh (against side) nought m s ≡ 0
  unfolding weigh when weight_of open_signs
  no-weight m s = elim side as (λ (at : Side). weigh (against at) nought m s ≡ 0) [ L ↦ by (has nought s) | U ↦ by (has nought s) ]
    where
      by : (b : Bool) → when b 0 ≡ 0
      by true = refl
      by false = refl

  pub each-among : word (against side) board p Among other_word
  each-among = word-least (against side) board other_word p (λ t h. by t h (sign_of t.coefficient) refl)
    where
      by : (t : Term) → Member t p → (x : Sign) → sign_of t.coefficient ≡ x
          → weigh (against side) x t.monomial (monomial_sign board t.monomial) Among other_word
      by t h negative e = part t h below e
      by t h nought e = subst (λ (w : ℕ). w Among other_word) (sym (no-weight t.monomial (monomial_sign board t.monomial)))
          (none_among other_word)
      by t h positive e = part t h above e

-- ---- The words of a sum and of a multiple.

-- u·q, term by term.
abbrev pub times : ℤ → Polynomial → Polynomial
times u q = each_coefficient (λ (c : ℤ). u *ℤ c) q

-- p + u·q1 + v·q2, like monomials not combined.
abbrev pub together : Polynomial → ℤ → Polynomial → ℤ → Polynomial → Polynomial
together p u q1 v q2 = (p ++ times u q1) ++ times v q2

pub word_sum : (z : Sign) (board : Board) (p q : Polynomial) → word z board (p ++ q) ≡ bit_or (word z board p) (word z board q)
unfolding word
word_sum z board [] q = refl
word_sum z board (t ∷ ts) q = ap (bit_or (weighed z board t)) (word_sum z board ts q) ∙ sym
    (or-three (weighed z board t) (word z board ts) (word z board q))

turned-about : (u c z : Sign) → product_of_signs (product_of_signs u c) z ≡ product_of_signs c (product_of_signs u z)
unfolding product_of_signs
turned-about negative negative negative = refl
turned-about negative negative nought = refl
turned-about negative negative positive = refl
turned-about negative nought negative = refl
turned-about negative nought nought = refl
turned-about negative nought positive = refl
turned-about negative positive negative = refl
turned-about negative positive nought = refl
turned-about negative positive positive = refl
turned-about nought negative negative = refl
turned-about nought negative nought = refl
turned-about nought negative positive = refl
turned-about nought nought negative = refl
turned-about nought nought nought = refl
turned-about nought nought positive = refl
turned-about nought positive negative = refl
turned-about nought positive nought = refl
turned-about nought positive positive = refl
turned-about positive negative negative = refl
turned-about positive negative nought = refl
turned-about positive negative positive = refl
turned-about positive nought negative = refl
turned-about positive nought nought = refl
turned-about positive nought positive = refl
turned-about positive positive negative = refl
turned-about positive positive nought = refl
turned-about positive positive positive = refl

weigh-times : (z : Sign) (u c : ℤ) (m : ℕ) (s : SignSet) → weigh z (sign_of (u *ℤ c)) m s ≡ weigh (product_of_signs (sign_of u) z) (sign_of c) m s
unfolding weigh
weigh-times z u c m s =
    let e : product_of_signs (sign_of (u *ℤ c)) z ≡ product_of_signs (sign_of c) (product_of_signs (sign_of u) z) =
    ap (λ (x : Sign). product_of_signs x z) (sign-product u c) ∙ turned-about (sign_of u) (sign_of c) z in
    ap (λ (y : Sign). when (has y s) (weight_of y m)) e

pub word-times : (z : Sign) (board : Board) (u : ℤ) (q : Polynomial) → word z board (times u q) ≡ word (product_of_signs (sign_of u) z) board q
unfolding word each_coefficient
word-times z board u [] = refl
word-times z board u (t ∷ ts) = ap₂ bit_or (weigh-times z u t.coefficient t.monomial (monomial_sign board t.monomial))
    (word-times z board u ts)

-- ---- Their coefficients.

value-sum : (v : ℕ → ℤ) (p q : Polynomial) → value_by v (p ++ q) ≡ value_by v p +ℤ value_by v q
unfolding value_by
value-sum v [] q = sym (+ℤ_idl (value_by v q))
value-sum v (t ∷ ts) q =
    ap (λ (z : ℤ). t.coefficient *ℤ v t.monomial +ℤ z) (value-sum v ts q)
    ∙ sym (+ℤ_assoc (t.coefficient *ℤ v t.monomial) (value_by v ts) (value_by v q))

value-times : (v : ℕ → ℤ) (u : ℤ) (q : Polynomial) → value_by v (times u q) ≡ u *ℤ value_by v q
unfolding value_by each_coefficient
value-times v u [] = sym (*ℤ-zero u)
value-times v u (t ∷ ts) =
    ap₂ ◌+ℤ◌ (*ℤ-assoc u t.coefficient (v t.monomial)) (value-times v u ts)
    ∙ sym (*ℤ-+ℤ u (t.coefficient *ℤ v t.monomial) (value_by v ts))

value-together : (v : ℕ → ℤ) (p : Polynomial) (a : ℤ) (q1 : Polynomial) (b : ℤ) (q2 : Polynomial)
    → value_by v (together p a q1 b q2) ≡ value_by v p +ℤ a *ℤ value_by v q1 +ℤ b *ℤ value_by v q2
value-together v p a q1 b q2 =
    value-sum v (p ++ times a q1) (times b q2)
    ∙ ap₂ ◌+ℤ◌ (value-sum v p (times a q1) ∙ ap (λ (z : ℤ). value_by v p +ℤ z) (value-times v a q1)) (value-times v b q2)

-- ---- The law.

-- If the set by terms of p + u·q1 + v·q2 lies inside ≥ (≤), the bits of its negative (positive) word are among those of the other one.
pub passing : (side : Side) {board : Board} → Every Signed board → (p q1 q2 : Polynomial) (u v : ℤ)
    → inside (by_terms board (plus_times (plus_times p u q1) v q2)) (turned side 3) ≡ true
    → word (against side) board (together p u q1 v q2) Among word (mirror_of_sign (against side)) board (together p u q1 v q2)
passing side {board} signed p q1 q2 u v e = each-among side board (together p u q1 v q2)
    (λ m. by_equal (value-together (one_at m) p u q1 v q2) (try-asks side signed p q1 q2 u v e m))
