-- What a sign set holds: each operation on sets, by the signs that the result has.
-- `sign In set` is a record, so that its two sides can be left implicit.
use Rattle.std.specs.Prelude.{◌≡◌, refl, Bool, true, false, not, ◌&&◌, ◌||◌, ℕ, zero, suc, ◌/◌, ◌%◌, ◌<◌, eqb}
use Rattle.std.proofs.Common.{sym, ap, ◌∙◌, subst, arith, eqb-true}
use Rattle.std.proofs.lemmas.Bool.{false≢true}
use Rattle.rules.specs.Signs.{Sign, negative, nought, positive, SignSet, empty, full, only, has, bit, set_of, some_sign, all_signs, product_of_signs, square}
use Rattle.rules.specs.Signs.{complement, mirror_of_sign, mirror, intersect, inside}
use Rattle.sign_laws.specs.Booleans.{both_ways, and_intro, and_first, and_second, or-first, or-second, or_cases, never_true}

-- The sign is in the set.
infix 4 ◌In◌
pub record ◌In◌ (x : Sign) (a : SignSet) : Type 0 where
  pub is : has x a ≡ true

-- ---- The signs of a set by its three bits.

-- A bit is 0 or 1.
pub bit_below : (b : Bool) → bit b < 2
unfolding bit
bit_below true = omega arith
bit_below false = omega arith

bit-back : (b : Bool) → eqb (bit b) 1 ≡ b
unfolding bit
bit-back true = refl
bit-back false = refl

number-back : (n : ℕ) → n < 2 → bit (eqb n 1) ≡ n
unfolding bit
number-back zero small = refl
number-back (suc zero) small = refl
number-back (suc (suc n)) small = absurd (omega arith)

has-bit : (s : Sign) (a : SignSet) → bit (has s a) ≡ a / only s % 2
unfolding has
has-bit s a = number-back (a / only s % 2) (omega arith)

digit : (f : Sign → Bool) (s : Sign) → set_of f / only s % 2 ≡ bit (f s)
unfolding set_of only
digit f negative = omega (arith, bit_below (f negative), bit_below (f nought), bit_below (f positive))
digit f nought = omega (arith, bit_below (f negative), bit_below (f nought), bit_below (f positive))
digit f positive = omega (arith, bit_below (f negative), bit_below (f nought), bit_below (f positive))

-- The set of the signs that pass a test has just these.
pub has-set_of : (f : Sign → Bool) (s : Sign) → has s (set_of f) ≡ f s
unfolding has
has-set_of f s = ap (λ (n : ℕ). eqb n 1) (digit f s) ∙ bit-back (f s)

-- A set that is made by a test is one of the eight.
pub set_of-small : (f : Sign → Bool) → set_of f < 8
unfolding set_of
set_of-small f = omega (arith, bit_below (f negative), bit_below (f nought), bit_below (f positive))

-- Each of the eight is the set of its signs.
pub set_of-has : (a : SignSet) → a < 8 → set_of (λ s. has s a) ≡ a
unfolding set_of only
set_of-has a h = omega (arith, has-bit negative a, has-bit nought a, has-bit positive a)

-- ---- Some sign passes a test.

-- A sign that passes is some sign.
pub some-sign : (f : Sign → Bool) (x : Sign) → f x ≡ true → some_sign f ≡ true
unfolding some_sign
some-sign f negative h = or-first (f positive) (or-first (f nought) h)
some-sign f nought h = or-first (f positive) (or-second (f negative) h)
some-sign f positive h = or-second (f negative || f nought) h

-- And back: what follows from each sign that passes follows if some sign does.
pub a-sign : {X : Type 0} (f : Sign → Bool) → some_sign f ≡ true → ((x : Sign) → f x ≡ true → X) → X
unfolding some_sign
a-sign f h found = or_cases (f negative || f nought) (f positive) h
    (λ k. or_cases (f negative) (f nought) k (found negative) (found nought)) (found positive)

-- ---- The full and the empty set, and the set of one sign.

-- The full set has every sign.
pub in-full : (x : Sign) → x In full
unfolding has only
in-full negative = record { is = refl }
in-full nought = record { is = refl }
in-full positive = record { is = refl }

-- The empty set has none.
pub in-empty : {X : Type 0} {x : Sign} → x In empty → X
unfolding has only
in-empty {x = negative} h = absurd (false≢true h.is)
in-empty {x = nought} h = absurd (false≢true h.is)
in-empty {x = positive} h = absurd (false≢true h.is)

-- A set that has a sign is not the empty one.
pub not_empty : {x : Sign} (a : SignSet) → x In a → eqb a empty ≡ false
not_empty {x} a h = never_true (eqb a empty) (λ e. in-empty {x = x} (subst (λ (b : SignSet). x In b) (eqb-true a empty e) h))

-- The set of one sign has that sign.
pub in-only : (x : Sign) → x In only x
unfolding has only
in-only negative = record { is = refl }
in-only nought = record { is = refl }
in-only positive = record { is = refl }

-- And no other.
pub only_one : {x y : Sign} → x In only y → x ≡ y
unfolding has only
only_one {x = negative} {y = negative} h = refl
only_one {x = negative} {y = nought} h = absurd (false≢true h.is)
only_one {x = negative} {y = positive} h = absurd (false≢true h.is)
only_one {x = nought} {y = negative} h = absurd (false≢true h.is)
only_one {x = nought} {y = nought} h = refl
only_one {x = nought} {y = positive} h = absurd (false≢true h.is)
only_one {x = positive} {y = negative} h = absurd (false≢true h.is)
only_one {x = positive} {y = nought} h = absurd (false≢true h.is)
only_one {x = positive} {y = positive} h = refl

-- ---- Intersection, parts of a set, and "lies inside".

-- An intersection has the signs that both sets have.
pub has-intersect : (s : Sign) (a b : SignSet) → has s (intersect a b) ≡ has s a && has s b
unfolding intersect
has-intersect s a b = has-set_of (λ x. has x a && has x b) s

-- It is one of the eight.
pub intersect-below : (a b : SignSet) → intersect a b < 8
unfolding intersect
intersect-below a b = set_of-small (λ x. has x a && has x b)

-- A sign of both sets is one of the intersection.
pub in-intersect : {x : Sign} {a b : SignSet} → x In a → x In b → x In intersect a b
in-intersect {x} {a} {b} p q = record { is = has-intersect x a b ∙ and_intro p.is q.is }

-- A sign of the intersection is one of the first set.
pub in_left : {x : Sign} (a b : SignSet) → x In intersect a b → x In a
in_left {x} a b h = record { is = and_first (has x a) (has x b) (sym (has-intersect x a b) ∙ h.is) }

-- And of the second.
pub in_right : {x : Sign} (a b : SignSet) → x In intersect a b → x In b
in_right {x} a b h = record { is = and_second (has x a) (has x b) (sym (has-intersect x a b) ∙ h.is) }

-- Each sign of the one set is a sign of the other.
pub record PartOf (b a : SignSet) : Type 0 where
  pub each : (x : Sign) → x In b → x In a

-- A set is a part of itself.
pub part-refl : (a : SignSet) → PartOf a a
part-refl a = record { each = λ x h. h }

-- A part of a part is a part.
pub part-trans : {a b c : SignSet} → PartOf c b → PartOf b a → PartOf c a
part-trans p q = record { each = λ x h. q.each x (p.each x h) }

-- Two sets below 8 that are parts of each other are equal.
pub parts-equal : {a b : SignSet} → a < 8 → b < 8 → PartOf a b → PartOf b a → a ≡ b
unfolding set_of
parts-equal {a} {b} h k p q = sym (set_of-has a h) ∙ rw (same negative, same nought, same positive) (set_of-has b k)
  where
    same : (x : Sign) → has x a ≡ has x b
    same x = both_ways (has x a) (has x b) (λ e. (p.each x (record { is = e })).is) (λ e. (q.each x (record { is = e })).is)

-- An intersection is a part of the first set.
pub intersect-first : (a b : SignSet) → PartOf (intersect a b) a
intersect-first a b = record { each = λ x h. in_left a b h }

-- And of the second.
pub intersect-second : (a b : SignSet) → PartOf (intersect a b) b
intersect-second a b = record { each = λ x h. in_right a b h }

-- What lies inside a set has only signs of it.
pub in-inside : {x : Sign} (a b : SignSet) → inside a b ≡ true → x In a → x In b
unfolding inside
in-inside {x} a b e h = in_right a b (record { is = ap (has x) (eqb-true (intersect a b) a e) ∙ h.is })

-- ---- Complement and mirror.

-- The complement has the signs that the set has not.
pub has-complement : (s : Sign) (a : SignSet) → has s (complement a) ≡ not (has s a)
unfolding complement
has-complement s a = has-set_of (λ x. not (has x a)) s

-- It is one of the eight.
pub complement-below : (a : SignSet) → complement a < 8
unfolding complement
complement-below a = set_of-small (λ x. not (has x a))

-- The mirror has the mirrored signs.
pub has-mirror : (s : Sign) (a : SignSet) → has s (mirror a) ≡ has (mirror_of_sign s) a
unfolding mirror
has-mirror s a = has-set_of (λ x. has (mirror_of_sign x) a) s

-- It is one of the eight.
pub mirror-below : (a : SignSet) → mirror a < 8
unfolding mirror
mirror-below a = set_of-small (λ x. has (mirror_of_sign x) a)

-- To mirror twice changes nothing.
pub mirror-twice : (s : Sign) → mirror_of_sign (mirror_of_sign s) ≡ s
unfolding mirror_of_sign
mirror-twice negative = refl
mirror-twice nought = refl
mirror-twice positive = refl

-- The mirror of a sign is in the mirror of its set.
pub in-mirror : {x : Sign} {a : SignSet} → x In a → mirror_of_sign x In mirror a
in-mirror {x} {a} h = record { is = has-mirror (mirror_of_sign x) a ∙ ap (λ (s : Sign). has s a) (mirror-twice x) ∙ h.is }

-- ---- Sums, products and squares.

-- What f gives for signs of two sets is in the set of all that it gives.
pub in_all : (f : Sign → Sign → SignSet) {a b : SignSet} {x y s : Sign} → x In a → y In b → s In f x y → s In all_signs f a b
unfolding all_signs
in_all f {a} {b} {x} {y} {s} p q r = record {
  is = has-set_of (λ s. some_sign (λ x. has x a && some_sign (λ y. has y b && has s (f x y)))) s
      ∙ some-sign (λ x. has x a && some_sign (λ y. has y b && has s (f x y))) x
      (and_intro p.is (some-sign (λ y. has y b && has s (f x y)) y (and_intro q.is r.is)));
}

-- And back: each sign of the result comes from a sign of each set.
pub from_all : {X : Type 0} (f : Sign → Sign → SignSet) (a b : SignSet) {s : Sign} → s In all_signs f a b
    → ((x y : Sign) → x In a → y In b → s In f x y → X) → X
unfolding all_signs
from_all f a b {s} h found = a-sign (λ x. has x a && some_sign (λ y. has y b && has s (f x y)))
    (sym (has-set_of (λ s. some_sign (λ x. has x a && some_sign (λ y. has y b && has s (f x y)))) s) ∙ h.is)
    (λ x e. a-sign (λ y. has y b && has s (f x y)) (and_second (has x a) (some_sign (λ y. has y b && has s (f x y))) e)
    (λ y g. found x y (record { is = and_first (has x a) (some_sign (λ y. has y b && has s (f x y))) e })
    (record { is = and_first (has y b) (has s (f x y)) g }) (record { is = and_second (has y b) (has s (f x y)) g })))

-- The square of a sign is in the square of its set.
pub in-square : {x : Sign} {a : SignSet} → x In a → product_of_signs x x In square a
unfolding square
in-square {x} {a} p = record {
  is = has-set_of (λ s. some_sign (λ x. has x a && has s (only (product_of_signs x x)))) (product_of_signs x x)
      ∙ some-sign (λ y. has y a && has (product_of_signs x x) (only (product_of_signs y y))) x (and_intro p.is (in-only (product_of_signs x x)).is);
}

-- And back: each sign of a square is the square of a sign of the set.
pub from-square : {X : Type 0} (a : SignSet) {s : Sign} → s In square a → ((x : Sign) → x In a → s ≡ product_of_signs x x → X) → X
unfolding square
from-square a {s} h found = a-sign (λ x. has x a && has s (only (product_of_signs x x)))
    (sym (has-set_of (λ s. some_sign (λ x. has x a && has s (only (product_of_signs x x)))) s) ∙ h.is)
    (λ x e. found x (record { is = and_first (has x a) (has s (only (product_of_signs x x))) e })
    (only_one (record { is = and_second (has x a) (has s (only (product_of_signs x x))) e })))
