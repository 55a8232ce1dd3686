-- Laws of the truth values that the other laws share: and, or, not, and when one truth value stands for another.
-- The kit's own laws are passed on beside them, so that all are found here.
use Rattle.std.specs.Prelude.{◌≡◌, refl, Bool, true, false, not, ◌&&◌, ◌||◌, ◌↔◌}
use Rattle.std.proofs.Common.{sym, ◌∙◌, true≢false}
use Rattle.std.proofs.lemmas.Bool.{false≢true}
pub use Rattle.std.proofs.Math.Bool.{and-true, and-false, or-true, or-false, not-not}
pub use Rattle.std.proofs.lemmas.Bool.{not-true}

-- ---- Equations.

-- An "and" of three is bracketed either way.
pub and_assoc : (a b c : Bool) → a && (b && c) ≡ (a && b) && c
and_assoc true b c = refl
and_assoc false b c = refl

-- Its first two parts may change places.
pub and-swap : (a b c : Bool) → a && (b && c) ≡ b && (a && c)
and-swap true b c = refl
and-swap false true c = refl
and-swap false false c = refl

-- And so may the middle two of four.
pub and-four : (a b c d : Bool) → (a && b) && (c && d) ≡ (a && c) && (b && d)
and-four true b c d = and-swap b c d
and-four false b c d = refl

-- "Not both" is "not the one or not the other".
pub not-and : (a b : Bool) → not (a && b) ≡ not a || not b
not-and true b = refl
not-and false b = refl

-- "Not one of them" is "not the one and not the other".
pub not-or : (a b : Bool) → not (a || b) ≡ not a && not b
not-or true b = refl
not-or false b = refl

-- Two truth values are equal if each holds where the other does.
pub both_ways : (a b : Bool) → (a ≡ true → b ≡ true) → (b ≡ true → a ≡ true) → a ≡ b
both_ways true b to back = sym (to refl)
both_ways false true to back = back refl
both_ways false false to back = refl

-- Beside a, two truth values that are equal where a holds may stand for one another.
pub and-under : (a x y : Bool) → (a ≡ true → x ≡ y) → a && x ≡ a && y
and-under true x y h = h refl
and-under false x y h = refl

-- ---- What holds.

-- Both of two that hold.
pub and_intro : {a b : Bool} → a ≡ true → b ≡ true → a && b ≡ true
and_intro p q = rw (p, q)

-- And back, the first of them.
pub and_first : (a b : Bool) → a && b ≡ true → a ≡ true
and_first true b e = refl
and_first false b e = e

-- And the second.
pub and_second : (a b : Bool) → a && b ≡ true → b ≡ true
and_second true b e = e
and_second false b e = absurd (false≢true e)

-- One of two, if the first holds.
pub or-first : {a : Bool} (b : Bool) → a ≡ true → a || b ≡ true
or-first b p = rw p

-- If the second holds.
pub or-second : (a : Bool) {b : Bool} → b ≡ true → a || b ≡ true
or-second true p = refl
or-second false p = p

-- And back, by cases.
pub or_cases : {X : Type 0} (a b : Bool) → a || b ≡ true → (a ≡ true → X) → (b ≡ true → X) → X
or_cases true b e f g = f refl
or_cases false b e f g = g e

-- Of two others that hold where these do, one holds too.
pub or-keeps : (a b x y : Bool) → (a ≡ true → x ≡ true) → (b ≡ true → y ≡ true) → a || b ≡ true → x || y ≡ true
or-keeps a b x y f g e = or_cases a b e (λ p. or-first y (f p)) (λ q. or-second x (g q))

-- ---- What does not hold.

-- What never holds is false.
pub never_true : (a : Bool) → (a ≡ true → ⊥) → a ≡ false
never_true true h = absurd (h refl)
never_true false h = refl

-- Nothing is both true and false.
pub never_both : {X : Type 0} {a : Bool} → a ≡ true → a ≡ false → X
never_both p q = absurd (true≢false (sym p ∙ q))

-- An "or" is false exactly if neither of the two holds.
pub neither : (a b : Bool) → (a || b ≡ false) ↔ ((a ≡ false) × (b ≡ false))
neither true b = (λ e. absurd (true≢false e), λ (e, f). e)
neither false b = (λ e. (refl, e), λ (e, f). f)
