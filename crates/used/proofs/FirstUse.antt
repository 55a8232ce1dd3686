-- Laws of the order of first use: a slot's number in an order, an order with one slot more, and the order of many slots.
-- They speak of numbers alone; which forms stand in the slots is no matter here.
use mathlib.Core.Path.{◌≡◌, refl, ap, ◌∙◌}
use mathlib.Core.Bool.{Bool, true, false, ◌||◌, false≢true, true≢false}
use mathlib.Core.List.{List, [], ◌∷◌, ◌++◌}
use Prim.Native.Nat.{ℕ, suc, ◌<◌, ◌≤◌}
use native.Mathlib.Decide.{ℕ_discrete}
use native.Mathlib.Omega.{arith}
use lib.Dec.{eqb}
use lib.ListN.{length, get_or, set, length-set}
use lib.Seq.{get_or-set_same, get_or-set_other}
use borrow.Author.Tests.{eq-eqb, ne_eqb}
use Rattle.rules.specs.Answer.{here_or}
use Rattle.sign_laws.specs.Booleans.{or-first, or-second, or_cases}
use Rattle.sign_laws.specs.Lists.{Every, every_none, every, every_append}
use Rattle.used.specs.FirstUse.{listed, listed_unless, first_uses, place_in, place_if, number_of, Numbers}

-- ---- The number of a slot.

-- A listed slot's place is within the order.
place-below : (order : List ℕ) (slot : ℕ) → listed order slot ≡ true → place_in order slot < length order
unfolding listed place_in here_or
place-below [] slot e = absurd (false≢true e)
place-below (first ∷ order) slot e = by-test (eqb slot first) e (place-below order slot)
  where
    by-test : (b : Bool) → b || listed order slot ≡ true → (listed order slot ≡ true → place_in order slot < length order)
        → here_or b (suc (place_in order slot)) < suc (length order)
    by-test true e later = omega arith
    by-test false e later = omega (arith, later e)

-- A slot is numbered 64 exactly if it is not listed, as long as the order has at most 64 slots.
pub new-slot : (order : List ℕ) (slot : ℕ) → length order ≤ 64 → number_of order slot ≡ 64 → listed order slot ≡ false
unfolding number_of place_if
new-slot order slot few e = by-test (listed order slot) refl e
  where
    by-test : (b : Bool) → listed order slot ≡ b → place_if b (place_in order slot) ≡ 64 → b ≡ false
    by-test true l e = absurd (omega (arith, place-below order slot l))
    by-test false l e = refl

-- A slot with another number is listed.
pub known_slot : (order : List ℕ) (slot : ℕ) → (number_of order slot ≡ 64 → ⊥) → listed order slot ≡ true
unfolding number_of place_if
known_slot order slot e = by-test (listed order slot) e
  where
    by-test : (b : Bool) → (place_if b (place_in order slot) ≡ 64 → ⊥) → b ≡ true
    by-test true e = refl
    by-test false e = absurd (e refl)

-- ---- One slot more.

-- What is listed stays listed in a longer order.
listed-longer : (order more : List ℕ) (slot : ℕ) → listed order slot ≡ true → listed (order ++ more) slot ≡ true
unfolding listed
listed-longer [] more slot e = absurd (false≢true e)
listed-longer (first ∷ order) more slot e =
    or_cases (eqb slot first) (listed order slot) e (or-first (listed (order ++ more) slot)) (λ l. or-second (eqb slot first) (listed-longer order more slot l))

-- And at the same place.
place-longer : (order more : List ℕ) (slot : ℕ) → listed order slot ≡ true → place_in (order ++ more) slot ≡ place_in order slot
unfolding listed place_in here_or
place-longer [] more slot e = absurd (false≢true e)
place-longer (first ∷ order) more slot e = by-test (eqb slot first) e (place-longer order more slot)
  where
    by-test : (b : Bool) → b || listed order slot ≡ true → (listed order slot ≡ true → place_in (order ++ more) slot ≡ place_in order slot)
        → here_or b (suc (place_in (order ++ more) slot)) ≡ here_or b (suc (place_in order slot))
    by-test true e later = refl
    by-test false e later = ap suc (later e)

-- The slot that is added is listed last.
last-listed : (order : List ℕ) (slot : ℕ) → listed (order ++ (slot ∷ [])) slot ≡ true
unfolding listed
last-listed [] slot = rw (eq-eqb slot slot refl)
last-listed (first ∷ order) slot = or-second (eqb slot first) (last-listed order slot)

-- At the end, if it was not listed before.
last-place : (order : List ℕ) (slot : ℕ) → listed order slot ≡ false → place_in (order ++ (slot ∷ [])) slot ≡ length order
unfolding listed place_in here_or
last-place [] slot e = rw (eq-eqb slot slot refl)
last-place (first ∷ order) slot e = by-test (eqb slot first) e (last-place order slot)
  where
    by-test : (b : Bool) → b || listed order slot ≡ false → (listed order slot ≡ false → place_in (order ++ (slot ∷ [])) slot ≡ length order)
        → here_or b (suc (place_in (order ++ (slot ∷ [])) slot)) ≡ suc (length order)
    by-test true e later = absurd (true≢false e)
    by-test false e later = ap suc (later e)

-- It has the number of slots before it for its number,
added-number : (order : List ℕ) (slot : ℕ) → listed order slot ≡ false → number_of (order ++ (slot ∷ [])) slot ≡ length order
unfolding number_of place_if
added-number order slot e = rw (last-listed order slot) (last-place order slot e)

other-listed : (order : List ℕ) (slot other : ℕ) → (other ≡ slot → ⊥) → listed (order ++ (slot ∷ [])) other ≡ listed order other
unfolding listed
other-listed [] slot other ne = rw (ne_eqb other slot ne)
other-listed (first ∷ order) slot other ne = rw (other-listed order slot other ne)

-- and the others keep theirs.
other-number : (order : List ℕ) (slot other : ℕ) → (other ≡ slot → ⊥) → number_of (order ++ (slot ∷ [])) other ≡ number_of order other
unfolding number_of place_if
other-number order slot other ne = rw (other-listed order slot other ne) (by-test (listed order other) refl)
  where
    by-test : (b : Bool) → listed order other ≡ b → place_if b (place_in (order ++ (slot ∷ [])) other) ≡ place_if b (place_in order other)
    by-test true e = place-longer order (slot ∷ []) other e
    by-test false e = refl

-- So the array needs one store.
pub numbers-added : {order number : List ℕ} {slot : ℕ} → slot < 64 → listed order slot ≡ false
    → Numbers order number → Numbers (order ++ (slot ∷ [])) (set number slot (length order))
numbers-added {order} {number} {slot} small new n =
    record { size = length-set number slot (length order) ∙ n.size; each = λ other l. by-test other l (ℕ_discrete other slot) }
  where
    by-test : (other : ℕ) → other < 64 → Dec (other ≡ slot) → get_or (set number slot (length order)) other 0 ≡ number_of (order ++ (slot ∷ [])) other
    by-test other l (yes e) = rw (e, added-number order slot new) (get_or-set_same number slot (length order) 0 (omega (arith, n.size)))
    by-test other l (no ne) = rw (other-number order slot other ne) (get_or-set_other number slot other (length order) 0 ne ∙ n.each other l)

-- ---- The order of many slots.

abbrev pub Below : ℕ → Type 0
Below slot = slot < 64

pub listed_unless-below : (b : Bool) {slot : ℕ} {order : List ℕ} → slot < 64 → Every Below order → Every Below (listed_unless b slot order)
unfolding listed_unless
listed_unless-below true h o = o
listed_unless-below false h o = every_append o (every h every_none)

-- The order of slots below 64 has slots below 64.
pub uses-below : {order later : List ℕ} → Every Below order → Every Below later → Every Below (first_uses order later)
unfolding first_uses
uses-below o every_none = o
uses-below {order} o (every {a = slot} h hs) = uses-below {order = listed_unless (listed order slot) slot order} (listed_unless-below (listed order slot) h o) hs

-- Slots one after the other are listed one after the other.
pub uses-append : (order xs ys : List ℕ) → first_uses order (xs ++ ys) ≡ first_uses (first_uses order xs) ys
unfolding first_uses
uses-append order [] ys = refl
uses-append order (slot ∷ xs) ys = uses-append (listed_unless (listed order slot) slot order) xs ys

listed_unless-keeps : (b : Bool) (order : List ℕ) (slot other : ℕ) → listed order other ≡ true → listed (listed_unless b slot order) other ≡ true
unfolding listed_unless
listed_unless-keeps true order slot other e = e
listed_unless-keeps false order slot other e = listed-longer order (slot ∷ []) other e

listed_unless-lists : (b : Bool) (order : List ℕ) (slot : ℕ) → listed order slot ≡ b → listed (listed_unless b slot order) slot ≡ true
unfolding listed_unless
listed_unless-lists true order slot e = e
listed_unless-lists false order slot e = last-listed order slot

-- What is listed stays listed,
uses-keep : (order later : List ℕ) (slot : ℕ) → listed order slot ≡ true → listed (first_uses order later) slot ≡ true
unfolding first_uses
uses-keep order [] slot e = e
uses-keep order (next ∷ later) slot e =
    uses-keep (listed_unless (listed order next) next order) later slot (listed_unless-keeps (listed order next) order next slot e)

-- and each slot is.
pub record Listed (order : List ℕ) (slot : ℕ) : Type 0 where
  pub below : slot < 64
  pub is : listed order slot ≡ true

pub uses-list : (order : List ℕ) {later : List ℕ} → Every Below later → Every (Listed (first_uses order later)) later
unfolding first_uses
uses-list order every_none = every_none
uses-list order (every {a = slot} {l = later} h hs) =
    let next = listed_unless (listed order slot) slot order in
    every (record { below = h; is = uses-keep next later slot (listed_unless-lists (listed order slot) order slot refl) }) (uses-list next hs)
