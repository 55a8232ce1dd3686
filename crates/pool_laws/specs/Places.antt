-- The same by places and counts, for a walk over the slots: the slot that a form goes to is found first and then stored; and how many forms there are
-- together is counted, those in use and the listed ones that are new.
use Rattle.std.specs.Prelude.{◌≡◌, refl, Bool, true, false, not, ◌&&◌, ◌||◌, List, [], ◌∷◌, ◌++◌, ℕ, zero, suc, ◌+◌, ◌<◌, ◌≤◌, length, get_or, set}
use Rattle.std.proofs.Common.{sym, ap, ◌∙◌, arith, length-append}
use mathlib.Core.List.Memᴰ.{head as here}
use mathlib.Core.List.Memᴰ.{tail as later}
use mathlib.Core.List.{Memᴰ as Member}
use Rattle.rules.specs.Polynomial.{Polynomial, same}
use Rattle.rules.specs.Answer.{knows, added_unless}
use Rattle.rules.specs.Pool.{together, either, Slot, cleared, is_free, stores, forms_in_use, change_first, marked, list_form}
use Rattle.sign_laws.specs.Booleans.{never_true}
use Rattle.level_laws.specs.Same.{same-equal}
use Rattle.length_laws.specs.Pigeonhole.{Distinct, none_distinct, distinct}
use Rattle.pool_laws.specs.Known.{knows-member}

-- ---- Places.

-- The place of the first slot that passes a test, or the number of slots.
unfoldable pub first_place : (Slot → Bool) → List Slot → ℕ
first_place test [] = 0
first_place test (slot ∷ slots) = let later = first_place test slots in either (test slot) 0 (suc later)

-- What is changed stands there; and past the end nothing is.
pub change-at : (test : Slot → Bool) (change : Slot → Slot) (slots : List Slot)
    → change_first test change slots ≡ set slots (first_place test slots) (change (get_or slots (first_place test slots) cleared))
unfolding change_first first_place either
change-at test change [] = refl
change-at test change (slot ∷ slots) = by-test (test slot) (change-at test change slots)
  where
    by-test : (b : Bool) → change_first test change slots ≡ set slots (first_place test slots) (change (get_or slots (first_place test slots) cleared))
        → either b (change slot ∷ slots) (slot ∷ change_first test change slots)
        ≡ set (slot ∷ slots) (either b 0 (suc (first_place test slots)))
        (change (get_or (slot ∷ slots) (either b 0 (suc (first_place test slots))) cleared))
    by-test true e = refl
    by-test false e = ap (λ (l : List Slot). slot ∷ l) e

-- Whether a form is in use is whether a slot stores it.
unfoldable pub some_stores : Polynomial → List Slot → Bool
some_stores p [] = false
some_stores p (slot ∷ slots) = stores p slot || some_stores p slots

pub known-stores : (p : Polynomial) (slots : List Slot) → knows (forms_in_use slots) p ≡ some_stores p slots
unfolding knows forms_in_use some_stores stores either
known-stores p [] = refl
known-stores p (slot ∷ slots) = by-test (is_free slot) (known-stores p slots)
  where
    by-test : (b : Bool) → knows (forms_in_use slots) p ≡ some_stores p slots
        → knows (either b (forms_in_use slots) (slot.form ∷ forms_in_use slots)) p ≡ (not b && same p slot.form) || some_stores p slots
    by-test true e = e
    by-test false e = ap (λ (b : Bool). same p slot.form || b) e

-- The place that a form goes to: where it is stored, else the first free slot.
unfoldable pub place_for : Polynomial → List Slot → ℕ
place_for p slots = either (some_stores p slots) (first_place (stores p) slots) (first_place is_free slots)

pub list_at : (number : ℕ) (slots : List Slot) (p : Polynomial)
    → list_form number slots p ≡ set slots (place_for p slots) (marked number p (get_or slots (place_for p slots) cleared))
unfolding list_form place_for either
list_at number slots p = rw (known-stores p slots) (by-test (some_stores p slots))
  where
    by-test : (b : Bool) → change_first (either b (stores p) is_free) (marked number p) slots
        ≡ set slots (either b (first_place (stores p) slots) (first_place is_free slots))
        (marked number p (get_or slots (either b (first_place (stores p) slots) (first_place is_free slots)) cleared))
    by-test true = change-at (stores p) (marked number p) slots
    by-test false = change-at is_free (marked number p) slots

-- ---- Counts.

-- How many slots are in use.
unfoldable pub used_slots : List Slot → ℕ
used_slots [] = 0
used_slots (slot ∷ slots) = let others = used_slots slots in either (is_free slot) others (suc others)

pub used-length : (slots : List Slot) → length (forms_in_use slots) ≡ used_slots slots
unfolding forms_in_use used_slots either
used-length [] = refl
used-length (slot ∷ slots) = by-test (is_free slot) (used-length slots)
  where
    by-test : (b : Bool) → length (forms_in_use slots) ≡ used_slots slots
        → length (either b (forms_in_use slots) (slot.form ∷ forms_in_use slots)) ≡ either b (used_slots slots) (suc (used_slots slots))
    by-test true e = e
    by-test false e = ap suc e

-- How many of some forms are new.
unfoldable pub new_forms : List Polynomial → List Polynomial → ℕ
new_forms forms [] = 0
new_forms forms (p ∷ ps) = let others = new_forms forms ps in either (knows forms p) others (suc others)

knows-behind : (forms : List Polynomial) (p q : Polynomial) → same q p ≡ false → knows (forms ++ (p ∷ [])) q ≡ knows forms q
unfolding knows
knows-behind [] p q e = rw e
knows-behind (r ∷ forms) p q e = ap (λ (b : Bool). same q r || b) (knows-behind forms p q e)

-- One that is not among them makes no difference.
new-behind : (forms : List Polynomial) (p : Polynomial) (ps : List Polynomial) → (Member p ps → ⊥)
    → new_forms (forms ++ (p ∷ [])) ps ≡ new_forms forms ps
unfolding new_forms
new-behind forms p [] out = refl
new-behind forms p (q ∷ ps) out =
    rw (knows-behind forms p q (never_true (same q p) (λ e. out (here (sym (same-equal q p e))))), new-behind forms p ps (λ m. out (later m)))

-- Forms in use and listed ones, these without repeats: together they are the first and those of the others that are new.
pub together-length : (forms : List Polynomial) {ps : List Polynomial} → Distinct ps → length (together forms ps) ≡ length forms + new_forms forms ps
unfolding together new_forms added_unless either
together-length forms none_distinct = omega arith
together-length forms (distinct {a = p} {l = ps} out d) = by-test (knows forms p) (together-length forms d) (together-length (forms ++ (p ∷ [])) d)
  where
    by-test : (b : Bool) → length (together forms ps) ≡ length forms + new_forms forms ps
        → length (together (forms ++ (p ∷ [])) ps) ≡ length (forms ++ (p ∷ [])) + new_forms (forms ++ (p ∷ [])) ps
        → length (together (added_unless b p forms) ps) ≡ length forms + either b (new_forms forms ps) (suc (new_forms forms ps))
    by-test true e f = e
    by-test false e f = omega (arith, f, length-append forms (p ∷ []), new-behind forms p ps out)
