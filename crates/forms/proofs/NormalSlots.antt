-- The walk that brings one slot after the other to normal form: each slot then holds the normal form of its polynomial.
-- The slots before it stay as they are.
use mathlib.Core.Path.{◌≡◌, refl, ap, ◌∙◌}
use mathlib.Core.List.{List}
use mathlib.Core.Logic.{⊎_elim}
use Prim.Native.Nat.{ℕ, zero, suc, ◌+◌, ◌-◌, ◌*◌, ◌<◌, ◌≤◌}
use native.Mathlib.Nat.{eq-or-lt_of_le}
use native.Mathlib.Numerals.{add-one}
use native.Mathlib.Omega.{arith}
use lib.IntN.{ℤ, pos}
use lib.ListN.{length, get_or}
use Rattle.rules.specs.Signs.{SignSet}
use Rattle.rules.specs.Polynomial.{Polynomial, normal}
use Rattle.terms.specs.View.{terms_from}
use Rattle.normal.specs.Normal.{normal_run, turned_set}
use Rattle.forms.specs.Slots.{slot_of, slot_turned, normal_slots}
use Rattle.normal.specs.NormalRuns.{terms-alike, normal-run, normal-length, normal-kept}

module _ (cs : List ℤ) (ts : List ℕ) where
  -- ---- One slot, and none.

  -- The walk brings the slot at hand to normal form and goes on.
  pub slots-step : (target : List ℤ) (i m : ℕ) → i < m
      → normal_slots cs ts target i (m - i) ≡ normal_slots cs ts (normal_run cs target (16 * i) (16 * i + get_or ts i 0)) (i + 1) (m - (i + 1))
  unfolding normal_slots
  slots-step target i m h = let left : m - i ≡ suc (m - (i + 1)) = omega arith in rw (left, add-one i)

  -- Until no slot is left.
  pub slots_end : (target : List ℤ) (i m : ℕ) → m ≤ i → normal_slots cs ts target i (m - i) ≡ target
  unfolding normal_slots
  slots_end target i m h = let none : m - i ≡ 0 = omega arith in rw none

  -- The array keeps its length.
  pub slots_length : (target : List ℤ) (i k : ℕ) → length (normal_slots cs ts target i k) ≡ length target
  unfolding normal_slots
  slots_length target i zero = refl
  slots_length target i (suc k) =
      slots_length (normal_run cs target (16 * i) (16 * i + get_or ts i 0)) (suc i) k ∙ normal-length cs target (16 * i) (16 * i + get_or ts i 0)

  -- ---- What stands in a slot.

  -- The slots before those that are walked keep what they hold.
  slots_kept : (target : List ℤ) (i k place : ℕ) → place < 16 * i → get_or (normal_slots cs ts target i k) place (pos 0) ≡ get_or target place (pos 0)
  unfolding normal_slots
  slots_kept target i zero place h = refl
  slots_kept target i (suc k) place h =
      slots_kept (normal_run cs target (16 * i) (16 * i + get_or ts i 0)) (suc i) k place (omega arith)
      ∙ normal-kept cs target (16 * i) (16 * i + get_or ts i 0) place (λ p q. omega arith)

  first_slot : (ms : List ℕ) (target : List ℤ) (i k : ℕ) (s : SignSet) → get_or ts i 0 ≤ 16 → 16 * i + get_or ts i 0 ≤ length target
      → record {
        polynomial = terms_from (normal_slots cs ts (normal_run cs target (16 * i) (16 * i + get_or ts i 0)) (suc i) k) ms (16 * i) (get_or ts i 0);
        set = turned_set (slot_turned cs ts i) s;
      }
      ≡ normal (record { polynomial = slot_of cs ms ts i; set = s })
  first_slot ms target i k s few there =
      let run = normal_run cs target (16 * i) (16 * i + get_or ts i 0) in
      let count : 16 * i + get_or ts i 0 - 16 * i ≡ get_or ts i 0 = omega arith in
      ap (λ (p : Polynomial). record { polynomial = p; set = turned_set (slot_turned cs ts i) s })
      (terms-alike run (normal_slots cs ts run (suc i) k) ms ms (16 * i) (get_or ts i 0) (λ j h m. slots_kept run (suc i) k j (omega arith)) (λ j h m. refl))
      ∙ (rw count at (normal-run cs target ms (16 * i) (16 * i + get_or ts i 0) s there))

  -- A slot that was walked holds the normal form of its polynomial.
  pub slot-normal : (ms : List ℕ) (target : List ℤ) (i k slot : ℕ) (s : SignSet) → i ≤ slot → slot < i + k → get_or ts slot 0 ≤ 16
      → 16 * slot + get_or ts slot 0 ≤ length target
      → record { polynomial = terms_from (normal_slots cs ts target i k) ms (16 * slot) (get_or ts slot 0); set = turned_set (slot_turned cs ts slot) s }
      ≡ normal (record { polynomial = slot_of cs ms ts slot; set = s })
  unfolding normal_slots
  slot-normal ms target i zero slot s h m few there = absurd (omega arith)
  slot-normal ms target i (suc k) slot s h m few there = ⊎_elim
      (λ (e : i ≡ slot). rw (← e) (first_slot ms target i k s (rw e few) (rw e there)))
      (λ (later : i < slot). slot-normal ms (normal_run cs target (16 * i) (16 * i + get_or ts i 0)) (suc i) k slot s later (omega arith) few
      (rw (normal-length cs target (16 * i) (16 * i + get_or ts i 0)) there))
      (eq-or-lt_of_le h)
