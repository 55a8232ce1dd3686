-- A number withdrawn: each row loses its mark there, a slot whose row has none left is cleared, and the slots are those of the new marks.
use Rattle.std.specs.Prelude.{◌≡◌, Bool, true, List, [], ◌∷◌, map, length, set, replicate}
use Rattle.std.proofs.Math.Path.{refl}
use Rattle.std.proofs.Common.{sym, ap, ◌∙◌, subst, arith, length-set}
use Rattle.std.proofs.Math.Bool.{false}
use mathlib.Core.List.{Memᴰ as Member}
use Prim.Native.Nat.{ℕ, zero, suc, ◌<◌}
use Rattle.std.proofs.lemmas.List.{length-map}
use Rattle.rules.specs.Polynomial.{Polynomial}
use Rattle.rules.specs.Pool.{count, Slot, cleared, is_free, forms_in_use, slot_of, unless_unused, unmarked}
use Rattle.sign_laws.specs.Booleans.{never_both}
use Rattle.sign_laws.specs.Lists.{Every, every_none, every}
use Rattle.length_laws.specs.Pigeonhole.{Distinct, none_distinct, distinct}
use Rattle.pool_laws.specs.Rows.{count-unmarked, count_none}
use Rattle.pool_laws.specs.Slots.{Marks, Kept, free, kept, Slots, not_free, cleared-free, in-use-free, in_use, use-cases, use-later, use-here}
use Rattle.pool_laws.specs.Slots.{rest-distinct, once-first}

unused : (k : ℕ) (slot : Slot) → k ≡ 0 → unless_unused k slot ≡ cleared
unfolding unless_unused
unused zero slot e = refl
unused (suc k) slot e = absurd (omega arith)

cleared-stays : (number : ℕ) → unmarked number cleared ≡ cleared
unfolding unmarked cleared
cleared-stays number =
    let none : count (set cleared.listed_by number false) ≡ 0 = omega (arith, count-unmarked cleared.listed_by number, count_none 32) in
    unused (count (set cleared.listed_by number false)) (slot_of [] (set cleared.listed_by number false)) none

-- A slot that is in use then was in use before, by the same form.
record SameForm (number : ℕ) (slot : Slot) : Type 0 where
  before : is_free slot ≡ false
  form : (unmarked number slot).form ≡ slot.form

module _ (marks new : Marks) (number : ℕ) (less : (p : Polynomial) → new p ≡ set (marks p) number false) where
  -- What the slot of a form is then.
  unmarked-is : (p : Polynomial) → unmarked number (slot_of p (marks p)) ≡ unless_unused (count (new p)) (slot_of p (new p))
  unfolding unmarked slot_of
  unmarked-is p = rw (less p)

  kept-unmarked : {slot : Slot} → Kept marks slot → Kept new (unmarked number slot)
  unfolding unless_unused
  kept-unmarked free = rw (cleared-stays number) free
  kept-unmarked (kept p h) = rw (unmarked-is p) (by_count (count (new p)) refl)
    where
      by_count : (k : ℕ) → count (new p) ≡ k → Kept new (unless_unused k (slot_of p (new p)))
      by_count zero e = free
      by_count (suc k) e = kept p (omega arith)

  used-before : {slot : Slot} → Kept marks slot → is_free (unmarked number slot) ≡ false → SameForm number slot
  unfolding unless_unused slot_of
  used-before free e = never_both (ap is_free (cleared-stays number) ∙ cleared-free) e
  used-before (kept p h) e = record { before = not_free p (marks p) h; form = same-form (unmarked number (slot_of p (marks p))) (unmarked-is p) e }
    where
      by_count : (k : ℕ) → is_free (unless_unused k (slot_of p (new p))) ≡ false → (unless_unused k (slot_of p (new p))).form ≡ p
      by_count zero e = never_both cleared-free e
      by_count (suc k) e = refl

      same-form : (slot : Slot) → slot ≡ unless_unused (count (new p)) (slot_of p (new p)) → is_free slot ≡ false → slot.form ≡ p
      same-form slot d e = ap (λ (s : Slot). s.form) d ∙ by_count (count (new p)) (ap is_free (sym d) ∙ e)

  -- And one whose form has a mark left stays in use by it.
  used-after : {slot : Slot} → Kept marks slot → is_free slot ≡ false → 0 < count (new slot.form)
      → (is_free (unmarked number slot) ≡ false) × ((unmarked number slot).form ≡ slot.form)
  unfolding unless_unused slot_of
  used-after free e h = never_both cleared-free e
  used-after (kept p k) e h = rw (unmarked-is p) (by_count (count (new p)) refl h)
    where
      by_count : (k : ℕ) → count (new p) ≡ k → 0 < k → (is_free (unless_unused k (slot_of p (new p))) ≡ false) ×
          ((unless_unused k (slot_of p (new p))).form ≡ p)
      by_count zero e h = absurd (omega arith)
      by_count (suc k) e h = (not_free p (new p) (omega arith), refl)

  -- ---- All slots.
  every-unmarked : (slots : List Slot) → Every (Kept marks) slots → Every (Kept new) (map (unmarked number) slots)
  every-unmarked [] every_none = every_none
  every-unmarked (slot ∷ slots) (every k ks) = every (kept-unmarked k) (every-unmarked slots ks)

  forms-before : (slots : List Slot) → Every (Kept marks) slots → {p : Polynomial} → Member p (forms_in_use (map (unmarked number) slots))
      → Member p (forms_in_use slots)
  forms-before [] every_none m = m
  forms-before (slot ∷ slots) (every k ks) m =
      use-cases (unmarked number slot) (map (unmarked number) slots) m
      (λ f e. let same = used-before k f in use-here slot slots same.before (e ∙ same.form))
      (λ h. use-later slot slots (forms-before slots ks h))

  forms-after : (slots : List Slot) → Every (Kept marks) slots → {p : Polynomial} → 0 < count (new p) → Member p (forms_in_use slots)
      → Member p (forms_in_use (map (unmarked number) slots))
  forms-after [] every_none h m = m
  forms-after (slot ∷ slots) (every k ks) {p} h m =
      use-cases slot slots m
      (λ f e. let after = used-after k f (subst (λ (r : Polynomial). 0 < count (new r)) e h) in
      use-here (unmarked number slot) (map (unmarked number) slots) after.0 (e ∙ sym after.1))
      (λ x. use-later (unmarked number slot) (map (unmarked number) slots) (forms-after slots ks h x))

  forms-distinct : (slots : List Slot) → Every (Kept marks) slots → Distinct (forms_in_use slots) → Distinct (forms_in_use (map (unmarked number) slots))
  forms-distinct [] every_none d = d
  forms-distinct (slot ∷ slots) (every k ks) d = by-test (is_free (unmarked number slot)) refl (forms-distinct slots ks (rest-distinct slot slots d))
    where
      by-test : (b : Bool) → is_free (unmarked number slot) ≡ b → Distinct (forms_in_use (map (unmarked number) slots))
          → Distinct (forms_in_use (map (unmarked number) (slot ∷ slots)))
      by-test true e others = rw (in-use-free (unmarked number slot) (map (unmarked number) slots) e) others
      by-test false e others =
          let same = used-before k e in
          rw (in_use (unmarked number slot) (map (unmarked number) slots) e, same.form)
          (distinct (λ m. once-first slot slots same.before d (forms-before slots ks m)) others)

  -- With that number's mark gone from every row, the slots are those of the marks that are left.
  pub all-unmarked : (slots : List Slot) → Slots marks slots → Slots new (map (unmarked number) slots)
  all-unmarked slots h = record {
    rows = λ p. ap length (less p) ∙ length-set (marks p) number false ∙ h.rows p;
    each = every-unmarked slots h.each;
    once = forms-distinct slots h.each h.once;
    all = λ p k. forms-after slots h.each k (h.all p (omega (arith, k, ap count (less p), count-unmarked (marks p) number)));
  }
