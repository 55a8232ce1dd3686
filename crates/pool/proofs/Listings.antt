-- The walks that list slots, one step at a time: constants, numbers among others, and the list that grows.
use mathlib.Core.Path.{◌≡◌, refl, sym, ap, ap₂, ◌∙◌}
use mathlib.Core.Bool.{Bool, true, false, ◌||◌}
use mathlib.Core.List.{List, [], ◌∷◌, ◌++◌}
use mathlib.Core.Logic.{⊎_elim}
use Prim.Native.Nat.{ℕ, zero, suc, ◌+◌, ◌-◌, ◌*◌, ◌<◌, ◌≤◌}
use native.Mathlib.Nat.{zero-add, eq-or-lt_of_le}
use native.Mathlib.Numerals.{add-one}
use native.Mathlib.Omega.{arith}
use lib.Dec.{eqb}
use lib.IntN.{ℤ}
use lib.ListN.{length, get_or, set, take, drop}
use lib.Seq.{drop-cons, get_or-set_same, get_or-set_other}
use borrow.Author.Tests.{eqb-true, eq-eqb, lt-ltb, le-ltb}
use Rattle.std.specs.List.{list_any}
use Rattle.std.specs.Option.{is_some}
use Rattle.std.proofs.Common.{Option, Some, None, true≢false}
use Rattle.sign_laws.specs.Booleans.{both_ways}
use Rattle.rules.specs.Polynomial.{Polynomial}
use Rattle.rules.specs.Pool.{either, stores, forms_in_use}
use Rattle.pool_laws.specs.Places.{first_place, new_forms}
use Rattle.terms.specs.View.{numbers_from, terms_from, numbers-cons, numbers-nil}
use Rattle.forms.specs.Slots.{slot_of}
use Rattle.pool.specs.Run.{Run, SlotIs}
use Rattle.pool.specs.Words.{slots_of}
use Rattle.pool.specs.Reading.{forms_in, FormRoom}
use Rattle.pool.proofs.Walks.{known-found}
use Rattle.pool.specs.Listing.{one_if, among, behind_unless, listing, numbers-stored}

-- ---- Constants.

pub many-terms : (k : ℕ) (b : Bool) → 1 < k → false ≡ one_if k b
unfolding one_if
many-terms zero b h = absurd (omega arith)
many-terms (suc zero) b h = absurd (omega arith)
many-terms (suc (suc k)) b h = refl

pub no_terms : (k : ℕ) (b : Bool) → k ≡ 0 → true ≡ one_if k b
unfolding one_if
no_terms k b e = rw e

pub one-term : (k : ℕ) (b : Bool) → k ≤ 1 → (k ≡ 0 → ⊥) → b ≡ one_if k b
unfolding one_if
one-term zero b h n = absurd (n refl)
one-term (suc zero) b h n = refl
one-term (suc (suc k)) b h n = absurd (omega arith)

-- ---- Numbers among others.

eqb-turned : (a b : ℕ) → eqb a b ≡ eqb b a
eqb-turned a b = both_ways (eqb a b) (eqb b a) (λ e. eq-eqb b a (sym (eqb-true a b e))) (λ e. eq-eqb a b (sym (eqb-true b a e)))

among-any : (xs : List ℕ) (k : ℕ) → list_any (λ (x : ℕ). eqb x k) xs ≡ among xs k
unfolding among
among-any [] k = refl
among-any (x ∷ xs) k = ap₂ (λ (a b : Bool). a || b) (eqb-turned x k) (among-any xs k)

numbers-taken : (xs : List ℕ) (i k : ℕ) → i + k ≤ length xs → numbers_from xs i k ≡ take k (drop i xs)
unfolding numbers_from
numbers-taken xs i zero h = refl
numbers-taken xs i (suc k) h = ap (λ (l : List ℕ). get_or xs i 0 ∷ l) (numbers-taken xs (suc i) k (omega arith)) ∙ sym (ap (take (suc k)) (drop-cons xs i 0 (omega arith)))

pub among-taken : (order : List ℕ) (count slot : ℕ) → count ≤ length order → list_any (λ (x : ℕ). eqb x slot) (take count order) ≡ among (numbers_from order 0 count) slot
among-taken order count slot h = among-any (take count order) slot ∙ ap (λ (l : List ℕ). among l slot) (sym (numbers-taken order 0 count (omega arith)))

-- ---- The list that grows.

module _ (out : ℕ → Bool) (ns : List ℕ) (m : ℕ) where
  -- What the numbers from i on add.
  abbrev pub listing_from : List ℕ → ℕ → List ℕ
  listing_from l i = listing out l (numbers_from ns i (m - i))

  listing_step : (l : List ℕ) (i : ℕ) → i < m → listing_from l i ≡ listing_from (behind_unless (out (get_or ns i 0) || among l (get_or ns i 0)) (get_or ns i 0) l) (i + 1)
  unfolding listing
  listing_step l i h = ap (listing out l) (numbers-cons ns i m h)

  pub listing-out : (l : List ℕ) (i : ℕ) → i < m → (out (get_or ns i 0) || among l (get_or ns i 0)) ≡ true → listing_from l (i + 1) ≡ listing_from l i
  unfolding behind_unless
  listing-out l i h e = sym (listing_step l i h ∙ ap (λ (b : Bool). listing_from (behind_unless b (get_or ns i 0) l) (i + 1)) e)

  pub listing-in : (l : List ℕ) (i : ℕ) → i < m → (out (get_or ns i 0) || among l (get_or ns i 0)) ≡ false
      → listing_from (l ++ (get_or ns i 0 ∷ [])) (i + 1) ≡ listing_from l i
  unfolding behind_unless
  listing-in l i h e = sym (listing_step l i h ∙ ap (λ (b : Bool). listing_from (behind_unless b (get_or ns i 0) l) (i + 1)) e)

  pub listing-end : (l : List ℕ) (i : ℕ) → m ≤ i → listing_from l i ≡ l
  unfolding listing
  listing-end l i h = ap (listing out l) (numbers-nil ns i m h)

pub one-behind : (order : List ℕ) (count v : ℕ) → count < length order → numbers_from (set order count v) 0 (count + 1) ≡ numbers_from order 0 count ++ (v ∷ [])
one-behind order count v h = ap (numbers_from (set order count v) 0) (add-one count) ∙ (rw (zero-add count) at (numbers-stored order 0 count v (rw (zero-add count) h)))

-- Each of them stays below 64.
pub stored-below : (order : List ℕ) (count v : ℕ) → count < length order → v < 64 → ((j : ℕ) → j < count → get_or order j 0 < 64)
    → (j : ℕ) → j < count + 1 → get_or (set order count v) j 0 < 64
stored-below order count v h b each j l = ⊎_elim
    (λ (e : j ≡ count). rw (e, get_or-set_same order count v 0 h) b)
    (λ (n : j < count). rw (get_or-set_other order count j v 0 (λ e. omega arith)) (each j n))
    (let most : j ≤ count = omega arith in eq-or-lt_of_le most)

-- ---- The listed forms, one after the other.

abbrev pub forms_left : List ℤ → List ℕ → List ℕ → List ℕ → ℕ → ℕ → List Polynomial
forms_left cs ms ts order count i = forms_in cs ms ts (numbers_from order i (count - i))

module _ (cs : List ℤ) (ms ts order : List ℕ) (count i : ℕ) where
  pub forms-cons : i < count → forms_left cs ms ts order count i ≡ slot_of cs ms ts (get_or order i 0) ∷ forms_left cs ms ts order count (i + 1)
  forms-cons h = ap (forms_in cs ms ts) (numbers-cons order i count h)

  pub forms-end : count ≤ i → forms_left cs ms ts order count i ≡ []
  forms-end h = ap (forms_in cs ms ts) (numbers-nil order i count h)

-- The form that a walk lends is that of its slot.
pub run_is : (cs : List ℤ) (ms ts : List ℕ) (k slot size : ℕ) → slot ≡ k → size ≡ get_or ts slot 0 → terms_from cs ms (16 * slot) size ≡ slot_of cs ms ts k
run_is cs ms ts k slot size e f = ap (terms_from cs ms (16 * slot)) f ∙ ap (slot_of cs ms ts) e

pub run_room : (cs : List ℤ) (ms ts : List ℕ) (k slot size : ℕ) → FormRoom cs ms ts → k < 64 → slot ≡ k → size ≡ get_or ts slot 0 → Run cs ms (16 * slot) size
run_room cs ms ts k slot size room h e f =
    let few : size ≤ 16 = omega (arith, f, room.few slot) in
    record {
      coefficients = omega (arith, few, e, room.coefficients);
      monomials = omega (arith, few, e, room.monomials);
      few = few;
    }

-- A form more, new or not.
behind-all : (slot : Option ℕ) (place : ℕ) → SlotIs slot place → is_some slot ≡ false → 128 ≤ place
behind-all None place found e = omega (arith, found.is)
behind-all (Some k) place found e = absurd (true≢false e)

within : (slot : Option ℕ) (place : ℕ) → SlotIs slot place → is_some slot ≡ true → place < 128
within None place found e = absurd (true≢false (sym e))
within (Some k) place found e = omega (arith, found.is, found.below)

module _ (words : List ℕ) (p : Polynomial) (ps : List Polynomial) (slot : Option ℕ) (found : SlotIs slot (first_place (stores p) (slots_of words))) where
  pub one-new : is_some slot ≡ false → new_forms (forms_in_use (slots_of words)) (p ∷ ps) ≡ suc (new_forms (forms_in_use (slots_of words)) ps)
  unfolding new_forms either
  one-new e = rw (known-found p words ∙ le-ltb (first_place (stores p) (slots_of words)) 128 (behind-all slot (first_place (stores p) (slots_of words)) found e))

  pub one_known : is_some slot ≡ true → new_forms (forms_in_use (slots_of words)) (p ∷ ps) ≡ new_forms (forms_in_use (slots_of words)) ps
  unfolding new_forms either
  one_known e = rw (known-found p words ∙ lt-ltb (first_place (stores p) (slots_of words)) 128 (within slot (first_place (stores p) (slots_of words)) found e))
