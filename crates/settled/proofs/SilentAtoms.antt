-- A list in which the atoms of one slot are given the full set, atom by atom: those passed have it exactly if they are of that slot.
-- Atoms of other slots are of other polynomials, as no form stands in two slots.
use mathlib.Core.Path.{◌≡◌, refl, sym, ◌∙◌, ap}
use mathlib.Core.List.{List, ◌∷◌}
use mathlib.Core.Logic.{◌⊎◌, inl, inr}
use Prim.Native.Nat.{ℕ, zero, suc, ◌+◌, ◌<◌, ◌≤◌}
use native.Mathlib.Decide.{ℕ_discrete}
use native.Mathlib.Omega.{arith}
use borrow.Author.Tests.{eq-eqb, ne_eqb}
use lib.ListN.{length, get_or, set, length-set}
use lib.Seq.{get_or-set_same, get_or-set_other}
use Rattle.rules.specs.Signs.{full}
use Rattle.rules.specs.Polynomial.{Atom}
use Rattle.rules.specs.Rounds.{unless_same, other_than}
use Rattle.table.specs.declared.Atoms.{Atoms}
use Rattle.table.specs.Table.{Table, Forms, form_at, atom_at, atoms_from, many}
use Rattle.round.specs.Signing.{atom_slot}
use Rattle.search.specs.Silent.{Quieted, quieted_none, kept, silent}
use Rattle.settled.specs.Others.{SilencedSlot}

-- of the atoms before i those of the slot have the full set, and all others have their own
pub record SilentBefore (list : Atoms) (number i : ℕ) (r : Atoms) : Type 0 where
  pub count : r.count ≡ list.count
  pub numbers : r.number ≡ list.number
  pub places : length r.set ≡ 64
  pub own : (j : ℕ) → j < i → number ≡ atom_slot list.number j → get_or r.set j 0 ≡ full
  pub other : (j : ℕ) → (j < i → number ≡ atom_slot list.number j → ⊥) → get_or r.set j 0 ≡ get_or list.set j 0

pub silent-first : (list : Atoms) (number : ℕ) → length list.set ≡ 64 → SilentBefore list number 0 list
silent-first list number h = record { count = refl; numbers = refl; places = h; own = λ j l e. absurd (omega arith); other = λ j f. refl }

-- ---- one atom more

module _ {list : Atoms} {number i : ℕ} {r : Atoms} (so_far : SilentBefore list number i r) where
  pub silent-without : (number ≡ atom_slot list.number i → ⊥) → SilentBefore list number (i + 1) r
  silent-without ne = record {
    count = so_far.count;
    numbers = so_far.numbers;
    places = so_far.places;
    own = λ j l e. by j l e (ℕ_discrete j i);
    other = λ j f. so_far.other j (λ l. f (omega arith));
  }
    where
      by : (j : ℕ) → j < i + 1 → number ≡ atom_slot list.number j → Dec (j ≡ i) → get_or r.set j 0 ≡ full
      by j l e (yes f) = absurd (ne (e ∙ ap (atom_slot list.number) f))
      by j l e (no f) = so_far.own j (omega arith) e

  pub silent-with : i < 64 → number ≡ atom_slot list.number i
      → SilentBefore list number (i + 1) (record { count = r.count; number = r.number; set = set r.set i full })
  silent-with low here = record {
    count = so_far.count;
    numbers = so_far.numbers;
    places = length-set {A = ℕ} r.set i full ∙ so_far.places;
    own = λ j l e. by j l e (ℕ_discrete j i);
    other = λ j f.
        get_or-set_other r.set i j full 0 (λ (e : j ≡ i). f (omega arith) (here ∙ ap (atom_slot list.number) (sym e)))
        ∙ so_far.other j (λ l. f (omega arith));
  }
    where
      by : (j : ℕ) → j < i + 1 → number ≡ atom_slot list.number j → Dec (j ≡ i) → get_or (set r.set i full) j 0 ≡ full
      by j l e (yes f) =
          ap (λ (x : ℕ). get_or (set r.set i full) x 0) f ∙ get_or-set_same r.set i full 0 (omega (arith, so_far.places))
      by j l e (no f) = get_or-set_other r.set i j full 0 f ∙ so_far.own j (omega arith) e

-- ---- all of them

module _ {list : Atoms} {number end : ℕ} {r : Atoms} (low : number < 64) (all : SilentBefore list number end r) (passed : many list.count ≤ end) where
  module _ (t : Table) (forms : Forms t) where
    -- the atom at i is left out of the others, or it is the one that stands there
    one-more : (i : ℕ) {l : List Atom} (m : List Atom) → i < many list.count → Quieted l (other_than (form_at t number) m)
        → Quieted (atom_at t list.number r.set i ∷ l) (other_than (form_at t number) (atom_at t list.number list.set i ∷ m))
    unfolding other_than unless_same
    one-more i {l} m h more = by (ℕ_discrete number (atom_slot list.number i))
      where
        by : Dec (number ≡ atom_slot list.number i)
            → Quieted (atom_at t list.number r.set i ∷ l) (other_than (form_at t number) (atom_at t list.number list.set i ∷ m))
        by (yes e) =
            rw (forms.distinct number (atom_slot list.number i) low (omega arith), eq-eqb _ _ e) (silent _ (all.own i (omega arith) e) more)
        by (no f) =
            rw (forms.distinct number (atom_slot list.number i) low (omega arith), ne_eqb _ _ f, all.other i (λ l. f)) (kept _ more)

    quieted-from : (i k : ℕ) → i + k ≡ many list.count
        → Quieted (atoms_from t list.number r.set i k) (other_than (form_at t number) (atoms_from t list.number list.set i k))
    unfolding atoms_from other_than
    quieted-from i zero e = quieted_none
    quieted-from i (suc k) e = one-more i (atoms_from t list.number list.set (suc i) k) (omega arith) (quieted-from (suc i) k (omega arith))

  pub silent-last : SilencedSlot list number r
  silent-last = record {
    silenced = record {
      count = all.count;
      number = all.numbers;
      sets = λ j h. by j h (ℕ_discrete number (atom_slot list.number j));
    };
    quieted = λ t forms. rw (all.count, all.numbers) (quieted-from t forms 0 (many list.count) (omega arith));
  }
    where
      by : (j : ℕ) → j < many list.count → Dec (number ≡ atom_slot list.number j)
          → (get_or r.set j 0 ≡ full) ⊎ (get_or r.set j 0 ≡ get_or list.set j 0)
      by j h (yes e) = inl (all.own j (omega arith) e)
      by j h (no f) = inr (all.other j (λ l. f))
