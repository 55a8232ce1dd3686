-- The tokens of a list as the rounds take it: a number and a set for each, place by place.
use mathlib.Core.Path.{◌≡◌, ◌∙◌, ap, ap₂}
use mathlib.Core.List.{List, ◌∷◌}
use mathlib.Core.Logic.{⊎_elim}
use Prim.Native.Nat.{ℕ, zero, suc, ◌+◌, ◌%◌, ◌<◌, ◌≤◌}
use native.Mathlib.Nat.{eq-or-lt_of_le}
use native.Mathlib.Omega.{arith}
use lib.ListN.{length, drop, get_or, set}
use lib.Seq.{drop-cons, get_or-set_same, get_or-set_other}
use Rattle.rules.specs.Polynomial.{Atom}
use Rattle.rules.specs.Level.{plain, plains}
use Rattle.table.specs.Table.{Table, many, atom_at, atoms_from}
use Rattle.tape.specs.declared.rows.Row.{Row}
use Rattle.tape.specs.Row.{Lists}
use Rattle.tape.specs.Token.{slot, atom_of, atoms_in}
use Rattle.tape.specs.Listing.{held_at, rest-none}

-- the places below i hold the slots and the sets of the tokens
pub record Filled (tokens numbers sets : List ℕ) (i : ℕ) : Type 0 where
  pub number : (j : ℕ) → j < i → get_or numbers j 0 ≡ slot (get_or tokens j 0)
  pub set : (j : ℕ) → j < i → get_or sets j 0 ≡ get_or tokens j 0 % 8

pub fill_start : (tokens numbers sets : List ℕ) → Filled tokens numbers sets 0
fill_start tokens numbers sets = record { number = λ j h. absurd (omega arith); set = λ j h. absurd (omega arith) }

-- one place more in a list that is long enough
one-more : (f : ℕ → ℕ) (l : List ℕ) (i : ℕ) → i < length l → ((j : ℕ) → j < i → get_or l j 0 ≡ f j) → (j : ℕ) → j < i + 1 → get_or (set l i (f i)) j 0 ≡ f j
one-more f l i h old j k =
    ⊎_elim (λ (e : j ≡ i). rw e (get_or-set_same l i (f i) 0 h)) (λ (m : j < i). get_or-set_other l i j (f i) 0 (λ e. absurd (omega arith)) ∙ old j m)
    (eq-or-lt_of_le (below-or-at j i k))
  where
    below-or-at : (j i : ℕ) → j < i + 1 → j ≤ i
    below-or-at j i k = omega arith

pub fill-turn : {tokens numbers sets : List ℕ} {i : ℕ} → i < length numbers → i < length sets → Filled tokens numbers sets i
    → Filled tokens (set numbers i (slot (get_or tokens i 0))) (set sets i (get_or tokens i 0 % 8)) (i + 1)
fill-turn {tokens} {numbers} {sets} {i} h k f = record {
  number = one-more (λ (j : ℕ). slot (get_or tokens j 0)) numbers i h f.number;
  set = one-more (λ (j : ℕ). get_or tokens j 0 % 8) sets i k f.set;
}

from_place : (t : Table) (l numbers sets : List ℕ) (i k : ℕ) → i + k ≡ length l
    → ((j : ℕ) → j < length l → get_or numbers j 0 ≡ slot (get_or l j 0)) → ((j : ℕ) → j < length l → get_or sets j 0 ≡ get_or l j 0 % 8)
    → atoms_from t numbers sets i k ≡ plains (atoms_in t (drop i l))
unfolding atoms_from atom_of
from_place t l numbers sets i zero e n s = rw (rest-none l i (omega arith))
from_place t l numbers sets i (suc k) e n s =
    rw (drop-cons l i 0 (omega arith))
    (ap₂ (λ (a : Atom) (m : List Atom). a ∷ m) first (from_place t l numbers sets (suc i) k (omega arith) n s))
  where
    first : atom_at t numbers sets i ≡ plain (atom_of t (get_or l i 0))
    first = let z : get_or numbers i 0 % 64 ≡ slot (get_or l i 0) = omega (arith, n i (omega arith)) in rw (z, s i (omega arith))

-- the numbers and sets of all places are the list's atoms
pub fill_end : {row : Row} {numbers sets : List ℕ} {n : ℕ} → n ≡ row.count → n ≤ 64 → Filled row.token numbers sets n
    → (t : Table) (l : List ℕ) → Lists row l → atoms_from t numbers sets 0 (many n) ≡ plains (atoms_in t l)
fill_end {row} {numbers} {sets} {n} e few f t l h =
    from_place t l numbers sets 0 (many n) (omega (arith, h.size)) (λ j k. f.number j (omega (arith, h.size)) ∙ ap slot (held_at h j k))
    (λ j k. f.set j (omega (arith, h.size)) ∙ ap (λ (x : ℕ). x % 8) (held_at h j k))
