-- An atom with the full set has no tries: 02, #111 leaves "sets ≠ and full" out. So a list in which atoms are given the full set has the tries of
-- the list without them; its slots are the same, and so are the signs and the words that are worked out for them.
use Rattle.std.specs.Prelude.{◌≡◌, Bool, true, false, cond, ◌⊎◌, ℕ, ◌+◌, ◌-◌, ◌<◌, ℤ, get_or}
use Rattle.std.proofs.Math.Path.{refl, ap, ap₂}
use Rattle.std.proofs.Common.{sym, subst, true≢false, inl, inr}
use mathlib.Core.List.{List, [], ◌∷◌, ◌++◌}
use Rattle.std.specs.Int.Signed.{non_neg}
use Rattle.rules.specs.Signs.{SignSet, full, kind}
use Rattle.rules.specs.Polynomial.{Polynomial, Atom, Board}
use Rattle.rules.specs.TwoAtoms.{non_positive, non_negative, never_positive, never_negative, tried, try, factors, with_each, tries_with, tries}
use Rattle.sign_laws.specs.Booleans.{and-false}
use Rattle.table.specs.declared.Atoms.{Atoms}
use Rattle.table.specs.Table.{Table, atoms_from, atoms_of, many}
use Rattle.columns.specs.Columns.{Noted}
use Rattle.masks.specs.declared.Mask.{Mask}
use Rattle.round.specs.Signing.{Ready, SignedSlot, atom_slot}
use Rattle.search.specs.Falling.{FallingSlot}
use Rattle.search.specs.Masked.{SlotMask, mask_at}
use Rattle.search.specs.Noted.{NotedAtoms}
use Rattle.search.specs.Words.{Words}

-- ---- the tries of a list

-- a list without some of its atoms, each of which has the full set
pub data Quieted : List Atom → List Atom → Type 0 where
  quieted_none : Quieted [] []
  kept : (a : Atom) {l m : List Atom} → Quieted l m → Quieted (a ∷ l) (a ∷ m)
  silent : (a : Atom) {l m : List Atom} → a.set ≡ full → Quieted l m → Quieted (a ∷ l) m

pub quieted-same : (l : List Atom) → Quieted l l
quieted-same [] = quieted_none
quieted-same (a ∷ l) = kept a (quieted-same l)

-- no factor makes such an atom never positive or never negative
no_way : (b : Bool) → cond b false false ≡ false
no_way true = refl
no_way false = refl

first-silent : (board : Board) (p : Polynomial) (q1 q2 : Atom) (u v : ℤ) → q1.set ≡ full → try board p q1 q2 u v ≡ []
unfolding try never_positive never_negative non_positive non_negative tried kind
first-silent board p q1 q2 u v e = rw (e, no_way (non_neg u))

second-silent : (board : Board) (p : Polynomial) (q1 q2 : Atom) (u v : ℤ) → q2.set ≡ full → try board p q1 q2 u v ≡ []
unfolding try never_positive never_negative non_positive non_negative tried kind
second-silent board p q1 q2 u v e = rw (e, no_way (non_neg v), and-false (never_positive u (kind q1.set)), and-false (never_negative u (kind q1.set)))

each_none : (f : ℤ → List SignSet) → ((v : ℤ) → f v ≡ []) → (l : List ℤ) → with_each f l ≡ []
unfolding with_each
each_none f h [] = refl
each_none f h (v ∷ l) = ap₂ (λ (a b : List SignSet). a ++ b) (h v) (each_none f h l)

module _ (board : Board) (p : Polynomial) where
  -- a pair of which no try finds anything
  no-tries : (q1 q2 : Atom) → ((u v : ℤ) → try board p q1 q2 u v ≡ []) → with_each (λ (u : ℤ). with_each (try board p q1 q2 u) factors) factors ≡ []
  no-tries q1 q2 h = each_none (λ (u : ℤ). with_each (try board p q1 q2 u) factors) (λ u. each_none (try board p q1 q2 u) (h u) factors) factors

  with-silent : (q1 : Atom) → q1.set ≡ full → (l : List Atom) → tries_with board p q1 l ≡ []
  unfolding tries_with
  with-silent q1 e [] = refl
  with-silent q1 e (q2 ∷ l) =
      ap₂ (λ (a b : List SignSet). a ++ b) (no-tries q1 q2 (λ u v. first-silent board p q1 q2 u v e)) (with-silent q1 e l)

  with-quieted : {l m : List Atom} → Quieted l m → (q1 : Atom) → tries_with board p q1 l ≡ tries_with board p q1 m
  unfolding tries_with
  with-quieted quieted_none q1 = refl
  with-quieted (kept q2 h) q1 = ap (λ (a : List SignSet). with_each (λ (u : ℤ). with_each (try board p q1 q2 u) factors) factors ++ a) (with-quieted h q1)
  with-quieted (silent q2 e h) q1 =
      ap₂ (λ (a b : List SignSet). a ++ b) (no-tries q1 q2 (λ u v. second-silent board p q1 q2 u v e)) (with-quieted h q1)

pub tries-quieted : {l m : List Atom} → Quieted l m → (board : Board) (p : Polynomial) → tries board p l ≡ tries board p m
unfolding tries
tries-quieted quieted_none board p = refl
tries-quieted (kept q1 h) board p = ap₂ (λ (a b : List SignSet). a ++ b) (with-quieted board p h q1) (tries-quieted h board p)
tries-quieted (silent q1 {l} e h) board p = ap₂ (λ (a b : List SignSet). a ++ b) (with-silent board p q1 e l) (tries-quieted h board p)

-- ---- lists of atoms over a table

-- r is a list of atoms in which some have the full set
pub record Silenced (a r : Atoms) : Type 0 where
  pub count : r.count ≡ a.count
  pub number : r.number ≡ a.number
  pub sets : (j : ℕ) → j < many a.count → (get_or r.set j 0 ≡ full) ⊎ (get_or r.set j 0 ≡ get_or a.set j 0)

-- a full set is in no column of sets
noted-full : {columns : List ℕ} {j : ℕ} {q : Mask} {set s : SignSet} → Noted columns j q set → s ≡ full → Noted columns j q s
unfolding non_positive non_negative kind
noted-full n e = record {
  positive = n.positive;
  negative = n.negative;
  low = λ f. absurd (true≢false (sym (rw e at f)));
  high = λ f. absurd (true≢false (sym (rw e at f)));
}

-- what is said of each slot of the list is so of those of the silenced one
module _ {a r : Atoms} (h : Silenced a r) where
  slots-too : (P : ℕ → ℕ → Type 0) → ((i : ℕ) → i < many a.count → P i (atom_slot a.number i))
      → (i : ℕ) → i < many r.count → P i (atom_slot r.number i)
  slots-too P f = rw (h.count, h.number) f

  pub silenced-ready : {t : Table} {board : Board} {ss : List SignSet} → Ready t board a ss → Ready t board r ss
  silenced-ready {t} {board} {ss} ready = record {
    forms = ready.forms;
    places = ready.places;
    variables = ready.variables;
    atoms = slots-too (λ i k. SignedSlot t board ss k) ready.atoms;
  }

  noted-too : {ws columns : List ℕ} → NotedAtoms a ws columns → (i : ℕ) → i < many a.count → Noted columns i (mask_at ws i) (get_or r.set i 0)
  noted-too {ws} {columns} n i low = by (h.sets i low)
    where
      by : (get_or r.set i 0 ≡ full) ⊎ (get_or r.set i 0 ≡ get_or a.set i 0) → Noted columns i (mask_at ws i) (get_or r.set i 0)
      by (inl e) = noted-full (n.atoms i low) e
      by (inr e) = subst (Noted columns i (mask_at ws i)) (sym e) (n.atoms i low)

  pub silenced-words : {cs : List ℤ} {ms ts : List ℕ} {ss : List SignSet} {ws columns : List ℕ} {falls : Bool} → Words cs ms ts ss a ws columns falls
      → Words cs ms ts ss r ws columns falls
  silenced-words {cs} {ms} {ts} {ss} {ws} words = record {
    masked = record {
      words = words.masked.words;
      atoms = slots-too (λ i k. SlotMask cs ms ts ss k (mask_at ws i)) words.masked.atoms;
    };
    noted = record { words = words.noted.words; atoms = λ i low. noted-too words.noted i (rw h.count at low) };
    falling = λ e. record { each = slots-too (λ i k. FallingSlot ms ts k) (words.falling e).each };
  }

-- ---- one atom

-- the atoms of a list but the one at i: those before it, and those after it
abbrev pub others_at : Table → Atoms → ℕ → List Atom
others_at t a i = atoms_from t a.number a.set 0 i ++ atoms_from t a.number a.set (i + 1) (many a.count - (i + 1))

-- r is the list with the full set at i: its tries are those of the others
pub record SilencedAt (a : Atoms) (i : ℕ) (r : Atoms) : Type 0 where
  pub silenced : Silenced a r
  pub quieted : (t : Table) → Quieted (atoms_of t r) (others_at t a i)
