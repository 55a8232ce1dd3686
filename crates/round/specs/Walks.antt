-- Laws about the atoms of a list walked one at a time, from the one at i on: what a step does to what is folded over them.
-- The rest of a list is its next atom and the rest after that; the slots that are signed, likewise.
use Rattle.std.specs.Prelude.{◌≡◌, true, length, get_or, set}
use Rattle.std.proofs.Math.Path.{refl}
use Rattle.std.proofs.Common.{sym, ◌∙◌, ap, subst, add-zero, zero-add, below_more, get_or-set_same}
use mathlib.Core.List.{List, [], ◌∷◌, ◌++◌, append_assoc}
use Prim.Native.Nat.{ℕ, zero, suc, ◌+◌, ◌-◌, ◌*◌, ◌%◌, ◌<◌, ◌≤◌}
use Rattle.std.proofs.Math.Numerals.{add-one}
use native.Mathlib.Omega.{arith}
use Rattle.std.proofs.Math.Seq.{get_or-set_other}
use Rattle.sign_laws.specs.Booleans.{and-false, or-true}
use Rattle.sign_laws.specs.Sets.{PartOf}
use Rattle.ending_laws.specs.Cuts.{cut-floor}
use Rattle.ending_laws.specs.AtOnce.{empty-after-some}
use Rattle.rules.specs.Signs.{SignSet, only, has, bit, set_of, intersect}
use Rattle.rules.specs.Polynomial.{Polynomial, Atom, Board, by_terms}
use Rattle.rules.specs.Deduce.{any_empty, unless_empty, deduce}
use Rattle.rules.specs.Rounds.{cut_by, cut_atom, cut_atoms}
use Rattle.terms.specs.Signed.{Held, by_signs, by-signs}
use Rattle.table.specs.declared.Atoms.{Atoms}
use Rattle.table.specs.Table.{Table, form_at, atom_at, atoms_from, many}
use Rattle.round.specs.Views.{cut_set, rest}
use Rattle.round.specs.Signing.{atom_slot, signed_slot, signed_slots}
use Rattle.round.specs.SignedSlots.{run-form}

count-step : (i n : ℕ) → i < n → n - i ≡ suc (n - (i + 1))
count-step i n h = omega arith

count-end : (i n : ℕ) → n ≤ i → n - i ≡ 0
count-end i n h = omega arith

-- ---- slots to be signed

module _ (board : Board) (ms ts : List ℕ) (slot : ℕ → ℕ) (ss : List SignSet) (i n : ℕ) where
  pub signing_step : i < n
      → signed_slots board ms ts slot ss i (n - i) ≡ signed_slots board ms ts slot (signed_slot board ms ts ss (slot i)) (i + 1) (n - (i + 1))
  unfolding signed_slots
  signing_step h = rw (count-step i n h, add-one i)

  pub signing_end : n ≤ i → signed_slots board ms ts slot ss i (n - i) ≡ ss
  unfolding signed_slots
  signing_end h = rw (count-end i n h)

-- ---- atoms

module _ (t : Table) (numbers : List ℕ) (sets : List SignSet) where
  pub atoms-cons : (i n : ℕ) → i < n → atoms_from t numbers sets i (n - i) ≡ atom_at t numbers sets i ∷ atoms_from t numbers sets (i + 1) (n - (i + 1))
  unfolding atoms_from
  atoms-cons i n h = rw (count-step i n h, add-one i)

  pub atoms-nil : (i n : ℕ) → n ≤ i → atoms_from t numbers sets i (n - i) ≡ []
  unfolding atoms_from
  atoms-nil i n h = rw (count-end i n h)

  atoms-snoc : (i k : ℕ) → atoms_from t numbers sets i k ++ (atom_at t numbers sets (i + k) ∷ []) ≡ atoms_from t numbers sets i (suc k)
  unfolding atoms_from
  atoms-snoc i zero = rw (add-zero i)
  atoms-snoc i (suc k) =
      let e : i + suc k ≡ suc i + k = omega arith in
      rw e (ap (λ (l : List Atom). atom_at t numbers sets i ∷ l) (atoms-snoc (suc i) k))

  -- the first i atoms, and the one at i
  pub before-next : (i : ℕ) → atoms_from t numbers sets 0 (suc i) ≡ atoms_from t numbers sets 0 i ++ (atom_at t numbers sets i ∷ [])
  before-next i = sym (rw (zero-add i) at (atoms-snoc 0 i))

-- one more stored behind the first c
module _ (t : Table) (numbers : List ℕ) (sets : List SignSet) (c x : ℕ) (y : SignSet) where
  kept-before : (i k : ℕ) → i + k ≤ c → atoms_from t (set numbers c x) (set sets c y) i k ≡ atoms_from t numbers sets i k
  unfolding atoms_from
  kept-before i zero h = refl
  kept-before i (suc k) h =
      let other : i ≡ c → ⊥ = λ e. omega arith in
      rw (get_or-set_other numbers c i x 0 other, get_or-set_other sets c i y 0 other, kept-before (suc i) k (omega arith))

  -- the first c atoms, with one more stored at place c
  pub stored-atom : c < length numbers → c < length sets → (l : List Atom)
      → atoms_from t (set numbers c x) (set sets c y) 0 (suc c) ++ l ≡ atoms_from t numbers sets 0 c ++ (record { polynomial = form_at t (x % 64); set = y } ∷ l)
  stored-atom h k l =
      rw (before-next t (set numbers c x) (set sets c y) c, kept-before 0 c (omega arith), get_or-set_same numbers c x 0 h, get_or-set_same sets c y 0 k)
      (append_assoc (atoms_from t numbers sets 0 c) (record { polynomial = form_at t (x % 64); set = y } ∷ []) l)

-- the rest of a list
module _ (t : Table) (a : Atoms) (i : ℕ) where
  pub rest-cons : i < many a.count → rest t a i ≡ atom_at t a.number a.set i ∷ rest t a (i + 1)
  rest-cons h = atoms-cons t a.number a.set i (many a.count) h

  pub rest-nil : many a.count ≤ i → rest t a i ≡ []
  rest-nil h = atoms-nil t a.number a.set i (many a.count) h

-- ---- deductions from atoms

module _ (t : Table) (numbers : List ℕ) (sets : List SignSet) where
  -- one more deduction of P, the polynomial in slot p, from the atom at i, whose polynomial is Q
  pub cut_step : (board : Board) (p i n : ℕ) (s : SignSet) {P Q : Polynomial} {d r : SignSet} → i < n → P ≡ form_at t p → Q ≡ form_at t (atom_slot numbers i)
      → d ≡ deduce board P (record { polynomial = Q; set = get_or sets i 0 }) → r ≡ intersect s d
      → cut_by board (form_at t p) (atoms_from t numbers sets (i + 1) (n - (i + 1))) r ≡ cut_by board (form_at t p) (atoms_from t numbers sets i (n - i)) s
  unfolding cut_by
  cut_step board p i n s h e_p e_q ed er = rw (atoms-cons t numbers sets i n h, er, ed, e_p, e_q)

  -- an empty set on the board makes the deduction from each atom empty
  pub cut-empty-board : (board : Board) (p : Polynomial) (i n : ℕ) (s : SignSet) → i < n → any_empty board ≡ true
      → cut_by board p (atoms_from t numbers sets i (n - i)) s ≡ 0
  unfolding cut_by deduce unless_empty intersect set_of has only bit
  cut-empty-board board p i n s h e =
      rw (atoms-cons t numbers sets i n h) (empty-after-some board p (atom_at t numbers sets i ∷ []) (atoms_from t numbers sets (i + 1) (n - (i + 1))) s (simp (e, or-true, and-false)))

  pub cut-end : (board : Board) (p : Polynomial) (i n : ℕ) (s : SignSet) → n ≤ i → cut_by board p (atoms_from t numbers sets i (n - i)) s ≡ s
  unfolding cut_by
  cut-end board p i n s h = rw (atoms-nil t numbers sets i n h)

-- an empty set stays empty
pub cut-empty : (board : Board) (p : Polynomial) (qs : List Atom) (s : SignSet) → s ≡ 0 → cut_by board p qs s ≡ 0
unfolding cut_by
cut-empty board p qs s e = empty-after-some board p [] qs s e

-- A set that has come to a floor, a part of what all atoms leave, is what they leave.
pub cut-to-floor : (board : Board) (p : Polynomial) (qs : List Atom) {sofar floor all : SignSet} → sofar ≡ floor → floor < 8
    → cut_by board p qs sofar ≡ all → PartOf floor all → sofar ≡ all
cut-to-floor board p qs {sofar} {floor} e low is part =
    let left : PartOf sofar (cut_by board p qs sofar) =
    subst (λ (s : SignSet). PartOf s (cut_by board p qs sofar)) (sym e) (subst (PartOf floor) (sym is) part) in
    sym (cut-floor board p qs sofar (rw e low) left) ∙ is

-- the deductions from two lists, one after the other
pub cut-append : (board : Board) (p : Polynomial) (xs ys : List Atom) (s : SignSet) → cut_by board p (xs ++ ys) s ≡ cut_by board p ys (cut_by board p xs s)
unfolding cut_by
cut-append board p [] ys s = refl
cut-append board p (x ∷ xs) ys s = cut-append board p xs ys (intersect s (deduce board p x))

-- ---- all atoms cut

-- The atoms from i on, with the sets that a round leaves at each place, are those that the round cuts.
pub cut-from : (t : Table) (numbers : List ℕ) (sets cut : List SignSet) (board : Board) (n i k : ℕ) → i + k ≡ n
    → ((j : ℕ) → j < n → get_or cut j 0 ≡ cut_set t numbers sets board n j)
    → atoms_from t numbers cut i k ≡ cut_atoms board (atoms_from t numbers sets 0 i) (atoms_from t numbers sets i k)
unfolding cut_atoms atoms_from cut_atom
cut-from t numbers sets cut board n i zero e f = refl
cut-from t numbers sets cut board n i (suc k) e f =
    let later = atoms_from t numbers sets (suc i) k in
    let others = atoms_from t numbers sets 0 i ++ later in
    let g : n - (i + 1) ≡ k = omega arith in
    let h : get_or cut i 0 ≡ (cut_atom board others (atom_at t numbers sets i)).set = rw (g, add-one i) at (f i (omega arith)) in
    ap (λ (x : SignSet). record { polynomial = (atom_at t numbers sets i).polynomial; set = x } ∷ atoms_from t numbers cut (suc i) k) h
    ∙ ap (λ (l : List Atom). cut_atom board others (atom_at t numbers sets i) ∷ l)
    (cut-from t numbers sets cut board n (suc i) k (omega arith) f ∙ ap (λ (l : List Atom). cut_atoms board l later) (before-next t numbers sets i))

-- a store at i, of what is said to stand there
pub stored_more : (f : ℕ → SignSet) (xs : List SignSet) (i v : ℕ) → i < length xs → v ≡ f i → ((k : ℕ) → k < i → get_or xs k 0 ≡ f k)
    → (k : ℕ) → k < i + 1 → get_or (set xs i v) k 0 ≡ f k
stored_more f xs i v l e g =
    below_more (λ (k : ℕ). get_or (set xs i v) k 0 ≡ f k) i (λ (k : ℕ) (h : k < i). get_or-set_other xs i k v 0 (λ (q : k ≡ i). omega arith) ∙ g k h)
    (get_or-set_same xs i v 0 l ∙ e)

-- ---- the sign by terms of the polynomial in slot k, from the signs of its places

pub by-terms-at : (t : Table) {board : Board} {ss : List SignSet} (k : ℕ) {from to : ℕ} {r : SignSet} → r ≡ by_signs t.coefficient ss from to
    → from ≡ 16 * k → to ≡ 16 * k + get_or t.terms k 0 → Held board t.coefficient t.monomial ss from to → r ≡ by_terms board (form_at t k)
by-terms-at t {board} k e f g held = e ∙ by-signs t.coefficient held.signed ∙ ap (by_terms board) (run-form t k f g)
