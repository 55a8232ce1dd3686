-- Step 2: atoms of one polynomial become one at the first's place, and no full one is left.
use mathlib.Core.Path.{◌≡◌, refl, sym, ◌∙◌, ap}
use mathlib.Core.Bool.{Bool, true, false}
use mathlib.Core.List.{List, [], ◌∷◌, ◌++◌, append_assoc, append-nil}
use Prim.Native.Nat.{ℕ, suc, ◌+◌, ◌*◌, ◌/◌, ◌%◌, ◌<◌, ◌≤◌}
use native.Mathlib.Numerals.{add-one}
use native.Mathlib.Omega.{arith}
use borrow.Author.Tests.{eq-eqb, ne_eqb}
use lib.Dec.{eqb}
use lib.ListN.{length, take, drop, get_or, set, length-append, length-set}
use lib.Seq.{take-suc, set_split, take-set-lt, take_all}
use Rattle.rules.specs.Signs.{intersect}
use Rattle.rules.specs.Polynomial.{same}
use Rattle.rules.specs.Level.{Placed, with_set, merged_if, merge_into, merge, kept_if, without_full, after_merging, tidy, Tidied as Outcome, broken, tidied}
use Rattle.sign_laws.specs.Sets.{intersect-below}
use Rattle.table.specs.Table.{Table, Forms}
use Rattle.tape.specs.declared.rows.Row.{Row}
use Rattle.std.specs.Prelude.{Option, None, Some}
use Rattle.tape.specs.Row.{Lists}
use Rattle.tape.specs.Token.{slot, place, atom_of, atoms_in}
use Rattle.steps.specs.Tidied.{tidied_of, after_truth, TruthIs, Absent, Apart, MergesInto, Merges, WithoutFull, Tidies}
use Rattle.tape.specs.Listing.{held_at, rest-next, rest-none}
use Rattle.tape.specs.Entering.{map-append, same_place}
use Rattle.steps.proofs.Slots.{absent_more, apart_more, apart-set, apart-front, apart-without, apart-few}

-- ---- one atom into a list

-- what is looked through has other polynomials
pub record Passing (t : Table) (x : ℕ) (l : List ℕ) (i : ℕ) : Type 0 where
  pub is : merge_into (atom_of t x) (atoms_in t l) ≡ atoms_in t (take i l) ++ merge_into (atom_of t x) (atoms_in t (drop i l))
  pub absent : Absent (slot x) (take i l)

pub into-start : (t : Table) (x : ℕ) (l : List ℕ) → Passing t x l 0
unfolding Absent
into-start t x l = record { is = refl; absent = tt }

same-is : {t : Table} → Forms t → (x y : ℕ) → same (atom_of t x).polynomial (atom_of t y).polynomial ≡ eqb (slot x) (slot y)
unfolding atom_of
same-is forms x y = forms.distinct (slot x) (slot y) (omega arith) (omega arith)

into-cons : {t : Table} → Forms t → (x y : ℕ) (l : List ℕ)
    → merge_into (atom_of t x) (atoms_in t (y ∷ l)) ≡ merged_if (eqb (slot x) (slot y)) (atom_of t x) (atom_of t y) (atoms_in t l) (merge_into (atom_of t x) (atoms_in t l))
unfolding merge_into
into-cons {t} forms x y l = ap (λ (b : Bool). merged_if b (atom_of t x) (atom_of t y) (atoms_in t l) (merge_into (atom_of t x) (atoms_in t l))) (same-is forms x y)

module _ {t : Table} {x : ℕ} {row : Row} {l : List ℕ} {i : ℕ} (forms : Forms t) (h : Lists row l) (p : Passing t x l i) (k : i < length l) where
  y : ℕ
  y = get_or row.token i 0

  here : merge_into (atom_of t x) (atoms_in t (drop i l)) ≡ merged_if (eqb (slot x) (slot y)) (atom_of t x) (atom_of t y) (atoms_in t (drop (i + 1) l)) (merge_into (atom_of t x) (atoms_in t (drop (i + 1) l)))
  unfolding y
  here = ap (λ (z : List ℕ). merge_into (atom_of t x) (atoms_in t z)) (rest-next h k) ∙ into-cons forms x (get_or row.token i 0) (drop (i + 1) l)

  pub into-turn : (slot (get_or row.token i 0) ≡ slot x → ⊥) → Passing t x l (i + 1)
  unfolding merged_if y
  into-turn other =
      let e : eqb (slot x) (slot (get_or row.token i 0)) ≡ false = ne_eqb _ _ (λ z. other (sym z)) in
      let f : merge_into (atom_of t x) (atoms_in t (drop i l)) ≡ atom_of t (get_or row.token i 0) ∷ merge_into (atom_of t x) (atoms_in t (drop (i + 1) l)) = here ∙ rw e in
      let g : take (i + 1) l ≡ take i l ++ (get_or row.token i 0 ∷ []) = rw (add-one, held_at h i k) (take-suc l i 0 k) in
      record {
        is = rw (g, map-append (atom_of t) (take i l) (get_or row.token i 0 ∷ []))
            (p.is ∙ ap (λ (z : List Placed). atoms_in t (take i l) ++ z) f
            ∙ sym (append_assoc (atoms_in t (take i l)) (atom_of t (get_or row.token i 0) ∷ []) (merge_into (atom_of t x) (atoms_in t (drop (i + 1) l)))));
        absent = rw g (absent_more (slot x) (take i l) (get_or row.token i 0) other p.absent);
      }

  pub into-found : (s v : ℕ) (merged : Row) → slot (get_or row.token i 0) ≡ slot x → s ≡ intersect (get_or row.token i 0 % 8) (x % 8)
      → v ≡ get_or row.token i 0 / 8 * 8 + s % 8 → merged.token ≡ set row.token i v → merged.count ≡ row.count → MergesInto t x l merged
  unfolding merged_if atom_of y
  into-found s v merged n m w e q =
      let u = get_or row.token i 0 in
      let small : s < 8 = rw m (intersect-below (u % 8) (x % 8)) in
      let b : eqb (slot x) (slot u) ≡ true = eq-eqb _ _ (sym n) in
      let same-slot : slot v ≡ slot u = omega arith in
      let new-set : v % 8 ≡ s = omega arith in
      let same-origin : place v ≡ place u = ap place w ∙ same_place u (s % 8) (omega arith) in
      let c : atom_of t v ≡ with_set (atom_of t u) (intersect (atom_of t u).set (atom_of t x).set) = rw (same-slot, new-set, same-origin, m) in
      let f : merge_into (atom_of t x) (atoms_in t (drop i l)) ≡ atom_of t v ∷ atoms_in t (drop (suc i) l) = rw (← add-one i) (here ∙ rw (b, c)) in
      record {
        list = set l i v;
        lists = record {
          is = rw (e, q) (take-set-lt row.count row.token i v (omega (arith, h.size)) ∙ ap (λ (z : List ℕ). set z i v) h.is);
          size = omega (arith, length-set l i v, h.size);
        };
        is = p.is ∙ ap (λ (z : List Placed). atoms_in t (take i l) ++ z) f
            ∙ sym (ap (atoms_in t) (set_split l i v k) ∙ map-append (atom_of t) (take i l) (v ∷ drop (suc i) l));
        apart = λ a. apart-set l i v k (same-slot ∙ ap slot (held_at h i k)) a;
      }

pub into-end : {t : Table} {x : ℕ} {l : List ℕ} {i : ℕ} → Passing t x l i → length l ≤ i → (row : Row) → Lists row (l ++ (x ∷ [])) → MergesInto t x l row
unfolding merge_into
into-end {t} {x} {l} {i} p h row w = record {
  list = l ++ (x ∷ []);
  lists = w;
  is = p.is ∙ (rw (take_all i l h, rest-none l i h) (sym (map-append (atom_of t) l (x ∷ []))));
  apart = λ a. apart_more l x (rw (take_all i l h) at p.absent) a;
}

-- ---- all atoms of a list

pub record Merging (t : Table) (all : List ℕ) (row : Row) (rest : List ℕ) : Type 0 where
  pub list : List ℕ
  pub lists : Lists row list
  pub is : merge (atoms_in t list) (atoms_in t rest) ≡ merge [] (atoms_in t all)
  pub apart : Apart list

pub merge-start : (t : Table) (all : List ℕ) (row : Row) → Lists row [] → Merging t all row all
unfolding Apart
merge-start t all row h = record { list = []; lists = h; is = refl; apart = tt }

pub merge-end : {t : Table} {all : List ℕ} {row : Row} → Merging t all row [] → Merges t all row false
unfolding merge tidied_of
merge-end m = record { list = m.list; lists = m.lists; is = sym m.is; apart = m.apart }

module _ {t : Table} {all : List ℕ} {row : Row} {x : ℕ} {rest : List ℕ} (m : Merging t all row (x ∷ rest)) (r : Option Bool) (is-truth : TruthIs t x r) where
  next : merge (atoms_in t m.list) (atoms_in t (x ∷ rest)) ≡ after_truth r (merge (merge_into (atom_of t x) (atoms_in t m.list)) (atoms_in t rest)) (merge (atoms_in t m.list) (atoms_in t rest))
  unfolding merge
  next = is-truth.is (atoms_in t m.list) (λ (l : List Placed). merge l (atoms_in t rest))

  pub merge-false : r ≡ Some false → Merges t all row true
  unfolding after_truth tidied_of
  merge-false e = record { list = m.list; lists = m.lists; is = sym m.is ∙ (rw e at next); apart = m.apart }

  pub merge-true : r ≡ Some true → Merging t all row rest
  unfolding after_truth
  merge-true e = record { list = m.list; lists = m.lists; is = sym (rw e at next) ∙ m.is; apart = m.apart }

  pub merge-open : r ≡ None → (longer : Row) → MergesInto t x m.list longer → Merging t all longer rest
  unfolding after_truth
  merge-open e longer p = record { list = p.list; lists = p.lists; is = ap (λ (l : List Placed). merge l (atoms_in t rest)) (sym p.is) ∙ sym (rw e at next) ∙ m.is; apart = p.apart m.apart }

-- ---- without the full ones

front : List Placed → Outcome → Outcome
front l broken = broken
front l (tidied m) = tidied (l ++ m)

pub record Keeping (t : Table) (all : List ℕ) (row : Row) (rest : List ℕ) : Type 0 where
  pub list : List ℕ
  pub lists : Lists row list
  pub small : length list + length rest ≤ length all
  is : front (atoms_in t list) (without_full (atoms_in t rest)) ≡ without_full (atoms_in t all)
  apart : Apart all → Apart (list ++ rest)

front-nil : (o : Outcome) → front [] o ≡ o
unfolding front
front-nil broken = refl
front-nil (tidied m) = refl

front_kept : (l : List Placed) (a : Placed) (o : Outcome) → front l (kept_if false false a o) ≡ front (l ++ (a ∷ [])) o
unfolding front kept_if
front_kept l a broken = refl
front_kept l a (tidied m) = ap tidied (sym (append_assoc l (a ∷ []) m))

kept_cons : (t : Table) (x : ℕ) (l : List ℕ) → without_full (atoms_in t (x ∷ l)) ≡ kept_if (eqb (x % 8) 0) (eqb (x % 8) 7) (atom_of t x) (without_full (atoms_in t l))
unfolding without_full atom_of
kept_cons t x l = refl

pub keep-start : (t : Table) (all : List ℕ) (row : Row) → Lists row [] → Keeping t all row all
keep-start t all row h = record { list = []; lists = h; small = omega arith; is = front-nil _; apart = λ a. a }

pub keep-end : {t : Table} {all : List ℕ} {row : Row} → Keeping t all row [] → WithoutFull t all row false
unfolding front without_full tidied_of
keep-end {t} k = record {
  list = k.list;
  lists = k.lists;
  small = omega (arith, k.small);
  is = sym k.is ∙ ap tidied (append-nil (atoms_in t k.list));
  apart = λ a. rw (append-nil k.list) at (k.apart a);
}

module _ {t : Table} {all : List ℕ} {row : Row} {x : ℕ} {rest : List ℕ} (k : Keeping t all row (x ∷ rest)) where
  pub keep-empty : x % 8 ≡ 0 → WithoutFull t all row true
  unfolding front kept_if tidied_of
  keep-empty e = record {
    list = k.list;
    lists = k.lists;
    small = omega (arith, k.small);
    is = sym k.is ∙ ap (front (atoms_in t k.list)) (rw (eq-eqb _ _ e) at (kept_cons t x rest));
    apart = λ a. apart-front k.list (x ∷ rest) (k.apart a);
  }

  pub keep-full : (x % 8 ≡ 0 → ⊥) → x % 8 ≡ 7 → Keeping t all row rest
  unfolding kept_if
  keep-full n e = record {
    list = k.list;
    lists = k.lists;
    small = omega (arith, k.small);
    is = ap (front (atoms_in t k.list)) (sym (rw (ne_eqb _ _ n, eq-eqb _ _ e) at (kept_cons t x rest))) ∙ k.is;
    apart = λ a. apart-without k.list x rest (k.apart a);
  }

  pub keep-open : (x % 8 ≡ 0 → ⊥) → (x % 8 ≡ 7 → ⊥) → (longer : Row) → ((l : List ℕ) → Lists row l → Lists longer (l ++ (x ∷ []))) → Keeping t all longer rest
  keep-open n m longer h = record {
    list = k.list ++ (x ∷ []);
    lists = h k.list k.lists;
    small = omega (arith, k.small, length-append k.list (x ∷ []));
    is = rw (map-append (atom_of t) k.list (x ∷ [])) (sym (ap (front (atoms_in t k.list)) (rw (ne_eqb _ _ n, ne_eqb _ _ m) at (kept_cons t x rest)) ∙ front_kept (atoms_in t k.list) (atom_of t x) _)) ∙ k.is;
    apart = λ a. rw (append_assoc k.list (x ∷ []) rest) (k.apart a);
  }

-- ---- the whole step

module _ {t : Table} {l : List ℕ} {row merged : Row} (h : Lists row l) {b : Bool} (n : merged.count ≤ row.count) (g : Merges t l merged b) where
  pub tidy-broken : b ≡ true → Tidies t l merged b
  unfolding tidy after_merging tidied_of
  tidy-broken e = record { list = g.list; lists = g.lists; small = omega (arith, g.lists.size, h.size); few = apart-few g.list g.apart; is = rw (g.is, e) }

  pub tidy-goes : b ≡ false → {left : Row} {c : Bool} → WithoutFull t g.list left c → Tidies t l left c
  unfolding tidy after_merging tidied_of
  tidy-goes e w = record {
    list = w.list;
    lists = w.lists;
    small = omega (arith, w.small, g.lists.size, h.size);
    few = apart-few w.list (w.apart g.apart);
    is = rw (g.is, e) w.is;
  }
