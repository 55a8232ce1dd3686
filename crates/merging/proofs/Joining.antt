-- The merged list, token by token: one atom more, all atoms, and no full one left.
use mathlib.Core.Path.{◌≡◌, refl, sym, ◌∙◌, ap}
use mathlib.Core.Bool.{Bool, true, false}
use mathlib.Core.List.{List, [], ◌∷◌, ◌++◌, append_assoc, append-nil}
use Prim.Native.Nat.{ℕ, suc, ◌+◌, ◌*◌, ◌/◌, ◌%◌, ◌<◌, ◌≤◌}
use native.Mathlib.Numerals.{add-one}
use native.Mathlib.Omega.{arith}
use borrow.Author.Tests.{eq-eqb, ne_eqb}
use lib.Dec.{eqb}
use lib.ListN.{length, take, drop, get_or, set, length-append, length-set}
use lib.Seq.{take-suc, drop-cons, set_split, take-set-lt, take_all}
use Rattle.rules.specs.Signs.{SignSet, intersect, open_signs}
use Rattle.rules.specs.Polynomial.{same}
use Rattle.rules.specs.Level.{Placed, with_set, merged_if, merge_into}
use Rattle.sign_laws.specs.Sets.{intersect-below}
use Rattle.table.specs.Table.{Table, Forms}
use Rattle.tape.specs.declared.rows.Row.{Row}
use Rattle.tape.specs.Row.{Lists}
use Rattle.tape.specs.Token.{slot, place, atom_of, atoms_in}
use Rattle.tape.specs.Listing.{held_at, rest-next, rest-none}
use Rattle.tape.specs.Entering.{map-append, same_place}
use Rattle.rules.specs.Reasons.{join_all, unless_full, not_full}
use Rattle.merging.specs.declared.Truth.{Truth}
use Rattle.merging.specs.declared.Truth.TheVariants.{Open, True, False}
use Rattle.merging.specs.Merged.{after_truth, TruthIs, Sparse, MergesInto, Joins, JoinsAll, NotFull}
use Rattle.merging.specs.Slots.{Fits, fits-empty, fits_more, sparse-more, sparse-set, sparse-without}

-- ---- The tokens of a row, one after the other.

module _ {row : Row} {l : List ℕ} {i : ℕ} (h : Lists row l) where
  pub rest-token : i < length (take row.count row.token) → drop i l ≡ get_or (take row.count row.token) i 0 ∷ drop (i + 1) l
  rest-token k = rw (h.is, add-one i) (drop-cons l i 0 (rw h.is at k))

  pub tokens-done : length (take row.count row.token) ≤ i → drop i l ≡ []
  tokens-done k = rest-none l i (rw h.is at k)

-- ---- One atom into a list.

-- what is looked through has other polynomials
pub record Passing (t : Table) (x : ℕ) (l : List ℕ) (i : ℕ) : Type 0 where
  pub is : merge_into (atom_of t x) (atoms_in t l) ≡ atoms_in t (take i l) ++ merge_into (atom_of t x) (atoms_in t (drop i l))
  pub fits : Fits x (take i l)

pub into-start : (t : Table) (x : ℕ) (l : List ℕ) → Passing t x l 0
unfolding Fits
into-start t x l = record { is = refl; fits = tt }

same-is : {t : Table} → Forms t → (x y : ℕ) → same (atom_of t x).polynomial (atom_of t y).polynomial ≡ eqb (slot x) (slot y)
unfolding atom_of
same-is forms x y = forms.distinct (slot x) (slot y) (omega arith) (omega arith)

into-cons : {t : Table} → Forms t → (x y : ℕ) (l : List ℕ)
    → merge_into (atom_of t x) (atoms_in t (y ∷ l)) ≡ merged_if (eqb (slot x) (slot y)) (atom_of t x) (atom_of t y) (atoms_in t l) (merge_into (atom_of t x) (atoms_in t l))
unfolding merge_into
into-cons {t} forms x y l = ap (λ (b : Bool). merged_if b (atom_of t x) (atom_of t y) (atoms_in t l) (merge_into (atom_of t x) (atoms_in t l))) (same-is forms x y)

intersect-empty : (s : SignSet) → intersect 0 s ≡ 0
unfolding open_signs
intersect-empty s = refl

module _ {t : Table} {x : ℕ} {row : Row} {l : List ℕ} {i : ℕ} (forms : Forms t) (h : Lists row l) (p : Passing t x l i) (k : i < length l) where
  y : ℕ
  y = get_or row.token i 0

  here : merge_into (atom_of t x) (atoms_in t (drop i l)) ≡ merged_if (eqb (slot x) (slot y)) (atom_of t x) (atom_of t y) (atoms_in t (drop (i + 1) l)) (merge_into (atom_of t x) (atoms_in t (drop (i + 1) l)))
  unfolding y
  here = ap (λ (z : List ℕ). merge_into (atom_of t x) (atoms_in t z)) (rest-next h k) ∙ into-cons forms x (get_or row.token i 0) (drop (i + 1) l)

  pub into-turn : (slot (get_or row.token i 0) ≡ slot x → ⊥) → Passing t x l (i + 1)
  unfolding merged_if y
  into-turn other =
      let e : eqb (slot x) (slot (get_or row.token i 0)) ≡ false = ne_eqb _ _ (λ z. other (sym z)) in
      let f : merge_into (atom_of t x) (atoms_in t (drop i l)) ≡ atom_of t (get_or row.token i 0) ∷ merge_into (atom_of t x) (atoms_in t (drop (i + 1) l)) = here ∙ rw e in
      let g : take (i + 1) l ≡ take i l ++ (get_or row.token i 0 ∷ []) = rw (add-one, held_at h i k) (take-suc l i 0 k) in
      record {
        is = rw (g, map-append (atom_of t) (take i l) (get_or row.token i 0 ∷ []))
            (p.is ∙ ap (λ (z : List Placed). atoms_in t (take i l) ++ z) f
            ∙ sym (append_assoc (atoms_in t (take i l)) (atom_of t (get_or row.token i 0) ∷ []) (merge_into (atom_of t x) (atoms_in t (drop (i + 1) l)))));
        fits = rw g (fits_more x (take i l) (get_or row.token i 0) other p.fits);
      }

  pub into-found : (s v : ℕ) (merged : Row) → slot (get_or row.token i 0) ≡ slot x → s ≡ intersect (get_or row.token i 0 % 8) (x % 8)
      → v ≡ get_or row.token i 0 / 8 * 8 + s % 8 → merged.token ≡ set row.token i v → merged.count ≡ row.count → MergesInto t x l merged
  unfolding merged_if atom_of y
  into-found s v merged n m w e q =
      let u = get_or row.token i 0 in
      let small : s < 8 = rw m (intersect-below (u % 8) (x % 8)) in
      let b : eqb (slot x) (slot u) ≡ true = eq-eqb _ _ (sym n) in
      let same-slot : slot v ≡ slot u = omega arith in
      let new-set : v % 8 ≡ s = omega arith in
      let same-origin : place v ≡ place u = ap place w ∙ same_place u (s % 8) (omega arith) in
      let c : atom_of t v ≡ with_set (atom_of t u) (intersect (atom_of t u).set (atom_of t x).set) = rw (same-slot, new-set, same-origin, m) in
      let f : merge_into (atom_of t x) (atoms_in t (drop i l)) ≡ atom_of t v ∷ atoms_in t (drop (suc i) l) = rw (← add-one i) (here ∙ rw (b, c)) in
      let there : u ≡ get_or l i 0 = held_at h i k in
      record {
        list = set l i v;
        lists = record {
          is = rw (e, q) (take-set-lt row.count row.token i v (omega (arith, h.size)) ∙ ap (λ (z : List ℕ). set z i v) h.is);
          size = omega (arith, length-set l i v, h.size);
        };
        small = omega (arith, length-set l i v);
        is = p.is ∙ ap (λ (z : List Placed). atoms_in t (take i l) ++ z) f
            ∙ sym (ap (atoms_in t) (set_split l i v k) ∙ map-append (atom_of t) (take i l) (v ∷ drop (suc i) l));
        sparse = λ a. sparse-set l i v k (same-slot ∙ ap slot there)
            (λ z. new-set ∙ m ∙ ap (λ (j : ℕ). intersect j (x % 8)) (ap (λ (j : ℕ). j % 8) there ∙ z) ∙ intersect-empty (x % 8)) a;
      }

pub into-end : {t : Table} {x : ℕ} {l : List ℕ} {i : ℕ} → Passing t x l i → length l ≤ i → (row : Row) → Lists row (l ++ (x ∷ [])) → MergesInto t x l row
unfolding merge_into
into-end {t} {x} {l} {i} p h row w = record {
  list = l ++ (x ∷ []);
  lists = w;
  small = omega (arith, length-append l (x ∷ []));
  is = p.is ∙ (rw (take_all i l h, rest-none l i h) (sym (map-append (atom_of t) l (x ∷ []))));
  sparse = λ a. sparse-more l x (rw (take_all i l h) at p.fits) a;
}

-- ---- One atom more, by what a constant is.

eight-times : (k : ℕ) → (k * 8 + 0 % 8) / 8 ≡ k
eight-times k = omega arith

module _ {t : Table} {x : ℕ} {l : List ℕ} {row : Row} (r : Truth) (is-truth : TruthIs t x r) where
  pub join-open : r ≡ Open → MergesInto t x l row → Joins t x l row
  unfolding after_truth
  join-open e m = record { list = m.list; lists = m.lists; small = m.small; is = (rw e at (is-truth.is (atoms_in t l))) ∙ m.is; sparse = m.sparse }

  pub join-true : r ≡ True → Lists row l → Joins t x l row
  unfolding after_truth
  join-true e h = record { list = l; lists = h; small = omega arith; is = rw e at (is-truth.is (atoms_in t l)); sparse = λ a. a }

  pub join-false : r ≡ False → (v : ℕ) → v ≡ x / 8 * 8 + 0 % 8 → Lists row (l ++ (v ∷ [])) → Joins t x l row
  unfolding after_truth atom_of
  join-false e v w h =
      let no-set : v % 8 ≡ 0 = omega arith in
      let same-slot : slot v ≡ slot x = ap slot w ∙ ap (λ (k : ℕ). k % 64) (eight-times (x / 8)) in
      let same-origin : place v ≡ place x = ap place w ∙ same_place x 0 (omega arith) in
      record {
        list = l ++ (v ∷ []);
        lists = h;
        small = omega (arith, length-append l (v ∷ []));
        is = (rw e at (is-truth.is (atoms_in t l))) ∙ rw (map-append (atom_of t) l (v ∷ []), no-set, same-slot, same-origin);
        sparse = λ a. sparse-more l v (fits-empty v no-set l) a;
      }

-- ---- All atoms.

pub record Joining (t : Table) (all : List ℕ) (row : Row) (rest : List ℕ) : Type 0 where
  pub list : List ℕ
  pub lists : Lists row list
  pub small : length list + length rest ≤ length all
  pub is : join_all (atoms_in t list) (atoms_in t rest) ≡ join_all [] (atoms_in t all)
  pub sparse : Sparse list

pub joining-start : (t : Table) (all : List ℕ) (row : Row) → Lists row [] → Joining t all row all
unfolding Sparse
joining-start t all row h = record { list = []; lists = h; small = omega arith; is = refl; sparse = tt }

pub joining-next : {t : Table} {all : List ℕ} {row : Row} {x : ℕ} {rest : List ℕ} → (j : Joining t all row (x ∷ rest)) → {longer : Row}
    → Joins t x j.list longer → Joining t all longer rest
unfolding join_all
joining-next {t} {x} {rest} j p = record {
  list = p.list;
  lists = p.lists;
  small = omega (arith, p.small, j.small);
  is = ap (λ (l : List Placed). join_all l (atoms_in t rest)) (sym p.is) ∙ j.is;
  sparse = p.sparse j.sparse;
}

pub joining-end : {t : Table} {all : List ℕ} {row : Row} → Joining t all row [] → JoinsAll t all row
unfolding join_all
joining-end j = record { list = j.list; lists = j.lists; small = omega (arith, j.small); is = sym j.is; sparse = j.sparse }

-- ---- Without the full ones.

pub record Keeping (t : Table) (all : List ℕ) (row : Row) (rest : List ℕ) : Type 0 where
  pub list : List ℕ
  pub lists : Lists row list
  pub small : length list + length rest ≤ length all
  is : atoms_in t list ++ not_full (atoms_in t rest) ≡ not_full (atoms_in t all)
  sparse : Sparse all → Sparse (list ++ rest)

kept_cons : (t : Table) (x : ℕ) (l : List ℕ) → not_full (atoms_in t (x ∷ l)) ≡ unless_full (eqb (x % 8) 7) (atom_of t x) (not_full (atoms_in t l))
unfolding not_full atom_of
kept_cons t x l = refl

pub keep-start : (t : Table) (all : List ℕ) (row : Row) → Lists row [] → Keeping t all row all
keep-start t all row h = record { list = []; lists = h; small = omega arith; is = refl; sparse = λ a. a }

pub keep-end : {t : Table} {all : List ℕ} {row : Row} → Keeping t all row [] → NotFull t all row
unfolding not_full
keep-end {t} k = record {
  list = k.list;
  lists = k.lists;
  small = omega (arith, k.small);
  is = sym k.is ∙ append-nil (atoms_in t k.list);
  sparse = λ a. rw (append-nil k.list) at (k.sparse a);
}

module _ {t : Table} {all : List ℕ} {row : Row} {x : ℕ} {rest : List ℕ} (k : Keeping t all row (x ∷ rest)) where
  pub keep-full : x % 8 ≡ 7 → Keeping t all row rest
  unfolding unless_full
  keep-full e = record {
    list = k.list;
    lists = k.lists;
    small = omega (arith, k.small);
    is = ap (λ (l : List Placed). atoms_in t k.list ++ l) (sym (rw (eq-eqb _ _ e) at (kept_cons t x rest))) ∙ k.is;
    sparse = λ a. sparse-without k.list x rest (k.sparse a);
  }

  pub keep-open : (x % 8 ≡ 7 → ⊥) → (longer : Row) → ((l : List ℕ) → Lists row l → Lists longer (l ++ (x ∷ []))) → Keeping t all longer rest
  unfolding unless_full
  keep-open m longer h = record {
    list = k.list ++ (x ∷ []);
    lists = h k.list k.lists;
    small = omega (arith, k.small, length-append k.list (x ∷ []));
    is = rw (map-append (atom_of t) k.list (x ∷ []), append_assoc (atoms_in t k.list) (atom_of t x ∷ []) (not_full (atoms_in t rest)))
        (ap (λ (l : List Placed). atoms_in t k.list ++ l) (sym (rw (ne_eqb _ _ m) at (kept_cons t x rest))) ∙ k.is);
    sparse = λ a. rw (append_assoc k.list (x ∷ []) rest) (k.sparse a);
  }
