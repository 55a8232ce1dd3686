-- Each clause of the merged list stands at its own place: no polynomial is there twice, where the whole is not false.
use Rattle.std.specs.Prelude.{◌≡◌, refl, Bool, ℕ, eqb, ℤ}
use Rattle.std.proofs.Common.{sym, subst}
use Rattle.std.proofs.Math.Bool.{true, false}
use mathlib.Core.List.{List, [], ◌∷◌, ◌++◌}
use Rattle.std.proofs.Math.Option.{Option, none, some}
use Rattle.rules.specs.Signs.{full, sign_of, has}
use Rattle.rules.specs.Polynomial.{Polynomial, Atom, same, constant}
use Rattle.rules.specs.Deduce.{any_empty}
use Rattle.rules.specs.Rounds.{State, sets_of, carried}
use Rattle.rules.specs.Level.{Placed, plain, plains, normal_placed, Tidied, broken, tidied, merged_if, merge_into, merge_constant, merge_normal, merge, carry, kept_unless, implied}
use Rattle.sign_laws.specs.Booleans.{never_both}
use Rattle.sign_laws.specs.Lists.{Every, every_none, every}
use Rattle.level_laws.specs.Same.{same-itself}
use Rattle.removal_laws.specs.Apart.{Other, Apart, none_apart, apart, other-back}
use Rattle.rules.specs.Reasons.{unless_full, not_full, joined, merged_list, told_from, carried_clauses, or_place, place_of}
use Rattle.reason_laws.specs.Merged.{as_read, Agrees, joined-agrees, not_full-empty}
use Rattle.reason_laws.specs.Records.{Stands, ToldStands}

-- ---- Merging leaves no polynomial twice. (As in removal_laws/Apart, where these are not public.)

merge_into-other : {p : Polynomial} (a : Placed) (l : List Placed) → Other p (plain a) → Every (Other p) (plains l)
    → Every (Other p) (plains (merge_into a l))
unfolding merge_into merged_if
merge_into-other a [] k hs = every k every_none
merge_into-other {p} a (first ∷ later) k (every h hs) = by-test (same a.polynomial first.polynomial) (merge_into-other a later k hs)
  where
    by-test : (b : Bool) → Every (Other p) (plains (merge_into a later)) → Every (Other p) (plains (merged_if b a first later (merge_into a later)))
    by-test true merged = every (record { differs = h.differs }) hs
    by-test false merged = every h merged

merge_into-apart : (a : Placed) (l : List Placed) → Apart (plains l) → Apart (plains (merge_into a l))
unfolding merge_into merged_if
merge_into-apart a [] h = apart every_none none_apart
merge_into-apart a (first ∷ later) (apart h hs) = by-test (same a.polynomial first.polynomial) refl (merge_into-apart a later hs)
  where
    by-test : (b : Bool) → same a.polynomial first.polynomial ≡ b → Apart (plains (merge_into a later))
        → Apart (plains (merged_if b a first later (merge_into a later)))
    by-test true e merged = apart h hs
    by-test false e merged = apart (merge_into-other a later (other-back {a = plain a} {b = plain first} (record { differs = e })) h) merged

abbrev MergedApart : Tidied → Type 0
MergedApart broken = Unit {0}
MergedApart (tidied l) = Apart (plains l)

merge-apart : (later l : List Placed) → Apart (plains l) → MergedApart (merge l later)
unfolding merge merge_normal merge_constant
merge-apart [] l h = h
merge-apart (a ∷ later) l h = by_constant (constant (normal_placed a).polynomial) (λ m. merge-apart later m)
  where
    by-truth : (b : Bool) (more : List Placed → Tidied) → ((m : List Placed) → Apart (plains m) → MergedApart (more m))
        → MergedApart (merge_constant b l more)
    by-truth true more k = k l h
    by-truth false more k = tt

    by_constant : (o : Option ℤ) → ((m : List Placed) → Apart (plains m) → MergedApart (merge m later))
        → MergedApart (merge_normal o (normal_placed a) l (λ (m : List Placed). merge m later))
    by_constant none k = k (merge_into (normal_placed a) l) (merge_into-apart (normal_placed a) l h)
    by_constant (some z) k = by-truth (has (sign_of z) (normal_placed a).set) (λ (m : List Placed). merge m later) k

-- Nor has the list before full sets are taken out one, if no set is empty.
pub joined-apart : (l : List Atom) → any_empty (sets_of (plains (merged_list l))) ≡ false → Apart (plains (joined l))
unfolding merged_list
joined-apart l e = by-outcome (merge [] (as_read 0 l)) (joined-agrees l) (merge-apart (as_read 0 l) [] none_apart)
  where
    by-outcome : (o : Tidied) → Agrees o (joined l) → MergedApart o → Apart (plains (joined l))
    by-outcome broken h k = never_both (not_full-empty (joined l) h) e
    by-outcome (tidied m) h k = subst (λ (j : List Placed). Apart (plains j)) (sym h) k

-- ---- So each clause stands at its own place.

stands_later : (c : Placed) {all : List Placed} (l : List Placed) → Every (Other c.polynomial) (plains l) → Every (Stands all) l
    → Every (Stands (c ∷ all)) l
unfolding place_of or_place
stands_later c [] ks hs = every_none
stands_later c {all} (d ∷ l) (every k ks) (every h hs) =
    let differs : same d.polynomial c.polynomial ≡ false = (other-back {a = plain c} {b = plain d} k).differs in
    let own : place_of d.polynomial (c ∷ all) d.place ≡ d.place = rw differs h.here in
    every (record { here = own }) (stands_later c l ks hs)

each_stands : (all : List Placed) → Apart (plains all) → Every (Stands all) all
unfolding place_of or_place
each_stands [] none_apart = every_none
each_stands (c ∷ l) (apart h hs) =
    let own : place_of c.polynomial (c ∷ l) c.place ≡ c.place = rw (same-itself c.polynomial) in
    every (record { here = own }) (stands_later c l h (each_stands l hs))

module _ {all : List Placed} where
  not_full-stands : {l : List Placed} → Every (Stands all) l → Every (Stands all) (not_full l)
  unfolding not_full unless_full
  not_full-stands every_none = every_none
  not_full-stands (every {a = c} {l} h hs) = by-test (eqb c.set full) (not_full-stands hs)
    where
      by-test : (b : Bool) → Every (Stands all) (not_full l) → Every (Stands all) (unless_full b c (not_full l))
      by-test true rest = rest
      by-test false rest = every h rest

  carry-stands : (cut : List Atom) {l : List Placed} → Every (Stands all) l → Every (Stands all) (carry l cut)
  unfolding carry
  carry-stands cut every_none = every_none
  carry-stands [] (every h hs) = every h hs
  carry-stands (c ∷ cut) (every h hs) = every (record { here = h.here }) (carry-stands cut hs)

  told-stands : (n : ℕ) (kept : List Placed) {l : List Placed} → Every (Stands all) l → Every (ToldStands all) (told_from n kept l)
  unfolding told_from
  told-stands n kept every_none = every_none
  told-stands n kept (every {a = a} {l = l} h hs) =
      every (record { here = h.here }) (told-stands n (kept_unless (implied n (plains (kept ++ l)) (plain a)) a kept) hs)

-- And so does all that is told.
pub all-stand : (n : ℕ) (l : List Atom) (st : State) → any_empty (sets_of (plains (merged_list l))) ≡ false
    → Every (ToldStands (joined l)) (told_from n [] (carried_clauses n st (merged_list l)))
unfolding carried_clauses merged_list
all-stand n l st f =
    told-stands n [] (carry-stands (carried n st.board (plains (merged_list l)) st.atoms) (not_full-stands (each_stands (joined l)
    (joined-apart l f))))
