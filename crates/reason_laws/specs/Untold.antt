-- A record "removed by none, with the full set" is that of a true constant, or of an atom that is full after merging.
use Rattle.std.specs.Prelude.{◌≡◌, Bool, true, false, ℕ, suc, ◌≤◌, eqb}
use Rattle.std.proofs.Math.Path.{refl}
use Rattle.std.proofs.Common.{sym, ap, ◌∙◌, subst, arith, eqb-true, eq-eqb}
use mathlib.Core.List.{List, [], ◌∷◌, ◌++◌}
use mathlib.Core.List.Memᴰ.{head as first_of}
use mathlib.Core.List.Memᴰ.{tail as Later-of}
use mathlib.Core.List.{Memᴰ as Member}
use Rattle.rules.specs.Signs.{full}
use Rattle.rules.specs.Polynomial.{Polynomial, Atom, same}
use Rattle.rules.specs.Deduce.{any_empty}
use Rattle.rules.specs.Rounds.{State, sets_of, carried}
use Rattle.rules.specs.Level.{Placed, plains, carry, kept_unless, implied, plain}
use Rattle.sign_laws.specs.Booleans.{never_both}
use Rattle.sign_laws.specs.Lists.{Every, every_none, every, every-wider}
use Rattle.level_laws.specs.Same.{same-equal}
use Rattle.rules.specs.Reasons.{clauses_from, unless_full, not_full, joined, merged_list, Told, told_from, carried_clauses, place_of}
use Rattle.reason_laws.specs.Records.{From, ToldAt}
use Rattle.reason_laws.specs.Firsts.{FirstAt, first_here, first_later, first_found, TrueConstant, Stood, is_true, stands_first, all-stood}

-- A true constant, or full after merging, at its own place.
pub data TrueOrFull (all : List Placed) (c : Placed) : Type 0 where
  a_true_constant : TrueConstant c → TrueOrFull all c
  full_merged : {d : Placed} → Member d all → d.place ≡ c.place → c.polynomial ≡ d.polynomial → d.set ≡ full → TrueOrFull all c

-- Something is told of a place.
pub data IsTold (i : ℕ) : List Told → Type 0 where
  told_first : {t : Told} {l : List Told} → t.clause.place ≡ i → IsTold i (t ∷ l)
  told_after : {t : Told} {l : List Told} → IsTold i l → IsTold i (t ∷ l)

-- What becomes of an atom as read: merged into another place, true or full, or told of.
pub data Sorted (all : List Placed) (told : List Told) (c : Placed) : Type 0 where
  elsewhere : eqb (place_of c.polynomial all c.place) c.place ≡ false → Sorted all told c
  nothing_left : TrueOrFull all c → Sorted all told c
  one_told : IsTold c.place told → Sorted all told c

-- ---- Each atom as read is one of these.

-- A clause at this place.
data At (i : ℕ) : List Placed → Type 0 where
  at_first : {c : Placed} {l : List Placed} → c.place ≡ i → At i (c ∷ l)
  at_later : {c : Placed} {l : List Placed} → At i l → At i (c ∷ l)

carry-at : {i : ℕ} {l : List Placed} (cut : List Atom) → At i l → At i (carry l cut)
unfolding carry
carry-at [] (at_first e) = at_first e
carry-at (c ∷ cut) (at_first e) = at_first e
carry-at [] (at_later h) = at_later h
carry-at (c ∷ cut) (at_later h) = at_later (carry-at cut h)

told_of : {i : ℕ} (n : ℕ) (kept : List Placed) {l : List Placed} → At i l → IsTold i (told_from n kept l)
unfolding told_from
told_of n kept (at_first e) = told_first e
told_of {i = i} n kept (at_later {c = c} {l = l} h) = told_after (told_of n (kept_unless (implied n (plains (kept ++ l)) (plain c)) c kept) h)

-- The first clause of a polynomial is full, or stands in the list without the full ones.
data Found (p : Polynomial) (i : ℕ) (l : List Placed) : Type 0 where
  found_full : {d : Placed} → Member d l → d.place ≡ i → p ≡ d.polynomial → d.set ≡ full → Found p i l
  found_there : At i (not_full l) → Found p i l

found : {p : Polynomial} {i : ℕ} {l : List Placed} → FirstAt p i l → Found p i l
unfolding not_full unless_full
found {p} {i} (first_here {c} {l} e q) = by-test (eqb c.set full) refl
  where
    by-test : (b : Bool) → eqb c.set full ≡ b → Found p i (c ∷ l)
    by-test true f = found_full (first_of refl) q (same-equal p c.polynomial e) (eqb-true c.set full f)
    by-test false f = found_there (rw f (at_first q))
found {p} {i} (first_later {c} {l} e f) = by-found (found f)
  where
    past : (b : Bool) → At i (not_full l) → At i (unless_full b c (not_full l))
    past true h = h
    past false h = at_later h

    by-found : Found p i l → Found p i (c ∷ l)
    by-found (found_full m q r k) = found_full (Later-of m) q r k
    by-found (found_there h) = found_there (past (eqb c.set full) h)

module _ (n : ℕ) (l : List Atom) (st : State) where
  abbrev told : List Told
  told = told_from n [] (carried_clauses n st (merged_list l))

  sorted-one : (c : Placed) → Stood (joined l) c → Sorted (joined l) told c
  unfolding carried_clauses merged_list
  sorted-one c (is_true t) = nothing_left (a_true_constant t)
  sorted-one c (stands_first at f) = by-place (eqb at c.place) refl
    where
      by-found : at ≡ c.place → Found c.polynomial at (joined l) → Sorted (joined l) told c
      by-found e (found_full m q r k) = nothing_left (full_merged m (q ∙ e) r k)
      by-found e (found_there h) = one_told (subst (λ i. IsTold i told) e (told_of n [] (carry-at _ h)))

      by-place : (b : Bool) → eqb at c.place ≡ b → Sorted (joined l) told c
      by-place true e = by-found (eqb-true at c.place e) (found f)
      by-place false e = elsewhere (rw (first_found f c.place) e)

  -- Of each atom as read it is known what becomes of it.
  pub all-sorted : any_empty (sets_of (plains (merged_list l))) ≡ false → Every (Sorted (joined l) told) (clauses_from 0 l)
  all-sorted e = every-wider sorted-one (all-stood l e)

-- ---- On the way through the records.

-- What is told of an earlier place is not told of later ones.
pub sorted-later : {all : List Placed} {t : Told} {told : List Told} {given : List Placed} → Every (From (suc t.clause.place)) given
    → Every (Sorted all (t ∷ told)) given → Every (Sorted all told) given
sorted-later every_none every_none = every_none
sorted-later {all} {t} {told} (every {a = c} h hs) (every k ks) = every (by-sort k) (sorted-later hs ks)
  where
    later : IsTold c.place (t ∷ told) → IsTold c.place told
    later (told_first e) = absurd (different e h.at_least)
      where
        different : t.clause.place ≡ c.place → suc t.clause.place ≤ c.place → ⊥
        different e k = omega arith
    later (told_after m) = m

    by-sort : Sorted all (t ∷ told) c → Sorted all told c
    by-sort (elsewhere e) = elsewhere e
    by-sort (nothing_left f) = nothing_left f
    by-sort (one_told m) = one_told (later m)

none_told : {i : ℕ} {told : List Told} → Every (ToldAt (suc i)) told → IsTold i told → ⊥
none_told {i = i} every_none x3 = elim x3 [ ]
none_told {i} (every {a = t} h hs) (told_first e) = different e h.at_least
  where
    different : t.clause.place ≡ i → suc i ≤ t.clause.place → ⊥
    different e k = omega arith
none_told (every h hs) (told_after m) = none_told hs m

-- An atom of which nothing is told, and that is not merged, is true or full.
pub true-or-full : {all : List Placed} {told : List Told} {c : Placed} → place_of c.polynomial all c.place ≡ c.place
    → Every (ToldAt (suc c.place)) told → Sorted all told c → TrueOrFull all c
true-or-full {all} {c} e hs (elsewhere f) = never_both (eq-eqb (place_of c.polynomial all c.place) c.place e) f
true-or-full e hs (nothing_left f) = f
true-or-full e hs (one_told m) = absurd (none_told hs m)
