-- The merged list is step 2's: where that is not broken, its atoms are the tidied ones; where it is, the merged list has an empty set.
use Rattle.std.specs.Prelude.{◌≡◌, refl, Bool, true, false, List, [], ◌∷◌, ◌++◌, ℕ, suc, ◌<◌, eqb, ℤ}
use Rattle.std.proofs.Common.{sym, ap, subst, lit<, eqb-true, eq-eqb}
use Rattle.std.proofs.lemmas.Bool.{false≢true}
use Rattle.std.proofs.lemmas.List.{map-append}
use Rattle.std.proofs.Math.Option.{Option, none, some}
use Rattle.rules.specs.Signs.{SignSet, empty, full, sign_of, has, intersect}
use Rattle.rules.specs.Polynomial.{Atom, same, normal, turned, divided, first_is_negative, constant}
use Rattle.rules.specs.Deduce.{any_empty}
use Rattle.rules.specs.Rounds.{sets_of}
use Rattle.rules.specs.Level.{Placed, plain, plains, with_set, placed_at, normal_placed, Tidied, broken, tidied, merged_if, merge_into, merge_constant, merge_normal, merge, kept_if, without_full, after_merging, tidy}
use Rattle.sign_laws.specs.Booleans.{or-first, or-second, or_cases}
use Rattle.sign_laws.specs.Lists.{every_none, every, every_append}
use Rattle.sign_laws.specs.Sets.{intersect-first, intersect-below, mirror-below}
use Rattle.removal_laws.specs.Fewer.{part-empty}
use Rattle.removal_laws.specs.Rounds.{LowAtoms}
use Rattle.rules.specs.Reasons.{clauses_from, join_constant, join_normal, join_all, unless_full, not_full, joined, merged_list}

-- ---- Lists with an empty set keep one.

abbrev pub Empty : List Placed → Type 0
Empty l = any_empty (sets_of (plains l)) ≡ true

cut-empty : (s t : SignSet) → eqb s empty ≡ true → eqb (intersect s t) empty ≡ true
cut-empty s t e = eq-eqb (intersect s t) empty (part-empty (intersect-below s t) (rw (eqb-true s empty e) (intersect-first empty t)))

join-empty : (c : Placed) (l : List Placed) → Empty l → Empty (merge_into c l)
unfolding merge_into merged_if sets_of any_empty
join-empty c [] e = absurd (false≢true e)
join-empty c (first ∷ later) e = by-test (same c.polynomial first.polynomial) (join-empty c later)
  where
    by-test : (b : Bool) → (Empty later → Empty (merge_into c later)) → Empty (merged_if b c first later (merge_into c later))
    by-test true rest = or_cases (eqb first.set empty) (any_empty (sets_of (plains later))) e
        (λ z. or-first _ (cut-empty first.set c.set z)) (λ z. or-second (eqb (intersect first.set c.set) empty) z)
    by-test false rest = or_cases (eqb first.set empty) (any_empty (sets_of (plains later))) e
        (λ z. or-first _ z) (λ z. or-second (eqb first.set empty) (rest z))

empty-before : (l m : List Placed) → Empty l → Empty (l ++ m)
unfolding sets_of any_empty
empty-before [] m e = absurd (false≢true e)
empty-before (c ∷ l) m e = or_cases (eqb c.set empty) (any_empty (sets_of (plains l))) e
    (λ z. or-first _ z) (λ z. or-second (eqb c.set empty) (empty-before l m z))

empty-after : (l m : List Placed) → Empty m → Empty (l ++ m)
unfolding sets_of any_empty
empty-after [] m e = e
empty-after (c ∷ l) m e = or-second (eqb c.set empty) (empty-after l m e)

-- A false constant stands with one.
pub false-stands : (c : Placed) (l : List Placed) → Empty (join_constant false c l)
unfolding join_constant sets_of any_empty
false-stands c l = empty-after l (with_set c empty ∷ []) refl

join_normal-empty : (o : Option ℤ) (c : Placed) (l : List Placed) → Empty l → Empty (join_normal o c l)
unfolding join_normal join_constant
join_normal-empty none c l e = join-empty c l e
join_normal-empty (some z) c l e = by-truth (has (sign_of z) c.set)
  where
    by-truth : (b : Bool) → Empty (join_constant b c l)
    by-truth true = e
    by-truth false = empty-before l _ e

-- All further merging keeps one.
pub join_all-empty : (l given : List Placed) → Empty l → Empty (join_all l given)
unfolding join_all
join_all-empty l [] e = e
join_all-empty l (c ∷ later) e = join_all-empty (join_normal (constant c.polynomial) c l) later (join_normal-empty (constant c.polynomial) c l e)

-- Full sets are not empty.
pub not_full-empty : (l : List Placed) → Empty l → Empty (not_full l)
unfolding not_full unless_full sets_of any_empty
not_full-empty [] e = absurd (false≢true e)
not_full-empty (c ∷ l) e = by-test (eqb c.set full) refl (not_full-empty l)
  where
    by-test : (b : Bool) → eqb c.set full ≡ b → (Empty l → Empty (not_full l)) → Empty (unless_full b c (not_full l))
    by-test true k rest = or_cases (eqb c.set empty) (any_empty (sets_of (plains l))) e
        (λ z. absurd (false≢true (rw (eqb-true c.set full k) at z))) rest
    by-test false k rest = or_cases (eqb c.set empty) (any_empty (sets_of (plains l))) e
        (λ z. or-first _ z) (λ z. or-second (eqb c.set empty) (rest z))

-- ---- Merging.

-- The atoms as read with their places, from a place on.
unfoldable pub as_read : ℕ → List Atom → List Placed
as_read i [] = []
as_read i (a ∷ l) = placed_at i a ∷ as_read (suc i) l

-- What a list has to do with what comes of the book's merging.
abbrev pub Agrees : Tidied → List Placed → Type 0
Agrees broken l = Empty l
Agrees (tidied m) l = l ≡ m

merge-agrees : (given : List Atom) (i : ℕ) (l : List Placed) → Agrees (merge l (as_read i given)) (join_all l (clauses_from i given))
unfolding merge merge_normal merge_constant clauses_from join_all join_normal join_constant as_read
merge-agrees [] i l = refl
merge-agrees (a ∷ later) i l = by_constant (constant c.polynomial) (λ k. merge-agrees later (suc i) k)
  where
    c : Placed
    c = normal_placed (placed_at i a)

    by-truth : (b : Bool) → ((k : List Placed) → Agrees (merge k (as_read (suc i) later)) (join_all k (clauses_from (suc i) later)))
        → Agrees (merge_constant b l (λ (m : List Placed). merge m (as_read (suc i) later))) (join_all (join_constant b c l) (clauses_from (suc i) later))
    by-truth true rest = rest l
    by-truth false rest = join_all-empty _ (clauses_from (suc i) later) (false-stands c l)

    by_constant : (o : Option ℤ) → ((k : List Placed) → Agrees (merge k (as_read (suc i) later)) (join_all k (clauses_from (suc i) later)))
        → Agrees (merge_normal o c l (λ (m : List Placed). merge m (as_read (suc i) later))) (join_all (join_normal o c l) (clauses_from (suc i) later))
    by_constant none rest = rest (merge_into c l)
    by_constant (some z) rest = by-truth (has (sign_of z) c.set) rest

-- The list before full sets are taken out agrees with the book's merging.
pub joined-agrees : (l : List Atom) → Agrees (merge [] (as_read 0 l)) (joined l)
unfolding joined
joined-agrees l = merge-agrees l 0 []

-- ---- Full sets.

-- And no set is empty.
pub record Tidy (m : List Placed) (l : List Placed) : Type 0 where
  pub the_same : l ≡ m
  pub filled : any_empty (sets_of (plains m)) ≡ false

abbrev pub AgreesInAll : Tidied → List Placed → Type 0
AgreesInAll broken l = Empty l
AgreesInAll (tidied m) l = Tidy m l

full-agrees : (l : List Placed) → AgreesInAll (without_full l) (not_full l)
unfolding without_full not_full unless_full kept_if sets_of any_empty
full-agrees [] = record { the_same = refl; filled = refl }
full-agrees (c ∷ l) = by_tests (eqb c.set empty) refl (eqb c.set full) refl (without_full l) (full-agrees l)
  where
    by_tests : (b : Bool) → eqb c.set empty ≡ b → (d : Bool) → eqb c.set full ≡ d → (rest : Tidied) → AgreesInAll rest (not_full l)
        → AgreesInAll (kept_if b d c rest) (unless_full d c (not_full l))
    by_tests true e true f rest h = absurd (false≢true (rw (eqb-true c.set full f) at e))
    by_tests true e false f rest h = or-first _ e
    by_tests false e true f rest h = h
    by_tests false e false f broken h = or-second (eqb c.set empty) h
    by_tests false e false f (tidied m) h = record { the_same = ap (λ (k : List Placed). c ∷ k) h.the_same; filled = rw (e, h.filled) }

-- ---- The merged list.

-- The merged list agrees with step 2.
pub merged-agrees : (l : List Atom) → AgreesInAll (tidy (as_read 0 l)) (merged_list l)
unfolding tidy after_merging merged_list joined
merged-agrees l = by-outcome (merge [] (as_read 0 l)) (merge-agrees l 0 [])
  where
    by-outcome : (o : Tidied) → Agrees o (join_all [] (clauses_from 0 l)) → AgreesInAll (after_merging o) (not_full (join_all [] (clauses_from 0 l)))
    by-outcome broken h = not_full-empty (join_all [] (clauses_from 0 l)) h
    by-outcome (tidied m) h = subst (λ (k : List Placed). AgreesInAll (without_full k) (not_full (join_all [] (clauses_from 0 l)))) h (full-agrees
        (join_all [] (clauses_from 0 l)))

-- ---- Its sets are below 8 if those of the atoms are.

normal-low : (a : Atom) → a.set < 8 → (normal a).set < 8
unfolding normal turned
normal-low a h = by-test (first_is_negative (divided a.polynomial))
  where
    by-test : (b : Bool) → (turned b (divided a.polynomial) a.set).set < 8
    by-test true = mirror-below a.set
    by-test false = h

-- All sets of the clauses are below 8.
abbrev pub LowClauses : List Placed → Type 0
LowClauses l = LowAtoms (plains l)

join-low : (c : Placed) → c.set < 8 → (l : List Placed) → LowClauses l → LowClauses (merge_into c l)
unfolding merge_into merged_if
join-low c h [] hs = every h every_none
join-low c h (first ∷ later) (every k ks) = by-test (same c.polynomial first.polynomial) (join-low c h later ks)
  where
    by-test : (b : Bool) → LowClauses (merge_into c later) → LowClauses (merged_if b c first later (merge_into c later))
    by-test true rest = every (intersect-below first.set c.set) ks
    by-test false rest = every k rest

join_normal-low : (o : Option ℤ) (c : Placed) → c.set < 8 → (l : List Placed) → LowClauses l → LowClauses (join_normal o c l)
unfolding join_normal join_constant
join_normal-low none c h l hs = join-low c h l hs
join_normal-low (some z) c h l hs = by-truth (has (sign_of z) c.set)
  where
    by-truth : (b : Bool) → LowClauses (join_constant b c l)
    by-truth true = hs
    by-truth false = subst LowAtoms (sym (map-append plain l _)) (every_append hs (every (lit< tt) every_none))

join_all-low : (given : List Atom) → LowAtoms given → (i : ℕ) (l : List Placed) → LowClauses l → LowClauses (join_all l (clauses_from i given))
unfolding join_all clauses_from normal_placed
join_all-low [] every_none i l hs = hs
join_all-low (a ∷ later) (every k ks) i l hs =
    join_all-low later ks (suc i) _ (join_normal-low (constant (normal a).polynomial) (normal_placed (placed_at i a)) (normal-low a k) l hs)

not_full-low : (l : List Placed) → LowClauses l → LowClauses (not_full l)
unfolding not_full unless_full
not_full-low [] hs = hs
not_full-low (c ∷ l) (every k ks) = by-test (eqb c.set full) (not_full-low l ks)
  where
    by-test : (b : Bool) → LowClauses (not_full l) → LowClauses (unless_full b c (not_full l))
    by-test true rest = rest
    by-test false rest = every k rest

pub merged-low : (l : List Atom) → LowAtoms l → LowClauses (merged_list l)
unfolding merged_list joined
merged-low l h = not_full-low (joined l) (join_all-low l h 0 [] every_none)
