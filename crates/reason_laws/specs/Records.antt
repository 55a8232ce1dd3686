-- The records against what is told of the merged list, place by place: the kept and narrowed ones are exactly the atoms and places of the answer,
-- and each removed one names atoms that just imply it.
use mathlib.Core.List.{◌++◌}
use Rattle.std.specs.Prelude.{◌≡◌, refl, Bool, true, false, List, [], ◌∷◌, ℕ, suc, ◌≤◌, eqb}
use Rattle.std.proofs.Common.{sym, ap, ap₂, ◌∙◌, subst, arith, eqb-true, eq-eqb}
use Rattle.rules.specs.Signs.{SignSet, full}
use Rattle.rules.specs.Polynomial.{Polynomial, Atom, normal}
use Rattle.rules.specs.Level.{Placed, with_set, placed_at, normal_placed, kept_unless, implied, plains, plain}
use Rattle.sign_laws.specs.Booleans.{never_true}
use Rattle.sign_laws.specs.Lists.{Every, every_none, every}
use Rattle.rules.specs.Reasons.{clauses_from, Fate, stays, goes, Told, told_from}
use Rattle.rules.specs.Reasons.{Reason, kept_with, narrowed_to, merged_into, removed_by, all_false_by, kept_or_narrowed, reason_of, or_reason, reason_at, place_of}
use Rattle.rules.specs.Reasons.{unless_merged, reason_for, each_reason}
use Rattle.reason_laws.specs.Named.{unless_gone, staying}
use Rattle.reason_laws.specs.Places.{Among, none_among, not_among, is_among}

-- ---- What is told, among the given clauses.

pub data ToldAmong : List Placed → List Told → Type 0 where
  nothing_told : ToldAmong [] []
  not_told : {c : Placed} {given : List Placed} {told : List Told} → ToldAmong given told → ToldAmong (c ∷ given) told
  is_told : {c : Placed} {t : Told} {given : List Placed} {told : List Told} → c.place ≡ t.clause.place
      → c.polynomial ≡ t.clause.polynomial → ToldAmong given told → ToldAmong (c ∷ given) (t ∷ told)

pub told-among : (n : ℕ) (kept : List Placed) {given l : List Placed} → Among given l → ToldAmong given (told_from n kept l)
unfolding told_from
told-among n kept none_among = nothing_told
told-among n kept (not_among f) = not_told (told-among n kept f)
told-among n kept (is_among {c = c} {d = d} {given = given} {l = l} p q f) =
    is_told p q (told-among n (kept_unless (implied n (plains (kept ++ l)) (plain d)) d kept) f)

-- ---- Places rise.

-- All places are at least i.
pub record From (i : ℕ) (c : Placed) : Type 0 where
  pub at_least : i ≤ c.place

pub record ToldAt (i : ℕ) (t : Told) : Type 0 where
  pub at_least : i ≤ t.clause.place

-- The places of the atoms as read are at least the first.
pub given-from : (l : List Atom) (i j : ℕ) → i ≤ j → Every (From i) (clauses_from j l)
unfolding clauses_from normal_placed
given-from [] i j h = every_none
given-from (a ∷ l) i j h = every (record { at_least = h }) (given-from l i (suc j) (omega arith))

told_at : {i : ℕ} {given : List Placed} {told : List Told} → ToldAmong given told → Every (From i) given → Every (ToldAt i) told
told_at nothing_told every_none = every_none
told_at (not_told f) (every h hs) = told_at f hs
told_at {i} (is_told p q f) (every h hs) = every (record { at_least = subst (λ k. i ≤ k) p h.at_least }) (told_at f hs)

-- Where all that is told is told of later places, nothing is told of this one.
nothing-here : (i : ℕ) (own : SignSet) {told : List Told} → Every (ToldAt (suc i)) told → reason_at i own told ≡ removed_by full []
unfolding reason_at or_reason
nothing-here i own every_none = refl
nothing-here i own (every {a = t} {l = told} h hs) =
    let differs : eqb i t.clause.place ≡ false =
    never_true (eqb i t.clause.place) (λ e. different (eqb-true i t.clause.place e) h.at_least) in
    rw differs (nothing-here i own hs)
  where
    different : i ≡ t.clause.place → suc i ≤ t.clause.place → ⊥
    different e k = omega arith

-- What is told of an earlier place is told of no later one.
skip-told : (all : List Placed) (t : Told) (told : List Told) {given : List Placed} → Every (From (suc t.clause.place)) given
    → each_reason all (t ∷ told) given ≡ each_reason all told given
unfolding each_reason reason_for reason_at or_reason
skip-told all t told every_none = refl
skip-told all t told (every {a = c} {l = given} h hs) =
    let differs : eqb c.place t.clause.place ≡ false =
    never_true (eqb c.place t.clause.place) (λ e. different (eqb-true c.place t.clause.place e) h.at_least) in
    ap₂ (λ (r : Reason) (rs : List Reason). r ∷ rs)
    (ap (λ (b : Bool). unless_merged (eqb (place_of c.polynomial all c.place) c.place) (place_of c.polynomial all c.place)
    (or_reason b (reason_of t.fate t.clause.set c.set) (reason_at c.place c.set told))) differs)
    (skip-told all t told hs)
  where
    different : c.place ≡ t.clause.place → suc t.clause.place ≤ c.place → ⊥
    different e k = omega arith

-- ---- What the records tell.

-- The record of each given clause, in order: by what is told of it, or it is merged into another place, or removed by none.
pub data RecordsTell (all : List Placed) : List Placed → List Told → List Reason → Type 0 where
  no_records : RecordsTell all [] [] []
  told_here : {c : Placed} {t : Told} {given : List Placed} {told : List Told} {rs : List Reason} → c.place ≡ t.clause.place
      → c.polynomial ≡ t.clause.polynomial → RecordsTell all given told rs
      → RecordsTell all (c ∷ given) (t ∷ told) (reason_of t.fate t.clause.set c.set ∷ rs)
  merged_here : {c : Placed} {given : List Placed} {told : List Told} {rs : List Reason}
      → eqb (place_of c.polynomial all c.place) c.place ≡ false → RecordsTell all given told rs
      → RecordsTell all (c ∷ given) told (merged_into (place_of c.polynomial all c.place) ∷ rs)
  true_here : {c : Placed} {given : List Placed} {told : List Told} {rs : List Reason} → place_of c.polynomial all c.place ≡ c.place
      → Every (ToldAt (suc c.place)) told → RecordsTell all given told rs → RecordsTell all (c ∷ given) told (removed_by full [] ∷ rs)

-- A clause that stands at its own place in a list.
pub record Stands (all : List Placed) (c : Placed) : Type 0 where
  pub here : place_of c.polynomial all c.place ≡ c.place

pub record ToldStands (all : List Placed) (t : Told) : Type 0 where
  pub here : place_of t.clause.polynomial all t.clause.place ≡ t.clause.place

own-record : (all : List Placed) (c : Placed) (t : Told) (told : List Told) → c.place ≡ t.clause.place → c.polynomial ≡ t.clause.polynomial
    → ToldStands all t → reason_for all (t ∷ told) c ≡ reason_of t.fate t.clause.set c.set
unfolding reason_for reason_at or_reason unless_merged
own-record all c t told p q h =
    let stands : eqb (place_of c.polynomial all c.place) c.place ≡ true = eq-eqb _ c.place (rw (p, q) h.here) in
    let found : eqb c.place t.clause.place ≡ true = eq-eqb c.place t.clause.place p in
    rw (stands, found)

pub records-tell : (all : List Placed) (l : List Atom) (i : ℕ) {told : List Told} → ToldAmong (clauses_from i l) told → Every (ToldStands all) told
    → RecordsTell all (clauses_from i l) told (each_reason all told (clauses_from i l))
unfolding clauses_from each_reason unless_merged reason_for normal_placed
records-tell all [] i nothing_told hs = no_records
records-tell all (a ∷ l) i {told} (not_told f) hs =
    let later = told_at f (given-from l (suc i) (suc i) (omega arith)) in
    by-test (eqb first i) refl later (nothing-here i (normal a).set later) (records-tell all l (suc i) f hs)
  where
    first : ℕ
    first = place_of (normal a).polynomial all i

    by-test : (b : Bool) → eqb first i ≡ b → Every (ToldAt (suc i)) told → reason_at i (normal a).set told ≡ removed_by full []
        → RecordsTell all (clauses_from (suc i) l) told (each_reason all told (clauses_from (suc i) l))
        → RecordsTell all (normal_placed (placed_at i a) ∷ clauses_from (suc i) l) told
        (unless_merged b first (reason_at i (normal a).set told) ∷ each_reason all told (clauses_from (suc i) l))
    by-test true e later nothing rest = rw nothing (true_here (eqb-true first i e) later rest)
    by-test false e later nothing rest = merged_here e rest
records-tell all (a ∷ l) i (is_told {t} {told} p q f) (every h hs) =
    let c : Placed = normal_placed (placed_at i a) in
    let later = clauses_from (suc i) l in
    let rises : suc t.clause.place ≤ suc i = omega (arith, p) in
    subst (λ (rs : List Reason). RecordsTell all (c ∷ later) (t ∷ told) rs)
    (sym (ap₂ (λ (r : Reason) (rs : List Reason). r ∷ rs) (own-record all c t told p q h) (skip-told all t told (given-from l _ (suc i) rises))))
    (told_here p q (records-tell all l (suc i) f hs))

-- ---- The kept and narrowed records.

-- The clause that a record keeps, with the set that it tells.
unfoldable pub kept_clause : Reason → Placed → List Placed → List Placed
kept_clause (kept_with s) c rest = with_set c s ∷ rest
kept_clause (narrowed_to s) c rest = with_set c s ∷ rest
kept_clause (merged_into i) c rest = rest
kept_clause (removed_by s named) c rest = rest
kept_clause (all_false_by named) c rest = rest

unfoldable pub kept_by_records : List Placed → List Reason → List Placed
kept_by_records [] rs = []
kept_by_records (c ∷ given) [] = []
kept_by_records (c ∷ given) (r ∷ rs) = kept_clause r c (kept_by_records given rs)

-- They are exactly the clauses that stay.
pub kept-stay : {all given : List Placed} {told : List Told} {rs : List Reason} → RecordsTell all given told rs → kept_by_records given rs
    ≡ staying told
unfolding kept_by_records kept_clause staying reason_of kept_or_narrowed unless_gone
kept-stay no_records = refl
kept-stay (told_here {c} {t} {told} p q f) = by-fate t.fate _ ∙ ap (unless_gone t.fate t.clause) (kept-stay f)
  where
    same-clause : with_set c t.clause.set ≡ t.clause
    same-clause = ap₂ (λ (i : ℕ) (r : Polynomial). record { polynomial = r; set = t.clause.set; place = i }) p q

    by-test : (b : Bool) (rest : List Placed) → kept_clause (kept_or_narrowed b t.clause.set) c rest ≡ t.clause ∷ rest
    by-test true rest = ap (λ (d : Placed). d ∷ rest) same-clause
    by-test false rest = ap (λ (d : Placed). d ∷ rest) same-clause

    by-fate : (fate : Fate) (rest : List Placed) → kept_clause (reason_of fate t.clause.set c.set) c rest ≡ unless_gone fate t.clause rest
    by-fate stays rest = by-test (eqb t.clause.set c.set) rest
    by-fate (goes named) rest = refl
kept-stay (merged_here e f) = kept-stay f
kept-stay (true_here e h f) = kept-stay f
