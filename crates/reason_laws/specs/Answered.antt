-- The kept and narrowed records are exactly the atoms of the answer, at their places; and every record is true.
use Rattle.std.specs.Prelude.{◌≡◌, Bool, List, [], ◌∷◌, ℕ, suc, ◌<◌, ◌≤◌}
use Rattle.std.proofs.Math.Path.{refl, subst}
use Rattle.std.proofs.Common.{sym, ap, ◌∙◌, true≢false, arith, eqb-true, eq-eqb}
use Rattle.std.proofs.Math.Bool.{true, false}
use mathlib.Core.List.Memᴰ.{head as first_of}
use mathlib.Core.List.Memᴰ.{tail as Later-of}
use mathlib.Core.List.{Memᴰ as Member}
use Rattle.std.proofs.Math.Decide.{dec_lt}
use Rattle.std.proofs.Math.Dec.{eqb}
use Rattle.rules.specs.Signs.{SignSet, full}
use Rattle.rules.specs.Polynomial.{Polynomial, Atom, same}
use Rattle.rules.specs.Deduce.{any_empty}
use Rattle.rules.specs.Rounds.{sets_of, run}
use Rattle.rules.specs.Level.{Placed, plain, plains}
use Rattle.sign_laws.specs.Booleans.{neither, never_both}
use Rattle.sign_laws.specs.Lists.{Every, every}
use Rattle.ending_laws.specs.Rounds.{run-idle}
use Rattle.level_laws.specs.Same.{same-equal}
use Rattle.removal_laws.specs.Rounds.{LowAtoms}
use Rattle.rules.specs.Reasons.{places_of, clauses_from, joined, merged_list, has_contradiction, fails, failing, Fate, stays, goes, Told, told_from, carried_clauses}
use Rattle.rules.specs.Reasons.{Reason, kept_with, narrowed_to, merged_into, removed_by, kept_or_narrowed, reason_of, or_place, place_of, each_false, reasons}
use Rattle.reason_laws.specs.Named.{JustImplies, JustFails, TrueFate, TrulyTold, staying}
use Rattle.reason_laws.specs.Explained.{and_of, answer_to, whole-false, explained}
use Rattle.reason_laws.specs.Places.{carried_clauses-among}
use Rattle.reason_laws.specs.Records.{From, told-among, RecordsTell, no_records, told_here, merged_here, true_here, records-tell, kept_clause, kept_by_records, kept-stay}
use Rattle.reason_laws.specs.Standing.{all-stand}
use Rattle.reason_laws.specs.Firsts.{NoLater, no-later}
use Rattle.reason_laws.specs.Untold.{TrueOrFull, Sorted, all-sorted, sorted-later, true-or-full}
use Rattle.reason_laws.specs.Names.{leave_out-every, every-member, Rising, rising, among-rises, given-rises, Follows, NamesFollow, WellNamed, well-named}

-- ---- Where the whole is not false.

module _ (n : ℕ) (l : List Atom) (e : fails n (plains (merged_list l)) ≡ false) where
  abbrev told : List Told
  told = told_from n [] (carried_clauses n (explained n l e).state (merged_list l))

  none-empty : any_empty (sets_of (plains (merged_list l))) ≡ false
  unfolding fails
  none-empty = ((neither (any_empty (sets_of (plains (merged_list l)))) (has_contradiction (run n (plains (merged_list l))))).0 e).0

  -- The records tell, place by place, what is told of the merged list.
  pub reasons-tell : RecordsTell (joined l) (clauses_from 0 l) told (reasons n l)
  reasons-tell =
      let x = explained n l e in
      subst (λ (rs : List Reason). RecordsTell (joined l) (clauses_from 0 l) told rs) (sym x.records)
      (records-tell (joined l) l 0 (told-among n [] (carried_clauses-among n l x.state)) (all-stand n l x.state none-empty))

  -- What the kept and narrowed records keep, with the places, is what stays of the merged list.
  pub kept-records : kept_by_records (clauses_from 0 l) (reasons n l) ≡ staying told
  kept-records = kept-stay reasons-tell

  -- And its atoms, in order, are the answer.
  pub kept-is-answer : answer_to n l ≡ and_of (kept_by_records (clauses_from 0 l) (reasons n l))
  kept-is-answer = (explained n l e).answered ∙ ap and_of (sym kept-records)

-- ---- Where it is.

none_kept : (named : List ℕ) (given : List Placed) → kept_by_records given (each_false named given) ≡ []
unfolding kept_by_records kept_clause each_false
none_kept named [] = refl
none_kept named (c ∷ given) = none_kept named given

-- No record keeps anything.
pub false-keeps-none : (n : ℕ) (l : List Atom) → LowAtoms l → fails n (plains (merged_list l)) ≡ true
    → kept_by_records (clauses_from 0 l) (reasons n l) ≡ []
false-keeps-none n l low e = ap (kept_by_records (clauses_from 0 l)) (whole-false n l low e).records ∙ none_kept _ (clauses_from 0 l)

-- ---- Every record is true.

-- A place that is not the one given is that of a clause with the polynomial.
record StandsAt (p : Polynomial) (all : List Placed) (i : ℕ) : Type 0 where
  clause : Placed
  of_all : Member clause all
  polynomial : p ≡ clause.polynomial
  place : clause.place ≡ i

place_found : (p : Polynomial) (all : List Placed) (i : ℕ) → eqb (place_of p all i) i ≡ false → StandsAt p all (place_of p all i)
unfolding place_of or_place
place_found p [] i e = never_both (eq-eqb i i refl) e
place_found p (d ∷ all) i e = by-test (same p d.polynomial) refl (place_found p all i) e
  where
    by-test : (b : Bool) → same p d.polynomial ≡ b → (eqb (place_of p all i) i ≡ false → StandsAt p all (place_of p all i))
        → eqb (or_place b d.place (place_of p all i)) i ≡ false → StandsAt p (d ∷ all) (or_place b d.place (place_of p all i))
    by-test true w rest e = record { clause = d; of_all = first_of refl; polynomial = same-equal p d.polynomial w; place = refl }
    by-test false w rest e =
        let found = rest e in
        record { clause = found.clause; of_all = Later-of found.of_all; polynomial = found.polynomial; place = found.place }

earlier : (j i : ℕ) → j ≤ i → eqb j i ≡ false → j < i
earlier j i h e = by_order (dec_lt j i)
  where
    by_order : Dec (j < i) → j < i
    by_order (yes b) = b
    by_order (no b) = let same : j ≡ i = omega arith in never_both (eq-eqb j i same) e

-- Of the lists of the atoms before full sets are taken out, with the sets that they carry, and that stay; of a clause with its own set.
module _ (n : ℕ) (all carry stay : List Placed) where
  pub data TrueRecord : Placed → Reason → Type 0 where
    -- kept with its own set, narrowed to another
    truly-kept : {c : Placed} → TrueRecord c (kept_with c.set)
    truly-narrowed : {c : Placed} {s : SignSet} → eqb s c.set ≡ false → TrueRecord c (narrowed_to s)
    -- merged into a clause of its polynomial at an earlier place
    truly-merged : {c d : Placed} → Member d all → c.polynomial ≡ d.polynomial → d.place < c.place
        → TrueRecord c (merged_into d.place)
    -- removed with this set, by atoms with the sets that they carry that just imply it; each stays or stands later
    truly-removed : {c : Placed} {s : SignSet} {named : List Placed} → JustImplies n named (record { polynomial = c.polynomial; set = s })
        → Every (Follows carry stay c.place) named → TrueRecord c (removed_by s (places_of named))
    -- removed by none: a true constant, or full after merging
    truly-full : {c : Placed} → TrueOrFull all c → TrueRecord c (removed_by full [])

  pub data TrueRecords : List Placed → List Reason → Type 0 where
    no_more : TrueRecords [] []
    one-more : {c : Placed} {r : Reason} {given : List Placed} {rs : List Reason} → TrueRecord c r → TrueRecords given rs
        → TrueRecords (c ∷ given) (r ∷ rs)

  true-record : (c d : Placed) → c.place ≡ d.place → c.polynomial ≡ d.polynomial → (fate : Fate) → TrueFate n (plain d) fate
      → NamesFollow carry stay d.place fate → TrueRecord c (reason_of fate d.set c.set)
  unfolding reason_of kept_or_narrowed
  true-record c d p q stays h k = by-test (eqb d.set c.set) refl
    where
      by-test : (b : Bool) → eqb d.set c.set ≡ b → TrueRecord c (kept_or_narrowed b d.set)
      by-test true e = subst (λ s. TrueRecord c (kept_with s)) (sym (eqb-true d.set c.set e)) truly-kept
      by-test false e = truly-narrowed e
  true-record c d p q (goes named) h k =
      truly-removed (subst (λ r. JustImplies n named (record { polynomial = r; set = d.set })) (sym q) h)
      (subst (λ i. Every (Follows carry stay i) named) (sym p) k)

  merged-record : (c : Placed) → eqb (place_of c.polynomial all c.place) c.place ≡ false → NoLater all c
      → TrueRecord c (merged_into (place_of c.polynomial all c.place))
  merged-record c e h =
      let found = place_found c.polynomial all c.place e in
      subst (λ i. TrueRecord c (merged_into i)) found.place
      (truly-merged found.of_all found.polynomial (subst (λ i. i < c.place) (sym found.place) (earlier _ c.place h.soon e)))

  true-records : {given : List Placed} {told : List Told} {rs : List Reason} → RecordsTell all given told rs → Every (TrulyTold n) told
      → Every (WellNamed carry stay) told → Every (NoLater all) given → Every (Sorted all told) given → Rising given → TrueRecords given rs
  true-records no_records hs ks js ss r = no_more
  true-records (told_here {c} {t} {given} p q f) (every h hs) (every k ks) (every j js) (every s ss) (rising r rs) =
      one-more (true-record c t.clause p q t.fate h.fate k.names)
      (true-records f hs ks js (sorted-later (subst (λ i. Every (From (suc i)) given) p r) ss) rs)
  true-records (merged_here {c} e f) hs ks (every j js) (every s ss) (rising r rs) = one-more (merged-record c e j) (true-records f hs ks js ss rs)
  true-records (true_here e h f) hs ks (every j js) (every s ss) (rising r rs) = one-more (truly-full (true-or-full e h s))
      (true-records f hs ks js ss rs)

-- Every record is true, where the whole is not false.
pub reasons-true : (n : ℕ) (l : List Atom) (e : fails n (plains (merged_list l)) ≡ false)
    → TrueRecords n (joined l) (carried_clauses n (explained n l e).state (merged_list l)) (kept_by_records (clauses_from 0 l) (reasons n l))
    (clauses_from 0 l) (reasons n l)
reasons-true n l e =
    let x = explained n l e in
    let carry = carried_clauses n x.state (merged_list l) in
    subst (λ (stay : List Placed). TrueRecords n (joined l) carry stay (clauses_from 0 l) (reasons n l)) (sym (kept-records n l e))
    (true-records n (joined l) carry (staying (told_from n [] carry)) (reasons-tell n l e) x.truly
    (well-named n carry (among-rises (carried_clauses-among n l x.state) (given-rises l 0)))
    (no-later l (none-empty n l e)) (all-sorted n l x.state (none-empty n l e)) (given-rises l 0))

-- ---- The names of a false whole.

-- They are of the merged list.
pub failing-of-merged : (n : ℕ) (l : List Placed) → Every (λ (d : Placed). Member d l) (failing n l)
unfolding failing
failing-of-merged n l = leave_out-every (λ (m : List Placed). fails n (plains m)) (every-member l)

-- And there is one.
pub some-named : (n : ℕ) → JustFails n [] → ⊥
unfolding fails has_contradiction sets_of any_empty
some-named n j = true≢false (sym j.suffices ∙ ap has_contradiction (run-idle n))
