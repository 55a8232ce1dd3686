-- Lists that have no polynomial twice: what step 2 leaves, the atoms with the sets that they carry, and the atoms that remain of them.
-- 01, "A level", step 2: "atoms of one polynomial become one at the first's place".
use Rattle.std.specs.Prelude.{◌≡◌, refl, Bool, true, false, List, [], ◌∷◌, ◌++◌, ℕ, eqb, ℤ}
use Rattle.std.proofs.Common.{sym, ap, ◌∙◌, subst}
use Rattle.std.proofs.Math.Option.{Option, none, some}
use Rattle.rules.specs.Signs.{empty, full, sign_of, has}
use Rattle.rules.specs.Polynomial.{Polynomial, Atom, Board, same, constant}
use Rattle.rules.specs.Level.{Placed, plain, plains, normal_placed, Tidied, broken, tidied, merged_if, merge_into, merge_constant, merge_normal, merge, kept_if, without_full, after_merging, tidy}
use Rattle.sign_laws.specs.Booleans.{never_true, never_both}
use Rattle.sign_laws.specs.Lists.{Every, every_none, every}
use Rattle.level_laws.specs.Same.{same-equal, same-itself}
use Rattle.removal_laws.specs.Starts.{Carries, none-carried, from-board, from_cut}

-- The atom is of another polynomial than p.
pub record Other (p : Polynomial) (a : Atom) : Type 0 where
  pub differs : same p a.polynomial ≡ false

-- No polynomial twice.
pub data Apart : List Atom → Type 0 where
  none_apart : Apart []
  apart : {a : Atom} {l : List Atom} → Every (Other a.polynomial) l → Apart l → Apart (a ∷ l)

-- Of two atoms each is of another polynomial than the other's.
pub other-back : {a b : Atom} → Other a.polynomial b → Other b.polynomial a
other-back {a} {b} h =
    let p = a.polynomial in
    let q = b.polynomial in
    record { differs = never_true (same q p) (λ e. never_both (subst (λ r. same p r ≡ true) (sym (same-equal q p e)) (same-itself p)) h.differs) }

-- ---- A list without one of its atoms.

every-without : {P : Atom → Type 0} (before : List Atom) (a : Atom) (later : List Atom) → Every P (before ++ (a ∷ later))
    → P a × Every P (before ++ later)
every-without [] a later (every h hs) = (h, hs)
every-without (b ∷ before) a later (every h hs) = let rest = every-without before a later hs in (rest.0, every h rest.1)

-- The others are of other polynomials.
pub others-differ : (before : List Atom) (a : Atom) (later : List Atom) → Apart (before ++ (a ∷ later)) → Every (Other a.polynomial) (before ++ later)
others-differ [] a later (apart h hs) = h
others-differ (b ∷ before) a later (apart h hs) = every (other-back (every-without before a later h).0) (others-differ before a later hs)

-- And they have no polynomial twice.
pub others_apart : (before : List Atom) (a : Atom) (later : List Atom) → Apart (before ++ (a ∷ later)) → Apart (before ++ later)
others_apart [] a later (apart h hs) = hs
others_apart (b ∷ before) a later (apart h hs) = apart (every-without before a later h).1 (others_apart before a later hs)

-- ---- The atoms with the sets that they carry, and the cut atoms.

module _ {n : ℕ} {board : Board} where
  carries-other : {p : Polynomial} {l cut m : List Atom} → Carries n board l cut m → Every (Other p) l → Every (Other p) cut × Every (Other p) m
  carries-other none-carried every_none = (every_none, every_none)
  carries-other (from-board w c) (every h hs) = let rest = carries-other c hs in (rest.0, every (record { differs = h.differs }) rest.1)
  carries-other {p} (from_cut e w c) (every h hs) =
      let rest = carries-other c hs in
      let differs = ap (same p) e ∙ h.differs in
      (every (record { differs = differs }) rest.0, every (record { differs = differs }) rest.1)

  -- They have no polynomial twice if the list has none.
  pub carries-apart : {l cut m : List Atom} → Carries n board l cut m → Apart l → Apart cut × Apart m
  carries-apart none-carried none_apart = (none_apart, none_apart)
  carries-apart (from-board w c) (apart h hs) = let rest = carries-apart c hs in (rest.0, apart (carries-other c h).1 rest.1)
  carries-apart (from_cut {c = a} e w c) (apart h hs) =
      let rest = carries-apart c hs in
      let differ = carries-other {p = a.polynomial} c (rw e h) in
      (apart differ.0 rest.0, apart differ.1 rest.1)

-- ---- Step 2.

merge_into-other : {p : Polynomial} (a : Placed) (l : List Placed) → Other p (plain a) → Every (Other p) (plains l) → Every (Other p) (plains (merge_into a l))
unfolding merge_into merged_if
merge_into-other a [] k hs = every k every_none
merge_into-other {p} a (first ∷ later) k (every h hs) = by-test (same a.polynomial first.polynomial) (merge_into-other a later k hs)
  where
    by-test : (b : Bool) → Every (Other p) (plains (merge_into a later)) → Every (Other p) (plains (merged_if b a first later (merge_into a later)))
    by-test true merged = every (record { differs = h.differs }) hs
    by-test false merged = every h merged

merge_into-apart : (a : Placed) (l : List Placed) → Apart (plains l) → Apart (plains (merge_into a l))
unfolding merge_into merged_if
merge_into-apart a [] h = apart every_none none_apart
merge_into-apart a (first ∷ later) (apart h hs) = by-test (same a.polynomial first.polynomial) refl (merge_into-apart a later hs)
  where
    by-test : (b : Bool) → same a.polynomial first.polynomial ≡ b → Apart (plains (merge_into a later)) → Apart (plains (merged_if b a first later (merge_into a later)))
    by-test true e merged = apart h hs
    by-test false e merged = apart (merge_into-other a later (other-back {a = plain a} {b = plain first} (record { differs = e })) h) merged

-- What is tidied has no polynomial twice.
abbrev TidiedApart : Tidied → Type 0
TidiedApart broken = Unit {0}
TidiedApart (tidied l) = Apart (plains l)

merge-apart : (later l : List Placed) → Apart (plains l) → TidiedApart (merge l later)
unfolding merge merge_normal merge_constant
merge-apart [] l h = h
merge-apart (a ∷ later) l h = by_constant (constant (normal_placed a).polynomial) (λ m. merge-apart later m)
  where
    by-truth : (b : Bool) (more : List Placed → Tidied) → ((m : List Placed) → Apart (plains m) → TidiedApart (more m)) → TidiedApart (merge_constant b l more)
    by-truth true more k = k l h
    by-truth false more k = tt

    by_constant : (o : Option ℤ) → ((m : List Placed) → Apart (plains m) → TidiedApart (merge m later))
        → TidiedApart (merge_normal o (normal_placed a) l (λ (m : List Placed). merge m later))
    by_constant none k = k (merge_into (normal_placed a) l) (merge_into-apart (normal_placed a) l h)
    by_constant (some z) k = by-truth (has (sign_of z) (normal_placed a).set) (λ (m : List Placed). merge m later) k

abbrev TidiedOther : Polynomial → Tidied → Type 0
TidiedOther p broken = Unit {0}
TidiedOther p (tidied l) = Every (Other p) (plains l)

without_full-other : {p : Polynomial} (l : List Placed) → Every (Other p) (plains l) → TidiedOther p (without_full l)
unfolding without_full kept_if
without_full-other [] hs = every_none
without_full-other {p} (a ∷ l) (every h hs) = by_tests (eqb a.set empty) (eqb a.set full) (without_full l) (without_full-other l hs)
  where
    by_tests : (b c : Bool) (rest : Tidied) → TidiedOther p rest → TidiedOther p (kept_if b c a rest)
    by_tests true c rest k = tt
    by_tests false true rest k = k
    by_tests false false broken k = tt
    by_tests false false (tidied m) k = every h k

without_full-apart : (l : List Placed) → Apart (plains l) → TidiedApart (without_full l)
unfolding without_full kept_if
without_full-apart [] h = none_apart
without_full-apart (a ∷ l) (apart h hs) =
    by_tests (eqb a.set empty) (eqb a.set full) (without_full l) (without_full-other l h) (without_full-apart l hs)
  where
    by_tests : (b c : Bool) (rest : Tidied) → TidiedOther a.polynomial rest → TidiedApart rest → TidiedApart (kept_if b c a rest)
    by_tests true c rest k t = tt
    by_tests false true rest k t = t
    by_tests false false broken k t = tt
    by_tests false false (tidied m) k t = apart k t

-- Step 2 leaves no polynomial twice.
pub tidy-apart : (l : List Placed) {m : List Placed} → tidy l ≡ tidied m → Apart (plains m)
unfolding tidy after_merging
tidy-apart l e = subst TidiedApart e (by-outcome (merge [] l) (merge-apart l [] none_apart))
  where
    by-outcome : (o : Tidied) → TidiedApart o → TidiedApart (after_merging o)
    by-outcome broken h = tt
    by-outcome (tidied k) h = without_full-apart k h
