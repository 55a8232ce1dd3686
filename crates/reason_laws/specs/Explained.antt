-- What the reasons of an AND of atoms tell, against the answer of the book for that AND.
use Rattle.std.specs.Prelude.{◌≡◌, Bool, ◌||◌, ℕ}
use Rattle.std.proofs.Math.Path.{refl, ap, subst}
use Rattle.std.proofs.Common.{sym, ◌∙◌, true≢false}
use Rattle.std.proofs.Math.Bool.{true, false}
use Rattle.std.proofs.lemmas.Bool.{false≢true}
use mathlib.Core.List.{List, [], ◌∷◌}
use Rattle.rules.specs.Polynomial.{Atom}
use Rattle.rules.specs.Deduce.{any_empty}
use Rattle.rules.specs.Rounds.{State, sets_of, Outcome, contradiction, settled, run}
use Rattle.rules.specs.Formula.{leaf, all_of}
use Rattle.rules.specs.Level.{Placed, plains, placed_at, Formula, atoms_of, ors_of, gather, sweep, Tidied, broken, tidied, tidy, remove_implied, parts, or_parts, never}
use Rattle.rules.specs.Level.{after_sweep, after_rounds, after_tidy, settle, inner_all, settled_down, after_gather, and_rule, as_node, simplify}
use Rattle.sign_laws.specs.Booleans.{neither, never_both}
use Rattle.sign_laws.specs.Lists.{Every}
use Rattle.level_laws.specs.Carried.{carried-plain}
use Rattle.removal_laws.specs.Rounds.{LowAtoms}
use Rattle.removal_laws.specs.Starts.{run-carries}
use Rattle.removal_laws.specs.Apart.{Apart, carries-apart, tidy-apart}
use Rattle.rules.specs.Reasons.{places_of, clauses_from, joined, merged_list, has_contradiction, fails, failing, told_from, carried_clauses}
use Rattle.rules.specs.Reasons.{each_reason, each_false, reasons_after, reasons}
use Rattle.reason_laws.specs.Named.{JustFails, just-fails, TrulyTold, truly-told, staying, staying-is-kept}
use Rattle.reason_laws.specs.Merged.{as_read, Tidy, AgreesInAll, merged-agrees, merged-low}

-- ---- An AND of atoms, and what the book makes of it.

unfoldable pub and_of : List Placed → Formula
and_of l = parts l []

-- The answer to the atoms of an AND, as read.
unfoldable pub answer_to : ℕ → List Atom → Formula
answer_to n l = and_rule n 6 (and_of (as_read 0 l))

-- So is the root of a block answered: an AND of atoms, and an atom alone.
pub root-and : (n : ℕ) (l : List Atom) → simplify n (all_of (and_of (as_read 0 l))) ≡ as_node (answer_to n l)
unfolding simplify answer_to
root-and n l = refl

pub root-atom : (n : ℕ) (a : Atom) → simplify n (leaf (placed_at 0 a)) ≡ as_node (answer_to n (a ∷ []))
unfolding simplify answer_to and_of parts or_parts as_read
root-atom n a = refl

parts-atoms : (l : List Placed) → atoms_of (and_of l) ≡ l
unfolding and_of parts or_parts atoms_of
parts-atoms [] = refl
parts-atoms (a ∷ l) = ap (λ (k : List Placed). a ∷ k) (parts-atoms l)

parts-ors : (l : List Placed) → ors_of (and_of l) ≡ []
unfolding and_of parts or_parts ors_of
parts-ors [] = refl
parts-ors (a ∷ l) = parts-ors l

-- Steps 2 to 6, once.
unfoldable once : ℕ → List Placed → Formula
once n l = after_tidy n (tidy l) [] (λ (m : List Placed) (later : List Formula). settle n 0 m later)

answer-once : (n : ℕ) (l : List Atom) → answer_to n l ≡ once n (as_read 0 l)
unfolding answer_to and_rule gather after_gather settled_down inner_all settle once
answer-once n l = rw (parts-ors (as_read 0 l), parts-atoms (as_read 0 l))

-- ---- A false whole.

module _ (n : ℕ) (l : List Atom) where
  abbrev these : List Placed
  these = merged_list l

  -- The whole is false by the merged list exactly if the book says so; the records name atoms that just fail.
  pub record WholeFalse : Type 0 where
    pub answered : answer_to n l ≡ never
    pub records : reasons n l ≡ each_false (places_of (failing n (merged_list l))) (clauses_from 0 l)
    pub just : JustFails n (failing n (merged_list l))

  false-answer : fails n (plains these) ≡ true → once n (as_read 0 l) ≡ never
  unfolding fails once after_tidy after_rounds has_contradiction
  false-answer e = by-tidied (tidy (as_read 0 l)) (merged-agrees l)
    where
      by-outcome : (m : List Placed) (o : Outcome) → has_contradiction o ≡ true
          → after_rounds n m o [] (λ (m : List Placed) (later : List Formula). settle n 0 m later) ≡ never
      by-outcome m contradiction k = refl
      by-outcome m (settled st) k = absurd (false≢true k)

      by-tidied : (t : Tidied) → AgreesInAll t these → after_tidy n t [] (λ (m : List Placed) (later : List Formula). settle n 0 m later) ≡ never
      by-tidied broken h = refl
      by-tidied (tidied m) h = by-outcome m (run n (plains m)) (rw (h.the_same, h.filled) at e)

  false-records : fails n (plains these) ≡ true → reasons n l ≡ each_false (places_of (failing n these)) (clauses_from 0 l)
  unfolding fails reasons has_contradiction reasons_after
  false-records e = by_tests (any_empty (sets_of (plains these))) (run n (plains these)) e
    where
      by_tests : (b : Bool) (o : Outcome) → b || has_contradiction o ≡ true
          → reasons_after b o n (joined l) these (clauses_from 0 l) ≡ each_false (places_of (failing n these)) (clauses_from 0 l)
      by_tests true o k = refl
      by_tests false contradiction k = refl
      by_tests false (settled st) k = absurd (false≢true k)

  pub whole-false : LowAtoms l → fails n (plains (merged_list l)) ≡ true → WholeFalse
  whole-false low e = record {
    answered = answer-once n l ∙ false-answer e;
    records = false-records e;
    just = just-fails n these (merged-low l low) e;
  }

  -- ---- Else.

  -- The rounds settle; each atom's record is what is told of it; the atoms told to stay are the answer, in order; each of the others goes by
  -- atoms that just imply it.
  pub record Explained : Type 0 where
    pub state : State
    pub settles : run n (plains (merged_list l)) ≡ settled state
    pub distinct : Apart (plains (carried_clauses n state (merged_list l)))
    pub records : reasons n l ≡ each_reason (joined l) (told_from n [] (carried_clauses n state (merged_list l))) (clauses_from 0 l)
    pub truly : Every (TrulyTold n) (told_from n [] (carried_clauses n state (merged_list l)))
    pub answered : answer_to n l ≡ and_of (staying (told_from n [] (carried_clauses n state (merged_list l))))

  explained-by : (st : State) → run n (plains these) ≡ settled st → any_empty (sets_of (plains these)) ≡ false → (m : List Placed)
      → tidy (as_read 0 l) ≡ tidied m
      → Tidy m these → Explained
  unfolding reasons reasons_after once after_tidy after_rounds after_sweep sweep and_of carried_clauses
  explained-by st e f m t h =
      let same-carried = carried-plain n these st e in
      let runs : run n (plains m) ≡ settled st = ap (λ (k : List Placed). run n (plains k)) (sym h.the_same) ∙ e in
      let apart-given : Apart (plains these) = subst (λ (k : List Placed). Apart (plains k)) (sym h.the_same) (tidy-apart (as_read 0 l) t) in
      let apart-carried = subst Apart (sym same-carried) (carries-apart (run-carries n (plains these) e) apart-given).1 in
      record {
        state = st;
        settles = e;
        distinct = apart-carried;
        records = rw (f, e);
        truly = truly-told n (carried_clauses n st these) apart-carried;
        answered = answer-once n l ∙ rw (t, runs, ← h.the_same) (ap (λ (k : List Placed). parts k [])
            (sym (staying-is-kept n (carried_clauses n st these))));
      }

  pub explained : fails n (plains (merged_list l)) ≡ false → Explained
  unfolding fails has_contradiction
  explained e =
      let both = (neither (any_empty (sets_of (plains these))) (has_contradiction (run n (plains these)))).0 e in
      by-outcome (run n (plains these)) refl both.1 both.0 (tidy (as_read 0 l)) refl (merged-agrees l)
    where
      by-outcome : (o : Outcome) → run n (plains these) ≡ o → has_contradiction o ≡ false → any_empty (sets_of (plains these)) ≡ false
          → (t : Tidied) → tidy (as_read 0 l) ≡ t → AgreesInAll t these → Explained
      by-outcome contradiction r k f t w h = absurd (true≢false k)
      by-outcome (settled st) r k f broken w h = never_both h f
      by-outcome (settled st) r k f (tidied m) w h = explained-by st r f m w h
