-- The ways by which the code needs fewer runs: everything before the last empty atom goes, where no set is empty a contradiction is all that fails,
-- and what step 5 keeps tells at once which atom stays.
use Rattle.std.specs.Prelude.{◌≡◌, Bool, not, ◌||◌, ℕ, suc, ◌≤◌, eqb}
use Rattle.std.proofs.Math.Path.{refl, ap, subst}
use Rattle.std.proofs.Common.{sym, ◌∙◌, arith, eqb-true, eq-eqb}
use Rattle.std.proofs.Math.Bool.{true, false}
use Rattle.std.proofs.lemmas.Bool.{false≢true}
use mathlib.Core.List.{List, [], ◌∷◌, ◌++◌, append_assoc}
use Rattle.rules.specs.Signs.{empty}
use Rattle.rules.specs.Polynomial.{Atom}
use Rattle.rules.specs.Deduce.{any_empty}
use Rattle.rules.specs.Rounds.{sets_of, Outcome, contradiction, settled, run}
use Rattle.rules.specs.Level.{Placed, plain, plains, kept_unless, implied}
use Rattle.sign_laws.specs.Booleans.{never_true, never_both, or-first, or-second, neither}
use Rattle.sign_laws.specs.Lists.{Every, every_none, every}
use Rattle.removal_laws.specs.Rounds.{LowAtoms}
use Rattle.rules.specs.Reasons.{places_of, clauses_from, join_all, not_full, joined, merged_list, leave_out_from, leave_out, has_contradiction, fails, failing, Fate, stays, goes, Told}
use Rattle.rules.specs.Reasons.{implying, fate_if, told_from, carried_clauses, Reason, each_reason, each_false, reasons_after, reasons}
use Rattle.reason_laws.specs.LeaveOut.{Without, this_one, a_later_one, FewerAreLess, beginning-goes, all-later-go}
use Rattle.reason_laws.specs.Named.{failing-less, unless_gone, staying}
use Rattle.reason_laws.specs.Records.{From}
use Rattle.reason_laws.specs.Names.{Rising, rising}

-- ---- The records by the atoms in normal form.

unfoldable pub reasons_of : ℕ → List Placed → List Reason
reasons_of n given =
    let these = not_full (join_all [] given) in reasons_after (any_empty (sets_of (plains these))) (run n (plains these)) n (join_all [] given) these given

pub reasons-of : (n : ℕ) (l : List Atom) → reasons n l ≡ reasons_of n (clauses_from 0 l)
unfolding reasons reasons_of merged_list joined
reasons-of n l = refl

-- ---- A false whole.

-- Where the list fails, its failing atoms are in every record.
pub told-false : (n : ℕ) (all these given : List Placed) → fails n (plains these) ≡ true
    → reasons_after (any_empty (sets_of (plains these))) (run n (plains these)) n all these given ≡ each_false (places_of (failing n these)) given
unfolding fails has_contradiction reasons_after
told-false n all these given = by_tests (any_empty (sets_of (plains these))) (run n (plains these))
  where
    by_tests : (b : Bool) (o : Outcome) → b || has_contradiction o ≡ true → reasons_after b o n all these given
        ≡ each_false (places_of (failing n these)) given
    by_tests true o k = refl
    by_tests false contradiction k = refl
    by_tests false (settled st) k = absurd (false≢true k)

empty-there : (front : List Placed) (c : Placed) (back : List Placed) → c.set ≡ empty → any_empty (sets_of (plains (front ++ (c ∷ back)))) ≡ true
unfolding any_empty sets_of
empty-there [] c back e = or-first _ (eq-eqb c.set empty e)
empty-there (d ∷ front) c back e = or-second (eqb d.set empty) (empty-there front c back e)

-- Where the rest fails, the beginning goes.
pub failing-later : (n : ℕ) (front back : List Placed) → LowAtoms (plains (front ++ back)) → fails n (plains back) ≡ true
    → failing n (front ++ back) ≡ failing n back
unfolding failing leave_out
failing-later n front back low e = beginning-goes (λ (m : List Placed). fails n (plains m)) (failing-less n) [] front back low e

-- Where the rest behind an atom with the empty set does not fail, that one alone is left.
pub failing-empty : (n : ℕ) (front : List Placed) (c : Placed) (back : List Placed) → LowAtoms (plains (front ++ (c ∷ back)))
    → LowAtoms (plains (c ∷ back))
    → c.set ≡ empty → fails n (plains back) ≡ false → failing n (front ++ (c ∷ back)) ≡ c ∷ []
unfolding failing leave_out leave_out_from kept_unless fails
failing-empty n front c back low low-rest e f =
    let enough : List Placed → Bool = λ (m : List Placed). fails n (plains m) in
    beginning-goes enough (failing-less n) [] front (c ∷ back) low (fails-empty [] back)
    ∙ ap (λ (gone : Bool). leave_out_from enough (kept_unless gone c []) back) f
    ∙ all-later-go enough (failing-less n) (c ∷ []) back low-rest (fails-empty [] [])
  where
    fails-empty : (before later : List Placed) → fails n (plains (before ++ (c ∷ later))) ≡ true
    fails-empty before later = or-first _ (empty-there before c later e)

-- ---- Where no set is empty.

pub record Unempty (l : List Placed) : Type 0 where
  pub none : any_empty (sets_of (plains l)) ≡ false

unempty-fewer : {l m : List Placed} → Without l m → Unempty l → Unempty m
unfolding any_empty sets_of
unempty-fewer (this_one {c} {l}) u = record { none = ((neither (eqb c.set empty) (any_empty (sets_of (plains l)))).0 u.none).1 }
unempty-fewer (a_later_one {c} {l} {m} w) u =
    let both = (neither (eqb c.set empty) (any_empty (sets_of (plains l)))).0 u.none in
    let rest = (unempty-fewer w (record { none = both.1 })).none in
    record { none = rw (both.0, rest) }

fails-by-rounds : (n : ℕ) (l : List Placed) → Unempty l → fails n (plains l) ≡ has_contradiction (run n (plains l))
unfolding fails
fails-by-rounds n l u = rw u.none

-- Two tests that agree on a list and on all that is fewer leave out the same.
module _ {A : Type 0} (one other : List A → Bool) (P : List A → Type 0) (fewer : (l m : List A) → Without l m → P l → P m) (agree : (l : List A)
    → P l → one l ≡ other l) where
  without-here : (kept : List A) (c : A) (later : List A) → Without (kept ++ (c ∷ later)) (kept ++ later)
  without-here [] c later = this_one
  without-here (b ∷ kept) c later = a_later_one (without-here kept c later)

  alike_from : (kept rest : List A) → P (kept ++ rest) → leave_out_from one kept rest ≡ leave_out_from other kept rest
  unfolding leave_out_from kept_unless
  alike_from kept [] h = refl
  alike_from kept (c ∷ later) h =
      let less = fewer (kept ++ (c ∷ later)) (kept ++ later) (without-here kept c later) h in
      ap (λ (gone : Bool). leave_out_from one (kept_unless gone c kept) later) (agree (kept ++ later) less)
      ∙ alike_from (kept_unless (other (kept ++ later)) c kept) later (next (other (kept ++ later)) less)
    where
      next : (gone : Bool) → P (kept ++ later) → P (kept_unless gone c kept ++ later)
      next true less = less
      next false less = subst P (sym (append_assoc kept (c ∷ []) later)) h

  pub leave_out-alike : (l : List A) → P l → leave_out one l ≡ leave_out other l
  unfolding leave_out
  leave_out-alike l h = alike_from [] l h

pub failing-by-rounds : (n : ℕ) (l : List Placed) → Unempty l → failing n l ≡ leave_out (λ (m : List Placed). has_contradiction (run n (plains m))) l
unfolding failing
failing-by-rounds n l u =
    leave_out-alike (λ (m : List Placed). fails n (plains m)) (λ (m : List Placed). has_contradiction (run n (plains m))) Unempty
    (λ k m w v. unempty-fewer w v) (fails-by-rounds n) l u

-- ---- Step 5: the first of what stays tells whether the atom at hand does.

unfoldable pub first_is : ℕ → List Placed → Bool
first_is i [] = false
first_is i (d ∷ l) = eqb i d.place

staying-from : (n : ℕ) (i : ℕ) (kept : List Placed) {l : List Placed} → Every (From i) l → Every (From i) (staying (told_from n kept l))
unfolding told_from staying fate_if unless_gone
staying-from n i kept every_none = every_none
staying-from n i kept (every {a = c} {l = later} h hs) =
    let gone = implied n (plains (kept ++ later)) (plain c) in by-test gone (implying n (kept ++ later) (plain c)) (staying-from n i
    (kept_unless gone c kept) hs)
  where
    by-test : (gone : Bool) (named : List Placed) {rest : List Placed} → Every (From i) rest → Every (From i) (unless_gone (fate_if gone named) c rest)
    by-test true named r = r
    by-test false named r = every h r

not_first : (i : ℕ) {l : List Placed} → Every (From (suc i)) l → first_is i l ≡ false
unfolding first_is
not_first i every_none = refl
not_first i (every {a = d} h hs) = never_true (eqb i d.place) (λ e. different (eqb-true i d.place e) h.at_least)
  where
    different : i ≡ d.place → suc i ≤ d.place → ⊥
    different e k = omega arith

pub stays-first : (n : ℕ) (kept : List Placed) (c : Placed) (later : List Placed) → Rising (c ∷ later)
    → first_is c.place (staying (told_from n kept (c ∷ later))) ≡ not (implied n (plains (kept ++ later)) (plain c))
unfolding told_from staying fate_if unless_gone kept_unless first_is
stays-first n kept c later (rising h hs) = by-test (implied n (plains (kept ++ later)) (plain c)) (implying n (kept ++ later) (plain c))
  where
    by-test : (gone : Bool) (named : List Placed)
        → first_is c.place (unless_gone (fate_if gone named) c (staying (told_from n (kept_unless gone c kept) later))) ≡ not gone
    by-test true named = not_first c.place (staying-from n (suc c.place) kept h)
    by-test false named = eq-eqb c.place c.place refl
