-- How the rounds end: the tests for an empty set and for equal sets, place by place, and what a round does to the number of rounds left.
use mathlib.Core.Path.{◌≡◌, refl, sym, ◌∙◌, ap, subst}
use mathlib.Core.Bool.{Bool, true, false}
use mathlib.Core.List.{List, [], ◌∷◌}
use mathlib.Core.Option.{none, some, some-injective, none-ne-some}
use Prim.Native.Nat.{ℕ, zero, suc, ◌+◌, ◌-◌, ◌*◌, ◌<◌, ◌≤◌}
use native.Mathlib.Nat.{sub-zero}
use native.Mathlib.Omega.{arith}
use lib.Dec.{eqb, lit<}
use lib.Pointwise.{pointwise}
use lib.IntN.{ℤ}
use lib.ListN.{length, get_or, take, drop}
use Rattle.std.specs.List.{list_any}
use Rattle.std.proofs.Math.Seq.{drop-cons}
use Rattle.rules.specs.Signs.{SignSet}
use Rattle.rules.specs.Deduce.{any_empty}
use Rattle.rules.specs.Rounds.{sets_of, same_sets, has_empty, unchanged, round, Outcome, after_round, rounds, further_begun, begun, enough, contradiction, settled}
use Rattle.rules.specs.Rounds.{search, unless_emptied, after_search, begun_unless_emptied, begun_after_search}
use Rattle.rules.specs.Rounds.{State as Standing}
use Rattle.sign_laws.specs.Lists.{every-get_d}
use Rattle.ending_laws.specs.Cuts.{none-empty as none-empty-in}
use Rattle.removal_laws.specs.Rounds.{LowBoard, Low, round-low}
use Rattle.removal_laws.specs.Settled.{search-low}
use Rattle.terms.specs.View.{few, numbers_from, length-numbers}
use Rattle.terms.specs.View.{sets_of as board_of}
use Rattle.table.specs.Table.{Table, atoms_from, many}
use Rattle.round.specs.declared.State.{State}
use Rattle.round.specs.Views.{table_of, state_of}
use Rattle.round.specs.Round.{Rounded}
use Rattle.search.specs.declared.Found.{Found}
use Rattle.search.specs.Filled.{Filled, filled-low}
use Rattle.search.specs.Search.{when_found, SearchedState}
use Rattle.rounds.specs.Views.{held_sets}
use Rattle.rounds.specs.declared.Counted.{Counted}
use Rattle.rounds.specs.Ended.{further_from, Furthered, Ended}

-- ---- the first n sets of an array

taken : (xs : List SignSet) (i n : ℕ) → i + n ≤ length xs → take n (drop i xs) ≡ numbers_from xs i n
unfolding numbers_from
taken xs i zero h = refl
taken xs i (suc n) h = rw (drop-cons xs i 0 (omega arith)) (ap (λ (l : List SignSet). get_or xs i 0 ∷ l) (taken xs (suc i) n (omega arith)))

pub numbers-take : (xs : List SignSet) (n : ℕ) → n ≤ length xs → take n xs ≡ numbers_from xs 0 n
numbers-take xs n h = taken xs 0 n (omega arith)

pub empty-among : (xs : List SignSet) → list_any (λ s. eqb s 0) xs ≡ any_empty xs
unfolding any_empty
empty-among [] = refl
empty-among (s ∷ ss) = rw (empty-among ss)

pub same-each : (xs ys : List SignSet) → pointwise eqb xs ys ≡ same_sets xs ys
unfolding same_sets
same-each [] [] = refl
same-each [] (t ∷ ts) = refl
same-each (s ∷ ss) [] = refl
same-each (s ∷ ss) (t ∷ ts) = rw (same-each ss ts)

-- ---- the sets and the number of the atoms of a list

module _ (t : Table) (numbers : List ℕ) (sets : List SignSet) where
  pub sets-are : (i k : ℕ) → sets_of (atoms_from t numbers sets i k) ≡ numbers_from sets i k
  unfolding sets_of atoms_from numbers_from
  sets-are i zero = refl
  sets-are i (suc k) = ap (λ (l : List SignSet). get_or sets i 0 ∷ l) (sets-are (suc i) k)

  pub length-atoms : (i k : ℕ) → length (atoms_from t numbers sets i k) ≡ k
  unfolding atoms_from
  length-atoms i zero = refl
  length-atoms i (suc k) = ap suc (length-atoms (suc i) k)

-- ---- the tests of a state: the board's sets first, then the atoms'

module _ (t : Table) (st : State) where
  pub empty-on-board : any_empty (board_of st.board) ≡ true → has_empty (state_of t st) ≡ true
  unfolding has_empty
  empty-on-board e = simp e

  pub empty-in-list : any_empty (board_of st.board) ≡ false → has_empty (state_of t st) ≡ any_empty (held_sets st.atoms)
  unfolding has_empty
  empty-in-list e = simp (e, sets-are)

module _ (t : Table) (st su : State) where
  pub board-changed : same_sets (board_of st.board) (board_of su.board) ≡ false → unchanged (state_of t st) (state_of t su) ≡ false
  unfolding unchanged
  board-changed e = simp e

  pub list-changed : same_sets (board_of st.board) (board_of su.board) ≡ true
      → unchanged (state_of t st) (state_of t su) ≡ same_sets (held_sets st.atoms) (held_sets su.atoms)
  unfolding unchanged
  list-changed e = simp (e, sets-are)

-- the number of rounds that are enough for a state of at most sixteen variables and k atoms
pub enough-is : (t : Table) (st : State) (k : ℕ) → st.board.variables ≤ 16 → k ≡ many st.atoms.count
    → 2 * (st.board.variables + k) + 1 ≡ enough (state_of t st)
unfolding enough
enough-is t st k h e =
    omega (arith, length-numbers st.board.sets 0 (few st.board.variables), length-atoms t st.atoms.number st.atoms.set 0 (many st.atoms.count))

-- ---- a round more, of those that are left

one-less : (k : ℕ) → suc k - 1 ≡ k
one-less k = omega arith

-- What comes of a round that empties no set: the end, if no further one is begun, or what comes of the state that it begins with, unless a set of that
-- is empty; and so with the number of those begun.
after_none : (still : Bool) (n : ℕ) (su : Standing) (more : Standing → Outcome) → further_from still (search n su) su ≡ none
    → after_round false still n su more ≡ settled su
unfolding further_from after_round after_search
after_none true n su more e = rw e
after_none false n su more e = absurd (none-ne-some su (sym e))

begun-none : (still : Bool) (n : ℕ) (su : Standing) (more : Standing → ℕ) → further_from still (search n su) su ≡ none → further_begun false still n su more ≡ 0
unfolding further_from further_begun begun_after_search
begun-none true n su more e = rw e
begun-none false n su more e = absurd (none-ne-some su (sym e))

after-some : (still : Bool) (n : ℕ) (su : Standing) (more : Standing → Outcome) → has_empty su ≡ false → {sv : Standing}
    → further_from still (search n su) su ≡ some sv → after_round false still n su more ≡ unless_emptied (has_empty sv) sv more
unfolding further_from after_round after_search unless_emptied
after-some true n su more h e = rw e
after-some false n su more h {sv} e = let same : su ≡ sv = some-injective su sv e in rw (← same, h)

begun-some : (still : Bool) (n : ℕ) (su : Standing) (more : Standing → ℕ) → has_empty su ≡ false → {sv : Standing}
    → further_from still (search n su) su ≡ some sv → further_begun false still n su more ≡ begun_unless_emptied (has_empty sv) sv more
unfolding further_from further_begun begun_after_search begun_unless_emptied
begun-some true n su more h e = rw e
begun-some false n su more h {sv} e = let same : su ≡ sv = some-injective su sv e in rw (← same, h)

module _ (n : ℕ) (st : Standing) where
  -- one that empties a set
  round-fails : (left : ℕ) → 0 < left → has_empty (round n st) ≡ true → (rounds n left st ≡ contradiction) × (begun n left st ≡ 1)
  unfolding rounds after_round begun further_begun
  round-fails zero h e = absurd (omega arith)
  round-fails (suc k) h e = (simp e, simp e)

  -- one after which no further one is begun
  round-rests : (left : ℕ) → 0 < left → has_empty (round n st) ≡ false → further_from (unchanged st (round n st)) (search n (round n st)) (round n st) ≡ none
      → (rounds n left st ≡ settled (round n st)) × (begun n left st ≡ 1)
  unfolding rounds begun
  round-rests zero h e f = absurd (omega arith)
  round-rests (suc k) h e f =
      let still = unchanged st (round n st) in
      (rw e (after_none still n (round n st) _ f), rw e (ap suc (begun-none still n (round n st) _ f)))

  -- one after which a pair empties a set
  round-empties : (left : ℕ) → 0 < left → has_empty (round n st) ≡ false → {sv : Standing}
      → further_from (unchanged st (round n st)) (search n (round n st)) (round n st) ≡ some sv → has_empty sv ≡ true
      → (rounds n left st ≡ contradiction) × (begun n left st ≡ 1)
  unfolding rounds begun unless_emptied begun_unless_emptied
  round-empties zero h e f g = absurd (omega arith)
  round-empties (suc k) h e {sv} f g =
      let still = unchanged st (round n st) in (
        rw e (after-some still n (round n st) _ e f ∙ rw g),
        rw e (ap suc (begun-some still n (round n st) _ e f ∙ rw g)),
      )

  -- one after which they go on
  round-goes-on : (left : ℕ) → 0 < left → has_empty (round n st) ≡ false → {sv : Standing}
      → further_from (unchanged st (round n st)) (search n (round n st)) (round n st) ≡ some sv → has_empty sv ≡ false
      → (rounds n left st ≡ rounds n (left - 1) sv) × (begun n left st ≡ suc (begun n (left - 1) sv))
  unfolding rounds begun unless_emptied begun_unless_emptied
  round-goes-on zero h e f g = absurd (omega arith)
  round-goes-on (suc k) h e {sv} f g =
      let still = unchanged st (round n st) in
      rw (one-less k) (
        rw e (after-some still n (round n st) _ e f ∙ rw g),
        rw e (ap suc (begun-some still n (round n st) _ e f ∙ rw g)),
      )

  -- none is left
  none_left : (left : ℕ) → left ≡ 0 → (rounds n left st ≡ settled st) × (begun n left st ≡ 0)
  unfolding rounds begun
  none_left zero e = (refl, refl)
  none_left (suc k) e = absurd (omega arith)

-- sets below 8 stay below 8
further-low : (still : Bool) (n : ℕ) (su : Standing) → Low su → {sv : Standing} → further_from still (search n su) su ≡ some sv → Low sv
unfolding further_from
further-low true n su low e = search-low n su e low
further-low false n su low {sv} e = subst Low (some-injective su sv e) low

-- Of the rounds from st on so many have ended at the current state; from there they end as all of them do.
pub record Going (t : Table) (total : ℕ) (st : State) (ended : ℕ) (current : State) : Type 0 where
  pub variables : current.board.variables ≡ t.variables
  pub count : current.atoms.count ≡ st.atoms.count
  pub number : current.atoms.number ≡ st.atoms.number
  pub low : LowBoard (board_of current.board)
  pub outcome : rounds t.variables (total - ended) (state_of t current) ≡ rounds t.variables (enough (state_of t st)) (state_of t st)
  pub begun : ended + begun t.variables (total - ended) (state_of t current) ≡ begun t.variables (enough (state_of t st)) (state_of t st)

pub at_first : (t : Table) (total : ℕ) (st : State) → total ≡ enough (state_of t st) → st.board.variables ≡ t.variables → LowBoard (board_of st.board)
    → Going t total st 0 st
at_first t total st e v low =
    let all : total - 0 ≡ enough (state_of t st) = sub-zero total ∙ e in
    let b : begun t.variables (total - 0) (state_of t st) ≡ begun t.variables (enough (state_of t st)) (state_of t st) = rw all in
    record { variables = v; count = refl; number = refl; low = low; outcome = rw all; begun = omega arith }

module _ {t : Table} {total : ℕ} {st : State} {ended : ℕ} {current next : State} (going : Going t total st ended current) (more : ended < total)
    (rounded : Rounded t current next) where
  some-left : 0 < total - ended
  some-left = omega arith

  pub to-contradiction : has_empty (state_of t next) ≡ true → Ended t st (record { contradiction = true; begun = ended + 1; state = next })
  to-contradiction e =
      let f = round-fails t.variables (state_of t current) (total - ended) some-left (rw rounded.state at e) in
      record {
        outcome = sym f.0 ∙ going.outcome;
        begun = omega (arith, f.1, going.begun);
        variables = rounded.variables;
        count = rounded.count ∙ going.count;
        number = rounded.number ∙ going.number;
      }

  low-left : Low (round t.variables (state_of t current))
  low-left = round-low t.variables (state_of t current) going.low

  -- if it empties no set, each set of the board has a sign
  pub filled-left : has_empty (state_of t next) ≡ false → Filled (board_of next.board)
  filled-left e = filled-low (board_of next.board) (λ i h. every-get_d i _ (lit< tt) (rw (← rounded.state) at low-left.board)) (none-empty-in (state_of t next) e).0

  -- where the next one begins, r, if one is
  module _ {r : Found} (furthered : Furthered t current next r) (filled : has_empty (state_of t next) ≡ false) where
    further-is : when_found r.found (state_of t r.state)
        ≡ further_from (unchanged (state_of t current) (round t.variables (state_of t current))) (search t.variables (round t.variables (state_of t current)))
        (round t.variables (state_of t current))
    further-is = rw rounded.state at furthered.found

    left-filled : has_empty (round t.variables (state_of t current)) ≡ false
    left-filled = rw rounded.state at filled

    pub to-rest : r.found ≡ false → Ended t st (record { contradiction = false; begun = ended + 1; state = r.state })
    unfolding when_found
    to-rest None-found =
        let f = round-rests t.variables (state_of t current) (total - ended) some-left left-filled (sym further-is ∙ rw None-found) in
        record {
          outcome = ap (λ (s : State). settled (state_of t s)) (furthered.itself None-found) ∙ ap settled rounded.state ∙ sym f.0 ∙ going.outcome;
          begun = omega (arith, f.1, going.begun);
          variables = furthered.variables;
          count = furthered.count ∙ rounded.count ∙ going.count;
          number = furthered.number ∙ rounded.number ∙ going.number;
        }

    pub to-emptied : r.found ≡ true → has_empty (state_of t r.state) ≡ true
        → Ended t st (record { contradiction = true; begun = ended + 1; state = r.state })
    unfolding when_found
    to-emptied found e =
        let f = round-empties t.variables (state_of t current) (total - ended) some-left left-filled (sym further-is ∙ rw found) e in
        record {
          outcome = sym f.0 ∙ going.outcome;
          begun = omega (arith, f.1, going.begun);
          variables = furthered.variables;
          count = furthered.count ∙ rounded.count ∙ going.count;
          number = furthered.number ∙ rounded.number ∙ going.number;
        }

    pub onward : r.found ≡ true → has_empty (state_of t r.state) ≡ false → Going t total st (ended + 1) r.state
    unfolding when_found
    onward found e =
        let less : total - ended - 1 ≡ total - (ended + 1) = omega arith in
        let f = rw less at (round-goes-on t.variables (state_of t current) (total - ended) some-left left-filled (sym further-is ∙ rw found) e) in
        record {
          variables = furthered.variables;
          count = furthered.count ∙ rounded.count ∙ going.count;
          number = furthered.number ∙ rounded.number ∙ going.number;
          low = (further-low _ t.variables (round t.variables (state_of t current)) low-left {sv = state_of t r.state} (sym further-is ∙ rw found)).board;
          outcome = sym f.0 ∙ going.outcome;
          begun = omega (arith, f.1, going.begun);
        }

pub to_last : {t : Table} {total : ℕ} {st : State} {ended : ℕ} {current : State} → Going t total st ended current → ended ≡ total
    → Ended t st (record { contradiction = false; begun = total; state = current })
to_last {t} {total} {st} {ended} {current} going e =
    let f = none_left t.variables (state_of t current) (total - ended) (omega arith) in
    record {
      outcome = sym f.0 ∙ going.outcome;
      begun = omega (arith, f.1, going.begun, e);
      variables = going.variables;
      count = going.count;
      number = going.number;
    }

-- ---- a board's own number of variables is the table's

pub ended-over : (cs : List ℤ) (ms ts : List ℕ) {n m : ℕ} → n ≡ m → {st : State} {r : Counted} → Ended (table_of cs ms ts n) st r → Ended (table_of cs ms ts m) st r
ended-over cs ms ts same {st} {r} = subst (λ (k : ℕ). Ended (table_of cs ms ts k) st r) same

pub furthered-over : (cs : List ℤ) (ms ts : List ℕ) {n m : ℕ} → n ≡ m → {st su : State} {r : Found} → Furthered (table_of cs ms ts n) st su r
    → Furthered (table_of cs ms ts m) st su r
furthered-over cs ms ts same {st} {su} {r} = subst (λ (k : ℕ). Furthered (table_of cs ms ts k) st su r) same

-- ---- where the next round begins: with what a pair finds, or with what the round left

pub further-searched : {t : Table} (st su : State) {r : Found} → unchanged (state_of t st) (state_of t su) ≡ true → SearchedState t su r → Furthered t st su r
unfolding further_from
further-searched st su e s = record {
  found = s.found ∙ rw e;
  variables = s.variables;
  count = s.count;
  number = s.number;
  itself = s.itself;
}

pub further-changed : {t : Table} (st su : State) → su.board.variables ≡ t.variables → unchanged (state_of t st) (state_of t su) ≡ false
    → Furthered t st su (record { found = true; state = su })
unfolding further_from when_found
further-changed st su v e = record { found = rw e; variables = v; count = refl; number = refl; itself = λ f. refl }
