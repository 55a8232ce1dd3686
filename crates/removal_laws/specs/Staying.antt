-- Step 5 without needless rounds: an atom whose carried set the settled state does not imply by the others stays, and no rounds need be run for it.
-- 01, "A level", step 5: "an atom is removed if what the other remaining atoms (rounds run afresh on them alone) say of it lies inside its carried set"
use Rattle.std.specs.Prelude.{◌≡◌, Bool, not, ◌&&◌, ℕ}
use Rattle.std.proofs.Math.Path.{refl}
use Rattle.std.proofs.Common.{sym, ap, ◌∙◌, subst}
use Rattle.std.proofs.Math.Bool.{true, false}
use Rattle.std.proofs.lemmas.Bool.{false≢true}
use mathlib.Core.List.{List, [], ◌∷◌, ◌++◌, append_assoc, map-append}
use Rattle.std.proofs.Math.Option.{Option, none, some}
use Rattle.rules.specs.Signs.{SignSet, inside}
use Rattle.rules.specs.Polynomial.{Polynomial, Atom, Board, by_terms, same, which}
use Rattle.rules.specs.TwoAtoms.{tries, cut_by_all}
use Rattle.rules.specs.Rounds.{cut_by, State, settled, run, unless_same, other_than, carried}
use Rattle.rules.specs.Level.{Placed, plain, plains, kept_unless, implied, remove_implied, tidied, tidy, carry}
use Rattle.sign_laws.specs.Booleans.{and_first, and_second, never_true, never_both, not-true}
use Rattle.sign_laws.specs.Lists.{Every, every_none, every}
use Rattle.level_laws.specs.Same.{same-itself}
use Rattle.level_laws.specs.Carried.{carried-plain}
use Rattle.removal_laws.specs.Fewer.{inside-wider, Fewer, left_out, all-kept, fewer-append, fewer-both}
use Rattle.removal_laws.specs.Settled.{run-settles}
use Rattle.removal_laws.specs.Starts.{run-carries}
use Rattle.removal_laws.specs.Apart.{Other, Apart, others-differ, others_apart, carries-apart, tidy-apart}
use Rattle.removal_laws.specs.Said.{said_by_others, said-below, none-same, says-wider}

-- ---- The test, and step 5 with the test first.

unfoldable pub no_variable : Option ℕ → Bool
no_variable none = true
no_variable (some i) = false

-- The atom is no variable's, and what the settled state says of it by the others does not lie inside its set.
unfoldable pub stays_by : ℕ → State → Atom → Bool
stays_by n st a = no_variable (which n a.polynomial) && not (inside (said_by_others st a.polynomial) a.set)

unfoldable pub remove_faster : ℕ → State → List Placed → List Placed → List Placed
remove_faster n st kept [] = kept
remove_faster n st kept (a ∷ later) =
    remove_faster n st (kept_unless (not (stays_by n st (plain a)) && implied n (plains (kept ++ later)) (plain a)) a kept) later

-- ---- On the way through the list: the atoms kept so far, and those to come.

-- They are some of all, and no polynomial is there twice.
pub record Remain (all kept rest : List Atom) : Type 0 where
  pub fewer : Fewer all (kept ++ rest)
  pub distinct : Apart (kept ++ rest)

-- At first.
pub remain-first : {all : List Atom} → Apart all → Remain all [] all
remain-first {all} h = record { fewer = all-kept all; distinct = h }

-- After each atom, whether it stays or not.
pub remain-next : (out : Bool) {all kept : List Atom} {a : Atom} {later : List Atom} → Remain all kept (a ∷ later)
    → Remain all (kept_unless out a kept) later
unfolding kept_unless
remain-next true {kept} {a} {later} r = record {
  fewer = fewer-both r.fewer (fewer-append (all-kept kept) (left_out (all-kept later)));
  distinct = others_apart kept a later r.distinct;
}
remain-next false {kept} {a} {later} r =
    let same : (kept ++ (a ∷ [])) ++ later ≡ kept ++ (a ∷ later) = append_assoc kept (a ∷ []) later in
    record { fewer = rw same r.fewer; distinct = rw same r.distinct }

-- The plain atoms of those that are kept.
pub kept-plain : (out : Bool) (a : Placed) (kept : List Placed) → plains (kept_unless out a kept) ≡ kept_unless out (plain a) (plains kept)
unfolding kept_unless
kept-plain true a kept = refl
kept-plain false a kept = map-append plain kept (a ∷ [])

no-variable : (n : ℕ) (p : Polynomial) → no_variable (which n p) ≡ true → which n p ≡ none
unfolding no_variable
no-variable n p = by-which (which n p)
  where
    by-which : (o : Option ℕ) → no_variable o ≡ true → o ≡ none
    by-which none e = refl
    by-which (some i) e = absurd (false≢true e)

test-first : (stays out : Bool) → (stays ≡ true → out ≡ false) → not stays && out ≡ out
test-first true out h = sym (h refl)
test-first false out h = refl

module _ (n : ℕ) (l : List Atom) {st : State} (settles : run n l ≡ settled st) where
  -- An atom that stays by the test is not implied by the others that remain.
  pub stays-unimplied : {kept : List Atom} {a : Atom} {later : List Atom} → Remain (carried n st.board l st.atoms) kept (a ∷ later)
      → stays_by n st a ≡ true → implied n (kept ++ later) a ≡ false
  unfolding stays_by implied kept_unless
  stays-unimplied {kept} {a} {later} r e =
      let p = a.polynomial in
      let no-var = no_variable (which n p) in
      let said = inside (said_by_others st p) a.set in
      let fewer = (remain-next true r).fewer in
      let wider = says-wider (run-settles n l settles) (run-carries n l settles) fewer p (no-variable n p (and_first no-var (not said) e))
      (others-differ kept a later r.distinct) in
      let not-inside = not-true said (and_second no-var (not said) e) in
      never_true _ (λ i. never_both (inside-wider a.set (said-below st p) wider i) not-inside)

  removes-from : (kept rest : List Placed) → Remain (carried n st.board l st.atoms) (plains kept) (plains rest)
      → remove_faster n st kept rest ≡ remove_implied n kept rest
  unfolding remove_faster remove_implied
  removes-from kept [] r = refl
  removes-from kept (a ∷ later) r =
      let out = implied n (plains (kept ++ later)) (plain a) in
      let open-or-out : stays_by n st (plain a) ≡ true → out ≡ false
      = λ e. rw (map-append plain kept later) (stays-unimplied r e) in
      rw (test-first (stays_by n st (plain a)) out open-or-out)
      (removes-from (kept_unless out a kept) later
      (subst (λ (m : List Atom). Remain (carried n st.board l st.atoms) m (plains later)) (sym (kept-plain out a kept)) (remain-next out r)))

  -- So step 5 with the test first removes what step 5 removes of the atoms with the carried sets, at whatever places.
  pub removes-the-same : Apart l → (carrying : List Placed) → plains carrying ≡ carried n st.board l st.atoms
      → remove_faster n st [] carrying ≡ remove_implied n [] carrying
  removes-the-same h carrying e = removes-from [] carrying (rw e (remain-first (carries-apart (run-carries n l settles) h).1))

-- And so it does after steps 2 and 3.
pub removes-the-same-tidied : (n : ℕ) (given l : List Placed) {st : State} → tidy given ≡ tidied l → run n (plains l) ≡ settled st
    → let carrying = carry l (carried n st.board (plains l) st.atoms) in remove_faster n st [] carrying ≡ remove_implied n [] carrying
removes-the-same-tidied n given l {st} e settles = removes-the-same n (plains l) settles (tidy-apart given e) _ (carried-plain n l st settles)

-- ---- Where an atom stands among the settled atoms, the others are those before it and those after it.

one_same : (before : List Atom) (a : Atom) (later : List Atom) → Every (Other a.polynomial) (before ++ later)
    → other_than a.polynomial (before ++ (a ∷ later)) ≡ before ++ later
unfolding other_than unless_same
one_same [] a later hs = rw (same-itself a.polynomial) (none-same a.polynomial hs)
one_same (b ∷ before) a later (every h hs) = rw h.differs (ap (λ (m : List Atom). b ∷ m) (one_same before a later hs))

-- What these atoms say of p, one at a time and two at once.
unfoldable pub said_by : Board → Polynomial → List Atom → SignSet
said_by board p others = cut_by_all (cut_by board p others (by_terms board p)) (tries board p others)

-- So what is said of it by the others is what it would be cut to, but for its own set.
pub said_at : (st : State) (before : List Atom) (a : Atom) (later : List Atom) → st.atoms ≡ before ++ (a ∷ later) → Apart st.atoms
    → said_by_others st a.polynomial ≡ said_by st.board a.polynomial (before ++ later)
unfolding said_by_others said_by
said_at st before a later e h =
    let p = a.polynomial in
    ap (said_by st.board p) (ap (other_than p) e ∙ one_same before a later (others-differ before a later (subst Apart e h)))

-- Where no settled atom is of the polynomial, all of them are the others.
pub said-nowhere : (st : State) (p : Polynomial) → Every (Other p) st.atoms → said_by_others st p ≡ said_by st.board p st.atoms
unfolding said_by_others said_by
said-nowhere st p hs = ap (said_by st.board p) (none-same p hs)

-- The settled atoms have no polynomial twice if the list has none.
pub settled-apart : (n : ℕ) (l : List Atom) {st : State} → run n l ≡ settled st → Apart l → Apart st.atoms
settled-apart n l settles h = (carries-apart (run-carries n l settles) h).0
