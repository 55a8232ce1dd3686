-- The rounds keep what is right: over a list whose atoms all hold no round cuts away a true sign, so there is no contradiction,
-- and what the list says of a polynomial has its sign.
use Rattle.std.specs.Prelude.{◌≡◌, Bool, ℕ, zero, suc, ◌+◌, set, replicate}
use Rattle.std.proofs.Math.Path.{refl, subst}
use Rattle.std.proofs.Common.{sym, ◌∙◌, arith, length-set}
use Rattle.std.proofs.Math.Bool.{true, false}
use mathlib.Core.List.{List, [], ◌∷◌, ◌++◌}
use Rattle.std.proofs.Math.Option.{Option, none, some}
use Rattle.std.proofs.Math.ListN.{get_or}
use Rattle.std.proofs.lemmas.List.{length-replicate}
use Rattle.rules.specs.Signs.{Sign, SignSet, full, intersect}
use Rattle.rules.specs.Polynomial.{Polynomial, Atom, Board, same, variable, which}
use Rattle.rules.specs.Deduce.{deduce, any_empty}
use Rattle.rules.specs.TwoAtoms.{cut_by_all}
use Rattle.rules.specs.Rounds.{cut_by, turn, turns, cut_atom, cut_atoms, State, round, sets_of, has_empty, Outcome, contradiction, settled, search}
use Rattle.rules.specs.Rounds.{unless_variable, non_variable, placed, placed_all, start, run, or_next, listed, held, unless_same, other_than, says_in, says}
use Rattle.rules.specs.Meaning.{atom_holds}
use Rattle.sign_laws.specs.Booleans.{and_intro, never_true, never_both}
use Rattle.sign_laws.specs.Lists.{Every, every_none, every, every-replicate, every-get_d}
use Rattle.sign_laws.specs.Sets.{◌In◌, in-full, not_empty, in-intersect}
use Rattle.ending_laws.specs.Cuts.{along-turns}
use Rattle.ending_laws.specs.Searches.{first-has, one-length, board-cut, BoardFound, found_here, found_later, board-found, AtomsFound, found_this, found_after, atoms-found}
use Rattle.ending_laws.specs.Searches.{search-finds}
use Rattle.ending_laws.specs.Rounds.{along-run, run_ends}
use Rattle.level_laws.specs.Same.{same-equal, which-variable}
use Rattle.level_laws.specs.Holding.{every_append, atoms_hold, atom-in, in-atom, no_atoms, first_holds, others-hold, both_hold, one_atom}
use Rattle.level_laws.specs.Respects.{Fits, Respects}
use Rattle.level_laws.specs.Narrower.{each_set}

-- A state is right if its board fits and all its atoms hold.
pub record Right (sign : Polynomial → Sign) (n : ℕ) (st : State) : Type 0 where
  pub fits : Fits sign n st.board
  pub hold : atoms_hold sign st.atoms ≡ true

-- An outcome is right if it is such a state and no contradiction.
abbrev pub RightOutcome : (Polynomial → Sign) → ℕ → Outcome → Type 0
RightOutcome sign n contradiction = ⊥
RightOutcome sign n (settled st) = Right sign n st

-- ---- Boards that fit.

-- A set that has the variable's sign may take its place.
fits-set : {sign : Polynomial → Sign} {n : ℕ} (board : Board) (i : ℕ) (s : SignSet) → Fits sign n board → sign (variable n i) In s → Fits sign n (set board i s)
fits-set {sign} {n} board i s f h = record { long = length-set board i s ∙ f.long; each = each_set (λ j t. sign (variable n j) In t) board i s h f.each }

fits-full : (sign : Polynomial → Sign) (n : ℕ) → Fits sign n (replicate n full)
fits-full sign n = record {
  long = length-replicate n full;
  each = λ i. every-get_d {P = λ s. sign (variable n i) In s} i full (in-full _) (every-replicate n full (in-full _));
}

-- A board or a list of atoms that has true signs everywhere has no empty set, and so a right state has none.
board-full : (x : ℕ → Sign) (board : Board) → ((i : ℕ) → x i In get_or board i full) → any_empty board ≡ false
unfolding any_empty
board-full x [] h = refl
board-full x (s ∷ board) h = rw (not_empty s (h 0), board-full (λ i. x (suc i)) board (λ i. h (suc i)))

atoms-full : (sign : Polynomial → Sign) (l : List Atom) → atoms_hold sign l ≡ true → any_empty (sets_of l) ≡ false
unfolding any_empty sets_of
atoms-full sign [] e = refl
atoms-full sign (a ∷ l) e = rw (not_empty a.set (atom-in sign a (first_holds sign a l e)), atoms-full sign l (others-hold sign a l e))

right-full : {sign : Polynomial → Sign} {n : ℕ} (st : State) → Right sign n st → has_empty st ≡ false
unfolding has_empty
right-full {sign} {n} st r = rw (board-full (λ i. sign (variable n i)) st.board r.fits.each, atoms-full sign st.atoms r.hold)

module _ {sign : Polynomial → Sign} {n : ℕ} (ok : Respects sign n) where
  -- ---- A round.

  -- Deductions from atoms that hold do not cut a polynomial's sign away.
  pub cut_by-keeps : (board : Board) (p : Polynomial) (atoms : List Atom) (s : SignSet) → Fits sign n board → atoms_hold sign atoms ≡ true → sign p In s
      → sign p In cut_by board p atoms s
  unfolding cut_by
  cut_by-keeps board p [] s f e h = h
  cut_by-keeps board p (q ∷ qs) s f e h =
      cut_by-keeps board p qs (intersect s (deduce board p q)) f (others-hold sign q qs e) (in-intersect h (ok.by_deduction board p q f (first_holds sign q qs e)))

  turns-keep : (atoms : List Atom) (board : Board) (i k : ℕ) → Fits sign n board → atoms_hold sign atoms ≡ true → Fits sign n (turns n atoms board i k)
  unfolding turn
  turns-keep atoms board i k f e = along-turns (Fits sign n) n atoms
      (λ b j g. fits-set b j _ g (cut_by-keeps b (variable n j) atoms (get_or b j full) g e (g.each j))) board i k f

  cut_atoms-keep : (board : Board) (before l : List Atom) → Fits sign n board → atoms_hold sign before ≡ true → atoms_hold sign l ≡ true
      → atoms_hold sign (cut_atoms board before l) ≡ true
  unfolding cut_atoms cut_atom
  cut_atoms-keep board before [] f e g = no_atoms sign
  cut_atoms-keep board before (a ∷ later) f e g =
      let holds : atom_holds sign a ≡ true = first_holds sign a later g in
      let hold : atoms_hold sign later ≡ true = others-hold sign a later g in
      let others : atoms_hold sign (before ++ later) ≡ true = every_append (atom_holds sign) before later ∙ and_intro e hold in
      let next : atoms_hold sign (before ++ (a ∷ [])) ≡ true = every_append (atom_holds sign) before (a ∷ []) ∙ and_intro e (one_atom sign a ∙ holds) in
      let cut : Atom = cut_atom board (before ++ later) a in
      let right : sign a.polynomial In cut.set =
      cut_by-keeps board a.polynomial (before ++ later) _ f others (in-intersect (atom-in sign a holds) (ok.by-terms board a.polynomial f)) in
      both_hold sign cut (cut_atoms board (before ++ (a ∷ [])) later) (in-atom sign cut right) (cut_atoms-keep board (before ++ (a ∷ [])) later f next hold)

  -- A right state stays right under a round.
  pub round_keeps : (st : State) → Right sign n st → Right sign n (round n st)
  unfolding round
  round_keeps st r =
      let f : Fits sign n (turns n st.atoms st.board 0 n) = turns-keep st.atoms st.board 0 n r.fits r.hold in
      record { fits = f; hold = cut_atoms-keep (turns n st.atoms st.board 0 n) [] st.atoms f (no_atoms sign) r.hold }

  -- ---- A search over pairs.

  each_holds : (l : List Atom) → atoms_hold sign l ≡ true → Every (λ (a : Atom). atom_holds sign a ≡ true) l
  each_holds [] e = every_none
  each_holds (a ∷ l) e = every (first_holds sign a l e) (each_holds l (others-hold sign a l e))

  sets-keep : (atoms : List Atom) (board : Board) → Fits sign n board → atoms_hold sign atoms ≡ true → {i : ℕ} {l m : List SignSet}
      → BoardFound n atoms board i l m → ((j : ℕ) → sign (variable n (i + j)) In get_or l j full) → (j : ℕ) → sign (variable n (i + j)) In get_or m j full
  sets-keep atoms board f e {i} (found_here {s = s} c) h zero =
      let here : i + 0 ≡ i = omega arith in
      rw here (first-has s (rw here at (h 0)) (ok.by_pairs board (variable n i) f (each_holds atoms e)) c)
  sets-keep atoms board f e (found_here c) h (suc j) = h (suc j)
  sets-keep atoms board f e (found_later b) h zero = h zero
  sets-keep atoms board f e {i} (found_later b) h (suc j) =
      let next : (k : ℕ) → i + suc k ≡ suc i + k = λ k. omega arith in
      rw (next j) (sets-keep atoms board f e b (λ k. rw (next k) at (h (suc k))) j)

  atoms-keep : (board : Board) → Fits sign n board → {before l m : List Atom} → AtomsFound board before l m → atoms_hold sign before ≡ true
      → atoms_hold sign l ≡ true → atoms_hold sign m ≡ true
  atoms-keep board f (found_this {before} {a} {later} {cut} c) e g =
      let hold : atoms_hold sign later ≡ true = others-hold sign a later g in
      let others : atoms_hold sign (before ++ later) ≡ true = every_append (atom_holds sign) before later ∙ and_intro e hold in
      let right : sign a.polynomial In cut =
      first-has a.set (atom-in sign a (first_holds sign a later g)) (ok.by_pairs board a.polynomial f (each_holds (before ++ later) others)) c in
      both_hold sign (record { polynomial = a.polynomial; set = cut }) later (in-atom sign (record { polynomial = a.polynomial; set = cut }) right) hold
  atoms-keep board f (found_after {before} {a} {later} {m} c) e g =
      let holds : atom_holds sign a ≡ true = first_holds sign a later g in
      let next : atoms_hold sign (before ++ (a ∷ [])) ≡ true = every_append (atom_holds sign) before (a ∷ []) ∙ and_intro e (one_atom sign a ∙ holds) in
      both_hold sign a m holds (atoms-keep board f c next (others-hold sign a later g))

  from_first : (j : ℕ) → 0 + j ≡ j
  from_first j = omega arith

  -- A right state stays right under a search.
  pub search-keeps : (st sv : State) → search n st ≡ some sv → Right sign n st → Right sign n sv
  search-keeps st sv e r = search-finds (Right sign n) n st e
      (λ sets f. record {
        fits = record {
          long = one-length (board-cut (λ s. Unit {0}) n st.atoms st.board 0 n st.board (λ j b. tt) f) ∙ r.fits.long;
          each = λ j. rw (from_first j) at
              (sets-keep st.atoms st.board r.fits r.hold (board-found n st.atoms st.board 0 n st.board f) (λ k. rw (from_first k) (r.fits.each k)) j);
        };
        hold = r.hold;
      })
      (λ l f. record { fits = r.fits; hold = atoms-keep st.board r.fits (atoms-found st.board [] st.atoms f) (no_atoms sign) r.hold })

  -- ---- A run.

  placed-fits : (l : List Atom) (board : Board) → atoms_hold sign l ≡ true → Fits sign n board → Fits sign n (placed_all n l board)
  unfolding placed_all placed
  placed-fits [] board e f = f
  placed-fits (a ∷ l) board e f = placed-fits l _ (others-hold sign a l e) (by-which (which n a.polynomial) refl)
    where
      by-which : (o : Option ℕ) → which n a.polynomial ≡ o → Fits sign n (placed o a.set board)
      by-which none w = f
      by-which (some i) w = fits-set board i _ f (in-intersect (f.each i)
          (subst (λ (p : Polynomial). sign p In a.set) (which-variable n a.polynomial i w) (atom-in sign a (first_holds sign a l e))))

  non-variable-hold : (l : List Atom) → atoms_hold sign l ≡ true → atoms_hold sign (non_variable n l) ≡ true
  unfolding non_variable unless_variable
  non-variable-hold [] e = no_atoms sign
  non-variable-hold (a ∷ l) e = by-which (which n a.polynomial) (non-variable-hold l (others-hold sign a l e))
    where
      by-which : (o : Option ℕ) → atoms_hold sign (non_variable n l) ≡ true → atoms_hold sign (unless_variable o a (non_variable n l)) ≡ true
      by-which none h = both_hold sign a (non_variable n l) (first_holds sign a l e) h
      by-which (some i) h = h

  -- A run over atoms that all hold ends in a right state.
  pub run-keeps : (l : List Atom) → atoms_hold sign l ≡ true → RightOutcome sign n (run n l)
  unfolding start
  run-keeps l e = along-run (RightOutcome sign n) (λ st r e. never_both e (right-full st r)) round_keeps search-keeps (run_ends n l)
      (record { fits = placed-fits l (replicate n full) e (fits-full sign n); hold = non-variable-hold l e })

  -- So a contradiction comes only from a list that does not hold.
  pub contradiction-false : (l : List Atom) → run n l ≡ contradiction → atoms_hold sign l ≡ false
  contradiction-false l e = never_true (atoms_hold sign l) (λ h. subst (RightOutcome sign n) e (run-keeps l h))

  -- ---- What a list says.

  listed-right : (p : Polynomial) (l : List Atom) → atoms_hold sign l ≡ true → sign p In listed p l
  unfolding listed or_next
  listed-right p [] e = in-full (sign p)
  listed-right p (a ∷ l) e = by-test (same p a.polynomial) refl (listed-right p l (others-hold sign a l e))
    where
      by-test : (b : Bool) → same p a.polynomial ≡ b → sign p In listed p l → sign p In or_next b a.set (listed p l)
      by-test true w h = rw (same-equal p a.polynomial w) (atom-in sign a (first_holds sign a l e))
      by-test false w h = h

  held-right : (st : State) (p : Polynomial) → Right sign n st → sign p In held (which n p) st p
  unfolding held
  held-right st p r = by-which (which n p) refl
    where
      by-which : (o : Option ℕ) → which n p ≡ o → sign p In held o st p
      by-which none w = listed-right p st.atoms r.hold
      by-which (some i) w = subst (λ (q : Polynomial). sign q In get_or st.board i full) (sym (which-variable n p i w)) (r.fits.each i)

  others-held : (p : Polynomial) {l : List Atom} → Every (λ (a : Atom). atom_holds sign a ≡ true) l → Every (λ (a : Atom). atom_holds sign a ≡ true) (other_than p l)
  unfolding other_than unless_same
  others-held p every_none = every_none
  others-held p (every {a} {l} h hs) = by-test (same p a.polynomial) (others-held p hs)
    where
      by-test : (b : Bool) → Every (λ (a : Atom). atom_holds sign a ≡ true) (other_than p l) → Every (λ (a : Atom). atom_holds sign a ≡ true) (unless_same b a (other_than p l))
      by-test true k = k
      by-test false k = every h k

  all_keep : {x : Sign} {s : SignSet} {fs : List SignSet} → x In s → Every (λ (f : SignSet). x In f) fs → x In cut_by_all s fs
  unfolding cut_by_all
  all_keep h every_none = h
  all_keep {x = x} {s = s} h (every {a = a} {l = l} k ks) = all_keep {x = x} {s = intersect s a} (in-intersect h k) ks

  -- What a right state says of a polynomial has its sign.
  pub says_in-right : (st : State) (p : Polynomial) → Right sign n st → sign p In says_in n st p
  unfolding says_in
  says_in-right st p r = all_keep
      (cut_by-keeps st.board p st.atoms _ r.fits r.hold (in-intersect (held-right st p r) (ok.by-terms st.board p r.fits)))
      (ok.by_pairs st.board p r.fits (others-held p (each_holds st.atoms r.hold)))

  outcome-right : (outcome : Outcome) (p : Polynomial) → RightOutcome sign n outcome → sign p In says n outcome p
  unfolding says
  outcome-right contradiction p h = absurd h
  outcome-right (settled st) p h = says_in-right st p h

  -- What a list whose atoms all hold says of a polynomial has its sign.
  pub says-right : (l : List Atom) (p : Polynomial) → atoms_hold sign l ≡ true → sign p In says n (run n l) p
  says-right l p e = outcome-right (run n l) p (run-keeps l e)
