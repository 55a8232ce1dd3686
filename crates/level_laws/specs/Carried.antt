-- Step 3: atoms that carry the cut sets of a run hold exactly if the atoms of the list hold.
-- Where the list holds, so do the cut sets; and each of these lies inside the atom's own.
use Rattle.std.specs.Prelude.{◌≡◌, ℕ, length, get_or, replicate}
use Rattle.std.proofs.Math.Path.{refl, ap, ap₂}
use Rattle.std.proofs.Common.{sym, ◌∙◌, subst, arith, get_or-set_same}
use Rattle.std.proofs.Math.Bool.{true}
use mathlib.Core.List.{List, [], ◌∷◌}
use Rattle.std.proofs.Math.Option.{Option, none, some}
use Rattle.std.proofs.lemmas.List.{length-replicate}
use Rattle.rules.specs.Signs.{Sign, full, intersect}
use Rattle.rules.specs.Polynomial.{Polynomial, Atom, Board, which}
use Rattle.rules.specs.Rounds.{State, Outcome, settled, unless_variable, non_variable, placed, placed_all, start, run, carried_one, carried}
use Rattle.rules.specs.Level.{Placed, plain, plains, carry}
use Rattle.rules.specs.Meaning.{atom_holds}
use Rattle.sign_laws.specs.Booleans.{both_ways}
use Rattle.sign_laws.specs.Sets.{◌In◌, PartOf, part-trans, intersect-second}
use Rattle.ending_laws.specs.Rounds.{placed-length}
use Rattle.level_laws.specs.Same.{which-variable, which-below}
use Rattle.level_laws.specs.Holding.{atoms_hold, list_holds, atom-in, in-atom, no_atoms, first_holds, others-hold, both_hold, plains-hold}
use Rattle.level_laws.specs.Respects.{Fits, Respects}
use Rattle.level_laws.specs.Narrower.{BoardWithin, placed_all-within, AtomsWithin, one-more, Narrower, Narrows, run-narrows}
use Rattle.level_laws.specs.Rounds.{Right, RightOutcome, run-keeps}

-- A variable atom with the board's set.
abbrev on_board : Atom → Board → ℕ → Atom
on_board a board i = record { polynomial = a.polynomial; set = get_or board i full }

-- A variable's set on the board that its atom was placed on lies inside the atom's.
placed-set : (n : ℕ) (a : Atom) (i : ℕ) (board : Board) → length board ≡ n → which n a.polynomial ≡ some i
    → PartOf (get_or (placed (which n a.polynomial) a.set board) i full) a.set
unfolding placed
placed-set n a i board long w =
    rw (w, get_or-set_same board i (intersect (get_or board i full) a.set) full (omega (arith, long, which-below n a.polynomial i w)))
    (intersect-second (get_or board i full) a.set)

module _ (sign : Polynomial → Sign) (n : ℕ) where
  -- Where the list and the cut atoms hold, so do the atoms with the carried sets.
  carried-hold : (l cut : List Atom) (board : Board) → Fits sign n board → atoms_hold sign l ≡ true → atoms_hold sign cut ≡ true
      → atoms_hold sign (carried n board l cut) ≡ true
  unfolding carried carried_one
  carried-hold [] cut board f e g = no_atoms sign
  carried-hold (a ∷ l) cut board f e g = by-which (which n a.polynomial) refl cut g (λ rest. carried-hold l rest board f (others-hold sign a l e))
    where
      by-which : (o : Option ℕ) → which n a.polynomial ≡ o → (cut : List Atom) → atoms_hold sign cut ≡ true
          → ((rest : List Atom) → atoms_hold sign rest ≡ true → atoms_hold sign (carried n board l rest) ≡ true)
          → atoms_hold sign (carried_one o board a cut (λ (rest : List Atom). carried n board l rest)) ≡ true
      by-which (some i) w cut g more = both_hold sign (on_board a board i) (carried n board l cut)
          (in-atom sign (on_board a board i) (rw (which-variable n a.polynomial i w) (f.each i))) (more cut g)
      by-which none w [] g more = both_hold sign a (carried n board l []) (first_holds sign a l e) (more [] g)
      by-which none w (c ∷ cut) g more = both_hold sign c (carried n board l cut) (first_holds sign c cut g) (more cut (others-hold sign c cut g))

  -- An atom holds if one of its polynomial with a set inside does.
  wider-holds : (a b : Atom) → a.polynomial ≡ b.polynomial → PartOf a.set b.set → atom_holds sign a ≡ true → atom_holds sign b ≡ true
  wider-holds a b p f h = in-atom sign b (f.each (sign b.polynomial) (subst (λ (q : Polynomial). sign q In a.set) p (atom-in sign a h)))

  -- And back, where the board lies inside the one that the list's variable atoms were placed on, the cut atoms inside its non-variable ones.
  carried-back : (l cut : List Atom) (board bare : Board) → length bare ≡ n → BoardWithin board (placed_all n l bare) → AtomsWithin cut (non_variable n l)
      → atoms_hold sign (carried n board l cut) ≡ true → atoms_hold sign l ≡ true
  unfolding carried carried_one non_variable unless_variable placed_all
  carried-back [] cut board bare long b c e = no_atoms sign
  carried-back (a ∷ l) cut board bare long b c e =
      by-which (which n a.polynomial) refl cut c e
      (λ rest. carried-back l rest board (placed (which n a.polynomial) a.set bare) (placed-length (which n a.polynomial) a.set bare ∙ long) b)
    where
      by-which : (o : Option ℕ) → which n a.polynomial ≡ o → (cut : List Atom) → AtomsWithin cut (unless_variable o a (non_variable n l))
          → atoms_hold sign (carried_one o board a cut (λ (rest : List Atom). carried n board l rest)) ≡ true
          → ((rest : List Atom) → AtomsWithin rest (non_variable n l) → atoms_hold sign (carried n board l rest) ≡ true → atoms_hold sign l ≡ true)
          → atoms_hold sign (a ∷ l) ≡ true
      by-which (some i) w cut c e more =
          let then-placed : Board = placed (which n a.polynomial) a.set bare in
          let inside-atom : PartOf (get_or board i full) a.set =
          part-trans (b.at i) (part-trans ((placed_all-within n l then-placed).at i) (placed-set n a i bare long w)) in
          let holds : atom_holds sign (on_board a board i) ≡ true = first_holds sign (on_board a board i) (carried n board l cut) e in
          both_hold sign a l (wider-holds (on_board a board i) a refl inside-atom holds) (more cut c (others-hold sign (on_board a board i) (carried n board l cut) e))
      by-which none w cut (one-more {a = c} {l = rest} p f t) e more = both_hold sign a l
          (wider-holds c a p f (first_holds sign c (carried n board l rest) e))
          (more rest t (others-hold sign c (carried n board l rest) e))

-- All atoms with the carried sets hold exactly when all atoms hold.
pub carried_keeps : {sign : Polynomial → Sign} {n : ℕ} (ok : Respects sign n) (l : List Atom) (st : State) → run n l ≡ settled st
    → atoms_hold sign (carried n st.board l st.atoms) ≡ atoms_hold sign l
unfolding start
carried_keeps {sign} {n} ok l st e =
    both_ways (atoms_hold sign (carried n st.board l st.atoms)) (atoms_hold sign l)
    (carried-back sign n l st.atoms st.board (replicate n full) (length-replicate n full) narrower.boards narrower.lists)
    (λ h. carried-hold sign n l st.atoms st.board (right h).fits h (right h).hold)
  where
    narrower : Narrower st (start n l)
    narrower = subst (λ (outcome : Outcome). Narrows outcome (start n l)) e (run-narrows n l)

    right : atoms_hold sign l ≡ true → Right sign n st
    right h = subst (RightOutcome sign n) e (run-keeps ok l h)

-- ---- Atoms with places carry the same sets.

module _ (n : ℕ) (board : Board) where
  -- Where the cut atoms have the polynomials of the list's non-variable ones, an atom that carries its set is the atom that is carried.
  carry_plain : (l : List Placed) (cut : List Atom) → AtomsWithin cut (non_variable n (plains l))
      → plains (carry l (carried n board (plains l) cut)) ≡ carried n board (plains l) cut
  unfolding carry carried carried_one non_variable unless_variable
  carry_plain [] cut c = refl
  carry_plain (a ∷ l) cut c = by-which (which n a.polynomial) cut c (λ rest. carry_plain l rest)
    where
      by-which : (o : Option ℕ) (cut : List Atom) → AtomsWithin cut (unless_variable o (plain a) (non_variable n (plains l)))
          → ((rest : List Atom) → AtomsWithin rest (non_variable n (plains l)) → plains (carry l (carried n board (plains l) rest)) ≡ carried n board (plains l) rest)
          → plains (carry (a ∷ l) (carried_one o board (plain a) cut (λ (rest : List Atom). carried n board (plains l) rest)))
          ≡ carried_one o board (plain a) cut (λ (rest : List Atom). carried n board (plains l) rest)
      by-which (some i) cut c more = ap (λ (m : List Atom). on_board (plain a) board i ∷ m) (more cut c)
      by-which none cut (one-more {a = b} {l = rest} p f t) more =
          ap₂ (λ (q : Polynomial) (m : List Atom). record { polynomial = q; set = b.set } ∷ m) (sym p) (more rest t)

-- After a run that settled, the atoms that carry the cut sets are the carried atoms, at their places.
pub carried-plain : (n : ℕ) (l : List Placed) (st : State) → run n (plains l) ≡ settled st
    → plains (carry l (carried n st.board (plains l) st.atoms)) ≡ carried n st.board (plains l) st.atoms
unfolding start
carried-plain n l st e = carry_plain n st.board l st.atoms narrower.lists
  where
    narrower : Narrower st (start n (plains l))
    narrower = subst (λ (outcome : Outcome). Narrows outcome (start n (plains l))) e (run-narrows n (plains l))

-- So they hold exactly when the atoms of the list do.
pub carry-keeps : {sign : Polynomial → Sign} {n : ℕ} (ok : Respects sign n) (l : List Placed) (st : State) → run n (plains l) ≡ settled st
    → list_holds sign (carry l (carried n st.board (plains l) st.atoms)) ≡ list_holds sign l
carry-keeps {sign} {n} ok l st e =
    sym (plains-hold sign (carry l (carried n st.board (plains l) st.atoms))) ∙ ap (atoms_hold sign) (carried-plain n l st e)
    ∙ carried_keeps ok (plains l) st e ∙ plains-hold sign l
