-- A set that becomes empty stays empty to the end of the round: to look for it there, as the book does, is to look at once.
-- 01, "Rounds": "A set that becomes empty ends the rounds at once: contradiction."
use Rattle.std.specs.Prelude.{◌≡◌, refl, true, List, [], ◌∷◌, ◌++◌, ℕ, zero, suc, ◌≤◌, eqb, get_or, set}
use Rattle.std.proofs.Common.{arith, eqb-true, eq-eqb}
use Rattle.rules.specs.Signs.{SignSet, empty, full, only, has, bit, set_of, intersect}
use Rattle.rules.specs.Polynomial.{Polynomial, Atom, Board, variable}
use Rattle.rules.specs.Deduce.{any_empty, deduce}
use Rattle.rules.specs.Rounds.{cut_by, turn, turns, cut_atom, cut_atoms, State, round, sets_of, has_empty, contradiction}
use Rattle.sign_laws.specs.Booleans.{or-keeps}
use Rattle.ending_laws.specs.Cuts.{along-turns}
use Rattle.ending_laws.specs.Rounds.{Run, finds_contradiction}

-- ---- One set.

cut_by-empty : (board : Board) (p : Polynomial) (qs : List Atom) → cut_by board p qs empty ≡ empty
unfolding cut_by intersect set_of has only bit
cut_by-empty board p [] = refl
cut_by-empty board p (q ∷ qs) = cut_by-empty board p qs

-- A set that some deductions have emptied is empty after the others too.
pub empty-after-some : (board : Board) (p : Polynomial) (qs rs : List Atom) (s : SignSet) → cut_by board p qs s ≡ empty → cut_by board p (qs ++ rs) s ≡ empty
unfolding cut_by
empty-after-some board p [] rs s e = rw e (cut_by-empty board p rs)
empty-after-some board p (q ∷ qs) rs s e = empty-after-some board p qs rs (intersect s (deduce board p q)) e

-- ---- The board, from turn to turn.

set-empty : (l : List SignSet) (i : ℕ) (s : SignSet) → (get_or l i full ≡ empty → s ≡ empty) → any_empty l ≡ true → any_empty (set l i s) ≡ true
unfolding any_empty
set-empty [] i s f e = e
set-empty (t ∷ l) zero s f e = or-keeps (eqb t empty) (any_empty l) _ _ (λ z. eq-eqb s empty (f (eqb-true t empty z))) (λ z. z) e
set-empty (t ∷ l) (suc i) s f e = or-keeps (eqb t empty) (any_empty l) _ _ (λ z. z) (set-empty l i s f) e

turns-empty : (n : ℕ) (atoms : List Atom) (board : Board) (i k : ℕ) → any_empty board ≡ true → any_empty (turns n atoms board i k) ≡ true
unfolding turn
turns-empty n atoms = along-turns (λ board. any_empty board ≡ true) n atoms
    (λ board i e. set-empty board i _ (λ z. rw z (cut_by-empty board (variable n i) atoms)) e)

empty-to-the-end : (n : ℕ) (atoms : List Atom) (board : Board) (i j k : ℕ) → j ≤ k → any_empty (turns n atoms board i j) ≡ true
    → any_empty (turns n atoms board i k) ≡ true
unfolding turns
empty-to-the-end n atoms board i zero k h e = turns-empty n atoms board i k e
empty-to-the-end n atoms board i (suc j) zero h e = absurd (omega arith)
empty-to-the-end n atoms board i (suc j) (suc k) h e = empty-to-the-end n atoms (turn n atoms board i) (suc i) j k (omega arith) e

-- A variable's set that is empty after i turns of the round is a contradiction at its end.
pub empty-after-turns : (n i : ℕ) (st : State) → i ≤ n → any_empty (turns n st.atoms st.board 0 i) ≡ true → has_empty (round n st) ≡ true
unfolding round has_empty
empty-after-turns n i st h e = rw (empty-to-the-end n st.atoms st.board 0 i n h e)

-- ---- A whole round.

cut_atom-empty : (board : Board) (others : List Atom) (a : Atom) → a.set ≡ empty → (cut_atom board others a).set ≡ empty
unfolding cut_atom intersect set_of has only bit
cut_atom-empty board others a e = rw e (cut_by-empty board a.polynomial others)

cut_atoms-empty : (board : Board) (before l : List Atom) → any_empty (sets_of l) ≡ true → any_empty (sets_of (cut_atoms board before l)) ≡ true
unfolding any_empty sets_of cut_atoms
cut_atoms-empty board before [] e = e
cut_atoms-empty board before (a ∷ later) e =
    or-keeps (eqb a.set empty) (any_empty (sets_of later)) _ _
    (λ z. eq-eqb _ empty (cut_atom-empty board (before ++ later) a (eqb-true a.set empty z))) (cut_atoms-empty board (before ++ (a ∷ [])) later) e

-- An empty set is still there after a round.
pub empty-stays : (n : ℕ) (st : State) → has_empty st ≡ true → has_empty (round n st) ≡ true
unfolding round has_empty
empty-stays n st e =
    or-keeps (any_empty st.board) (any_empty (sets_of st.atoms)) _ _ (turns-empty n st.atoms st.board 0 n) (cut_atoms-empty _ [] st.atoms) e

-- So a state that has one at the start ends in its first round.
pub starts-empty : (n : ℕ) (st : State) → has_empty st ≡ true → Run n st 1 contradiction
starts-empty n st e = finds_contradiction (empty-stays n st e)
