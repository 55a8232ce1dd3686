-- A round over fewer atoms, from a wider board, leaves a wider board and wider sets.
-- 01, "Rounds over a list of atoms joined by AND".
use Rattle.std.specs.Prelude.{List, [], ◌∷◌, ◌++◌, ℕ, zero, suc, ◌<◌, get_or}
use Rattle.std.proofs.Common.{lit<}
use Rattle.rules.specs.Signs.{SignSet, full}
use Rattle.rules.specs.Polynomial.{Polynomial, Atom, Board, variable}
use Rattle.rules.specs.Rounds.{cut_by, turn, turns, cut_atom, cut_atoms, State, round}
use Rattle.sign_laws.specs.Lists.{Every, every_none, every, every_append, every_set, every-get_d}
use Rattle.sign_laws.specs.Sets.{PartOf, part-trans, intersect-first}
use Rattle.ending_laws.specs.Cuts.{cut_by-below, cut_atom-below, along-turns}
use Rattle.removal_laws.specs.Wider.{Wider, WiderAtom}
use Rattle.removal_laws.specs.Terms.{by_terms-wider}
use Rattle.removal_laws.specs.Deduced.{deduce-wider}
use Rattle.removal_laws.specs.Fewer.{intersect-wider, get_d_wider, set-wider, Fewer, no_atoms, left_out, kept, fewer-append, last-left-out}

-- ---- Sets below 8.

-- All sets of a board are below 8; all sets of a list's atoms.
abbrev pub LowBoard : Board → Type 0
LowBoard board = Every (λ (s : SignSet). s < 8) board

abbrev pub LowAtoms : List Atom → Type 0
LowAtoms l = Every (λ (a : Atom). a.set < 8) l

-- All sets of a state.
pub record Low (st : State) : Type 0 where
  pub board : LowBoard st.board
  pub atoms : LowAtoms st.atoms

-- A turn keeps the board's below 8, and so do all.
pub turn_low : (n : ℕ) (atoms : List Atom) (board : Board) (i : ℕ) → LowBoard board → LowBoard (turn n atoms board i)
unfolding turn
turn_low n atoms board i h =
    every_set i _ (cut_by-below board (variable n i) atoms (get_or board i full) (every-get_d i full (lit< tt) h)) h

turns-low : (n : ℕ) (atoms : List Atom) (board : Board) (i k : ℕ) → LowBoard board → LowBoard (turns n atoms board i k)
turns-low n atoms = along-turns LowBoard n atoms (turn_low n atoms)

cut_atoms-low : (board : Board) (before l : List Atom) → LowAtoms (cut_atoms board before l)
unfolding cut_atoms
cut_atoms-low board before [] = every_none
cut_atoms-low board before (a ∷ later) = every (cut_atom-below board (before ++ later) a) (cut_atoms-low board (before ++ (a ∷ [])) later)

-- A round leaves all sets below 8, if those of the board were.
pub round-low : (n : ℕ) (st : State) → LowBoard st.board → Low (round n st)
unfolding round
round-low n st h = record { board = turns-low n st.atoms st.board 0 n h; atoms = cut_atoms-low _ [] st.atoms }

-- ---- States.

-- A wider board, and fewer atoms.
pub record WiderState (st wide : State) : Type 0 where
  pub boards : Wider st.board wide.board
  pub lists : Fewer st.atoms wide.atoms

-- ---- Cuts and rounds.

-- What fewer atoms leave of a wider set is wider.
pub cut_by-wider : {board wide : Board} → Wider board wide → LowBoard board → (p : Polynomial) {atoms fewer : List Atom} → Fewer atoms fewer
    → LowAtoms atoms → {s t : SignSet} → PartOf s t → PartOf (cut_by board p atoms s) (cut_by wide p fewer t)
unfolding cut_by
cut_by-wider w low p no_atoms every_none part = part
cut_by-wider w low p (left_out f) (every h hs) part = cut_by-wider w low p f hs (part-trans (intersect-first _ _) part)
cut_by-wider w low p (kept v f) (every h hs) part = cut_by-wider w low p f hs (intersect-wider part (deduce-wider w low p v h))

turns-wider : (n : ℕ) {atoms fewer : List Atom} → Fewer atoms fewer → LowAtoms atoms → {board wide : Board} → Wider board wide → LowBoard board
    → (i k : ℕ) → Wider (turns n atoms board i k) (turns n fewer wide i k)
unfolding turns turn
turns-wider n f h w low i zero = w
turns-wider n {atoms} {fewer} f h {board} {wide} w low i (suc k) =
    turns-wider n f h {board = turn n atoms board i} {wide = turn n fewer wide i} (set-wider w i (cut_by-wider w low (variable n i) f h (get_d_wider w i))) (turn_low n atoms board i low) (suc i) k

pub cut_atom-wider : {board wide : Board} → Wider board wide → LowBoard board → {others fewer : List Atom} → Fewer others fewer → LowAtoms others
    → {a b : Atom} → WiderAtom a b → WiderAtom (cut_atom board others a) (cut_atom wide fewer b)
unfolding cut_atom
cut_atom-wider {board} {wide} w low f h {a} {b} v = record {
  polynomial = v.polynomial;
  set = rw (← v.polynomial) (cut_by-wider w low a.polynomial f h (intersect-wider v.set (by_terms-wider w a.polynomial)));
}

cut_atoms-wider : {board wide : Board} → Wider board wide → LowBoard board → {before fewer : List Atom} → Fewer before fewer → LowAtoms before
    → {l m : List Atom} → Fewer l m → LowAtoms l → Fewer (cut_atoms board before l) (cut_atoms wide fewer m)
unfolding cut_atoms
cut_atoms-wider w low f h no_atoms every_none = no_atoms
cut_atoms-wider w low f h (left_out {a} g) (every k ks) = left_out (cut_atoms-wider w low (last-left-out a f) (every_append h (every k every_none)) g ks)
cut_atoms-wider w low f h (kept v g) (every k ks) =
    kept (cut_atom-wider w low (fewer-append f g) (every_append h ks) v)
    (cut_atoms-wider w low (fewer-append f (kept v no_atoms)) (every_append h (every k every_none)) g ks)

-- So a round leaves a wider state.
pub round-wider : (n : ℕ) {st wide : State} → Low st → WiderState st wide → WiderState (round n st) (round n wide)
unfolding round
round-wider n {st} low w =
    let boards = turns-wider n w.lists low.atoms w.boards low.board 0 n in
    let low-board = turns-low n st.atoms st.board 0 n low.board in
    record { boards = boards; lists = cut_atoms-wider boards low-board no_atoms every_none w.lists low.atoms }
