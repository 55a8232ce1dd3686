-- 01, "Rounds": the rounds keep the atoms' polynomials and give sets of three bits,
-- so the atoms that step 3 carries on are formed as before.
use Rattle.std.specs.Prelude.{◌≡◌, refl, ℕ, get_or, replicate}
use Rattle.std.proofs.Common.{subst}
use mathlib.Core.List.{List, [], ◌∷◌, ◌++◌, map}
use mathlib.Core.List.Memᴰ.{head as here}
use mathlib.Core.List.Memᴰ.{tail as later}
use Rattle.std.proofs.Math.Option.{Option, none, some}
use Rattle.rules.specs.Signs.{SignSet, full, intersect}
use Rattle.rules.specs.Polynomial.{Polynomial, Atom, Board, which, variable}
use Rattle.rules.specs.Rounds.{State, Outcome, contradiction, settled, turn, turns, cut_atom, cut_atoms, round, search}
use Rattle.rules.specs.Rounds.{unless_variable, non_variable, placed, start, run, carried_one, carried}
use Rattle.sign_laws.specs.Lists.{Every, every_none, every, every-wider, every-replicate, every_set, every-get_d}
use Rattle.ending_laws.specs.Cuts.{cut_by-below, cut_atom-below, along-turns}
use Rattle.ending_laws.specs.Searches.{OneCut, this_one, later_one, board-cut, OneAtomCut, this_atom, later_atom, atoms-cut, search-finds}
use Rattle.ending_laws.specs.Rounds.{along-run, along-placed, run_ends}
use Rattle.length_laws.specs.Formed.{Small, Formed, full-small, intersect-small, formed-with}

-- The state that the rounds work on, with such sets and atoms.
pub record StateFormed (forms : List Polynomial) (st : State) : Type 0 where
  pub board : Every Small st.board
  pub atoms : Every (Formed forms) st.atoms

-- The outcome of a run, with such a state.
pub data OutcomeFormed (forms : List Polynomial) : Outcome → Type 0 where
  contradicts : OutcomeFormed forms contradiction
  settles : {st : State} → StateFormed forms st → OutcomeFormed forms (settled st)

-- ---- The board.

turn_small : (n : ℕ) (atoms : List Atom) (board : Board) (i : ℕ) → Every Small board → Every Small (turn n atoms board i)
unfolding turn
turn_small n atoms board i h =
    let small : Small (get_or board i full) = every-get_d i full full-small h in
    every_set i _ (record { bits = cut_by-below board (variable n i) atoms (get_or board i full) small.bits }) h

placed-small : (o : Option ℕ) (s : SignSet) (board : Board) → Every Small board → Every Small (placed o s board)
unfolding placed
placed-small none s board h = h
placed-small (some i) s board h = every_set i (intersect (get_or board i full) s) (intersect-small (get_or board i full) s) h

sets-small : {P : SignSet → Type 0} {l m : List SignSet} → OneCut P l m → Every Small l → Every Small m
sets-small (this_one h c) (every k ks) = every (record { bits = c.low }) ks
sets-small (later_one c) (every k ks) = every k (sets-small c ks)

module _ {forms : List Polynomial} where
  -- ---- The atoms.

  cut_atom-formed : (board : Board) (others : List Atom) (a : Atom) → Formed forms a → Formed forms (cut_atom board others a)
  unfolding cut_atom
  cut_atom-formed board others a h = formed-with _ (record { bits = cut_atom-below board others a }) h

  cut_atoms-formed : (board : Board) (before : List Atom) {l : List Atom} → Every (Formed forms) l → Every (Formed forms) (cut_atoms board before l)
  unfolding cut_atoms
  cut_atoms-formed board before every_none = every_none
  cut_atoms-formed board before (every {a} {l} h hs) = every (cut_atom-formed board (before ++ l) a h) (cut_atoms-formed board (before ++ (a ∷ [])) hs)

  unless_variable-formed : (o : Option ℕ) {a : Atom} {l : List Atom} → Formed forms a → Every (Formed forms) l → Every (Formed forms) (unless_variable o a l)
  unfolding unless_variable
  unless_variable-formed none h hs = every h hs
  unless_variable-formed (some i) h hs = hs

  non_variable-formed : (n : ℕ) {l : List Atom} → Every (Formed forms) l → Every (Formed forms) (non_variable n l)
  unfolding non_variable
  non_variable-formed n every_none = every_none
  non_variable-formed n (every {a} h hs) = unless_variable-formed (which n a.polynomial) h (non_variable-formed n hs)

  -- ---- The state, from the start to the end of the rounds.

  round-formed : (n : ℕ) (st : State) → OutcomeFormed forms (settled st) → OutcomeFormed forms (settled (round n st))
  unfolding round
  round-formed n st (settles h) =
      let board = turns n st.atoms st.board 0 n in
      settles (record {
        board = along-turns (Every Small) n st.atoms (turn_small n st.atoms) st.board 0 n h.board;
        atoms = cut_atoms-formed board [] h.atoms;
      })

  atoms-formed : {l m : List Atom} → OneAtomCut l m → Every (Formed forms) l → Every (Formed forms) m
  atoms-formed (this_atom {cut = cut} c) (every k ks) = every (formed-with cut (record { bits = c.low }) k) ks
  atoms-formed (later_atom c) (every k ks) = every k (atoms-formed c ks)

  search-formed : (n : ℕ) (st sv : State) → search n st ≡ some sv → OutcomeFormed forms (settled st) → OutcomeFormed forms (settled sv)
  search-formed n st sv e (settles h) = settles (search-finds (StateFormed forms) n st e
      (λ new f. record { board = sets-small (board-cut (λ s. Unit {0}) n st.atoms st.board 0 n st.board (λ j b. tt) f) h.board; atoms = h.atoms })
      (λ new f. record { board = h.board; atoms = atoms-formed (atoms-cut st.board [] st.atoms f) h.atoms }))

  start-formed : (n : ℕ) {l : List Atom} → Every (Formed forms) l → StateFormed forms (start n l)
  unfolding start
  start-formed n {l} h =
      record { board = along-placed (Every Small) placed-small n l (replicate n full) (every-replicate n full full-small); atoms = non_variable-formed n h }

  -- The rounds over formed atoms end in a formed state, or in a contradiction.
  pub run-formed : (n : ℕ) {l : List Atom} → Every (Formed forms) l → OutcomeFormed forms (run n l)
  run-formed n {l} h = along-run (OutcomeFormed forms) (λ st k e. contradicts) (round-formed n) (search-formed n) (run_ends n l) (settles (start-formed n h))

  carried_one-formed : (o : Option ℕ) {board : Board} {a : Atom} {cut : List Atom} (more : List Atom → List Atom)
      → Every Small board → Formed forms a → Every (Formed forms) cut → ((rest : List Atom) → Every (Formed forms) rest → Every (Formed forms) (more rest))
      → Every (Formed forms) (carried_one o board a cut more)
  unfolding carried_one
  carried_one-formed (some i) {board = board} {cut = cut} more b h hs k = every (formed-with (get_or board i full) (every-get_d i full full-small b) h) (k cut hs)
  carried_one-formed none more b h every_none k = every h (k [] every_none)
  carried_one-formed none more b h (every {l = cut} c cs) k = every c (k cut cs)

  -- The atoms that step 3 carries on are formed.
  pub carried-formed : (n : ℕ) {board : Board} {l cut : List Atom} → Every Small board → Every (Formed forms) l → Every (Formed forms) cut
      → Every (Formed forms) (carried n board l cut)
  unfolding carried
  carried-formed n b every_none cs = every_none
  carried-formed n {board} b (every {a} {l} h hs) cs =
      carried_one-formed (which n a.polynomial) (λ (rest : List Atom). carried n board l rest) b h cs (λ rest ks. carried-formed n b hs ks)

-- ---- The sets alone, whatever the polynomials.

-- Atoms with sets of three bits.
abbrev pub AllSmall : List Atom → Type 0
AllSmall l = Every (λ (a : Atom). Small a.set) l

-- Each has one of the list's own polynomials.
own-forms : {l : List Atom} → AllSmall l → Every (Formed (map (λ (a : Atom). a.polynomial) l)) l
own-forms every_none = every_none
own-forms (every h hs) = every (record { small = h; form = here refl }) (every-wider (λ a k. record { small = k.small; form = later k.form }) (own-forms hs))

left-formed : {forms : List Polynomial} {st : State} → OutcomeFormed forms (settled st) → StateFormed forms st
left-formed (settles h) = h

-- The sets that a list's atoms carry after its rounds have three bits, if those of the list have.
pub carried-small : (n : ℕ) {l : List Atom} {st : State} → run n l ≡ settled st → AllSmall l → AllSmall (carried n st.board l st.atoms)
carried-small n {l} {st} e h =
    let left = left-formed (subst (OutcomeFormed (map (λ (a : Atom). a.polynomial) l)) e (run-formed n (own-forms h))) in
    every-wider (λ a k. k.small) (carried-formed n left.board (own-forms h) left.atoms)
