-- A search over pairs in a state that is wider than a settled one leaves a state that is: what is found there leaves no less than what is settled.
-- 02, #111: "The first pair finding that changes a set starts another round at once".
use Rattle.std.specs.Prelude.{◌≡◌, false, List, [], ◌∷◌, ◌++◌, ℕ, zero, suc, ◌≤◌, eqb, length}
use Rattle.std.proofs.Common.{ap, ◌∙◌, sym, subst, arith}
use Rattle.std.proofs.Math.Option.{none, some}
use Rattle.rules.specs.Signs.{SignSet, empty}
use Rattle.rules.specs.Polynomial.{Polynomial, Atom, Board, variable}
use Rattle.rules.specs.Deduce.{any_empty}
use Rattle.rules.specs.TwoAtoms.{tries, first_cut}
use Rattle.rules.specs.Rounds.{State, sets_of, has_empty, search_board, search_atoms, search}
use Rattle.sign_laws.specs.Booleans.{neither}
use Rattle.sign_laws.specs.Lists.{Every, every_none, every, every_append}
use Rattle.sign_laws.specs.Sets.{PartOf}
use Rattle.ending_laws.specs.Cuts.{none-empty}
use Rattle.ending_laws.specs.Searches.{first-keeps, none-cuts, BoardFound, found_here, found_later, board-found, AtomsFound, found_this, found_after, atoms-found}
use Rattle.ending_laws.specs.Searches.{search-finds, search-idle, board-none, atoms-none}
use Rattle.removal_laws.specs.Wider.{Wider, no_sets, sets, WiderAtom}
use Rattle.removal_laws.specs.Fewer.{Fewer, no_atoms, left_out, kept, fewer-append, last-left-out}
use Rattle.removal_laws.specs.TwoAtoms.{Filled, tries-wider, weaker-every}
use Rattle.removal_laws.specs.Rounds.{LowAtoms, WiderState}
use Rattle.removal_laws.specs.Settled.{Settled}

-- Sets below 8 of which none is empty.
pub all-filled : {l : List Atom} → LowAtoms l → any_empty (sets_of l) ≡ false → Every Filled l
unfolding any_empty sets_of
all-filled every_none e = every_none
all-filled (every {a} {l} h hs) e = let (left, rest) = (neither (eqb a.set empty) (any_empty (sets_of l))).0 e in
    every (record { low = h; has_sign = left }) (all-filled hs rest)

-- The atoms of a settled state are such.
pub settled-filled : {n : ℕ} {st : State} → Settled n st → Every Filled st.atoms
settled-filled {st = st} s = all-filled s.low.atoms (none-empty st s.filled).1

module _ {board wide : Board} (w : Wider board wide) where
  -- What a first finding leaves of a wider set, where none changes the narrower.
  first-wider : (p : Polynomial) {atoms fewer : List Atom} → Fewer atoms fewer → Every Filled atoms → {s t cut : SignSet} → PartOf s t
      → first_cut s (tries board p atoms) ≡ none → first_cut t (tries wide p fewer) ≡ some cut → PartOf s cut
  first-wider p {atoms} f h {s} {t} part e g = first-keeps t part (weaker-every (tries-wider w p f h) (none-cuts s (tries board p atoms) e)) g

  sets-wider : (n : ℕ) {atoms fewer : List Atom} → Fewer atoms fewer → Every Filled atoms → (i k : ℕ) {l t m : List SignSet} → Wider l t → length l ≤ k
      → search_board n atoms board i k l ≡ none → BoardFound n fewer wide i t m → Wider l m
  sets-wider n {atoms = atoms} {fewer = fewer} f h i zero {m = m} no_sets b e c = elim c [ ]
  sets-wider n {atoms = atoms} {fewer = fewer} f h i (suc k) {m = m} no_sets b e c = elim c [ ]
  sets-wider n f h i zero (sets p v) b e c = absurd (omega arith)
  sets-wider n {atoms} f h i (suc k) (sets {s} {board = l} p v) b e (found_here c) =
      sets (first-wider (variable n i) f h p (board-none n atoms board i k s l e).0 c) v
  sets-wider n {atoms} f h i (suc k) (sets {s} {board = l} p v) b e (found_later c) =
      sets p (sets-wider n f h (suc i) k v (omega arith) (board-none n atoms board i k s l e).1 c)

  atoms-wider : {before fewer l t m : List Atom} → Fewer before fewer → Every Filled before → Fewer l t → Every Filled l → search_atoms board before l ≡ none
      → AtomsFound wide fewer t m → Fewer l m
  atoms-wider {before = before} {fewer = fewer} {m = m} f h no_atoms _ e c = elim c [ ]
  atoms-wider {before} f h (left_out {a} {atoms = l} g) (every k ks) e c =
      left_out (atoms-wider (last-left-out a f) (every_append h (every k every_none)) g ks (atoms-none board before a l e).1 c)
  atoms-wider {before} f h (kept {a} {b} {atoms = l} v g) (every k ks) e (found_this {cut = cut} c) =
      kept (record {
        polynomial = v.polynomial;
        set = first-wider a.polynomial (fewer-append f g) (every_append h ks) v.set (atoms-none board before a l e).0 (rw (← v.polynomial) at c);
      }) g
  atoms-wider {before} f h (kept {a} {b} {atoms = l} v g) (every k ks) e (found_after c) =
      kept v (atoms-wider (fewer-append f (kept v no_atoms)) (every_append h (every k every_none)) g ks (atoms-none board before a l e).1 c)

-- The law.
pub search-wider : {n : ℕ} {st : State} → Settled n st → {wide sv : State} → WiderState st wide → search n wide ≡ some sv → WiderState st sv
search-wider {n} {st} s {wide} w e =
    let (board-idle, atoms-idle) = search-idle n st s.idle in
    let filled = settled-filled s in
    search-finds (WiderState st) n wide e
    (λ new f. record {
      boards = sets-wider w.boards n w.lists filled 0 n w.boards (omega (arith, s.many)) board-idle (board-found n wide.atoms wide.board 0 n wide.board f);
      lists = w.lists;
    })
    (λ new f. record {
      boards = w.boards;
      lists = atoms-wider w.boards no_atoms every_none w.lists filled atoms-idle (atoms-found wide.board [] wide.atoms f);
    })
