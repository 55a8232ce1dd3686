-- The sets that the atoms of a list carry after its rounds, atom by atom: a variable's from the board, the others' in order.
-- An atom is left for each that is no variable's, since the atoms of a state are those of the list that are none.
use mathlib.Core.Path.{◌≡◌, refl, sym, ◌∙◌, ap}
use mathlib.Core.List.{List, [], ◌∷◌, ◌++◌, append-nil}
use mathlib.Core.Option.{Option, none, some}
use Prim.Native.Nat.{ℕ, ◌+◌, ◌<◌}
use native.Mathlib.Decide.{dec_lt}
use native.Mathlib.Nat.{sub-zero}
use native.Mathlib.Numerals.{add-one}
use native.Mathlib.Omega.{arith}
use lib.ListN.{length, get_or, set, length-set}
use lib.Seq.{set-get_or}
use Rattle.rules.specs.Signs.{SignSet}
use Rattle.rules.specs.Polynomial.{Atom, Polynomial, Board, which}
use Rattle.rules.specs.Rounds.{unless_variable, non_variable, carried_one, carried}
use Rattle.table.specs.declared.Atoms.{Atoms}
use Rattle.table.specs.Table.{Table, form_at, atoms_from, atoms_of, many}
use Rattle.round.specs.Views.{rest}
use Rattle.round.specs.Signing.{atom_slot}
use Rattle.round.specs.Walks.{stored-atom, rest-cons, rest-nil}
use Rattle.rounds.specs.Run.{polynomials_of, NonVariable}
use Rattle.settled.specs.Carried.{carried_set, carried_next, Carried}

-- the first c atoms, and the next with the set that was stored for it
stored-set : (t : Table) (numbers : List ℕ) (sets : List SignSet) (c : ℕ) (y : SignSet) → c < length numbers → c < length sets → (l : List Atom)
    → atoms_from t numbers (set sets c y) 0 (c + 1) ++ l ≡ atoms_from t numbers sets 0 c ++ (record { polynomial = form_at t (atom_slot numbers c); set = y } ∷ l)
stored-set t numbers sets c y h k l = rw (set-get_or numbers c 0, ← add-one c) at (stored-atom t numbers sets c (get_or numbers c 0) y h k l)

-- ---- one atom

-- Where the polynomials of what is left of the atoms begin with p, an atom is left, and it is p's.
module _ (t : Table) (a : Atoms) (j : ℕ) {p : Polynomial} {ps : List Polynomial} (e : polynomials_of (rest t a j) ≡ p ∷ ps) where
  unless-none : Dec (j < many a.count) → j < many a.count
  unless-none (yes h) = h
  unless-none (no h) =
      let gone : polynomials_of (rest t a j) ≡ [] = rw (rest-nil t a j (omega arith)) in
      absurd (let z : ◌≡◌ {A = ℕ} 0 1 = cc in omega arith)

  is-left : j < many a.count
  is-left = unless-none (dec_lt j (many a.count))

  begins : form_at t (atom_slot a.number j) ∷ polynomials_of (rest t a (j + 1)) ≡ p ∷ ps
  begins = rw (rest-cons t a j is-left) at e

  its-polynomial : form_at t (atom_slot a.number j) ≡ p
  its-polynomial = cc begins

  left_after : polynomials_of (rest t a (j + 1)) ≡ ps
  left_after = cc begins

-- The atom of the polynomial in slot number, before the later ones, where the next of the other atoms stands at j: its set, and what is left then.
module _ (t : Table) (board : Board) (atoms : Atoms) (number : ℕ) (s : SignSet) (later : List Atom) (j : ℕ) where
  carried_step : (variable : Option ℕ) → which t.variables (form_at t number) ≡ variable
      → polynomials_of (rest t atoms j) ≡ polynomials_of (non_variable t.variables (record { polynomial = form_at t number; set = s } ∷ later))
      → (carried t.variables board (record { polynomial = form_at t number; set = s } ∷ later) (rest t atoms j) ≡
      record { polynomial = form_at t number; set = carried_set variable board atoms.set j } ∷ carried t.variables board later (rest t atoms (carried_next variable j)))
      × (polynomials_of (rest t atoms (carried_next variable j)) ≡ polynomials_of (non_variable t.variables later))
  unfolding carried carried_one non_variable unless_variable carried_set carried_next
  carried_step (some i) e matched = (rw e, rw e at matched)
  carried_step none e matched =
      let m : polynomials_of (rest t atoms j) ≡ form_at t number ∷ polynomials_of (non_variable t.variables later) = rw e at matched in
      (rw (e, rest-cons t atoms j (is-left t atoms j m), its-polynomial t atoms j m), left_after t atoms j m)

-- ---- all atoms

-- The first i atoms carry their sets in c; the rest of the list, and of the other atoms from j on, is still to come.
pub record Carrying (t : Table) (board : Board) (list atoms : Atoms) (i j : ℕ) (c : Atoms) : Type 0 where
  pub count : c.count ≡ list.count
  pub number : c.number ≡ list.number
  pub places : length c.set ≡ 64
  pub matched : polynomials_of (rest t atoms j) ≡ polynomials_of (non_variable t.variables (rest t list i))
  pub sofar : atoms_from t list.number c.set 0 i ++ carried t.variables board (rest t list i) (rest t atoms j) ≡
      carried t.variables board (atoms_of t list) (atoms_of t atoms)

pub carrying-first : {t : Table} (board : Board) {list atoms : Atoms} → NonVariable t list atoms → length list.set ≡ 64 → Carrying t board list atoms 0 0 list
unfolding atoms_from
carrying-first board given places =
    record { count = refl; number = refl; places = places; matched = simp sub-zero given.polynomials; sofar = simp sub-zero }

module _ {t : Table} {board : Board} {list atoms c : Atoms} {i j : ℕ} (carrying : Carrying t board list atoms i j c) (low : i < many list.count) where
  -- where the atom is no variable's, there is another atom for it
  pub carrying-low : which t.variables (form_at t (atom_slot list.number i)) ≡ none → j < many atoms.count
  unfolding non_variable unless_variable
  carrying-low e = is-left t atoms j (rw (rest-cons t list i low, e) at carrying.matched)

  pub carrying-next : (variable : Option ℕ) → which t.variables (form_at t (atom_slot list.number i)) ≡ variable → i < length list.number
      → let set-at-i = set c.set i (carried_set variable board atoms.set j) in
      Carrying t board list atoms (i + 1) (carried_next variable j) (record { count = c.count; number = c.number; set = set-at-i })
  carrying-next variable e h =
      let s = carried_set variable board atoms.set j in
      let cons = rest-cons t list i low in
      let slot = atom_slot list.number i in
      let (this, left) = carried_step t board atoms slot (get_or list.set i 0) (rest t list (i + 1)) j variable e (rw cons at carrying.matched) in
      record {
        count = carrying.count;
        number = carrying.number;
        places = length-set {A = ℕ} c.set i s ∙ carrying.places;
        matched = left;
        sofar =
            stored-set t list.number c.set i s h (omega (arith, carrying.places)) _
            ∙ ap (λ (l : List Atom). atoms_from t list.number c.set 0 i ++ l) (sym this) ∙ (rw cons at carrying.sofar);
      }

pub carrying-last : {t : Table} {board : Board} {list atoms c : Atoms} {i j : ℕ} → Carrying t board list atoms i j c → i ≡ many list.count
    → Carried t list (carried t.variables board (atoms_of t list) (atoms_of t atoms)) c
unfolding carried
carrying-last {t} {list = list} {c = c} {i = i} carrying e =
    let nil = rest-nil t list i (omega arith) in
    let all = ap (λ (k : ℕ). atoms_from t list.number c.set 0 k) (sym e) ∙ sym (append-nil _) ∙ (rw nil at carrying.sofar) in
    record { count = carrying.count; number = carrying.number; atoms = rw (carrying.count, carrying.number) all }
