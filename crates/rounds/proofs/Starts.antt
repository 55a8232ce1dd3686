-- The start of the rounds, atom by atom: a variable's set is placed on the board, any other atom goes to the end of the list.
-- The board starts with full sets, the list with no atom.
use mathlib.Core.Path.{◌≡◌, refl, sym, ◌∙◌, ap, ap₂}
use mathlib.Core.List.{List, ◌∷◌, ◌++◌, append-nil}
use mathlib.Core.Option.{Option, none}
use Prim.Native.Nat.{ℕ, zero, suc, ◌+◌, ◌<◌, ◌≤◌}
use native.Mathlib.Nat.{sub-zero}
use native.Mathlib.Omega.{arith}
use lib.ListN.{length, get_or, set, replicate, get_or-replicate}
use Rattle.rules.specs.Signs.{SignSet, full, intersect}
use Rattle.rules.specs.Polynomial.{Atom, Board, which}
use Rattle.rules.specs.Rounds.{unless_variable, non_variable, placed, placed_all, start}
use Rattle.terms.specs.View.{few, numbers_from, sets_of}
use Rattle.terms.specs.declared.Board.{Board as Sets}
use Rattle.table.specs.declared.Atoms.{Atoms}
use Rattle.table.specs.Table.{Table, form_at, atoms_from, atoms_of, many}
use Rattle.round.specs.declared.slots.Holds.{Holds}
use Rattle.round.specs.declared.slots.Holds.TheVariants.{Variable, Form}
use Rattle.round.specs.Views.{variable_of, state_of, rest}
use Rattle.round.specs.Signing.{atom_slot}
use Rattle.round.specs.Listed.{Listed}
use Rattle.round.specs.Boards.{set_at, changed-at}
use Rattle.round.specs.Walks.{rest-cons, rest-nil}
use Rattle.rounds.specs.Start.{Placed}

-- ---- one atom

pub not-placed : {holds : Holds} (s : SignSet) (b : Sets) → holds ≡ Form → Placed (variable_of holds) s b b
unfolding placed
not-placed s b e = record { variables = refl; sets = rw e }

pub placed_at : {holds : Holds} {i : ℕ} {v s : SignSet} (b : Sets) → holds ≡ Variable i → i < few b.variables → i < length b.sets
    → v ≡ intersect (get_or b.sets i 0) s → Placed (variable_of holds) s b (record { variables = b.variables; sets = set b.sets i v })
unfolding placed
placed_at {i = i} {v = v} b e low within cut =
    let n = few b.variables in
    record { variables = refl; sets = rw e (changed-at b.sets i n low v within ∙ rw (set_at b.sets i n low, cut)) }

pub not_listed : {holds : Holds} {i : ℕ} (number : ℕ) (s : SignSet) (a : Atoms) → holds ≡ Variable i → Listed (variable_of holds) number s a a
unfolding unless_variable
not_listed number s a e = record { count = omega arith; atoms = λ t l. rw e }

pub listed-as-form : {holds : Holds} {number : ℕ} {s : SignSet} {a r : Atoms} → holds ≡ Form → Listed none number s a r → Listed (variable_of holds) number s a r
listed-as-form e l = rw e l

-- ---- the board of full sets

full_from : (m i k : ℕ) → i + k ≤ m → numbers_from (replicate m full) i k ≡ replicate k full
unfolding numbers_from
full_from m i zero h = refl
full_from m i (suc k) h = rw (get_or-replicate {A = ℕ} m i full 0 (omega arith)) (ap (λ (l : List SignSet). full ∷ l) (full_from m (suc i) k (omega arith)))

pub full-board : (k : ℕ) → k ≤ 16 → numbers_from (replicate 16 full) 0 k ≡ replicate k full
full-board k h = full_from 16 0 k (omega arith)

-- ---- all atoms

-- The rest of the list from i on, placed on b and listed after a, makes the start of the whole list.
pub record Starting (t : Table) (list : Atoms) (i : ℕ) (b : Sets) (a : Atoms) : Type 0 where
  pub variables : b.variables ≡ t.variables
  pub count : a.count ≤ i
  pub board : placed_all t.variables (rest t list i) (sets_of b) ≡ placed_all t.variables (atoms_of t list) (replicate t.variables full)
  pub atoms : atoms_of t a ++ non_variable t.variables (rest t list i) ≡ non_variable t.variables (atoms_of t list)

-- at first, with the board of full sets and no atom
pub starting-first : (t : Table) (list : Atoms) → t.variables ≤ 16 → (numbers : List ℕ) (sets : List SignSet)
    → Starting t list 0 (record { variables = t.variables; sets = replicate 16 full }) (record { count = 0; number = numbers; set = sets })
unfolding atoms_from
starting-first t list h numbers sets =
    let f : few t.variables ≡ t.variables = omega arith in
    record { variables = refl; count = omega arith; board = rw (sub-zero, f, full-board t.variables h); atoms = rw sub-zero }

module _ {t : Table} {list : Atoms} {i : ℕ} {b : Sets} {a : Atoms} (starting : Starting t list i b a) where
  -- after one atom more
  pub starting-next : {b' : Sets} {a' : Atoms} {variable : Option ℕ} → i < many list.count → variable ≡ which t.variables (form_at t (atom_slot list.number i))
      → Placed variable (get_or list.set i 0) b b' → Listed variable (get_or list.number i 0) (get_or list.set i 0) a a' → Starting t list (i + 1) b' a'
  unfolding non_variable placed_all
  starting-next h e placed listed =
      let cons = rest-cons t list i h in
      record {
        variables = placed.variables ∙ starting.variables;
        count = omega (arith, listed.count, starting.count);
        board = rw (placed.sets, e) (rw cons at starting.board);
        atoms = listed.atoms t _ ∙ rw e (rw cons at starting.atoms);
      }

  -- and after the last
  pub starting-last : many list.count ≤ i → state_of t (record { board = b; atoms = a }) ≡ start t.variables (atoms_of t list)
  unfolding start non_variable placed_all
  starting-last h =
      let nil = rest-nil t list i h in
      ap₂ (λ (x : Board) (l : List Atom). record { board = x; atoms = l }) (rw nil at starting.board)
      (sym (append-nil (atoms_of t a)) ∙ (rw nil at starting.atoms))
