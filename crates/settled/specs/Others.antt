-- The atoms of other polynomials than one, and what is said of that one before pairs of atoms are asked.
use Rattle.std.specs.Prelude.{◌≡◌, Bool, false, List, ℕ, ◌<◌}
use Rattle.rules.specs.Signs.{SignSet, intersect}
use Rattle.rules.specs.Polynomial.{Polynomial, Atom, Board, by_terms, which}
use Rattle.rules.specs.Rounds.{State, cut_by, held, other_than, says_in}
use Rattle.removal_laws.specs.Settled.{Settled}
use Rattle.table.specs.declared.Atoms.{Atoms}
use Rattle.table.specs.Table.{Table, Forms, form_at, atoms_of, many}
use Rattle.round.specs.declared.State.{State as Left}
use Rattle.round.specs.Views.{state_of}
use Rattle.round.specs.Signing.{atom_slot}
use Rattle.search.specs.Silent.{Quieted, Silenced}

-- the slot is that of one of the list's atoms
pub record SlotOf (list : Atoms) (slot : ℕ) : Type 0 where
  pub place : ℕ
  pub low : place < many list.count
  pub is : slot ≡ atom_slot list.number place

-- r has the atoms of the list that are of other slots than number
pub record OtherThan (list : Atoms) (number : ℕ) (r : Atoms) : Type 0 where
  pub atoms : (t : Table) → Forms t → atoms_of t r ≡ other_than (form_at t number) (atoms_of t list)
  pub slots : (j : ℕ) → j < many r.count → SlotOf list (atom_slot r.number j)

-- r is the list, where the atoms of slot number have the full set: they say nothing, as if they were not there
pub record SilencedSlot (list : Atoms) (number : ℕ) (r : Atoms) : Type 0 where
  pub silenced : Silenced list r
  pub quieted : (t : Table) → Forms t → Quieted (atoms_of t r) (other_than (form_at t number) (atoms_of t list))

-- What a state says of p, and what these atoms say of p with its sign by terms, before the pairs of atoms are asked.
unfoldable pub says_before_pairs : ℕ → State → Polynomial → SignSet
says_before_pairs n st p = cut_by st.board p st.atoms (intersect (held (which n p) st p) (by_terms st.board p))

unfoldable pub said_before_pairs : Board → Polynomial → List Atom → SignSet
said_before_pairs board p others = cut_by board p others (by_terms board p)

-- r is false only where the pairs say no more of the polynomial in slot number than a settled state holds of it already
pub record PairsMatter (t : Table) (state : Left) (number : ℕ) (r : Bool) : Type 0 where
  pub idle : r ≡ false → Settled t.variables (state_of t state)
      → says_in t.variables (state_of t state) (form_at t number) ≡ says_before_pairs t.variables (state_of t state) (form_at t number)
