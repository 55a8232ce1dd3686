-- A tree whose atoms name slots of the working table, as a tape of tokens holds it, and the tree that it stands for:
-- the same tree with the form of its slot in each atom.
use Rattle.std.specs.Prelude.{◌≡◌, List, map, ℕ, ◌<◌, ◌≤◌, ℤ, take}
use Rattle.rules.specs.Polynomial.{Polynomial, Atom}
use Rattle.rules.specs.Formula.{Parts, end, atom, and, or, Node, alone, nodes}
use Rattle.rules.specs.Block.{NumberedAtom}
use Rattle.terms.specs.View.{numbers_from}
use Rattle.block.specs.Held.{tokens}
use Rattle.table.specs.Table.{Table, form_at}

-- What the lent slices are together.
abbrev pub lent : ℕ → List ℤ → List ℕ → List ℕ → Table
lent variables coefficient monomial terms = record { variables = variables; coefficient = coefficient; monomial = monomial; terms = terms }

-- An atom that names a slot, with the form of that slot.
unfoldable pub in_slot : Table → NumberedAtom → Atom
in_slot table a = record { polynomial = form_at table a.number; set = a.set }

-- The forms of so many slots, in the order in which an array lists them.
abbrev pub forms_in : Table → List ℕ → ℕ → List Polynomial
forms_in table order used = map (form_at table) (numbers_from order 0 used)

-- Each atom names one of the slots that hold normal forms, with a set of three bits.
unfoldable pub NameSlots : Parts NumberedAtom → Type 0
NameSlots end = Unit {0}
NameSlots (atom a rest) = (a.number < 64) × (a.set < 8) × NameSlots rest
NameSlots (and kids rest) = NameSlots kids × NameSlots rest
NameSlots (or kids rest) = NameSlots kids × NameSlots rest

-- The first tokens, `count` of them, hold the tree.
pub record Holds (token : List ℕ) (count : ℕ) (tree : Node NumberedAtom) : Type 0 where
  pub stored : take count token ≡ tokens (alone tree)
  pub counted : count ≡ nodes (alone tree)
  pub few : count ≤ 255
  pub slots : NameSlots (alone tree)

-- There is a tree that they hold.
pub record HoldsSome (token : List ℕ) (count : ℕ) : Type 0 where
  pub tree : Node NumberedAtom
  pub holds : Holds token count tree
