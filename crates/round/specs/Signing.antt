-- The signs that a round works with, in the slots that it reads: those of the variables and those of its atoms.
-- They are worked out slot by slot for a board; a slot is `SignedSlot` where its places hold the board's signs.
use Rattle.std.specs.Prelude.{◌≡◌, List, ℕ, zero, suc, ◌+◌, ◌*◌, ◌%◌, ◌<◌, ◌≤◌, length, get_or}
use Rattle.rules.specs.Signs.{SignSet}
use Rattle.rules.specs.Polynomial.{Board}
use Rattle.terms.specs.View.{sets_of}
use Rattle.terms.specs.Signed.{Signed, signed}
use Rattle.terms.specs.declared.Board.{Board as Sets}
use Rattle.table.specs.declared.Atoms.{Atoms}
use Rattle.table.specs.Table.{Table, Forms, many}

-- the slot of variable i, and the slot of the atom at i
abbrev pub variable_slot : ℕ → ℕ
variable_slot i = 64 + i

abbrev pub atom_slot : List ℕ → ℕ → ℕ
atom_slot numbers i = get_or numbers i 0 % 64

-- the signs, with those of slot k worked out for a board, where ts are the counts of terms
abbrev pub signed_slot : Board → List ℕ → List ℕ → List SignSet → ℕ → List SignSet
signed_slot board ms ts ss k = signed board ms ss (16 * k) (16 * k + get_or ts k 0)

-- the same of k slots one after the other, from the one at i on
unfoldable pub signed_slots : Board → List ℕ → List ℕ → (ℕ → ℕ) → List SignSet → ℕ → ℕ → List SignSet
signed_slots board ms ts slot ss i zero = ss
signed_slots board ms ts slot ss i (suc k) = signed_slots board ms ts slot (signed_slot board ms ts ss (slot i)) (suc i) k

-- the same of all variables and of all atoms of a list
abbrev pub signed_list : Sets → List ℕ → List ℕ → Atoms → List SignSet → List SignSet
signed_list b ms ts a ss =
    signed_slots (sets_of b) ms ts (atom_slot a.number) (signed_slots (sets_of b) ms ts variable_slot ss 0 b.variables) 0 (many a.count)

-- the same of every slot
abbrev pub signed_table : Board → List ℕ → List ℕ → List SignSet → List SignSet
signed_table board ms ts ss = signed_slots board ms ts (λ k. k) ss 0 80

-- What working them out asks of the slices: eighty slots of at most sixteen terms each.
pub record Slots (ms ts ss : List ℕ) : Type 0 where
  pub monomials : length ms ≡ 1280
  pub counts : length ts ≡ 81
  pub few : (k : ℕ) → get_or ts k 0 ≤ 16
  pub signs : length ss ≡ 1280

-- the places of slot k hold the board's signs
abbrev pub SignedSlot : Table → Board → List SignSet → ℕ → Type 0
SignedSlot t board ss k = Signed board t.monomial ss (16 * k) (16 * k + get_or t.terms k 0)

-- the places of every slot do
abbrev pub SignedTable : Table → Board → List SignSet → Type 0
SignedTable t board ss = (k : ℕ) → k < 80 → SignedSlot t board ss k

-- What a round asks: a table of forms, and the signs of the variables and of the atoms worked out for the board.
pub record Ready (t : Table) (board : Board) (a : Atoms) (ss : List SignSet) : Type 0 where
  pub forms : Forms t
  pub places : length ss ≡ 1280
  pub variables : (i : ℕ) → i < t.variables → SignedSlot t board ss (variable_slot i)
  pub atoms : (i : ℕ) → i < many a.count → SignedSlot t board ss (atom_slot a.number i)
