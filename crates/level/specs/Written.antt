-- The working tape written out again in the order of the source tape, with the book's kinds of nodes.
use Rattle.std.specs.Prelude.{◌≡◌, Bool, true, false, not, List, [], ◌∷◌, ◌++◌, ℕ, suc, ◌+◌, ◌%◌, ◌≤◌, eqb, length, drop, get_or}
use Rattle.rules.specs.Formula.{Node, each_atom_of, alone, nodes}
use Rattle.rules.specs.Level.{Placed, Formula, dual_node, as_node}
use Rattle.table.specs.Table.{Table}
use Rattle.tape.specs.declared.rows.Row.{Row}
use Rattle.level.specs.declared.writing.Tree.{Tree}
use Rattle.tape.specs.Row.{Lists}
use Rattle.tape.specs.Token.{atom_of}
use Rattle.tape.specs.Tape.{Children, none, child, laid}
use Rattle.level.specs.Source.{Forest, nothing, leaf, branch, taken}
use Rattle.level.specs.Tree.{tokens, kind_number, kind_of, TokensWithin}

-- ---- Children as nodes: ANDs (true) or ORs (false).

-- An atom's token as it is written under a node of this kind.
abbrev pub told : Bool → ℕ → ℕ
told b x = taken b x % 16777216

abbrev pub leaves : Bool → List ℕ → Forest → Forest
leaves b [] f = f
leaves b (x ∷ l) f = leaf (told b x) (leaves b l f)

abbrev pub forest : Bool → Children → Forest
forest b none = nothing
forest b (child l own later) = branch (leaves b l (forest (not b) own)) (forest b later)

abbrev pub how_many : Children → ℕ
how_many none = 0
how_many (child l own later) = suc (how_many later)

-- ---- Rows of them.

-- The children stand between two places of the row.
pub record Between (row : Row) (from to : ℕ) (children : Children) : Type 0 where
  pub all : List ℕ
  pub rest : List ℕ
  pub lists : Lists row all
  pub here : drop from all ≡ laid children ++ rest
  pub ends : to ≡ from + length (laid children)

-- At the place of each of them a node of kind b is marked.
unfoldable pub Heads : List Bool → ℕ → Bool → Children → Type 0
Heads marks place b none = Unit {0}
Heads marks place b (child l own later) = (get_or marks place false ≡ b) × Heads marks (place + (1 + (length l + length (laid own)))) b later

-- A row of children, marked with their kind, that can be told after what is told already.
pub record Tellable (out row : Row) (marks : List Bool) : Type 0 where
  pub children : Children
  pub kind : Bool
  pub before : List ℕ
  pub lies : Lists row (laid children)
  pub heads : Heads marks 0 kind children
  pub lists : Lists out before
  pub fits : out.count + row.count ≤ 256

pub record MarksIs (from to : ℕ) (b : Bool) (marks : List Bool) (children : Children) (many : ℕ) (marked : List Bool) : Type 0 where
  pub count : many ≡ how_many children
  pub heads : Heads marked from b children
  pub others : (j : ℕ) → to ≤ j → get_or marked j false ≡ get_or marks j false

-- ---- The tree.

abbrev pub unless_one : Bool → ℕ → List ℕ
unless_one true parts = []
unless_one false parts = (16777216 + parts) ∷ []

abbrev pub opening : ℕ → List ℕ
opening parts = unless_one (eqb parts 1) parts

-- The kind of the root.
abbrev pub root_if : Bool → Bool → Bool → ℕ
root_if true true b = 0
root_if true false b = kind_number (not b)
root_if false one b = kind_number b

abbrev pub root_of : ℕ → ℕ → Bool → ℕ
root_of atoms parts b = root_if (eqb parts 1) (eqb atoms 1) b

unfoldable pub turned : Bool → Node Placed → Node Placed
turned true node = node
turned false node = dual_node node

pub record TreeIs (t : Table) (b : Bool) (kids : Formula) (r : Tree) : Type 0 where
  pub result : Node ℕ
  pub lists : Lists r.tokens (tokens (alone result))
  pub root : r.root ≡ kind_of result
  pub is : each_atom_of (atom_of t) result ≡ turned b (as_node kids)
  pub few : nodes (alone result) ≤ 255
  pub within : TokensWithin 255 0 (alone result)
