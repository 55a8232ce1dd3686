-- A block in arrays, as the script's writer asks for it: its table in the slots, its tree on the tape; and what is said of the parts that are written.
use Rattle.std.specs.Prelude.{List, ◌≡◌, ℕ, ◌+◌, ◌*◌, ◌<◌, ◌≤◌, eqb, ℤ, length, get_or}
use Rattle.rules.specs.Polynomial.{Polynomial, Atom}
use Rattle.rules.specs.Formula.{Parts, end, atom, and, or, each_atom, alone, children, nodes}
use Rattle.rules.specs.Block.{NumberedAtom, Block}
use Rattle.rules.specs.Limits.{TableWithin, BlockWithin}
use Rattle.rules.specs.Answer.{looked_up, formula_of}
use Rattle.terms.specs.View.{terms_from}
use Rattle.writer.specs.Written.{PartsHeld}
use Rattle.forms.specs.Holding.{Holds}
use Rattle.lines.specs.Written.{Wrote}
use Rattle.rules.specs.Text.{bytes, if_so, parts_text, root_text}
use Rattle.script_text.specs.Runs.{Fits}
use Rattle.script_text.specs.declared.Spot.{Spot}

-- An atom with the polynomial that stands in the slot of its number.
abbrev pub stored_at : List ℤ → List ℕ → List ℕ → ℕ → ℕ → Atom
stored_at cs ms ts number set = record { polynomial = terms_from cs ms (16 * number) (get_or ts number 0); set = set }

-- So many terms from a place on lie in the arrays.
pub record Terms (cs : List ℤ) (ms : List ℕ) (k count : ℕ) : Type 0 where
  pub coefficients : k + count ≤ length cs
  pub monomials : k + count ≤ length ms

-- The slots hold a table of polynomials of n variables.
pub record Table (n : ℕ) (cs : List ℤ) (ms ts : List ℕ) (table : List Polynomial) : Type 0 where
  pub variables : n ≤ 16
  pub polynomials : length table ≤ 64
  pub within : TableWithin n table
  pub holds : Holds cs ms ts table

-- Each atom names a polynomial of the table.
unfoldable pub Named : ℕ → Parts NumberedAtom → Type 0
Named m end = Unit {0}
Named m (atom a rest) = (a.number < m) × Named m rest
Named m (and kids rest) = Named m kids × Named m rest
Named m (or kids rest) = Named m kids × Named m rest

-- What an AND or an OR begins with, by its kind: 1 is AND, 2 is OR; and one of no parts at the root.
unfoldable pub join_text : ℕ → List ℕ
join_text kind = if_so (eqb kind 1) (bytes "(and") (bytes "(or")

unfoldable pub none_text : ℕ → List ℕ
none_text kind = if_so (eqb kind 1) (bytes "true") (bytes "false")

-- So many parts from the token k on.
pub record Ahead (n : ℕ) (cs : List ℤ) (ms ts token : List ℕ) (kind k count : ℕ) (table : List Polynomial) (parts : Parts NumberedAtom) : Type 0 where
  pub stored : Table n cs ms ts table
  pub named : Named (length table) parts
  pub held : PartsHeld token kind k parts
  pub counted : children parts ≡ count

-- Their text.
abbrev pub text_of : ℕ → List Polynomial → Parts NumberedAtom → List ℕ
text_of n table parts = parts_text n (each_atom (looked_up table) parts)

pub record SomeAhead (n : ℕ) (cs : List ℤ) (ms ts token : List ℕ) (kind k count at : ℕ) : Type 0 where
  pub table : List Polynomial
  pub parts : Parts NumberedAtom
  pub ahead : Ahead n cs ms ts token kind k count table parts
  pub fits : Fits at (text_of n table parts)

-- They are written, and the next token is the one behind them.
pub record PartsPut (n : ℕ) (table : List Polynomial) (before after : List ℕ) (at : ℕ) (parts : Parts NumberedAtom) (k : ℕ) (spot : Spot) : Type 0 where
  pub wrote : Wrote before after at (text_of n table parts) spot.at
  pub behind : spot.k ≡ k + nodes parts

-- A whole block within the limits.
pub record Stands (n root : ℕ) (cs : List ℤ) (ms ts token : List ℕ) (block : Block) : Type 0 where
  pub variables : block.variables ≡ n
  pub within : BlockWithin block
  pub stored : Table n cs ms ts block.table
  pub held : PartsHeld token root 0 (alone block.tree)

-- Where its root's text fits from a place on.
pub record SomeRoot (n root : ℕ) (cs : List ℤ) (ms ts token : List ℕ) (at : ℕ) : Type 0 where
  pub block : Block
  pub stands : Stands n root cs ms ts token block
  pub fits : Fits at (root_text n (formula_of block))

pub record SomeStands (n root : ℕ) (cs : List ℤ) (ms ts token : List ℕ) : Type 0 where
  pub block : Block
  pub stands : Stands n root cs ms ts token block
