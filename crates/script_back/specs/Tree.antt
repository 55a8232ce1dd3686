-- What is said of the reader of the tree: each function reads what the book's reader of the same part does, the arrays then hold the table with the
-- polynomials that are used, and the tape holds the tokens of what was read.
use Rattle.std.specs.Prelude.{Bool, not, ◌&&◌, List, ◌≡◌, ℕ, zero, suc, ◌+◌, ◌-◌, ◌*◌, ◌<◌, ◌≤◌, eqb, ltb, leb, ℤ, length, drop, set, Result, Ok, Err}
use Rattle.std.proofs.lemmas.List.Edits.{sets}
use Rattle.rules.specs.Polynomial.{Polynomial, Atom}
use Rattle.rules.specs.Formula.{Parts, end, Node, leaf, before, alone, each_atom, each_atom_of, children, nodes}
use Rattle.rules.specs.Answer.{used, numbered}
use Rattle.block.specs.Held.{tokens, kind_of}
use Rattle.rules.specs.Reader.{Reader, give}
use Rattle.rules.specs.Combine.{say, ◌then◌}
use Rattle.rules.specs.Text.{bytes, closing}
use Rattle.rules.specs.Reading.{known_polynomial, room_behind, later_kids, kids_by, node}
use Rattle.script_laws.specs.Steps.{Part, got, stop, read_part, and_then}
use Rattle.script_polynomial.specs.At.{read_at}
use Rattle.script_polynomial.specs.Tabled.{Tabled}
use Rattle.script_back.specs.Runs.{just}
use Rattle.script_back.specs.declared.tree.Place.{Place}
use Rattle.script_back.specs.declared.tree.Branch.{Branch}
use Rattle.script_back.specs.declared.tree.Turn.{Turn}
use Rattle.script_back.specs.declared.tree.Turn.TheVariants.{End, More}
use Rattle.script_polynomial.specs.declared.Stop.{Stop}

-- The place lies in the text, and the tape has room for the nodes that are owed and those that may come.
pub record Ready (text token : List ℕ) (place : Place) (owed : ℕ) : Type 0 where
  pub inside : place.at ≤ length text
  pub tape : length token ≡ 255
  pub fits : place.tokens + place.room + owed ≤ 255

-- A parent's own token and those of so many children are behind.
pub record Kids (place : Place) (own children : ℕ) : Type 0 where
  pub own_behind : own < place.tokens
  pub children_behind : children < place.tokens

-- What reading finds: it stops where the book's reader does, or reads what that reads, up to a place, with what is said of it.
pub record Reached {A : Type 0} (text : List ℕ) (at : ℕ) (reader : Reader A) (Stored : A → Place → ℕ → Type 0) (place : Place) (kind : ℕ) : Type 0 where
  pub part : A
  pub reading : read_at text at reader ≡ got part place.at (drop place.at text)
  pub inside : place.at ≤ length text
  pub stored : Stored part place kind

unfoldable pub Finds : {A : Type 0} → List ℕ → ℕ → Reader A → (A → Place → ℕ → Type 0) → Result Branch Stop → Type 0
Finds text at reader Stored (Err halt) = read_at text at reader ≡ stop halt.at
Finds text at reader Stored (Ok branch) = Reached text at reader Stored branch.behind branch.kind

pub record Found {A : Type 0} (text : List ℕ) (at : ℕ) (reader : Reader A) (Stored : A → Place → ℕ → Type 0) (branch : Result Branch Stop) : Type 0 where
  pub finds : Finds text at reader Stored branch

-- ---- nodes

-- The tokens of a node and of parts by a table.
abbrev pub node_tokens : List Polynomial → Node Atom → List ℕ
node_tokens table node = tokens (alone (each_atom_of (numbered table) node))

abbrev pub parts_tokens : List Polynomial → Parts Atom → List ℕ
parts_tokens table parts = tokens (each_atom (numbered table) parts)

-- A node was stored, behind so many tokens and with so much room.
pub record NodeStored (n : ℕ) (cs₀ : List ℤ) (ms₀ ts₀ : List ℕ) (table : List Polynomial) (count room : ℕ) (cs' : List ℤ) (ms' ts' token token' : List ℕ)
    (node : Node Atom) (after : Place) (kind : ℕ) : Type 0 where
  pub tabled : Tabled n cs₀ ms₀ ts₀ (used table (alone node)) cs' ms' ts'
  pub known : length (used table (alone node)) ≡ after.known
  pub tape : token' ≡ sets token count (node_tokens (used table (alone node)) node)
  pub counted : after.tokens ≡ count + nodes (alone node)
  pub room_left : after.tokens + after.room ≡ count + room + 1
  pub kind_is : kind ≡ kind_of (each_atom_of (numbered (used table (alone node))) node)

-- The rest of an atom with this set.
abbrev pub atom_from : ℕ → List Polynomial → ℕ → Reader (Node Atom)
atom_from n known s = known_polynomial n known then λ p. say (closing s) (give (leaf (record { polynomial = p; set = s })))

-- May an AND or an OR of this kind begin?
abbrev pub may_join : ℕ → ℕ → ℕ → ℕ → Bool
may_join nesting parent room kind = ltb 0 nesting && (not (eqb parent kind) && leb 2 room)

-- For whichever table the arrays held.
pub record AtomFound (text : List ℕ) (n : ℕ) (place : Place) (s : ℕ) (cs cs' : List ℤ) (ms ms' ts ts' token token' : List ℕ) (branch : Result Branch Stop) : Type 0 where
  pub found : (cs₀ : List ℤ) (ms₀ ts₀ : List ℕ) (table : List Polynomial) → Tabled n cs₀ ms₀ ts₀ table cs ms ts → length table ≡ place.known
      → Found text place.at (atom_from n table s) (NodeStored n cs₀ ms₀ ts₀ table place.tokens place.room cs' ms' ts' token token') branch

pub record NodeFound (text : List ℕ) (n nesting parent : ℕ) (place : Place) (cs cs' : List ℤ) (ms ms' ts ts' token token' : List ℕ) (branch : Result Branch Stop) : Type 0 where
  pub found : (cs₀ : List ℤ) (ms₀ ts₀ : List ℕ) (table : List Polynomial) → Tabled n cs₀ ms₀ ts₀ table cs ms ts → length table ≡ place.known
      → Found text place.at (node n nesting parent table place.room) (NodeStored n cs₀ ms₀ ts₀ table place.tokens place.room cs' ms' ts' token token') branch

-- The end of an atom: what must stand behind its polynomial, and its token.
pub record AtomClosed (place : Place) (s number : ℕ) (token token' : List ℕ) (part : ℕ) (after : Place) (kind : ℕ) : Type 0 where
  pub same_known : after.known ≡ place.known
  pub same_room : after.room ≡ place.room
  pub counted : after.tokens ≡ place.tokens + 1
  pub tape : token' ≡ set token place.tokens (number * 8 + s)
  pub kind_is : kind ≡ 0

abbrev pub Closes : List ℕ → Place → ℕ → ℕ → List ℕ → List ℕ → Result Branch Stop → Type 0
Closes text place s number token token' branch = Found text place.at (just (closing s)) (AtomClosed place s number token token') branch

-- ---- children

-- How children are read behind so many.
abbrev pub One : Type 0
One = List Polynomial → ℕ → Reader (Node Atom)

unfoldable pub kids_after : One → ℕ → List Polynomial → ℕ → Reader (Parts Atom)
kids_after one zero known room = kids_by one known room
kids_after one (suc zero) known room =
    say (bytes " ") (one known room then λ second. later_kids one 253 (used known (alone second)) (room_behind room second) then λ others. give (before second others))
kids_after one (suc (suc j)) known room = later_kids one (253 - j) known room

-- A child before what was read behind it.
unfoldable pub put_before : Node Atom → Part (Parts Atom) → Part (Parts Atom)
put_before kid part = and_then part (λ rest q u. got (before kid rest) q u)

-- One child and then those behind it.
abbrev pub one_more : ℕ → List ℕ → One → ℕ → List Polynomial → ℕ → Part (Parts Atom)
one_more p t one j known room =
    and_then (read_part p (one known room) t) (λ kid q u. put_before kid (read_part q (kids_after one (suc j) (used known (alone kid)) (room_behind room kid)) u))

pub record Ends (text : List ℕ) (at room j : ℕ) : Type 0 where
  pub reading : (one : One) (known : List Polynomial) → read_at text at (kids_after one j known room) ≡ got end (at + 1) (drop (at + 1) text)
  pub inside : at + 1 ≤ length text
  pub enough : 2 ≤ j

pub record GoesOn (text : List ℕ) (at room j left : ℕ) : Type 0 where
  pub reading : (one : One) (known : List Polynomial) → read_at text at (kids_after one j known room) ≡ one_more (at + 1) (drop (at + 1) text) one j known left
  pub inside : at + 1 ≤ length text
  pub less : left + 1 + (2 - (j + 1)) ≡ room + (2 - j)

unfoldable pub TurnOf : List ℕ → ℕ → ℕ → ℕ → Result Turn Stop → Type 0
TurnOf text at room j (Err halt) = (one : One) (known : List Polynomial) → read_at text at (kids_after one j known room) ≡ stop halt.at
TurnOf text at room j (Ok End) = Ends text at room j
TurnOf text at room j (Ok (More left)) = GoesOn text at room j left

pub record TurnFound (text : List ℕ) (at room j : ℕ) (turn : Result Turn Stop) : Type 0 where
  pub turns : TurnOf text at room j turn

-- Children were stored behind so many, and their parent's token.
pub record KidsStored (n : ℕ) (cs₀ : List ℤ) (ms₀ ts₀ : List ℕ) (table : List Polynomial) (own j count room given-kind : ℕ) (cs' : List ℤ)
    (ms' ts' token token' : List ℕ) (kids : Parts Atom) (after : Place) (kind : ℕ) : Type 0 where
  pub tabled : Tabled n cs₀ ms₀ ts₀ (used table kids) cs' ms' ts'
  pub known : length (used table kids) ≡ after.known
  pub tape : token' ≡ set (sets token count (parts_tokens (used table kids) kids)) own (16777216 + (j + children kids))
  pub counted : after.tokens ≡ count + nodes kids
  pub room_left : after.tokens + after.room ≡ count + room + (2 - j)
  pub kind_is : kind ≡ given-kind

pub record KidsFound (text : List ℕ) (n nesting kind own j : ℕ) (place : Place) (cs cs' : List ℤ) (ms ms' ts ts' token token' : List ℕ) (branch : Result Branch Stop) : Type 0 where
  pub found : (cs₀ : List ℤ) (ms₀ ts₀ : List ℕ) (table : List Polynomial) → Tabled n cs₀ ms₀ ts₀ table cs ms ts → length table ≡ place.known
      → Found text place.at (kids_after (node n nesting kind) j table place.room)
      (KidsStored n cs₀ ms₀ ts₀ table own j place.tokens place.room kind cs' ms' ts' token token') branch
