-- What is said of the reader of a whole script: the declarations, the root, the end; and the block that was read, in arrays.
use Rattle.std.specs.Prelude.{Bool, true, ◌||◌, ◌&&◌, List, [], ◌∷◌, ◌≡◌, ℕ, ◌+◌, ◌-◌, ◌<◌, ◌≤◌, eqb, ltb, ℤ, length, get_or, set, Result, Ok, Err}
use Rattle.rules.specs.Polynomial.{Atom}
use Rattle.rules.specs.Formula.{end, Node, all_of, any_of}
use Rattle.rules.specs.Block.{Block}
use Rattle.block.specs.declared.Held.{Held}
use Rattle.block.specs.Held.{held_by, held_over}
use Rattle.rules.specs.Reader.{Reader, give, Outcome, held, stopped}
use Rattle.rules.specs.Combine.{say, ◌union◌, one_of}
use Rattle.rules.specs.Text.{bytes}
use Rattle.rules.specs.Reading.{choice, node, root, declarations_from, read_text}
use Rattle.script_laws.specs.Steps.{stop, whole_text}
use Rattle.script_polynomial.specs.At.{read_at}
use Rattle.script_back.specs.Runs.{just}
use Rattle.script_back.specs.Tree.{Found, NodeStored}
use Rattle.script_back.specs.declared.declarations.Declared.{Declared}
use Rattle.script_back.specs.declared.tree.Place.{Place}
use Rattle.script_back.specs.declared.tree.Branch.{Branch}
use Rattle.script_back.specs.declared.whole_script.Script.{Script}
use Rattle.script_polynomial.specs.declared.Stop.{Stop}

-- ---- declarations

-- Does no declaration come behind the first i?
abbrev pub all_declared : List ℕ → ℕ → ℕ → Bool
all_declared text at i = eqb i 16 || (ltb 0 i && eqb (get_or text (at + 1) 0) 97)

-- So many variables are declared: the root is read behind `(assert `.
pub record AllDeclared (text : List ℕ) (at i n next : ℕ) : Type 0 where
  pub reading : read_at text at (declarations_from i (16 - i)) ≡ read_at text next (root n)
  pub inside : next ≤ length text
  pub some : 0 < n
  pub most : n ≤ 16

unfoldable pub DeclaredBy : List ℕ → ℕ → ℕ → Result Declared Stop → Type 0
DeclaredBy text at i (Err halt) = read_at text at (declarations_from i (16 - i)) ≡ stop halt.at
DeclaredBy text at i (Ok all) = AllDeclared text at i all.variables all.next

pub record DeclaredFound (text : List ℕ) (at i : ℕ) (declared : Result Declared Stop) : Type 0 where
  pub by_declared : DeclaredBy text at i declared

-- ---- the root

abbrev pub root_tree : ℕ → Reader (Node Atom)
root_tree n = one_of (choice true (bytes "true") (give (all_of end)) ∷ choice true (bytes "false") (give (any_of end)) ∷ []) union node n 6 0 [] 254

-- The lent arrays have the size that a block's have;
pub record Lent (cs : List ℤ) (ms ts token : List ℕ) : Type 0 where
  pub coefficients : length cs ≡ 1024
  pub monomials : length ms ≡ 1024
  pub counts : length ts ≡ 64
  pub tape : length token ≡ 255

-- and so many variables are declared.
pub record Blank (n : ℕ) (cs : List ℤ) (ms ts token : List ℕ) : Type 0 where
  pub some : 0 < n
  pub most : n ≤ 16
  pub lent : Lent cs ms ts token

-- An AND or an OR of none: its token has no children.
pub record NoneStored (given-kind : ℕ) (token token' : List ℕ) (part : ℕ) (after : Place) (kind : ℕ) : Type 0 where
  pub known : after.known ≡ 0
  pub counted : after.tokens ≡ 1
  pub room : after.room ≡ 254
  pub tape : token' ≡ set token 0 16777216
  pub kind_is : kind ≡ given-kind

abbrev pub NoneFound : List ℕ → ℕ → List ℕ → ℕ → List ℕ → List ℕ → Result Branch Stop → Type 0
NoneFound text at run kind token token' branch = Found text at (just run) (NoneStored kind token token') branch

abbrev pub RootFound : List ℕ → ℕ → ℕ → List ℤ → List ℤ → List ℕ → List ℕ → List ℕ → List ℕ → List ℕ → List ℕ → Result Branch Stop → Type 0
RootFound text at n cs cs' ms ms' ts ts' token token' branch = Found text at (root_tree n) (NodeStored n cs ms ts [] 0 254 cs' ms' ts' token token') branch

-- ---- the end

-- What the text holds from the end of the root on, whatever block it is.
abbrev pub end_at : List ℕ → ℕ → Block → Outcome Block
end_at text at block = whole_text (read_at text at (say (bytes ")\n") (give block)))

pub record EndRead (text : List ℕ) (place : Place) (kind n : ℕ) (n' polynomials kind' tokens : ℕ) : Type 0 where
  pub reading : (block : Block) → end_at text place.at block ≡ held block
  pub variables_are : n' ≡ n
  pub polynomials_are : polynomials ≡ place.known
  pub kind_is : kind' ≡ kind
  pub tokens_are : tokens ≡ place.tokens

unfoldable pub EndBy : List ℕ → Place → ℕ → ℕ → Result Script Stop → Type 0
EndBy text place kind n (Err halt) = (block : Block) → end_at text place.at block ≡ stopped halt.at
EndBy text place kind n (Ok script) = EndRead text place kind n script.variables script.polynomials script.root script.tokens

pub record EndFound (text : List ℕ) (place : Place) (kind n : ℕ) (script : Result Script Stop) : Type 0 where
  pub ends : EndBy text place kind n script

-- ---- what was read

-- The block that the book reads is stored over what the arrays held before.
pub record BlockStored (outcome : Outcome Block) (cs : List ℤ) (ms ts token : List ℕ) (held-now : Held) : Type 0 where
  pub block : Block
  pub reading : outcome ≡ held block
  pub stored : held-now ≡ held_over cs ms ts token block

unfoldable pub ScriptBy : Outcome Block → List ℤ → List ℤ → List ℕ → List ℕ → List ℕ → List ℕ → List ℕ → List ℕ → Result Script Stop → Type 0
ScriptBy outcome cs cs' ms ms' ts ts' token token' (Err halt) = outcome ≡ stopped halt.at
ScriptBy outcome cs cs' ms ms' ts ts' token token' (Ok script) =
    BlockStored outcome cs ms ts token (held_by script.variables script.polynomials script.root script.tokens cs' ms' ts' token')

pub record Scripts (outcome : Outcome Block) (cs cs' : List ℤ) (ms ms' ts ts' token token' : List ℕ) (script : Result Script Stop) : Type 0 where
  pub found : ScriptBy outcome cs cs' ms ms' ts ts' token token' script

-- From `(assert ` on, from the logic on, and the whole text.
abbrev pub AssertionFound : List ℕ → ℕ → ℕ → List ℤ → List ℤ → List ℕ → List ℕ → List ℕ → List ℕ → List ℕ → List ℕ → Result Script Stop → Type 0
AssertionFound text at n cs cs' ms ms' ts ts' token token' script = Scripts (whole_text (read_at text at (root n))) cs cs' ms ms' ts ts' token token' script

abbrev pub RestFound : List ℕ → ℕ → List ℤ → List ℤ → List ℕ → List ℕ → List ℕ → List ℕ → List ℕ → List ℕ → Result Script Stop → Type 0
RestFound text at cs cs' ms ms' ts ts' token token' script = Scripts (whole_text (read_at text at (declarations_from 0 16))) cs cs' ms ms' ts ts' token token' script

abbrev pub ScriptFound : List ℕ → List ℤ → List ℤ → List ℕ → List ℕ → List ℕ → List ℕ → List ℕ → List ℕ → Result Script Stop → Type 0
ScriptFound text cs cs' ms ms' ts ts' token token' script = Scripts (read_text text) cs cs' ms ms' ts ts' token token' script
