-- What the steps of the reader say: each does what the book's reading of the same part does, and stores what was read.
use Rattle.std.specs.Prelude.{◌≡◌, Option, None, Some, Result, Ok, Err, Bool, true, false, List, map, ℕ, ◌+◌, ◌-◌, ◌*◌, ◌^◌, ◌≤◌, ◌<◌, ℤ, length, take, drop, set}
use Rattle.std.proofs.lemmas.List.Edits.{sets}
use Rattle.rules.specs.Polynomial.{Term, Polynomial}
use Rattle.rules.specs.Bits.{value, unpack}
use Rattle.rules.specs.Formula.{Parts, Node, leaf, alone, nodes}
use Rattle.rules.specs.Block.{NumberedAtom, Block, edition2, edition_of, Stream, Reading, refused, read, afterwards, read_exponents}
use Rattle.rules.specs.Block.{read_parts, read_node, joined, read_end, read_body, read_block}
use Rattle.block.specs.Refusals.{number_of}
use Rattle.block.specs.Held.{slots, tokens, kind_of, held_by, held_over}
use Rattle.block.specs.declared.Refusal.{Refusal}
use Rattle.block.specs.declared.Held.{Held}
use Rattle.block.specs.declared.Place.{Place}
use Rattle.block.specs.declared.Fields.{Fields}
use Rattle.block.specs.declared.Exponents.{Exponents}
use Rattle.block.specs.declared.Head.{Head}
use Rattle.block.specs.declared.Opening.{Opening}
use Rattle.block.specs.declared.Opening.TheVariants.{Atom, Join}
use Rattle.block.specs.declared.Contents.{Contents}

-- The stream at a place of the input.
abbrev pub stream_at : List ℕ → Place → Stream
stream_at bytes place = record { allowed = place.allowed; bits = drop place.at (unpack bytes) }

-- The place lies in the input, whose length a field of 16 bits can give.
pub record Inside (bytes : List ℕ) (place : Place) : Type 0 where
  pub at_most : place.at ≤ 8 * length bytes
  pub short : length bytes < 2 ^ 16

-- So many bits are left from a place on.
pub record Left (bytes : List ℕ) (place : Place) (rest : ℕ) : Type 0 where
  pub counted : rest ≡ length (drop place.at (unpack bytes))
  pub up_to_end : place.at + rest ≡ 8 * length bytes

-- A step refuses with the number of the book's reading, or goes on at its place, with what it read stored.
unfoldable pub Does : {A : Type 0} → List ℕ → Reading A → (A → Place → Type 0) → Result Place Refusal → Type 0
Does bytes reading Stored (Err refusal) = reading ≡ refused (number_of refusal)
Does {A} bytes reading Stored (Ok place) = (a : A) × (reading ≡ read a (stream_at bytes place)) × Inside bytes place × Stored a place

pub record Reads {A : Type 0} (bytes : List ℕ) (reading : Reading A) (Stored : A → Place → Type 0) (step : Result Place Refusal) : Type 0 where
  pub does : Does bytes reading Stored step

-- ---- the table

-- A term's exponents stand below those of the term before; the first term has none before it.
unfoldable pub ceiling : Bool → ℕ → ℕ → ℕ
ceiling true n above = 2 ^ (4 * n)
ceiling false n above = above

-- The fields of a term of n variables in edition 1.
pub record FieldsAt (bytes : List ℕ) (at n : ℕ) (fields : Fields) : Type 0 where
  pub word : fields.word ≡ value (take 32 (drop at (unpack bytes)))
  pub exponents : fields.exponents ≡ value (take (4 * n) (drop (at + 32) (unpack bytes)))

-- The exponents of edition 2 are what the book reads: one number of n variables, and the place behind its pairs.
pub record PairsRead (bytes : List ℕ) (place : Place) (n exponents behind : ℕ) : Type 0 where
  pub reading : read_exponents edition2 n (stream_at bytes place) ≡ read exponents (stream_at bytes (record { at = behind; allowed = place.allowed }))
  pub inside : Inside bytes (record { at = behind; allowed = place.allowed })
  pub small : exponents < 2 ^ (4 * n)

unfoldable pub ExponentsOf : List ℕ → Place → ℕ → Result Exponents Refusal → Type 0
ExponentsOf bytes place n (Err refusal) = read_exponents edition2 n (stream_at bytes place) ≡ refused (number_of refusal)
ExponentsOf bytes place n (Ok pairs) = PairsRead bytes place n pairs.exponents pairs.behind

pub record ExponentsFound (bytes : List ℕ) (place : Place) (n : ℕ) (exponents : Result Exponents Refusal) : Type 0 where
  pub found : ExponentsOf bytes place n exponents

-- A step leaves as many nodes allowed as before, and stores in the arrays of terms: one term at the place k,
pub record TermStored (place : Place) (k : ℕ) (coefficients coefficients' : List ℤ) (monomials monomials' : List ℕ) (term : Term) (after : Place) : Type 0 where
  pub allows : after.allowed ≡ place.allowed
  pub coefficient : coefficients' ≡ set coefficients k term.coefficient
  pub monomial : monomials' ≡ set monomials k term.monomial

-- several terms from the place k on,
pub record TermsStored (place : Place) (k : ℕ) (coefficients coefficients' : List ℤ) (monomials monomials' : List ℕ) (terms : Polynomial) (after : Place)
    : Type 0 where
  pub allows : after.allowed ≡ place.allowed
  pub coefficient : coefficients' ≡ sets coefficients k (map (λ t. t.coefficient) terms)
  pub monomial : monomials' ≡ sets monomials k (map (λ t. t.monomial) terms)

-- the polynomial number i, with its count of terms,
pub record PolynomialStored (place : Place) (i : ℕ) (coefficients coefficients' : List ℤ) (monomials monomials' counts counts' : List ℕ) (p : Polynomial)
    (after : Place) : Type 0 where
  pub stored : TermsStored place (16 * i) coefficients coefficients' monomials monomials' p after
  pub counted : counts' ≡ set counts i (length p)

-- the polynomials from number i on.
pub record TableStored (place : Place) (i : ℕ) (coefficients coefficients' : List ℤ) (monomials monomials' counts counts' : List ℕ) (table : List Polynomial)
    (after : Place) : Type 0 where
  pub allows : after.allowed ≡ place.allowed
  pub coefficient : coefficients' ≡ slots (λ t. t.coefficient) i table coefficients
  pub monomial : monomials' ≡ slots (λ t. t.monomial) i table monomials
  pub counted : counts' ≡ sets counts i (map length table)

-- ---- the tree

-- The place behind so many bits of a node, which is one of the nodes that the head allows.
abbrev pub past_node : Place → ℕ → Place
past_node place bits = record { at = place.at + bits; allowed = place.allowed - 1 }

-- What a node begins with is what the book reads: an atom, or the kind and the number of children of an AND or OR one nesting up.
pub record AtomOpened (bytes : List ℕ) (place : Place) (nesting m parent number set : ℕ) : Type 0 where
  pub reading : read_node nesting m parent (stream_at bytes place) ≡ read (leaf (record { number = number; set = set })) (stream_at bytes (past_node place 11))
  pub inside : Inside bytes (past_node place 11)
  pub some_allowed : 0 < place.allowed
  pub number_small : number < 64
  pub set_small : set < 8

pub record JoinOpened (bytes : List ℕ) (place : Place) (nesting m parent kind children : ℕ) : Type 0 where
  pub reading : read_node nesting m parent (stream_at bytes place)
      ≡ afterwards (read_parts (read_node (nesting - 1) m kind) children (stream_at bytes (past_node place 10))) (λ kids s. read (joined kind kids) s)
  pub inside : Inside bytes (past_node place 10)
  pub some_allowed : 0 < place.allowed
  pub some_nesting : 0 < nesting
  pub children_small : children < 256

unfoldable pub Opens : List ℕ → Place → ℕ → ℕ → ℕ → Result Opening Refusal → Type 0
Opens bytes place nesting m parent (Err refusal) = read_node nesting m parent (stream_at bytes place) ≡ refused (number_of refusal)
Opens bytes place nesting m parent (Ok (Atom number set)) = AtomOpened bytes place nesting m parent number set
Opens bytes place nesting m parent (Ok (Join kind children)) = JoinOpened bytes place nesting m parent kind children

pub record Opened (bytes : List ℕ) (place : Place) (nesting m parent : ℕ) (opening : Result Opening Refusal) : Type 0 where
  pub opens : Opens bytes place nesting m parent opening

-- The nodes that the head allows have a token each, so with `count` of them in all the next token goes to the place `count` less the nodes still allowed.
pub record TokensStored (place : Place) (count : ℕ) (token token' : List ℕ) (list : List ℕ) (after : Place) : Type 0 where
  pub stored : token' ≡ sets token (count - place.allowed) list
  pub counted : after.allowed + length list ≡ place.allowed

abbrev pub NodeStored : Place → ℕ → List ℕ → List ℕ → Node NumberedAtom → Place → Type 0
NodeStored place count token token' node after = TokensStored place count token token' (tokens (alone node)) after

abbrev pub PartsStored : Place → ℕ → List ℕ → List ℕ → Parts NumberedAtom → Place → Type 0
PartsStored place count token token' parts after = TokensStored place count token token' (tokens parts) after

-- ---- the end and the head

-- At the end all nodes are read, and the block is what was read.
pub record Ends (block : Block) (place : Place) (read : Block) (after : Place) : Type 0 where
  pub same : read ≡ block
  pub all_read : place.allowed ≡ 0

-- What the book reads behind the table: the tree and the end.
abbrev pub read_tree : ℕ → ℕ → List Polynomial → Stream → Reading Block
read_tree n m table s = afterwards (read_node 6 m 0 s) (λ tree s₁. read_end (record { variables = n; table = table; tree = tree }) s₁)

-- The tree is read to the end, and its tokens are stored behind those of the nodes that are no longer allowed.
pub record TreeStored (bytes : List ℕ) (place : Place) (count m : ℕ) (token token' : List ℕ) (kind : ℕ) : Type 0 where
  pub tree : Node NumberedAtom
  pub rest : Stream
  pub reading : (n : ℕ) (table : List Polynomial) → read_tree n m table (stream_at bytes place) ≡ read (record { variables = n; table = table; tree = tree }) rest
  pub root : kind ≡ kind_of tree
  pub stored : token' ≡ sets token (count - place.allowed) (tokens (alone tree))
  pub counted : nodes (alone tree) ≡ place.allowed

unfoldable pub RootOf : List ℕ → Place → ℕ → ℕ → List ℕ → List ℕ → Result ℕ Refusal → Type 0
RootOf bytes place count m token token' (Err refusal) =
    (n : ℕ) (table : List Polynomial) → read_tree n m table (stream_at bytes place) ≡ refused (number_of refusal)
RootOf bytes place count m token token' (Ok kind) = TreeStored bytes place count m token token' kind

pub record RootFound (bytes : List ℕ) (place : Place) (count m : ℕ) (token token' : List ℕ) (root : Result ℕ Refusal) : Type 0 where
  pub found : RootOf bytes place count m token token' root

-- The head is as the book wants it: the rest decides.
pub record HeadHeld (bytes : List ℕ) (head : Head) : Type 0 where
  pub reading : read_block bytes
      ≡ read_body (edition_of head.edition) head.variables head.polynomials (stream_at bytes (record { at = 40; allowed = head.nodes }))
  pub inside : Inside bytes (record { at = 40; allowed = head.nodes })
  pub variables : head.variables ≤ 16
  pub polynomials : head.polynomials ≤ 64
  pub nodes : head.nodes ≤ 255

unfoldable pub HeadOf : List ℕ → Result Head Refusal → Type 0
HeadOf bytes (Err refusal) = read_block bytes ≡ refused (number_of refusal)
HeadOf bytes (Ok head) = HeadHeld bytes head

pub record HeadFound (bytes : List ℕ) (head : Result Head Refusal) : Type 0 where
  pub found : HeadOf bytes head

-- ---- the whole block

-- The block that the book reads is stored over what the arrays held before.
pub record BlockStored (bytes : List ℕ) (coefficient : List ℤ) (monomial terms token : List ℕ) (held : Held) : Type 0 where
  pub block : Block
  pub rest : Stream
  pub reading : read_block bytes ≡ read block rest
  pub stored : held ≡ held_over coefficient monomial terms token block

unfoldable pub ContentsOf : List ℕ → List ℤ → List ℤ → List ℕ → List ℕ → List ℕ → List ℕ → List ℕ → List ℕ → Result Contents Refusal → Type 0
ContentsOf bytes coefficient coefficient' monomial monomial' terms terms' token token' (Err refusal) = read_block bytes ≡ refused (number_of refusal)
ContentsOf bytes coefficient coefficient' monomial monomial' terms terms' token token' (Ok contents) =
    BlockStored bytes coefficient monomial terms token
    (held_by contents.variables contents.polynomials contents.root contents.tokens coefficient' monomial' terms' token')

pub record ContentsFound (bytes : List ℕ) (coefficient coefficient' : List ℤ) (monomial monomial' terms terms' token token' : List ℕ)
    (contents : Result Contents Refusal) : Type 0 where
  pub found : ContentsOf bytes coefficient coefficient' monomial monomial' terms terms' token token' contents

-- What is held has at most so many polynomials.
unfoldable pub AtMost : ℕ → Result Contents Refusal → Type 0
AtMost most (Err refusal) = Unit {0}
AtMost most (Ok contents) = contents.polynomials ≤ most

pub record HasAtMost (most : ℕ) (contents : Result Contents Refusal) : Type 0 where
  pub has : AtMost most contents

-- Reading a block of few polynomials finds the same, or that the head gives more than sixteen.
pub record MorePolynomials (bytes : List ℕ) : Type 0 where
  pub head : Head
  pub held : HeadHeld bytes head
  pub many : 16 < head.polynomials

unfoldable pub FewOf : List ℕ → List ℤ → List ℤ → List ℕ → List ℕ → List ℕ → List ℕ → List ℕ → List ℕ → Option (Result Contents Refusal) → Type 0
FewOf bytes coefficient coefficient' monomial monomial' terms terms' token token' None = MorePolynomials bytes
FewOf bytes coefficient coefficient' monomial monomial' terms terms' token token' (Some contents) =
    ContentsFound bytes coefficient coefficient' monomial monomial' terms terms' token token' contents × HasAtMost 16 contents

pub record FewFound (bytes : List ℕ) (coefficient coefficient' : List ℤ) (monomial monomial' terms terms' token token' : List ℕ)
    (few : Option (Result Contents Refusal)) : Type 0 where
  pub found : FewOf bytes coefficient coefficient' monomial monomial' terms terms' token token' few
