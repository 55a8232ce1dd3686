-- What the steps of the writer say: which values the arrays hold, and that their bits are stored from a bit on, every other bit being kept.
use Rattle.std.specs.Prelude.{◌≡◌, Bool, List, [], ◌∷◌, ◌++◌, ℕ, zero, suc, ◌+◌, ◌*◌, ◌/◌, ◌%◌, ◌^◌, ◌≤◌, ◌<◌, ℤ, pos, length, get_or}
use Rattle.std.proofs.lemmas.List.Edits.{sets}
use Rattle.rules.specs.Bits.{field, unpack}
use Rattle.rules.specs.Polynomial.{Polynomial}
use Rattle.rules.specs.Formula.{Parts, end, atom, and, or, alone, children, nodes}
use Rattle.rules.specs.Block.{NumberedAtom, Block, edition_number, edition_of, write_parts, block_length}
use Rattle.rules.specs.Limits.{BlockWithin}
use Rattle.block.specs.declared.Held.{Held}
use Rattle.writer.specs.declared.Spot.{Spot}

-- ---- what the arrays hold

-- So many terms from the place k on.
unfoldable pub terms_at : List ℤ → List ℕ → ℕ → ℕ → Polynomial
terms_at coefficients monomials k zero = []
terms_at coefficients monomials k (suc count) =
    record { coefficient = get_or coefficients k (pos 0); monomial = get_or monomials k 0 } ∷ terms_at coefficients monomials (suc k) count

-- So many polynomials from number i on, each in its slot of sixteen places.
unfoldable pub table_at : List ℤ → List ℕ → List ℕ → ℕ → ℕ → List Polynomial
table_at coefficients monomials counts i zero = []
table_at coefficients monomials counts i (suc m) = terms_at coefficients monomials (16 * i) (get_or counts i 0) ∷ table_at coefficients monomials counts (suc i) m

-- The terms of the first m polynomials stand inside the arrays.
pub record TermsInside (coefficients : List ℤ) (monomials counts : List ℕ) (m : ℕ) : Type 0 where
  pub in_coefficients : (i : ℕ) → i < m → 16 * i + get_or counts i 0 ≤ length coefficients
  pub in_monomials : (i : ℕ) → i < m → 16 * i + get_or counts i 0 ≤ length monomials

-- The parts from the token k on; those of them that are an AND or OR are of that kind, and their own parts of the other.
unfoldable pub PartsHeld : List ℕ → ℕ → ℕ → Parts NumberedAtom → Type 0
PartsHeld token kind k end = Unit {0}
PartsHeld token kind k (atom a rest) =
    (k < length token) × (get_or token k 0 ≡ a.number * 8 + a.set) × (a.number < 64) × (a.set < 8) × PartsHeld token kind (suc k) rest
PartsHeld token kind k (and kids rest) =
    (k < length token) × (get_or token k 0 ≡ 16777216 + children kids) × (kind ≡ 1) × PartsHeld token 2 (suc k) kids × PartsHeld token kind (suc k + nodes kids) rest
PartsHeld token kind k (or kids rest) =
    (k < length token) × (get_or token k 0 ≡ 16777216 + children kids) × (kind ≡ 2) × PartsHeld token 1 (suc k) kids × PartsHeld token kind (suc k + nodes kids) rest

-- The block that the arrays hold. What stands at other places of the arrays does not matter.
pub record Holds (held : Held) (block : Block) : Type 0 where
  pub variables : held.variables ≡ block.variables
  pub polynomials : held.polynomials ≡ length block.table
  pub tokens : held.tokens ≡ nodes (alone block.tree)
  pub table : table_at held.coefficient held.monomial held.terms 0 held.polynomials ≡ block.table
  pub tree : PartsHeld held.token held.root 0 (alone block.tree)

-- ---- what is written

-- The bits of an atom by its token, and of an AND or OR of that kind.
unfoldable pub atom_bits : ℕ → List Bool
atom_bits token = field 2 0 ++ (field 6 (token / 8) ++ field 3 (token % 8))

unfoldable pub join_bits : ℕ → ℕ → List Bool
join_bits kind children = field 2 kind ++ field 8 children

-- The bits of a head.
unfoldable pub head_bits : ℕ → ℕ → ℕ → ℕ → ℕ → List Bool
head_bits edition variables polynomials nodes size = field 4 edition ++ (field 5 variables ++ (field 7 polynomials ++ (field 8 nodes ++ field 16 size)))

-- Bits have room from a bit on in so many bytes.
pub record Room (size at : ℕ) (bits : List Bool) : Type 0 where
  pub inside : at + length bits ≤ 8 * size
  pub short : at + length bits < 2 ^ 32

-- Bits are stored from a bit on, and the next bit is the one behind them.
pub record Wrote (before after : List ℕ) (at : ℕ) (bits : List Bool) (next : ℕ) : Type 0 where
  pub stored : unpack after ≡ sets (unpack before) at bits
  pub behind : next ≡ at + length bits

-- There are so many parts from the token k on, with room for their bits.
pub record PartsAhead (token : List ℕ) (kind k count size at : ℕ) : Type 0 where
  pub parts : Parts NumberedAtom
  pub held : PartsHeld token kind k parts
  pub counted : children parts ≡ count
  pub room : Room size at (write_parts parts)

-- So many parts from the token k on are written, and the next token is the one behind them.
pub record PartsWrote (before after : List ℕ) (at : ℕ) (parts : Parts NumberedAtom) (k : ℕ) (spot : Spot) : Type 0 where
  pub wrote : Wrote before after at (write_parts parts) spot.at
  pub behind : spot.k ≡ k + nodes parts

-- The arrays hold a block within the limits, with room for its bytes in an edition, which is given by its number.
pub record Writable (edition : ℕ) (held : Held) (size : ℕ) (block : Block) : Type 0 where
  pub known : edition ≡ edition_number (edition_of edition)
  pub holds : Holds held block
  pub within : BlockWithin block
  pub room : block_length (edition_of edition) block ≤ size

pub record SomeWritable (edition : ℕ) (held : Held) (size : ℕ) : Type 0 where
  pub block : Block
  pub writable : Writable edition held size block
