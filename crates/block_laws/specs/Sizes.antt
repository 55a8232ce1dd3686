-- Sizes: the bits of each part of a block, whatever its coefficients, and the bytes of the whole; how long a block within the limits can be.
use Rattle.std.specs.Prelude.{List, [], ◌∷◌, ◌++◌, ◌≡◌, refl, ℕ, suc, ◌+◌, ◌*◌, ◌/◌, ◌≤◌, ◌<◌, ℤ, length}
use Rattle.std.proofs.Common.{ap, ◌∙◌, mul-le-mul_right, length-append}
use native.Mathlib.Omega.{arith}
use Rattle.rules.specs.Polynomial.{Term, Polynomial, each_coefficient}
use Rattle.rules.specs.Formula.{Parts, end, atom, and, or, alone, nodes, atoms}
use Rattle.rules.specs.Bits.{bytes_for}
use Rattle.rules.specs.Block.{NumberedAtom, Block, Edition, edition1, edition2, write_exponents, write_term, write_terms, write_polynomial, write_table}
use Rattle.rules.specs.Block.{write_parts, write_body, block_length, write_head, write_block}
use Rattle.rules.specs.Limits.{TableWithin, polynomials, BlockWithin}
use Rattle.block_laws.specs.Bits.{length-field, length-pack}
use Rattle.block_laws.specs.Pairs.{length_pairs, pairs-at-most}

-- ---- Bits.

-- A term's bits depend on n and its monomial alone: the third law of a term.
pub length-term : (edition : Edition) (n : ℕ) (t : Term) → length (write_term edition n t) ≡ 32 + length (write_exponents edition n t.monomial)
unfolding write_term
length-term edition n t = simp (length-append, length-field) (omega arith)

length-terms : (edition : Edition) (n : ℕ) (f : ℤ → ℤ) (p : Polynomial)
    → length (write_terms edition n (each_coefficient f p)) ≡ length (write_terms edition n p)
unfolding write_terms each_coefficient
length-terms edition n f [] = refl
length-terms edition n f (t ∷ ts) =
    let first = length-term edition n t in
    let changed = length-term edition n (record { coefficient = f t.coefficient; monomial = t.monomial }) in
    rw (length-append, length-append, first, changed, length-terms edition n f ts)

length-each : (f : ℤ → ℤ) (p : Polynomial) → length (each_coefficient f p) ≡ length p
unfolding each_coefficient
length-each f [] = refl
length-each f (t ∷ ts) = ap suc (length-each f ts)

-- The bits of a polynomial, a weight that ignores the coefficients.
abbrev pub polynomial_bits : Edition → ℕ → Polynomial → ℕ
polynomial_bits edition n p = length (write_polynomial edition n p)

-- Other coefficients take as many bits.
pub same_bits : (edition : Edition) (n : ℕ) (f : ℤ → ℤ) (p : Polynomial) → polynomial_bits edition n (each_coefficient f p) ≡ polynomial_bits edition n p
unfolding write_polynomial
same_bits edition n f p = rw (length-append, length-append, length-each f p, length-field, length-terms edition n f p)

-- A node takes ten bits, an atom one more.
pub length-parts : (parts : Parts NumberedAtom) → length (write_parts parts) ≡ 10 * nodes parts + atoms parts
unfolding write_parts nodes atoms
length-parts end = omega arith
length-parts (atom a rest) = simp (length-append, length-field, length-parts rest) (omega arith)
length-parts (and kids rest) = simp (length-append, length-field, length-parts kids, length-parts rest) (omega arith)
length-parts (or kids rest) = simp (length-append, length-field, length-parts kids, length-parts rest) (omega arith)

-- What follows the head, by the table's bits and the tree's counts.
pub length-body : (edition : Edition) (block : Block) → length (write_body edition block)
    ≡ length (write_table edition block.variables block.table) + (10 * nodes (alone block.tree) + atoms (alone block.tree))
unfolding write_body
length-body edition block = rw (length-append, length-parts (alone block.tree))

-- The head takes 40 bits.
pub length-head : (edition : Edition) (block : Block) → length (write_head edition block) ≡ 40
unfolding write_head
length-head edition block = simp (length-append, length-field)

-- ---- Bytes.

-- What is written is as long as its length field says.
pub length-block : (edition : Edition) (block : Block) → length (write_block edition block) ≡ block_length edition block
unfolding write_block block_length
length-block edition block =
    length-pack (write_head edition block ++ write_body edition block)
    ∙ ap bytes_for (length-append (write_head edition block) (write_body edition block) ∙ rw (length-head edition block))

-- A block whose table takes no more bits, and whose tree has no more nodes and atoms than another's, is no longer, in the same edition.
pub no_longer : (edition : Edition) (a b : Block)
    → length (write_table edition a.variables a.table) ≤ length (write_table edition b.variables b.table)
    → nodes (alone a.tree) ≤ nodes (alone b.tree) → atoms (alone a.tree) ≤ atoms (alone b.tree)
    → block_length edition a ≤ block_length edition b
unfolding block_length bytes_for
no_longer edition a b fewer-bits fewer-nodes fewer-atoms = rw (length-body edition a, length-body edition b) (omega arith)

-- ---- The limits.

pub atoms-at-most : (parts : Parts NumberedAtom) → atoms parts ≤ nodes parts
unfolding atoms nodes
atoms-at-most end = omega arith
atoms-at-most (atom a rest) = omega (arith, atoms-at-most rest)
atoms-at-most (and kids rest) = omega (arith, atoms-at-most kids, atoms-at-most rest)
atoms-at-most (or kids rest) = omega (arith, atoms-at-most kids, atoms-at-most rest)

-- The most bits that a term takes: 32 and 16 exponents, or 37 and 16 pairs.
unfoldable pub most_bits : Edition → ℕ
most_bits edition1 = 96
most_bits edition2 = 165

pub term-at-most : (edition : Edition) (n : ℕ) (t : Term) → n ≤ 16 → length (write_term edition n t) ≤ most_bits edition
unfolding write_exponents most_bits
term-at-most edition1 n t few = rw (length-term edition1 n t, length-field) (omega arith)
term-at-most edition2 n t few =
    rw (length-term edition2 n t, length-append, length-field, length_pairs) (omega (arith, pairs-at-most n t.monomial))

pub terms-at-most : (edition : Edition) (n : ℕ) (p : Polynomial) → n ≤ 16 → length (write_terms edition n p) ≤ length p * most_bits edition
unfolding write_terms
terms-at-most edition n [] few = omega arith
terms-at-most edition n (t ∷ ts) few = rw (length-append) (omega (arith, term-at-most edition n t few, terms-at-most edition n ts few))

pub polynomial-at-most : (edition : Edition) (n : ℕ) (p : Polynomial) → n ≤ 16 → length p ≤ 16 → polynomial_bits edition n p ≤ 5 + 16 * most_bits edition
unfolding write_polynomial
polynomial-at-most edition n p few terms =
    rw (length-append, length-field) (omega (arith, terms-at-most edition n p few, mul-le-mul_right (most_bits edition) terms))

pub table-at-most : (edition : Edition) (n : ℕ) (table : List Polynomial) → n ≤ 16 → TableWithin n table
    → length (write_table edition n table) ≤ length table * (5 + 16 * most_bits edition)
unfolding write_table
table-at-most edition n [] few within = omega arith
table-at-most edition n (p ∷ ps) few (polynomials first others) =
    rw length-append (omega (arith, polynomial-at-most edition n p few first.at-most, table-at-most edition n ps few others))

-- The longest block: 64 polynomials of 16 terms over 16 variables, each with an exponent above 0, and a root with 254 atoms.
unfoldable pub longest : Edition → ℕ
longest edition1 = 12684
longest edition2 = 21516

pub longest-block : (edition : Edition) (block : Block) → BlockWithin block → block_length edition block ≤ longest edition
unfolding block_length bytes_for
longest-block edition block within =
    let tree = within.nodes in
    let table = table-at-most edition block.variables block.table within.variables within.table in
    let all : length block.table * (5 + 16 * most_bits edition) ≤ 64 * (5 + 16 * most_bits edition) =
    mul-le-mul_right (5 + 16 * most_bits edition) within.polynomials in
    let bits : length (write_body edition block) ≤ 64 * (5 + 16 * most_bits edition) + 2805 =
    rw (length-body edition block) (omega (arith, atoms-at-most (alone block.tree))) in
    by-edition edition (length (write_body edition block)) bits
  where
    by-edition : (edition : Edition) (bits : ℕ) → bits ≤ 64 * (5 + 16 * most_bits edition) + 2805 → (40 + bits + 7) / 8 ≤ longest edition
    by-edition edition1 bits few = unfold most_bits longest in omega arith
    by-edition edition2 bits few = unfold most_bits longest in omega arith

-- 01, "The program": it reads at most 32,768 bytes, and no block within the limits is as long, in either edition.
pub block-below-32768 : (edition : Edition) (block : Block) → BlockWithin block → block_length edition block < 32768
block-below-32768 edition block within = omega (arith, longest-block edition block within, below edition)
  where
    below : (edition : Edition) → longest edition < 32768
    below edition1 = unfold longest in omega arith
    below edition2 = unfold longest in omega arith
