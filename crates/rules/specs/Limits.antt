-- 01, "The block", the column "Allowed": the blocks that can be written, each limit in the words of the format.
-- The laws `reads-back` and `accepted-within` of crate block_laws say that these are exactly what the reader accepts, in either edition.
use Rattle.std.specs.Prelude.{List, [], ◌∷◌, ◌≡◌, ℕ, ◌-◌, ◌*◌, ◌^◌, ◌<◌, ◌≤◌, nat_abs, length}
use Rattle.rules.specs.Polynomial.{Term, Polynomial}
use Rattle.rules.specs.Formula.{Parts, end, atom, and, or, alone, nodes}
use Rattle.rules.specs.Block.{NumberedAtom, Block}

-- "a 31-bit magnitude (1 to 2,147,483,647)"; "Exponent lists fall strictly": they stand below those of the term before.
pub record TermWithin (above : ℕ) (t : Term) : Type 0 where
  pub not_zero : 0 < nat_abs t.coefficient
  pub magnitude : nat_abs t.coefficient < 2 ^ 31
  pub falls : t.monomial < above

pub data TermsWithin : ℕ → Polynomial → Type 0 where
  no_terms : {above : ℕ} → TermsWithin above []
  terms : {above : ℕ} {t : Term} {ts : Polynomial} → TermWithin above t → TermsWithin t.monomial ts → TermsWithin above (t ∷ ts)

-- "term count (5 bits, 1 to 16)"; "n exponents of 4 bits"
pub record PolynomialWithin (n : ℕ) (p : Polynomial) : Type 0 where
  pub not_none : 0 < length p
  pub at-most : length p ≤ 16
  pub each : TermsWithin (2 ^ (4 * n)) p

pub data TableWithin (n : ℕ) : List Polynomial → Type 0 where
  no_polynomials : TableWithin n []
  polynomials : {p : Polynomial} {ps : List Polynomial} → PolynomialWithin n p → TableWithin n ps → TableWithin n (p ∷ ps)

-- Polynomial numbers below m, sets of three bits, "no AND stands directly under AND, no OR under OR", d nestings left. A parent's kind is 1 for AND,
-- 2 for OR, 0 at the root.
unfoldable pub PartsWithin : ℕ → ℕ → ℕ → Parts NumberedAtom → Type 0
PartsWithin d m parent end = Unit {0}
PartsWithin d m parent (atom a rest) = (a.number < m) × (a.set < 8) × PartsWithin d m parent rest
PartsWithin d m parent (and kids rest) = (parent ≡ 1 → ⊥) × (0 < d) × PartsWithin (d - 1) m 1 kids × PartsWithin d m parent rest
PartsWithin d m parent (or kids rest) = (parent ≡ 2 → ⊥) × (0 < d) × PartsWithin (d - 1) m 2 kids × PartsWithin d m parent rest

-- "variables n: 1 to 16"; "polynomials m: 0 to 64"; "tree nodes, atoms counted: 1 to 255"; "AND/OR nesting is at most 6, the root counting 1"
pub record BlockWithin (block : Block) : Type 0 where
  pub some_variables : 0 < block.variables
  pub variables : block.variables ≤ 16
  pub polynomials : length block.table ≤ 64
  pub nodes : nodes (alone block.tree) ≤ 255
  pub table : TableWithin block.variables block.table
  pub tree : PartsWithin 6 (length block.table) 0 (alone block.tree)
