-- A block as the arrays that hold it, and what reading a run of bytes gives: a block's arrays, or a refusal.
-- An array is 0 wherever nothing is stored.
use Rattle.std.specs.Prelude.{◌≡◌, Result, Ok, Err, List, [], ◌∷◌, ◌++◌, map, ℕ, suc, ◌+◌, ◌*◌, ◌≤◌, ℤ, pos, length, replicate}
use Rattle.std.proofs.Common.{sym, ap, ◌∙◌}
use Rattle.std.proofs.lemmas.List.Edits.{sets}
use Rattle.rules.specs.Polynomial.{Term, Polynomial}
use Rattle.rules.specs.Formula.{Parts, end, atom, and, or, Node, leaf, all_of, any_of, children, nodes, alone}
use Rattle.rules.specs.Block.{NumberedAtom, Block, Reading, refused, read, read_block}
use Rattle.block.specs.declared.Held.{Held}
use Rattle.block.specs.Refusals.{number_of, same_refusal}
use Rattle.block.specs.declared.Refusal.{Refusal}

-- Polynomial i has its terms in the slot of sixteen places from 16 * i on: one part of each term, the coefficient or the monomial, of the
-- polynomials from number i on.
unfoldable pub slots : {A : Type 0} → (Term → A) → ℕ → List Polynomial → List A → List A
slots part i [] array = array
slots part i (p ∷ ps) array = slots part (suc i) ps (sets array (16 * i) (map part p))

-- The tree as tokens, parent before children. An atom is its polynomial's number and its set, an AND or an OR its number of children behind 2 ^ 24.
-- Which of the two it is, is not stored: no AND stands directly under AND, no OR under OR, so they take turns below the root.
unfoldable pub tokens : Parts NumberedAtom → List ℕ
tokens end = []
tokens (atom a rest) = (a.number * 8 + a.set) ∷ tokens rest
tokens (and kids rest) = (16777216 + children kids) ∷ (tokens kids ++ tokens rest)
tokens (or kids rest) = (16777216 + children kids) ∷ (tokens kids ++ tokens rest)

-- A node's kind, in the block's numbers.
unfoldable pub kind_of : Node NumberedAtom → ℕ
kind_of (leaf a) = 0
kind_of (all_of kids) = 1
kind_of (any_of kids) = 2

unfoldable pub nothing : Held
nothing =
    record {
      variables = 0;
      polynomials = 0;
      root = 0;
      tokens = 0;
      coefficient = replicate 1024 (pos 0);
      monomial = replicate 1024 0;
      terms = replicate 64 0;
      token = replicate 255 0;
    }

-- The four numbers and the four arrays together.
abbrev pub held_by : ℕ → ℕ → ℕ → ℕ → List ℤ → List ℕ → List ℕ → List ℕ → Held
held_by variables polynomials root tokens coefficient monomial terms token =
    record {
      variables = variables;
      polynomials = polynomials;
      root = root;
      tokens = tokens;
      coefficient = coefficient;
      monomial = monomial;
      terms = terms;
      token = token;
    }

-- The arrays have room for every block.
pub record BlockRoom (coefficient : List ℤ) (monomial terms token : List ℕ) : Type 0 where
  pub coefficients : 1024 ≤ length coefficient
  pub monomials : 1024 ≤ length monomial
  pub counts : 64 ≤ length terms
  pub tokens : 255 ≤ length token

-- They have room for a block of so many polynomials and nodes.
pub record RoomFor (polynomials nodes : ℕ) (coefficient : List ℤ) (monomial terms token : List ℕ) : Type 0 where
  pub coefficients : 16 * polynomials ≤ length coefficient
  pub monomials : 16 * polynomials ≤ length monomial
  pub counts : polynomials ≤ length terms
  pub tokens : nodes ≤ length token

-- A block stored over what the arrays held before.
abbrev pub held_over : List ℤ → List ℕ → List ℕ → List ℕ → Block → Held
held_over coefficient monomial terms token block =
    held_by block.variables (length block.table) (kind_of block.tree) (nodes (alone block.tree))
    (slots (λ t. t.coefficient) 0 block.table coefficient) (slots (λ t. t.monomial) 0 block.table monomial) (sets terms 0 (map length block.table))
    (sets token 0 (tokens (alone block.tree)))

unfoldable pub held_of : Block → Held
held_of block = held_over (replicate 1024 (pos 0)) (replicate 1024 0) (replicate 64 0) (replicate 255 0) block

-- What reading gives: the book's refusal, or what the book's block has in the arrays.
unfoldable pub HeldBy : Reading Block → Result Held Refusal → Type 0
HeldBy (refused number) (Err refusal) = number ≡ number_of refusal
HeldBy (refused number) (Ok held) = ⊥
HeldBy (read block rest) (Err refusal) = ⊥
HeldBy (read block rest) (Ok held) = held ≡ held_of block

pub record HeldFound (bytes : List ℕ) (outcome : Result Held Refusal) : Type 0 where
  pub found : HeldBy (read_block bytes) outcome

-- It is all that reading gives: no other outcome is found in the same bytes.
one_outcome : (reading : Reading Block) (outcome other : Result Held Refusal) → HeldBy reading outcome → HeldBy reading other → outcome ≡ other
unfolding HeldBy
one_outcome (refused number) (Err refusal) (Err refusal') e f = ap Err (same_refusal refusal refusal' (sym e ∙ f))
one_outcome (refused number) (Err refusal) (Ok held) e f = absurd f
one_outcome (refused number) (Ok held) other e f = absurd e
one_outcome (read block rest) (Err refusal) other e f = absurd e
one_outcome (read block rest) (Ok held) (Err refusal) e f = absurd f
one_outcome (read block rest) (Ok held) (Ok held') e f = ap Ok (e ∙ sym f)

pub held-found-once : (bytes : List ℕ) {outcome other : Result Held Refusal} → HeldFound bytes outcome → HeldFound bytes other → outcome ≡ other
held-found-once bytes e f = one_outcome (read_block bytes) _ _ e.found f.found
