-- A whole tree on a tape of tokens, and what simplifying it gives: the contract of this crate, in the book's trees over tokens.
-- The parts of the book take any kind of atom; here an atom is its token, so that all bits of a token are told.
use Rattle.std.specs.Prelude.{◌≡◌, Bool, true, false, List, [], ◌∷◌, ◌++◌, ℕ, ◌+◌, ◌-◌, ◌<◌, ◌≤◌, max}
use Rattle.rules.specs.Formula.{Parts, end, atom, and, or, Node, leaf, all_of, any_of, each_atom, each_atom_of, alone, children, nodes}
use Rattle.rules.specs.Level.{Formula, dual, and_rule, simplify}
use Rattle.rules.specs.Count.{rule_count, most_rounds}
use Rattle.table.specs.Table.{Table}
use Rattle.level.specs.declared.settling.Finished.{Finished}
use Rattle.level.specs.declared.writing.Tree.{Tree}
use Rattle.level.specs.declared.Shortened.{Shortened}
use Rattle.tape.specs.Row.{Lists}
use Rattle.tape.specs.Token.{atom_of}
use Rattle.tape.specs.Walked.{Shows, size_of}

-- The tokens of parts, parent before children. A node's is its number of children behind 2 ^ 24, whichever kind it is of.
unfoldable pub tokens : Parts ℕ → List ℕ
tokens end = []
tokens (atom x rest) = x ∷ tokens rest
tokens (and kids rest) = (16777216 + children kids) ∷ (tokens kids ++ tokens rest)
tokens (or kids rest) = (16777216 + children kids) ∷ (tokens kids ++ tokens rest)

-- A node's kind, in the block's numbers: 1 is AND, 2 is OR, and 0 an atom.
abbrev pub kind_number : Bool → ℕ
kind_number true = 1
kind_number false = 2

abbrev pub kind_of : {A : Type 0} → Node A → ℕ
kind_of (leaf a) = 0
kind_of (all_of kids) = 1
kind_of (any_of kids) = 2

-- As the book's `PartsWithin`: AND and OR take turns, with d nestings left below a parent of this kind (0 at the root); tokens of atoms lie below 2 ^ 24.
unfoldable pub TokensWithin : ℕ → ℕ → Parts ℕ → Type 0
TokensWithin d parent end = Unit {0}
TokensWithin d parent (atom x rest) = (x < 16777216) × TokensWithin d parent rest
TokensWithin d parent (and kids rest) = (parent ≡ 1 → ⊥) × (0 < d) × TokensWithin (d - 1) 1 kids × TokensWithin d parent rest
TokensWithin d parent (or kids rest) = (parent ≡ 2 → ⊥) × (0 < d) × TokensWithin (d - 1) 2 kids × TokensWithin d parent rest

-- The tape begins with a tree, with its root's kind: at most 6 nestings, at most 255 nodes.
pub record TreeHeld (token : List ℕ) (root : ℕ) (tree : Node ℕ) : Type 0 where
  pub rest : List ℕ
  pub here : token ≡ tokens (alone tree) ++ rest
  pub root_is : root ≡ kind_of tree
  pub within : TokensWithin 6 0 (alone tree)
  pub few : nodes (alone tree) ≤ 255

-- The root's parts as the AND rule sees them. "A root atom is an AND of one."
unfoldable pub root_parts : Table → Node ℕ → Formula
root_parts t (leaf x) = atom (atom_of t x) end
root_parts t (all_of kids) = each_atom (atom_of t) kids
root_parts t (any_of kids) = dual (each_atom (atom_of t) kids)

pub record RootIs (t : Table) (tree : Node ℕ) (largest : ℕ) (r : Finished) : Type 0 where
  pub shows : Shows t r.level (and_rule t.variables 6 (root_parts t tree))
  pub counts : r.rounds ≡ max largest (rule_count t.variables 6 (root_parts t tree))
  pub small : size_of r.level ≤ 254

-- The tree that the book's `simplify` gives, on a tape of its own, with its root's kind.
pub record Simplified (t : Table) (tree : Node ℕ) (r : Tree) : Type 0 where
  pub result : Node ℕ
  pub lists : Lists r.tokens (tokens (alone result))
  pub root : r.root ≡ kind_of result
  pub is : each_atom_of (atom_of t) result ≡ simplify t.variables (each_atom_of (atom_of t) tree)
  pub few : nodes (alone result) ≤ 255
  pub within : TokensWithin 255 0 (alone result)

-- That tree, and the larger of the largest number of rounds so far and the book's `most_rounds`.
pub record ShortenedIs (t : Table) (tree : Node ℕ) (largest : ℕ) (r : Shortened) : Type 0 where
  pub simplified : Simplified t tree r.tree
  pub counts : r.rounds ≡ max largest (most_rounds t.variables (each_atom_of (atom_of t) tree))
