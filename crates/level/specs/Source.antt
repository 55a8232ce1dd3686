-- The tape as it is read: a node's number of parts, then its parts in order; and what the two rules make of a node on it.
use Rattle.std.specs.Prelude.{◌≡◌, Bool, true, false, not, List, [], ◌∷◌, ◌++◌, ℕ, suc, ◌+◌, ◌-◌, ◌<◌, ◌≤◌, max, drop}
use Rattle.rules.specs.Formula.{Parts, end, atom, and, or, each_atom}
use Rattle.rules.specs.Level.{Formula, dual, and_rule}
use Rattle.rules.specs.Count.{rule_count}
use Rattle.table.specs.Table.{Table}
use Rattle.level.specs.declared.nesting.Found.{Found}
use Rattle.tape.specs.Token.{atom_of, opposite}
use Rattle.tape.specs.Walked.{Shows, size_of}

-- The parts of a node: an atom's token, or a node with its own parts, and the parts after it. The kinds of nodes are not stored.
pub data Forest : Type 0 where
  nothing : Forest
  leaf : ℕ → Forest → Forest
  branch : Forest → Forest → Forest

-- How many parts, how many nodes, atoms counted, and the tokens.
abbrev pub count : Forest → ℕ
count nothing = 0
count (leaf x f) = suc (count f)
count (branch kids f) = suc (count f)

abbrev pub size : Forest → ℕ
size nothing = 0
size (leaf x f) = suc (size f)
size (branch kids f) = suc (size kids + size f)

abbrev pub flat : Forest → List ℕ
flat nothing = []
flat (leaf x f) = x ∷ flat f
flat (branch kids f) = (16777216 + count kids) ∷ (flat kids ++ flat f)

-- The same parts with their kinds, which take turns: those of an AND (true), or of an OR (false).
unfoldable pub named : Bool → Forest → Parts ℕ
named b nothing = end
named b (leaf x f) = atom x (named b f)
named true (branch kids f) = or (named false kids) (named true f)
named false (branch kids f) = and (named true kids) (named false f)

-- The formula that they are.
abbrev pub meant : Table → Bool → Forest → Formula
meant t b f = each_atom (atom_of t) (named b f)

-- ---- As the rules see them: an AND's parts as they are, an OR's complemented and exchanged.

abbrev pub taken : Bool → ℕ → ℕ
taken true x = x
taken false x = opposite x

unfoldable pub seen : Table → Bool → Forest → Formula
seen t b nothing = end
seen t b (leaf x f) = atom (atom_of t (taken b x)) (seen t b f)
seen t b (branch kids f) = or (dual (seen t (not b) kids)) (seen t b f)

-- ---- A node on the tape, with so many nestings left, itself counted.

unfoldable pub Shaped : ℕ → Forest → Type 0
Shaped d nothing = Unit {0}
Shaped d (leaf x f) = (x < 16777216) × Shaped d f
Shaped d (branch kids f) = (1 < d) × (Shaped (d - 1) kids × Shaped d f)

-- Atoms lie below the nodes.
unfoldable pub Below : Forest → Type 0
Below nothing = Unit {0}
Below (leaf x f) = (x < 16777216) × Below f
Below (branch kids f) = Below kids × Below f

pub record Holds (token : List ℕ) (at d : ℕ) (kids : Forest) (rest : List ℕ) : Type 0 where
  pub here : drop at token ≡ (16777216 + count kids) ∷ (flat kids ++ rest)
  pub deep : 0 < d
  pub shape : Shaped d kids
  pub few : size kids ≤ 254

abbrev pub Stood : List ℕ → ℕ → ℕ → Type 0
Stood token at d = (kids : Forest) × ((rest : List ℕ) × Holds token at d kids rest)

-- What a rule has made of it. The level has at most as many tokens as the node has parts and nodes below, or one.
pub record Done (t : Table) (b : Bool) (at d : ℕ) (kids : Forest) (largest : ℕ) (r : Found) : Type 0 where
  pub next : r.at ≡ at + suc (size kids)
  pub shows : Shows t r.level (and_rule t.variables d (seen t b kids))
  pub counts : r.rounds ≡ max largest (rule_count t.variables d (seen t b kids))
  pub small : 1 < size_of r.level → size_of r.level ≤ size kids
