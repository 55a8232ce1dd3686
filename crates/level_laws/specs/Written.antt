-- The block that an answer is written as holds the simplified formula: each atom's polynomial is in the table of the used ones,
-- and its number there leads back to it.
use Rattle.std.specs.Prelude.{◌≡◌, Bool, false, ◌||◌, ℕ, suc, ◌+◌, get_or}
use Rattle.std.proofs.Math.Path.{refl, ap, ap₂}
use Rattle.std.proofs.Common.{sym, ◌∙◌}
use Rattle.std.proofs.Math.Bool.{true}
use Rattle.std.proofs.lemmas.Bool.{false≢true}
use mathlib.Core.List.{List, [], ◌∷◌, ◌++◌}
use Rattle.rules.specs.Signs.{Sign, SignSet}
use Rattle.rules.specs.Polynomial.{Polynomial, Atom, same}
use Rattle.rules.specs.Formula.{Parts, end, atom, and, or, Node, leaf, all_of, any_of, each_atom, each_atom_of, before, alone, atoms}
use Rattle.rules.specs.Level.{Placed, plain, placed_from, placed_tree}
use Rattle.rules.specs.Block.{Block}
use Rattle.rules.specs.Meaning.{holds}
use Rattle.rules.specs.Answer.{looked_up, formula_of, knows, added_unless, used, here_or, number_in, numbered, block_of, simplified, new_block}
use Rattle.sign_laws.specs.Booleans.{or-first, or-second, or_cases}
use Rattle.level_laws.specs.Same.{same-equal, same-itself}
use Rattle.level_laws.specs.Respects.{Respects}
use Rattle.level_laws.specs.Rules.{simplify-keeps}

-- ---- The table.

-- A polynomial that a table knows is found by its number.
number-found : (table : List Polynomial) (p : Polynomial) → knows table p ≡ true → get_or table (number_in table p) [] ≡ p
unfolding knows number_in here_or
number-found [] p e = absurd (false≢true e)
number-found (q ∷ qs) p e = by-test (same p q) refl e (number-found qs p)
  where
    by-test : (b : Bool) → same p q ≡ b → b || knows qs p ≡ true → (knows qs p ≡ true → get_or qs (number_in qs p) [] ≡ p)
        → get_or (q ∷ qs) (here_or b (suc (number_in qs p))) [] ≡ p
    by-test true w e later = sym (same-equal p q w)
    by-test false w e later = later e

-- What a table knows, a longer one knows.
knows-longer : (table more : List Polynomial) (p : Polynomial) → knows table p ≡ true → knows (table ++ more) p ≡ true
unfolding knows
knows-longer [] more p e = absurd (false≢true e)
knows-longer (q ∷ qs) more p e = or_cases (same p q) (knows qs p) e (or-first (knows (qs ++ more) p)) (λ h. or-second (same p q) (knows-longer qs more p h))

-- And a table knows its last polynomial.
knows-last : (table : List Polynomial) (p : Polynomial) → knows (table ++ (p ∷ [])) p ≡ true
unfolding knows
knows-last [] p = or-first false (same-itself p)
knows-last (q ∷ qs) p = or-second (same p q) (knows-last qs p)

-- What a table knows, it knows when a polynomial has been added unless known.
added-keeps : (b : Bool) (table : List Polynomial) (q p : Polynomial) → knows table p ≡ true → knows (added_unless b q table) p ≡ true
unfolding added_unless
added-keeps true table q p e = e
added-keeps false table q p e = knows-longer table (q ∷ []) p e

-- And it knows that polynomial.
pub added-knows : (b : Bool) (table : List Polynomial) (p : Polynomial) → knows table p ≡ b → knows (added_unless b p table) p ≡ true
unfolding added_unless
added-knows true table p e = e
added-knows false table p e = knows-last table p

-- What a table knows, it knows when the parts have been walked.
pub used-keeps : (table : List Polynomial) (kids : Parts Atom) (p : Polynomial) → knows table p ≡ true → knows (used table kids) p ≡ true
unfolding used
used-keeps table end p e = e
used-keeps table (atom a rest) p e = used-keeps (added_unless (knows table a.polynomial) a.polynomial table) rest p
    (added-keeps (knows table a.polynomial) table a.polynomial p e)
used-keeps table (and kids rest) p e = used-keeps (used table kids) rest p (used-keeps table kids p e)
used-keeps table (or kids rest) p e = used-keeps (used table kids) rest p (used-keeps table kids p e)

-- ---- The tree.

abbrev atom_of : SignSet → Polynomial → Atom
atom_of set p = record { polynomial = p; set = set }

module _ (table : List Polynomial) where
  -- An atom whose polynomial the table knows is looked up again as it was.
  atom-looked-up : (a : Atom) → knows table a.polynomial ≡ true → looked_up table (numbered table a) ≡ a
  unfolding looked_up numbered
  atom-looked-up a e = ap (atom_of a.set) (number-found table a.polynomial e)

  -- A table that knows all that the parts use, beside what was used before them, gives the parts back.
  parts-looked-up : (sofar : List Polynomial) (kids : Parts Atom) → ((p : Polynomial) → knows (used sofar kids) p ≡ true → knows table p ≡ true)
      → each_atom (looked_up table) (each_atom (numbered table) kids) ≡ kids
  unfolding each_atom used
  parts-looked-up sofar end h = refl
  parts-looked-up sofar (atom a rest) h =
      let after : List Polynomial = added_unless (knows sofar a.polynomial) a.polynomial sofar in
      let known : knows after a.polynomial ≡ true = added-knows (knows sofar a.polynomial) sofar a.polynomial refl in
      ap₂ atom (atom-looked-up a (h a.polynomial (used-keeps after rest a.polynomial known))) (parts-looked-up after rest h)
  parts-looked-up sofar (and kids rest) h =
      ap₂ and (parts-looked-up sofar kids (λ p e. h p (used-keeps (used sofar kids) rest p e))) (parts-looked-up (used sofar kids) rest h)
  parts-looked-up sofar (or kids rest) h =
      ap₂ or (parts-looked-up sofar kids (λ p e. h p (used-keeps (used sofar kids) rest p e))) (parts-looked-up (used sofar kids) rest h)

-- The block of a tree holds the tree.
pub looked-up : (n : ℕ) (tree : Node Atom) → formula_of (block_of n tree) ≡ tree
unfolding formula_of block_of each_atom_of alone before used
looked-up n (leaf a) = ap leaf (atom-looked-up (used [] (atom a end)) a (added-knows (knows [] a.polynomial) [] a.polynomial refl))
looked-up n (all_of kids) = ap all_of (parts-looked-up (used [] kids) [] kids (λ p e. e))
looked-up n (any_of kids) = ap any_of (parts-looked-up (used [] kids) [] kids (λ p e. e))

-- The new block of an answer holds the simplified formula.
pub new-formula : (given : Block) → formula_of (new_block given) ≡ each_atom_of plain (simplified given)
unfolding new_block
new-formula given = looked-up given.variables (each_atom_of plain (simplified given))

-- Atoms with their places are the atoms.
placed_from-plain : (k : ℕ) (kids : Parts Atom) → each_atom plain (placed_from k kids) ≡ kids
unfolding each_atom placed_from
placed_from-plain k end = refl
placed_from-plain k (atom a rest) = ap (atom a) (placed_from-plain (1 + k) rest)
placed_from-plain k (and kids rest) = ap₂ and (placed_from-plain k kids) (placed_from-plain (k + atoms kids) rest)
placed_from-plain k (or kids rest) = ap₂ or (placed_from-plain k kids) (placed_from-plain (k + atoms kids) rest)

pub placed_tree-plain : (tree : Node Atom) → each_atom_of plain (placed_tree tree) ≡ tree
unfolding each_atom_of placed_tree
placed_tree-plain (leaf a) = refl
placed_tree-plain (all_of kids) = ap all_of (placed_from-plain 0 kids)
placed_tree-plain (any_of kids) = ap any_of (placed_from-plain 0 kids)

-- So the new block is true exactly when the given block is.
pub new_block-keeps : (given : Block) {sign : Polynomial → Sign} → Respects sign given.variables
    → holds sign (formula_of (new_block given)) ≡ holds sign (formula_of given)
unfolding simplified
new_block-keeps given {sign} ok =
    ap (holds sign) (new-formula given) ∙ simplify-keeps ok (placed_tree (formula_of given)) ∙ ap (holds sign) (placed_tree-plain (formula_of given))
