-- From the limits of a block to its formula, and back: a tree within the limits is one whose atoms are as given and whose ANDs and ORs alternate;
-- such a formula, its atoms numbered by a table that lists them all, is again a tree within the limits.
use Rattle.std.specs.Prelude.{◌≡◌, ℕ, zero, suc, ◌+◌, ◌-◌, ◌<◌, length}
use Rattle.std.proofs.Math.Path.{refl, sym, ap}
use Rattle.std.proofs.Common.{ap₂, ◌∙◌, subst, length-append, drop-drop, drop_at}
use mathlib.Core.List.{List, [], ◌∷◌, ◌++◌, map, append_assoc}
use mathlib.Core.List.Memᴰ.{map as member-mapped}
use mathlib.Core.List.Memᴰ.{of_map as member-of-map}
use mathlib.Core.List.{Memᴰ as Member}
use native.Mathlib.Omega.{arith}
use Rattle.std.proofs.Math.ListN.{drop}
use Rattle.rules.specs.Polynomial.{Polynomial, Atom}
use Rattle.rules.specs.Formula.{Parts, end, atom, and, or, Node, leaf, all_of, any_of, alone, each_atom, each_atom_of, in_order, atoms, open_formula}
use Rattle.rules.specs.Level.{Placed, placed_at, placed_from, placed_tree}
use Rattle.rules.specs.Block.{NumberedAtom}
use Rattle.rules.specs.Limits.{PartsWithin}
use Rattle.rules.specs.Answer.{looked_up, numbered}
use Rattle.sign_laws.specs.Lists.{loaded-member}
use Rattle.rules.specs.Polynomial.{normal_form}
use Rattle.length_laws.specs.Alternation.{Join, AND, OR, other, Alternates, no_parts, an_atom, an_and, an_or, TreeAlternates, one_atom, one_and, one_or}
use Rattle.length_laws.specs.Formed.{Given, Formed}
use Rattle.length_laws.specs.Table.{Listed, number-within}

-- The normal forms of a table's polynomials.
abbrev pub forms_of : List Polynomial → List Polynomial
forms_of table = map normal_form table

-- A parent's kind, as the limits give it.
abbrev pub kind_of : Join → ℕ
kind_of AND = 1
kind_of OR = 2

one-less : (d : ℕ) → suc d - 1 ≡ d
one-less d = omega arith

-- ---- From the limits to the formula.

looked-given : (table : List Polynomial) (a : NumberedAtom) → a.number < length table → a.set < 8 → Given (forms_of table) (looked_up table a)
unfolding looked_up
looked-given table a h k = record { small = record { bits = k }; form = λ e. member-mapped normal_form (loaded-member table a.number [] h) }

parts-given : (table : List Polynomial) (join : Join) (d : ℕ) (f : Parts NumberedAtom) → PartsWithin d (length table) (kind_of join) f
    → Alternates (Given (forms_of table)) join d (each_atom (looked_up table) f)
unfolding PartsWithin each_atom
parts-given table join d end h = no_parts
parts-given table join d (atom a rest) h = an_atom (looked-given table a h.0 h.1) (parts-given table join d rest h.2)
parts-given table AND d (and kids rest) h = absurd (h.0 refl)
parts-given table OR zero (and kids rest) h = let none_left : 0 < 0 = h.1 in absurd (omega arith)
parts-given table OR (suc d) (and kids rest) h = an_and (parts-given table AND d kids (rw (one-less d) at h.2)) (parts-given table OR (suc d) rest h.3)
parts-given table AND zero (or kids rest) h = let none_left : 0 < 0 = h.1 in absurd (omega arith)
parts-given table AND (suc d) (or kids rest) h = an_or (parts-given table OR d kids (rw (one-less d) at h.2)) (parts-given table AND (suc d) rest h.3)
parts-given table OR d (or kids rest) h = absurd (h.0 refl)

-- The formula of a tree within the limits has atoms as a block gives them, and its ANDs and ORs alternate.
pub tree-given : (table : List Polynomial) (tree : Node NumberedAtom) → PartsWithin 6 (length table) 0 (alone tree)
    → TreeAlternates (Given (forms_of table)) 5 (each_atom_of (looked_up table) tree)
unfolding PartsWithin open_formula
tree-given table (leaf a) h = one_atom (looked-given table a h.0 h.1)
tree-given table (all_of kids) h = one_and (parts-given table AND 5 kids h.2)
tree-given table (any_of kids) h = one_or (parts-given table OR 5 kids h.2)

-- ---- The places of the formula's atoms: what is so of each atom, and of where it stands among all, is so of it at its place.

pub in-order-many : {A : Type 0} (f : Parts A) → length (in_order f) ≡ atoms f
unfolding in_order atoms
in-order-many end = refl
in-order-many (atom a rest) = omega (arith, in-order-many rest)
in-order-many (and kids rest) = length-append (in_order kids) (in_order rest) ∙ ap₂ (λ (j k : ℕ). j + k) (in-order-many kids) (in-order-many rest)
in-order-many (or kids rest) = length-append (in_order kids) (in_order rest) ∙ ap₂ (λ (j k : ℕ). j + k) (in-order-many kids) (in-order-many rest)

behind : (all : List Atom) (k : ℕ) (kids rest : Parts Atom) (l : List Atom) → drop k all ≡ (in_order kids ++ in_order rest) ++ l
    → drop (k + atoms kids) all ≡ in_order rest ++ l
behind all k kids rest l e =
    sym (drop-drop (atoms kids) k all) ∙ ap (drop (atoms kids)) (e ∙ append_assoc (in_order kids) (in_order rest) l)
    ∙ drop_at (in_order kids) (in_order rest ++ l) (atoms kids) (in-order-many kids)

module _ {P : Atom → Type 0} {Q : Placed → Type 0} where
  parts-placed : (all : List Atom) → ((k : ℕ) (a : Atom) (l : List Atom) → drop k all ≡ a ∷ l → P a → Q (placed_at k a))
      → (k : ℕ) (l : List Atom) {join : Join} {d : ℕ} {f : Parts Atom} → drop k all ≡ in_order f ++ l → Alternates P join d f → Alternates Q join d (placed_from k f)
  unfolding placed_from in_order
  parts-placed all h k l e no_parts = no_parts
  parts-placed all h k l e (an_atom {a = a} {rest = rest} g hs) =
      an_atom (h k a (in_order rest ++ l) e g)
      (parts-placed all h (1 + k) l (ap (λ (j : ℕ). drop j all) (one-more k) ∙ sym (drop-drop 1 k all) ∙ ap (drop 1) e) hs)
    where
      one-more : (k : ℕ) → 1 + k ≡ k + 1
      one-more k = omega arith
  parts-placed all h k l e (an_and {kids = kids} {rest = rest} g hs) =
      an_and (parts-placed all h k (in_order rest ++ l) (e ∙ append_assoc (in_order kids) (in_order rest) l) g)
      (parts-placed all h (k + atoms kids) l (behind all k kids rest l e) hs)
  parts-placed all h k l e (an_or {kids = kids} {rest = rest} g hs) =
      an_or (parts-placed all h k (in_order rest ++ l) (e ∙ append_assoc (in_order kids) (in_order rest) l) g)
      (parts-placed all h (k + atoms kids) l (behind all k kids rest l e) hs)

  -- The same of a whole tree.
  pub tree_placed : {d : ℕ} {tree : Node Atom} → ((k : ℕ) (a : Atom) (l : List Atom) → drop k (in_order (alone tree)) ≡ a ∷ l → P a → Q (placed_at k a))
      → TreeAlternates P d tree → TreeAlternates Q d (placed_tree tree)
  unfolding placed_tree open_formula
  tree_placed h (one_atom {a} k) = one_atom (h 0 a [] refl k)
  tree_placed h (one_and {kids} k) = one_and (parts-placed (in_order kids ++ []) h 0 [] refl k)
  tree_placed h (one_or {kids} k) = one_or (parts-placed (in_order kids ++ []) h 0 [] refl k)

-- ---- From the formula to the limits.

one_deeper : (table : List Polynomial) (parent d : ℕ) (kids : Parts Atom) → PartsWithin d (length table) parent (each_atom (numbered table) kids)
    → PartsWithin (suc d - 1) (length table) parent (each_atom (numbered table) kids)
one_deeper table parent d kids h = subst (λ (k : ℕ). PartsWithin k (length table) parent (each_atom (numbered table) kids)) (sym (one-less d)) h

-- Parts that alternate, and whose polynomials the table knows, are within the limits when they are numbered.
pub parts-numbered : {forms : List Polynomial} (table : List Polynomial) {join : Join} {d : ℕ} {f : Parts Atom} (parent : ℕ) → (parent ≡ kind_of (other join) → ⊥)
    → Alternates (Listed (Formed forms) table) join d f → PartsWithin d (length table) parent (each_atom (numbered table) f)
unfolding PartsWithin each_atom numbered
parts-numbered table parent apart no_parts = tt
parts-numbered table parent apart (an_atom {a = a} h rest) = (number-within table a.polynomial h.known, h.own.small.bits, parts-numbered table parent apart rest)
parts-numbered table parent apart (an_and {d} {kids} h rest) =
    (apart, omega arith, one_deeper table 1 d kids (parts-numbered table 1 (λ e. absurd (omega arith)) h), parts-numbered table parent apart rest)
parts-numbered table parent apart (an_or {d} {kids} h rest) =
    (apart, omega arith, one_deeper table 2 d kids (parts-numbered table 2 (λ e. absurd (omega arith)) h), parts-numbered table parent apart rest)
