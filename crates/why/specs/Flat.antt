-- A tree whose root is an AND of atoms, or an atom: how its tokens tell that it is one, and that the tokens behind the root's are its atoms in order.
use Rattle.std.specs.Prelude.{◌≡◌, Bool, true, false, not, ◌&&◌, List, [], ◌∷◌, ◌++◌, map, ℕ, zero, suc, ◌+◌, ◌*◌, ◌<◌, ◌≤◌, eqb, length, drop}
use Rattle.std.proofs.Math.Path.{refl, ap}
use Rattle.std.proofs.Common.{sym, ◌∙◌, true≢false, append-nil, arith, lt-ltb, le-ltb}
use Rattle.std.proofs.lemmas.Bool.{false≢true}
use Rattle.std.proofs.Math.Option.{none, some}
use Rattle.rules.specs.Polynomial.{Atom, normal}
use Rattle.rules.specs.Formula.{Parts, end, atom, and, or, Node, leaf, all_of}
use Rattle.rules.specs.Formula.{any_of, each_atom, each_atom_of, in_order, alone, before, children, nodes}
use Rattle.rules.specs.Level.{Placed, placed_at, placed_from, placed_tree, normal_placed}
use Rattle.rules.specs.Block.{NumberedAtom}
use Rattle.rules.specs.Limits.{PartsWithin}
use Rattle.rules.specs.Reasons.{clauses_from, with_first, only_atoms, atoms_of_and}
use Rattle.block.specs.Held as held
use Rattle.places.specs.Places.{is_atom}
use Rattle.level.specs.Tree.{tokens}
use Rattle.answer.specs.Tapes.{token_at, tokens_from, token_tree}

-- ---- The test of the code.

-- Whether tokens are atoms' only.
unfoldable pub all_atoms : List ℕ → Bool
all_atoms [] = true
all_atoms (t ∷ l) = is_atom t && all_atoms l

-- How many tokens stand before those of the children: the root's, unless it is an atom.
unfoldable pub behind_root : ℕ → ℕ
behind_root zero = 0
behind_root (suc kind) = 1

-- Whether a tree with a root of this kind and these tokens is an AND of atoms, or an atom.
unfoldable pub and_of_atoms : ℕ → List ℕ → Bool
and_of_atoms root l = not (eqb root 2) && all_atoms (drop (behind_root root) l)

-- ---- Trees that are.

unfoldable pub Flat : {A : Type 0} → Parts A → Type 0
Flat end = Unit {0}
Flat (atom a rest) = Flat rest
Flat (and kids rest) = ⊥
Flat (or kids rest) = ⊥

unfoldable pub FlatRoot : {A : Type 0} → Node A → Type 0
FlatRoot (leaf a) = Unit {0}
FlatRoot (all_of kids) = Flat kids
FlatRoot (any_of kids) = ⊥

token-low : (m number set : ℕ) → m ≤ 64 → number < m → set < 8 → is_atom (number * 8 + set) ≡ true
token-low m number set most h k = lt-ltb (number * 8 + set) 16777216 (omega arith)

node-high : (count : ℕ) → is_atom (16777216 + count) ≡ false
node-high count = le-ltb (16777216 + count) 16777216 (omega arith)

first-node : (count : ℕ) (l : List ℕ) → all_atoms ((16777216 + count) ∷ l) ≡ false
unfolding all_atoms
first-node count l = rw (node-high count)

module _ {m : ℕ} (most : m ≤ 64) where
  -- The tokens of parts are atoms' only if the parts are,
  flat-parts : (d parent : ℕ) (parts : Parts NumberedAtom) → PartsWithin d m parent parts → all_atoms (held.tokens parts) ≡ true → Flat parts
  unfolding PartsWithin Flat held.tokens all_atoms
  flat-parts d parent end within e = tt
  flat-parts d parent (atom a rest) within e =
      flat-parts d parent rest within.2 (sym (ap (λ (b : Bool). b && all_atoms (held.tokens rest)) (token-low m a.number a.set most
      within.0 within.1)) ∙ e)
  flat-parts d parent (and kids rest) within e = absurd (false≢true (sym (first-node (children kids) (held.tokens kids ++ held.tokens rest)) ∙ e))
  flat-parts d parent (or kids rest) within e = absurd (false≢true (sym (first-node (children kids) (held.tokens kids ++ held.tokens rest)) ∙ e))

  -- else they are no AND of atoms.
  not-flat : (f : NumberedAtom → Atom) (d parent : ℕ) (parts : Parts NumberedAtom) → PartsWithin d m parent parts
      → all_atoms (held.tokens parts) ≡ false
      → only_atoms (each_atom f parts) ≡ none
  unfolding PartsWithin held.tokens all_atoms each_atom only_atoms with_first
  not-flat f d parent end within e = absurd (true≢false e)
  not-flat f d parent (atom a rest) within e =
      ap (with_first (f a)) (not-flat f d parent rest within.2
      (sym (ap (λ (b : Bool). b && all_atoms (held.tokens rest)) (token-low m a.number a.set most within.0 within.1)) ∙ e))
  not-flat f d parent (and kids rest) within e = refl
  not-flat f d parent (or kids rest) within e = refl

  -- The same of a whole tree.
  pub flat-root : (tree : Node NumberedAtom) → PartsWithin 6 m 0 (alone tree) → and_of_atoms (held.kind_of tree) (held.tokens (alone tree)) ≡ true
      → FlatRoot tree
  unfolding and_of_atoms behind_root held.kind_of held.tokens alone before PartsWithin FlatRoot
  flat-root (leaf a) within e = tt
  flat-root (all_of kids) within e = flat-parts 5 1 kids within.2 (sym (ap all_atoms (append-nil (held.tokens kids))) ∙ e)
  flat-root (any_of kids) within e = absurd (false≢true e)

  pub no-root : (f : NumberedAtom → Atom) (tree : Node NumberedAtom) → PartsWithin 6 m 0 (alone tree)
      → and_of_atoms (held.kind_of tree) (held.tokens (alone tree)) ≡ false → atoms_of_and (each_atom_of f tree) ≡ none
  unfolding and_of_atoms behind_root all_atoms held.kind_of held.tokens alone before PartsWithin atoms_of_and each_atom_of
  no-root f (leaf a) within e =
      absurd (true≢false (sym (ap (λ (b : Bool). b && true) (token-low m a.number a.set most within.0 within.1)) ∙ e))
  no-root f (all_of kids) within e = not-flat f 5 1 kids within.2 (sym (ap all_atoms (append-nil (held.tokens kids))) ∙ e)
  no-root f (any_of kids) within e = refl

-- ---- Their atoms.

flat-only : (f : NumberedAtom → Atom) (parts : Parts NumberedAtom) → Flat parts → only_atoms (each_atom f parts) ≡ some (in_order (each_atom f parts))
unfolding Flat only_atoms each_atom in_order with_first
flat-only f end flat = refl
flat-only f (atom a rest) flat = ap (with_first (f a)) (flat-only f rest flat)
flat-only f (and kids rest) flat = absurd flat
flat-only f (or kids rest) flat = absurd flat

pub only-root : (f : NumberedAtom → Atom) (tree : Node NumberedAtom) → FlatRoot tree
    → atoms_of_and (each_atom_of f tree) ≡ some (in_order (alone (each_atom_of f tree)))
unfolding FlatRoot atoms_of_and each_atom_of alone before in_order
only-root f (leaf a) flat = refl
only-root f (all_of kids) flat = flat-only f kids flat ∙ ap some (sym (append-nil (in_order (each_atom f kids))))
only-root f (any_of kids) flat = absurd flat

-- All nodes but the root of an AND are atoms.
flat-count : {A B : Type 0} (f : A → B) (parts : Parts A) → Flat parts → length (in_order (each_atom f parts)) ≡ nodes parts
unfolding Flat each_atom in_order nodes
flat-count f end flat = refl
flat-count f (atom a rest) flat = omega (arith, flat-count f rest flat)
flat-count f (and kids rest) flat = absurd flat
flat-count f (or kids rest) flat = absurd flat

pub root-count : {B : Type 0} (f : NumberedAtom → B) (tree : Node NumberedAtom) → FlatRoot tree
    → length (in_order (alone (each_atom_of f tree))) + behind_root (held.kind_of tree) ≡ nodes (alone tree)
unfolding FlatRoot each_atom_of alone before in_order nodes behind_root held.kind_of
root-count f (leaf a) flat = refl
root-count f (all_of kids) flat = omega (arith, ap length (append-nil (in_order (each_atom f kids))), flat-count f kids flat)
root-count f (any_of kids) flat = absurd flat

-- ---- Their tokens with places are those of the atoms, in order.

flat-tokens : (k : ℕ) (parts : Parts NumberedAtom) → Flat parts → tokens (tokens_from k parts) ≡ in_order (tokens_from k parts)
unfolding Flat tokens_from tokens in_order
flat-tokens k end flat = refl
flat-tokens k (atom a rest) flat = ap (λ (l : List ℕ). token_at k a ∷ l) (flat-tokens (1 + k) rest flat)
flat-tokens k (and kids rest) flat = absurd flat
flat-tokens k (or kids rest) flat = absurd flat

flat-laid : (k : ℕ) (parts : Parts NumberedAtom) → Flat parts → length (tokens (tokens_from k parts)) ≡ nodes parts
unfolding Flat tokens_from tokens nodes
flat-laid k end flat = refl
flat-laid k (atom a rest) flat = omega (arith, flat-laid (1 + k) rest flat)
flat-laid k (and kids rest) flat = absurd flat
flat-laid k (or kids rest) flat = absurd flat

pub root-laid : (tree : Node NumberedAtom) → FlatRoot tree → length (tokens (alone (token_tree tree))) ≡ nodes (alone tree)
unfolding FlatRoot token_tree alone before tokens nodes
root-laid (leaf a) flat = refl
root-laid (all_of kids) flat = omega (arith, ap length (append-nil (tokens (tokens_from 0 kids))), flat-laid 0 kids flat)
root-laid (any_of kids) flat = absurd flat

pub root-tokens : (tree : Node NumberedAtom) → FlatRoot tree
    → drop (behind_root (held.kind_of tree)) (tokens (alone (token_tree tree))) ≡ in_order (alone (token_tree tree))
unfolding FlatRoot token_tree alone before tokens in_order behind_root held.kind_of
root-tokens (leaf a) flat = refl
root-tokens (all_of kids) flat = ap (λ (l : List ℕ). l ++ []) (flat-tokens 0 kids flat)
root-tokens (any_of kids) flat = absurd flat

-- ---- Another kind of atom.

flat-parts-each : {A B : Type 0} (f : A → B) (parts : Parts A) → Flat parts → Flat (each_atom f parts)
unfolding Flat each_atom
flat-parts-each f end flat = tt
flat-parts-each f (atom a rest) flat = flat-parts-each f rest flat
flat-parts-each f (and kids rest) flat = absurd flat
flat-parts-each f (or kids rest) flat = absurd flat

pub flat-each : {A B : Type 0} (f : A → B) (tree : Node A) → FlatRoot tree → FlatRoot (each_atom_of f tree)
unfolding FlatRoot each_atom_of
flat-each f (leaf a) flat = tt
flat-each f (all_of kids) flat = flat-parts-each f kids flat
flat-each f (any_of kids) flat = absurd flat

-- The atoms of tokens with places, and those of a tree at their places.
flat_map : {B : Type 0} (g : ℕ → B) (k : ℕ) (parts : Parts NumberedAtom) → Flat parts → map g (in_order (tokens_from k parts)) ≡ in_order (each_atom g
    (tokens_from k parts))
unfolding Flat tokens_from each_atom in_order
flat_map g k end flat = refl
flat_map g k (atom a rest) flat = ap (λ l. g (token_at k a) ∷ l) (flat_map g (1 + k) rest flat)
flat_map g k (and kids rest) flat = absurd flat
flat_map g k (or kids rest) flat = absurd flat

pub root-map : {B : Type 0} (g : ℕ → B) (tree : Node NumberedAtom) → FlatRoot tree
    → map g (in_order (alone (token_tree tree))) ≡ in_order (alone (each_atom_of g (token_tree tree)))
unfolding FlatRoot token_tree alone before each_atom_of in_order
root-map g (leaf a) flat = refl
root-map g (all_of kids) flat =
    ap (map g) (append-nil (in_order (tokens_from 0 kids))) ∙ flat_map g 0 kids flat ∙ sym (append-nil (in_order (each_atom g (tokens_from 0 kids))))
root-map g (any_of kids) flat = absurd flat

flat-clauses : (f : NumberedAtom → Atom) (k : ℕ) (parts : Parts NumberedAtom) → Flat parts
    → in_order (placed_from k (each_atom (λ a. normal (f a)) parts)) ≡ clauses_from k (in_order (each_atom f parts))
unfolding Flat each_atom placed_from in_order clauses_from normal_placed
flat-clauses f k end flat = refl
flat-clauses f k (atom a rest) flat =
    let next : 1 + k ≡ suc k = omega arith in
    ap (λ (l : List Placed). placed_at k (normal (f a)) ∷ l) (flat-clauses f (1 + k) rest flat
    ∙ ap (λ (j : ℕ). clauses_from j (in_order (each_atom f rest))) next)
flat-clauses f k (and kids rest) flat = absurd flat
flat-clauses f k (or kids rest) flat = absurd flat

pub root-clauses : (f : NumberedAtom → Atom) (tree : Node NumberedAtom) → FlatRoot tree
    → in_order (alone (placed_tree (each_atom_of (λ a. normal (f a)) tree))) ≡ clauses_from 0 (in_order (alone (each_atom_of f tree)))
unfolding FlatRoot each_atom_of placed_tree alone before in_order clauses_from normal_placed
root-clauses f (leaf a) flat = refl
root-clauses f (all_of kids) flat =
    append-nil (in_order (placed_from 0 (each_atom (λ a. normal (f a)) kids))) ∙ flat-clauses f 0 kids flat
    ∙ ap (clauses_from 0) (sym (append-nil (in_order (each_atom f kids))))
root-clauses f (any_of kids) flat = absurd flat
