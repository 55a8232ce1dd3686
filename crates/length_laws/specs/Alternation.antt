-- 01, "The block": "No AND stands directly under AND, no OR under OR", and a nesting that is bounded. `Alternates P join d f` says this of the parts f
-- of an AND or an OR, with d nestings left below it, and that each atom has the property P.
use Rattle.std.specs.Prelude.{List, ℕ, suc}
use Rattle.rules.specs.Formula.{Parts, end, atom, and, or, Node, leaf, all_of, any_of, each_atom, each_atom_of, alone, open_formula}
use Rattle.rules.specs.Level.{Placed, Formula, complemented, dual, dual_node, atoms_of, ors_of, or_parts, parts}
use Rattle.sign_laws.specs.Lists.{Every, every_none, every}

-- The two kinds of inner node.
pub data Join : Type 0 where
  AND OR : Join

-- The other of the two.
abbrev pub other : Join → Join
other AND = OR
other OR = AND

-- The parts of a node of this kind, with d nestings left below it.
pub data Alternates {A : Type 0} (P : A → Type 0) : Join → ℕ → Parts A → Type 0 where
  no_parts : {join : Join} {d : ℕ} → Alternates P join d end
  an_atom : {join : Join} {d : ℕ} {a : A} {rest : Parts A} → P a → Alternates P join d rest → Alternates P join d (atom a rest)
  an_and : {d : ℕ} {kids rest : Parts A} → Alternates P AND d kids → Alternates P OR (suc d) rest → Alternates P OR (suc d) (and kids rest)
  an_or : {d : ℕ} {kids rest : Parts A} → Alternates P OR d kids → Alternates P AND (suc d) rest → Alternates P AND (suc d) (or kids rest)

module _ {A : Type 0} {P : A → Type 0} where
  -- One more nesting may be left.
  pub deeper : {join : Join} {d : ℕ} {f : Parts A} → Alternates P join d f → Alternates P join (suc d) f
  deeper no_parts = no_parts
  deeper (an_atom h rest) = an_atom h (deeper rest)
  deeper (an_and kids rest) = an_and (deeper kids) (deeper rest)
  deeper (an_or kids rest) = an_or (deeper kids) (deeper rest)

  -- The atoms may have a wider property, and be other ones at the same places.
  pub alternates-each : {B : Type 0} {Q : B → Type 0} (g : A → B) → ((a : A) → P a → Q (g a)) → {join : Join} {d : ℕ} {f : Parts A} → Alternates P join d f
      → Alternates Q join d (each_atom g f)
  unfolding each_atom
  alternates-each g h no_parts = no_parts
  alternates-each g h (an_atom {a = a} k rest) = an_atom (h a k) (alternates-each g h rest)
  alternates-each g h (an_and kids rest) = an_and (alternates-each g h kids) (alternates-each g h rest)
  alternates-each g h (an_or kids rest) = an_or (alternates-each g h kids) (alternates-each g h rest)

  pub alternates-wider : {Q : A → Type 0} → ((a : A) → P a → Q a) → {join : Join} {d : ℕ} {f : Parts A} → Alternates P join d f → Alternates Q join d f
  alternates-wider h no_parts = no_parts
  alternates-wider h (an_atom {a = a} k rest) = an_atom (h a k) (alternates-wider h rest)
  alternates-wider h (an_and kids rest) = an_and (alternates-wider h kids) (alternates-wider h rest)
  alternates-wider h (an_or kids rest) = an_or (alternates-wider h kids) (alternates-wider h rest)

  -- And what is known of other ones at the same places may be used for the atoms.
  pub alternates-beside : {B : Type 0} {Q : B → Type 0} {R : A → Type 0} (g : A → B) → ((a : A) → P a → Q (g a) → R a)
      → {join : Join} {d : ℕ} {f : Parts A} → Alternates P join d f → Alternates Q join d (each_atom g f) → Alternates R join d f
  unfolding each_atom
  alternates-beside g h no_parts no_parts = no_parts
  alternates-beside g h (an_atom {a = a} k rest) (an_atom l others) = an_atom (h a k l) (alternates-beside g h rest others)
  alternates-beside g h (an_and kids rest) (an_and ones others) = an_and (alternates-beside g h kids ones) (alternates-beside g h rest others)
  alternates-beside g h (an_or kids rest) (an_or ones others) = an_or (alternates-beside g h kids ones) (alternates-beside g h rest others)

module _ {P : Placed → Type 0} where
  -- After complement and exchange the parts alternate as those of the other kind.
  pub alternates-dual : ((a : Placed) → P a → P (complemented a)) → {join : Join} {d : ℕ} {f : Formula} → Alternates P join d f → Alternates P (other join) d (dual f)
  unfolding dual
  alternates-dual h no_parts = no_parts
  alternates-dual h (an_atom {a = a} k rest) = an_atom (h a k) (alternates-dual h rest)
  alternates-dual h (an_and kids rest) = an_or (alternates-dual h kids) (alternates-dual h rest)
  alternates-dual h (an_or kids rest) = an_and (alternates-dual h kids) (alternates-dual h rest)

-- ---- The OR children of an AND with d nestings left.

-- The parts of such a child: it takes one nesting.
pub data Child (P : Placed → Type 0) : ℕ → Formula → Type 0 where
  child : {d : ℕ} {f : Formula} → Alternates P OR d f → Child P (suc d) f

module _ {P : Placed → Type 0} where
  -- One more nesting may be left.
  pub child-deeper : {d : ℕ} {f : Formula} → Child P d f → Child P (suc d) f
  child-deeper (child h) = child (deeper h)

  -- Each direct atom that step 1 takes has the property.
  pub direct-atoms : {d : ℕ} {f : Formula} → Alternates P AND d f → Every P (atoms_of f)
  unfolding atoms_of
  direct-atoms no_parts = every_none
  direct-atoms (an_atom h rest) = every h (direct-atoms rest)
  direct-atoms (an_or kids rest) = direct-atoms rest

  -- And each OR child that it takes alternates, one nesting lower.
  pub or-children : {d : ℕ} {f : Formula} → Alternates P AND d f → Every (Child P d) (ors_of f)
  unfolding ors_of
  or-children no_parts = every_none
  or-children (an_atom h rest) = or-children rest
  or-children (an_or kids rest) = every (child kids) (or-children rest)

  alternates-ors : {d : ℕ} {ors : List Formula} → Every (Child P d) ors → Alternates P AND d (or_parts ors)
  unfolding or_parts
  alternates-ors every_none = no_parts
  alternates-ors (every (child h) later) = an_or h (alternates-ors later)

  -- The parts that step 6 puts together of such atoms and children alternate.
  pub alternates-parts : {d : ℕ} {l : List Placed} {ors : List Formula} → Every P l → Every (Child P d) ors → Alternates P AND d (parts l ors)
  unfolding parts
  alternates-parts every_none k = alternates-ors k
  alternates-parts (every h hs) k = an_atom h (alternates-parts hs k)

-- ---- A whole tree: an atom, or an AND or OR with d nestings left below it.

-- Its root is an atom, an AND or an OR.
pub data TreeAlternates {A : Type 0} (P : A → Type 0) (d : ℕ) : Node A → Type 0 where
  one_atom : {a : A} → P a → TreeAlternates P d (leaf a)
  one_and : {kids : Parts A} → Alternates P AND d kids → TreeAlternates P d (all_of kids)
  one_or : {kids : Parts A} → Alternates P OR d kids → TreeAlternates P d (any_of kids)

module _ {P : Placed → Type 0} where
  -- After complement and exchange the tree alternates still.
  pub tree-dual : ((a : Placed) → P a → P (complemented a)) → {d : ℕ} {tree : Node Placed} → TreeAlternates P d tree → TreeAlternates P d (dual_node tree)
  unfolding dual_node
  tree-dual h (one_atom {a} k) = one_atom (h a k)
  tree-dual h (one_and kids) = one_or (alternates-dual h kids)
  tree-dual h (one_or kids) = one_and (alternates-dual h kids)

module _ {A : Type 0} {P : A → Type 0} where
  -- The atoms may be other ones at the same places.
  pub tree-each : {B : Type 0} {Q : B → Type 0} (g : A → B) → ((a : A) → P a → Q (g a)) → {d : ℕ} {tree : Node A} → TreeAlternates P d tree
      → TreeAlternates Q d (each_atom_of g tree)
  unfolding each_atom_of
  tree-each g h (one_atom {a} k) = one_atom (h a k)
  tree-each g h (one_and kids) = one_and (alternates-each g h kids)
  tree-each g h (one_or kids) = one_or (alternates-each g h kids)

  -- As the only part, it alternates in one nesting more.
  pub tree-alone : {X : Type 0} {d : ℕ} {tree : Node A} → TreeAlternates P d tree → ((join : Join) → Alternates P join (suc d) (alone tree) → X) → X
  unfolding open_formula
  tree-alone (one_atom h) found = found AND (an_atom h no_parts)
  tree-alone (one_and kids) found = found OR (an_and kids no_parts)
  tree-alone (one_or kids) found = found AND (an_or kids no_parts)
