-- The tokens of a tree by the table that it uses: a longer table leaves them as they are, so they can be stored node by node.
use mathlib.Core.Bool.{Bool, true, false, ◌||◌, false≢true}
use mathlib.Core.List.{List, [], ◌∷◌, ◌++◌, append-nil}
use mathlib.Core.Path.{◌≡◌, refl, sym, ap, ap₂, ◌∙◌}
use Prim.Native.Nat.{ℕ, suc, ◌+◌, ◌*◌, ◌<◌}
use native.Mathlib.Omega.{arith}
use lib.ListN.{length, set}
use lib.Seq.{sets, set_comm}
use Rattle.rules.specs.Polynomial.{Polynomial, Atom, same}
use Rattle.rules.specs.Formula.{Parts, end, atom, and, or, Node, leaf, all_of, any_of, before, alone, each_atom, each_atom_of, children, nodes}
use Rattle.rules.specs.Answer.{knows, added_unless, used, here_or, number_in, numbered}
use Rattle.level_laws.specs.Written.{added-knows, used-keeps}
use Rattle.block.specs.Held.{tokens}
use Rattle.block.specs.Tokens.{length-tokens}
use Rattle.script_back.specs.Tree.{node_tokens, parts_tokens}

-- ---- numbers in a longer table

number-longer : (table more : List Polynomial) (p : Polynomial) → knows table p ≡ true → number_in (table ++ more) p ≡ number_in table p
unfolding knows number_in here_or
number-longer [] more p e = absurd (false≢true e)
number-longer (q ∷ qs) more p e = by-test (same p q) e (number-longer qs more p)
  where
    by-test : (b : Bool) → b || knows qs p ≡ true → (knows qs p ≡ true → number_in (qs ++ more) p ≡ number_in qs p)
        → here_or b (suc (number_in (qs ++ more) p)) ≡ here_or b (suc (number_in qs p))
    by-test true w later = refl
    by-test false w later = ap (λ (i : ℕ). here_or false (suc i)) (later w)

number-added : (b : Bool) (table : List Polynomial) (q p : Polynomial) → knows table p ≡ true → number_in (added_unless b q table) p ≡ number_in table p
unfolding added_unless
number-added true table q p e = refl
number-added false table q p e = number-longer table (q ∷ []) p e

number-used : (more : Parts Atom) (table : List Polynomial) (p : Polynomial) → knows table p ≡ true → number_in (used table more) p ≡ number_in table p
unfolding used
number-used end table p e = refl
number-used (atom a rest) table p e =
    number-used rest (added_unless (knows table a.polynomial) a.polynomial table) p (used-keeps table (atom a end) p e)
    ∙ number-added (knows table a.polynomial) table a.polynomial p e
number-used (and kids rest) table p e = number-used rest (used table kids) p (used-keeps table kids p e) ∙ number-used kids table p e
number-used (or kids rest) table p e = number-used rest (used table kids) p (used-keeps table kids p e) ∙ number-used kids table p e

-- ---- tokens by a longer table

-- The table knows the polynomial of each atom.
unfoldable AllKnown : List Polynomial → Parts Atom → Type 0
AllKnown table end = Unit {0}
AllKnown table (atom a rest) = (knows table a.polynomial ≡ true) × AllKnown table rest
AllKnown table (and kids rest) = AllKnown table kids × AllKnown table rest
AllKnown table (or kids rest) = AllKnown table kids × AllKnown table rest

all-longer : (parts : Parts Atom) (table : List Polynomial) (more : Parts Atom) → AllKnown table parts → AllKnown (used table more) parts
unfolding AllKnown
all-longer end table more h = tt
all-longer (atom a rest) table more h = (used-keeps table more a.polynomial h.0, all-longer rest table more h.1)
all-longer (and kids rest) table more h = (all-longer kids table more h.0, all-longer rest table more h.1)
all-longer (or kids rest) table more h = (all-longer kids table more h.0, all-longer rest table more h.1)

all-used : (parts : Parts Atom) (table : List Polynomial) → AllKnown (used table parts) parts
unfolding AllKnown used
all-used end table = tt
all-used (atom a rest) table =
    let p = a.polynomial in
    let added = added_unless (knows table p) p table in
    (used-keeps added rest p (added-knows (knows table p) table p refl), all-used rest added)
all-used (and kids rest) table = (all-longer kids (used table kids) rest (all-used kids table), all-used rest (used table kids))
all-used (or kids rest) table = (all-longer kids (used table kids) rest (all-used kids table), all-used rest (used table kids))

pub each-children : {A B : Type 0} (f : A → B) (parts : Parts A) → children (each_atom f parts) ≡ children parts
unfolding children each_atom
each-children f end = refl
each-children f (atom a rest) = ap (λ (i : ℕ). 1 + i) (each-children f rest)
each-children f (and kids rest) = ap (λ (i : ℕ). 1 + i) (each-children f rest)
each-children f (or kids rest) = ap (λ (i : ℕ). 1 + i) (each-children f rest)

pub each-nodes : {A B : Type 0} (f : A → B) (parts : Parts A) → nodes (each_atom f parts) ≡ nodes parts
unfolding nodes each_atom
each-nodes f end = refl
each-nodes f (atom a rest) = ap (λ (i : ℕ). 1 + i) (each-nodes f rest)
each-nodes f (and kids rest) = ap₂ (λ (i j : ℕ). 1 + i + j) (each-nodes f kids) (each-nodes f rest)
each-nodes f (or kids rest) = ap₂ (λ (i j : ℕ). 1 + i + j) (each-nodes f kids) (each-nodes f rest)

tokens-longer : (parts : Parts Atom) (table : List Polynomial) (more : Parts Atom) → AllKnown table parts → parts_tokens (used table more) parts ≡ parts_tokens table parts
unfolding AllKnown tokens each_atom numbered
tokens-longer end table more h = refl
tokens-longer (atom a rest) table more h =
    ap₂ (λ (i : ℕ) (l : List ℕ). (i * 8 + a.set) ∷ l) (number-used more table a.polynomial h.0) (tokens-longer rest table more h.1)
tokens-longer (and kids rest) table more h = joins kids rest
    (each-children (numbered (used table more)) kids ∙ sym (each-children (numbered table) kids)) (tokens-longer kids table more h.0) (tokens-longer rest table more h.1)
  where
    joins : (kids rest : Parts Atom) → children (each_atom (numbered (used table more)) kids) ≡ children (each_atom (numbered table) kids)
        → parts_tokens (used table more) kids ≡ parts_tokens table kids → parts_tokens (used table more) rest ≡ parts_tokens table rest
        → (16777216 + children (each_atom (numbered (used table more)) kids)) ∷ (parts_tokens (used table more) kids ++ parts_tokens (used table more) rest)
        ≡ (16777216 + children (each_atom (numbered table) kids)) ∷ (parts_tokens table kids ++ parts_tokens table rest)
    joins kids rest e f g = rw (e, f, g)
tokens-longer (or kids rest) table more h = joins kids rest
    (each-children (numbered (used table more)) kids ∙ sym (each-children (numbered table) kids)) (tokens-longer kids table more h.0) (tokens-longer rest table more h.1)
  where
    joins : (kids rest : Parts Atom) → children (each_atom (numbered (used table more)) kids) ≡ children (each_atom (numbered table) kids)
        → parts_tokens (used table more) kids ≡ parts_tokens table kids → parts_tokens (used table more) rest ≡ parts_tokens table rest
        → (16777216 + children (each_atom (numbered (used table more)) kids)) ∷ (parts_tokens (used table more) kids ++ parts_tokens (used table more) rest)
        ≡ (16777216 + children (each_atom (numbered table) kids)) ∷ (parts_tokens table kids ++ parts_tokens table rest)
    joins kids rest e f g = rw (e, f, g)

-- ---- a node before others

node-alone : (table : List Polynomial) (node : Node Atom) → node_tokens table node ≡ parts_tokens table (alone node)
unfolding tokens alone before each_atom each_atom_of
node-alone table (leaf a) = refl
node-alone table (all_of kids) = refl
node-alone table (any_of kids) = refl

parts-before : (table : List Polynomial) (node : Node Atom) (rest : Parts Atom) → parts_tokens table (before node rest) ≡ node_tokens table node ++ parts_tokens table rest
unfolding tokens alone before each_atom each_atom_of
parts-before table (leaf a) rest = refl
parts-before table (all_of kids) rest = rw (append-nil (parts_tokens table kids))
parts-before table (any_of kids) rest = rw (append-nil (parts_tokens table kids))

pub used-before : (table : List Polynomial) (node : Node Atom) (rest : Parts Atom) → used table (before node rest) ≡ used (used table (alone node)) rest
unfolding used alone before
used-before table (leaf a) rest = refl
used-before table (all_of kids) rest = refl
used-before table (any_of kids) rest = refl

pub nodes-before : (node : Node Atom) (rest : Parts Atom) → nodes (before node rest) ≡ nodes (alone node) + nodes rest
unfolding nodes alone before
nodes-before (leaf a) rest = omega arith
nodes-before (all_of kids) rest = omega arith
nodes-before (any_of kids) rest = omega arith

pub children-before : (node : Node Atom) (rest : Parts Atom) → children (before node rest) ≡ children rest + 1
unfolding children before
children-before (leaf a) rest = omega arith
children-before (all_of kids) rest = omega arith
children-before (any_of kids) rest = omega arith

pub some_nodes : (node : Node Atom) → 0 < nodes (alone node)
unfolding nodes alone before
some_nodes (leaf a) = omega arith
some_nodes (all_of kids) = omega arith
some_nodes (any_of kids) = omega arith

-- A node's tokens and then those of the others, by the table that all of them use.
pub tokens-before : (table : List Polynomial) (node : Node Atom) (rest : Parts Atom)
    → parts_tokens (used (used table (alone node)) rest) (before node rest) ≡ node_tokens (used table (alone node)) node ++ parts_tokens (used (used table (alone node)) rest) rest
tokens-before table node rest =
    let own = used table (alone node) in
    let all = used own rest in
    let same-own : node_tokens all node ≡ node_tokens own node =
    node-alone all node ∙ tokens-longer (alone node) own rest (all-used (alone node) table) ∙ sym (node-alone own node) in
    parts-before all node rest ∙ ap (λ (l : List ℕ). l ++ parts_tokens all rest) same-own

pub length-node : (table : List Polynomial) (node : Node Atom) → length (node_tokens table node) ≡ nodes (alone node)
length-node table node = ap length (node-alone table node) ∙ length-tokens (each_atom (numbered table) (alone node)) ∙ each-nodes (numbered table) (alone node)

-- ---- a token stored after the run behind it

module _ {A : Type 0} where
  pub set_before : (l : List A) (i : ℕ) (vs : List A) (k : ℕ) (v : A) → k < i → set (sets l i vs) k v ≡ sets (set l k v) i vs
  set_before l i [] k v h = refl
  set_before l i (x ∷ vs) k v h = set_before (set l i x) (suc i) vs k v (omega arith) ∙ ap (λ (m : List A). sets m (suc i) vs) (set_comm l i k x v (λ e. omega arith))
