-- One tree, two views of its atoms: numbered atoms, as the block and the new block have them, and tokens, as the level rules carry them along.
-- An atom's token is its place times 512, its slot times eight and its set; the place, which the rules carry, is told on the way back, and dropped.
use Rattle.std.specs.Prelude.{◌≡◌, refl, Bool, true, false, cond, ℕ, ◌+◌, ◌-◌, ◌*◌, ◌/◌, ◌%◌, ◌<◌, ◌≤◌, ltb, length, take}
use Rattle.std.proofs.Math.Path.{sym, ap, subst}
use Rattle.std.proofs.Common.{ap₂, ◌∙◌, add-zero, arith, lt-ltb, le-ltb}
use mathlib.Core.List.{List, [], ◌∷◌, ◌++◌, map, map-append, append_assoc, append-nil}
use Rattle.std.proofs.Math.ListN.{drop}
use Rattle.std.proofs.lemmas.List.{length-map}
use Rattle.rules.specs.Formula.{Parts, end, atom, and, or, Node, leaf, all_of, any_of, each_atom, each_atom_of, in_order, alone, children, nodes, atoms, open_formula}
use Rattle.rules.specs.Level.{Placed, plain as without_place, placed_at, placed_from, placed_tree, places, simplify}
use Rattle.rules.specs.Block.{NumberedAtom}
use Rattle.rules.specs.Limits.{PartsWithin}
use Rattle.ending_laws.specs.Nestings.{alone-each}
use Rattle.ending_laws.specs.Shapes.{nodes-each, children-each, atoms-each}
use Rattle.table.specs.Table.{Table}
use Rattle.block.specs.Held as held
use Rattle.block.specs.Tokens.{length-tokens}
use Rattle.level.specs.declared.writing.Tree.{Tree}
use Rattle.tape.specs.Token.{atom_of}
use Rattle.places.specs.Places.{with_place, next_place, place_from, placed_tokens, told_if, place_bytes}
use Rattle.level.specs.Tree.{tokens, kind_of, TokensWithin, TreeHeld, Simplified}
use Rattle.used.specs.Tape.{in_slot, NameSlots, Holds}
use Rattle.answer.specs.Normal.{tree-after}

-- The token of a numbered atom, and the numbered atom of a token.
unfoldable pub token_of : NumberedAtom → ℕ
token_of a = a.number * 8 + a.set

unfoldable pub numbered_of : ℕ → NumberedAtom
numbered_of token = record { number = token / 8 % 64; set = token % 8 }

-- The same at a place.
unfoldable pub token_at : ℕ → NumberedAtom → ℕ
token_at k a = k * 512 + token_of a

-- A tree's atoms as tokens with their places in reading order, those of parts from k on.
unfoldable pub tokens_from : ℕ → Parts NumberedAtom → Parts ℕ
tokens_from k end = end
tokens_from k (atom a rest) = atom (token_at k a) (tokens_from (1 + k) rest)
tokens_from k (and kids rest) = and (tokens_from k kids) (tokens_from (k + atoms kids) rest)
tokens_from k (or kids rest) = or (tokens_from k kids) (tokens_from (k + atoms kids) rest)

unfoldable pub token_tree : Node NumberedAtom → Node ℕ
token_tree (leaf a) = leaf (token_at 0 a)
token_tree (all_of kids) = all_of (tokens_from 0 kids)
token_tree (any_of kids) = any_of (tokens_from 0 kids)

alone-tokens : (tree : Node NumberedAtom) → tokens_from 0 (alone tree) ≡ alone (token_tree tree)
unfolding tokens_from token_tree open_formula
alone-tokens (leaf a) = refl
alone-tokens (all_of kids) = refl
alone-tokens (any_of kids) = refl

-- ---- there: numbered atoms as tokens with places

slot_at : (k number set : ℕ) → number < 64 → set < 8 → (k * 512 + (number * 8 + set)) / 8 % 64 ≡ number
slot_at k number set h i = omega arith

set_at : (k number set : ℕ) → set < 8 → (k * 512 + (number * 8 + set)) % 8 ≡ set
set_at k number set i = omega arith

place_at : (k number set : ℕ) → number < 64 → set < 8 → k < 255 → (k * 512 + (number * 8 + set)) / 512 % 32768 ≡ k
place_at k number set h i j = omega arith

-- In a table's slots the token is the atom at its place.
atom-of-token : (table : Table) (k : ℕ) (a : NumberedAtom) → a.number < 64 → a.set < 8 → k < 255 → atom_of table (token_at k a) ≡ placed_at k (in_slot table a)
unfolding in_slot token_at token_of atom_of
atom-of-token table k a h i j = rw (slot_at k a.number a.set h i, set_at k a.number a.set i, place_at k a.number a.set h i j)

-- Other atoms leave the shape as it is.
children-tokens : (k : ℕ) (parts : Parts NumberedAtom) → children (tokens_from k parts) ≡ children parts
unfolding children tokens_from
children-tokens k end = refl
children-tokens k (atom a rest) = ap (λ (j : ℕ). 1 + j) (children-tokens (1 + k) rest)
children-tokens k (and kids rest) = ap (λ (j : ℕ). 1 + j) (children-tokens (k + atoms kids) rest)
children-tokens k (or kids rest) = ap (λ (j : ℕ). 1 + j) (children-tokens (k + atoms kids) rest)

nodes-tokens : (k : ℕ) (parts : Parts NumberedAtom) → nodes (tokens_from k parts) ≡ nodes parts
unfolding nodes tokens_from
nodes-tokens k end = refl
nodes-tokens k (atom a rest) = ap (λ (j : ℕ). 1 + j) (nodes-tokens (1 + k) rest)
nodes-tokens k (and kids rest) = ap₂ (λ (i j : ℕ). 1 + i + j) (nodes-tokens k kids) (nodes-tokens (k + atoms kids) rest)
nodes-tokens k (or kids rest) = ap₂ (λ (i j : ℕ). 1 + i + j) (nodes-tokens k kids) (nodes-tokens (k + atoms kids) rest)

kind-tokens : (tree : Node NumberedAtom) → kind_of (token_tree tree) ≡ held.kind_of tree
unfolding held.kind_of token_tree
kind-tokens (leaf a) = refl
kind-tokens (all_of kids) = refl
kind-tokens (any_of kids) = refl

pub atoms-few : {A : Type 0} (parts : Parts A) → atoms parts ≤ nodes parts
unfolding atoms nodes
atoms-few end = omega arith
atoms-few (atom a rest) = omega (arith, atoms-few rest)
atoms-few (and kids rest) = omega (arith, atoms-few kids, atoms-few rest)
atoms-few (or kids rest) = omega (arith, atoms-few kids, atoms-few rest)

-- ---- the tokens of the tape with places are those of the tree with places

given-atom : (k x : ℕ) (l : List ℕ) → x < 512 → place_from k (x ∷ l) ≡ (k * 512 + x) ∷ place_from (1 + k) l
unfolding place_from with_place next_place
given-atom k x l h =
    let small : x % 512 ≡ x = omega arith in
    let one : k + 1 ≡ 1 + k = omega arith in
    rw (lt-ltb x 16777216 (omega arith), small, one)

given-node : (k count : ℕ) (l : List ℕ) → place_from k ((16777216 + count) ∷ l) ≡ (16777216 + count) ∷ place_from k l
unfolding place_from with_place next_place
given-node k count l = rw (le-ltb (16777216 + count) 16777216 (omega arith))

given-join : (k : ℕ) (kids rest : Parts NumberedAtom) (l : List ℕ)
    → place_from k (held.tokens kids ++ (held.tokens rest ++ l)) ≡ tokens (tokens_from k kids) ++ place_from (k + atoms kids) (held.tokens rest ++ l)
    → place_from (k + atoms kids) (held.tokens rest ++ l) ≡ tokens (tokens_from (k + atoms kids) rest) ++ place_from (k + atoms kids + atoms rest) l
    → place_from k ((16777216 + children kids) ∷ ((held.tokens kids ++ held.tokens rest) ++ l))
    ≡ (16777216 + children (tokens_from k kids)) ∷ ((tokens (tokens_from k kids) ++ tokens (tokens_from (k + atoms kids) rest)) ++ place_from (k + (atoms kids + atoms rest)) l)
given-join k kids rest l first second =
    let behind : k + atoms kids + atoms rest ≡ k + (atoms kids + atoms rest) = omega arith in
    given-node k (children kids) ((held.tokens kids ++ held.tokens rest) ++ l)
    ∙ ap₂ (λ (c : ℕ) (m : List ℕ). (16777216 + c) ∷ m) (sym (children-tokens k kids))
    (ap (place_from k) (append_assoc (held.tokens kids) (held.tokens rest) l) ∙ first
    ∙ ap (λ (m : List ℕ). tokens (tokens_from k kids) ++ m) (second ∙ ap (λ (j : ℕ). tokens (tokens_from (k + atoms kids) rest) ++ place_from j l) behind)
    ∙ sym (append_assoc (tokens (tokens_from k kids)) (tokens (tokens_from (k + atoms kids) rest)) (place_from (k + (atoms kids + atoms rest)) l)))

places-given : (d parent k : ℕ) (parts : Parts NumberedAtom) (l : List ℕ) → PartsWithin d 64 parent parts
    → place_from k (held.tokens parts ++ l) ≡ tokens (tokens_from k parts) ++ place_from (k + atoms parts) l
unfolding tokens held.tokens tokens_from token_at token_of PartsWithin atoms
places-given d parent k end l within = ap (λ (j : ℕ). place_from j l) (sym (add-zero k))
places-given d parent k (atom a rest) l within =
    let behind : 1 + k + atoms rest ≡ k + (1 + atoms rest) = omega arith in
    given-atom k (a.number * 8 + a.set) (held.tokens rest ++ l) (omega (arith, within.0, within.1))
    ∙ ap (λ (m : List ℕ). (k * 512 + (a.number * 8 + a.set)) ∷ m)
    (places-given d parent (1 + k) rest l within.2 ∙ ap (λ (j : ℕ). tokens (tokens_from (1 + k) rest) ++ place_from j l) behind)
places-given d parent k (and kids rest) l within =
    given-join k kids rest l (places-given (d - 1) 1 k kids (held.tokens rest ++ l) within.2) (places-given d parent (k + atoms kids) rest l within.3)
places-given d parent k (or kids rest) l within =
    given-join k kids rest l (places-given (d - 1) 2 k kids (held.tokens rest ++ l) within.2) (places-given d parent (k + atoms kids) rest l within.3)

-- ---- the same atoms in a table's slots, each at its place

same-atoms : (table : Table) (d parent k : ℕ) (parts : Parts NumberedAtom) → PartsWithin d 64 parent parts → k + atoms parts ≤ 255
    → each_atom (atom_of table) (tokens_from k parts) ≡ placed_from k (each_atom (in_slot table) parts)
unfolding each_atom tokens_from placed_from PartsWithin atoms
same-atoms table d parent k end within few = refl
same-atoms table d parent k (atom a rest) within few =
    ap₂ atom (atom-of-token table k a within.0 within.1 (omega arith)) (same-atoms table d parent (1 + k) rest within.2 (omega arith))
same-atoms table d parent k (and kids rest) within few =
    ap₂ and (same-atoms table (d - 1) 1 k kids within.2 (omega arith))
    (same-atoms table d parent (k + atoms kids) rest within.3 (omega arith) ∙ ap (λ (j : ℕ). placed_from (k + j) (each_atom (in_slot table) rest)) (sym (atoms-each (in_slot table) kids)))
same-atoms table d parent k (or kids rest) within few =
    ap₂ or (same-atoms table (d - 1) 2 k kids within.2 (omega arith))
    (same-atoms table d parent (k + atoms kids) rest within.3 (omega arith) ∙ ap (λ (j : ℕ). placed_from (k + j) (each_atom (in_slot table) rest)) (sym (atoms-each (in_slot table) kids)))

tree-atoms : (table : Table) (tree : Node NumberedAtom) → PartsWithin 6 64 0 (alone tree) → atoms (alone tree) ≤ 255
    → each_atom_of (atom_of table) (token_tree tree) ≡ placed_tree (each_atom_of (in_slot table) tree)
unfolding open_formula token_tree placed_tree PartsWithin
tree-atoms table (leaf a) within few = ap leaf (atom-of-token table 0 a within.0 within.1 (omega arith))
tree-atoms table (all_of kids) within few = ap all_of (same-atoms table 5 1 0 kids within.2 (omega arith))
tree-atoms table (any_of kids) within few = ap any_of (same-atoms table 5 2 0 kids within.2 (omega arith))

-- Tokens of atoms lie below 2 ^ 24.
placed-within : (d parent k : ℕ) (parts : Parts NumberedAtom) → PartsWithin d 64 parent parts → k + atoms parts ≤ 255 → TokensWithin d parent (tokens_from k parts)
unfolding tokens_from token_at token_of TokensWithin PartsWithin atoms
placed-within d parent k end within few = tt
placed-within d parent k (atom a rest) within few = (omega (arith, within.0, within.1), placed-within d parent (1 + k) rest within.2 (omega arith))
placed-within d parent k (and kids rest) within few =
    (within.0, within.1, placed-within (d - 1) 1 k kids within.2 (omega arith), placed-within d parent (k + atoms kids) rest within.3 (omega arith))
placed-within d parent k (or kids rest) within few =
    (within.0, within.1, placed-within (d - 1) 2 k kids within.2 (omega arith), placed-within d parent (k + atoms kids) rest within.3 (omega arith))

module _ (tree : Node NumberedAtom) (within : PartsWithin 6 64 0 (alone tree)) where
  -- The tree over tokens has the forms of the tree over numbered atoms, at their places.
  pub tokens-in-slots : (table : Table) → nodes (alone tree) ≤ 255 → each_atom_of (atom_of table) (token_tree tree) ≡ placed_tree (each_atom_of (in_slot table) tree)
  tokens-in-slots table few = tree-atoms table tree within (omega (arith, atoms-few (alone tree)))

  -- A tape that holds a tree of numbered atoms within the limits is one that the level rules take, once its atoms have their places.
  pub held-as-tokens : {token : List ℕ} {count root : ℕ} → Holds token count tree → held.kind_of tree ≡ root
      → TreeHeld (placed_tokens count token) root (token_tree tree)
  unfolding place_from
  held-as-tokens {token} {count} {root} holds kind =
      let few : nodes (alone tree) ≤ 255 = omega (arith, holds.counted, holds.few) in
      record {
        rest = drop count token;
        here = ap (λ (l : List ℕ). l ++ drop count token)
            (ap (place_from 0) (holds.stored ∙ sym (append-nil (held.tokens (alone tree)))) ∙ places-given 6 0 0 (alone tree) [] within
            ∙ append-nil (tokens (tokens_from 0 (alone tree))) ∙ ap tokens (alone-tokens tree));
        root_is = sym kind ∙ sym (kind-tokens tree);
        within = subst (TokensWithin 6 0) (alone-tokens tree) (placed-within 6 0 0 (alone tree) within (omega (arith, atoms-few (alone tree))));
        few = subst (λ (k : ℕ). k ≤ 255) (sym (nodes-tokens 0 (alone tree)) ∙ ap nodes (alone-tokens tree)) few;
      }

-- ---- back: tokens as numbered atoms

-- A token without the bits that the rules carry along; a node's stays.
unfoldable pub plain : ℕ → ℕ
plain token = cond (ltb token 16777216) (token % 512) token

-- The first tokens of a tape.
abbrev pub plain_tokens : ℕ → List ℕ → List ℕ
plain_tokens count tape = map plain (take count tape) ++ drop count tape

plain-atom : (token : ℕ) → token < 16777216 → plain token ≡ (numbered_of token).number * 8 + (numbered_of token).set
unfolding plain numbered_of
plain-atom token h = rw (lt-ltb token 16777216 h) (omega arith)

plain-node : (count : ℕ) → plain (16777216 + count) ≡ 16777216 + count
unfolding plain
plain-node count = rw (le-ltb (16777216 + count) 16777216 (omega arith))

-- The plain tokens are those of the tree of numbered atoms.
pub plain-tokens : (d parent : ℕ) (parts : Parts ℕ) → TokensWithin d parent parts → map plain (tokens parts) ≡ held.tokens (each_atom numbered_of parts)
unfolding tokens held.tokens each_atom TokensWithin
plain-tokens d parent end within = refl
plain-tokens d parent (atom x rest) within = ap₂ (λ (t : ℕ) (l : List ℕ). t ∷ l) (plain-atom x within.0) (plain-tokens d parent rest within.1)
plain-tokens d parent (and kids rest) within =
    ap₂ (λ (t : ℕ) (l : List ℕ). t ∷ l) (plain-node (children kids) ∙ ap (λ (k : ℕ). 16777216 + k) (sym (children-each numbered_of kids)))
    (map-append plain (tokens kids) (tokens rest) ∙ ap₂ ◌++◌ (plain-tokens (d - 1) 1 kids within.2) (plain-tokens d parent rest within.3))
plain-tokens d parent (or kids rest) within =
    ap₂ (λ (t : ℕ) (l : List ℕ). t ∷ l) (plain-node (children kids) ∙ ap (λ (k : ℕ). 16777216 + k) (sym (children-each numbered_of kids)))
    (map-append plain (tokens kids) (tokens rest) ∙ ap₂ ◌++◌ (plain-tokens (d - 1) 2 kids within.2) (plain-tokens d parent rest within.3))

-- They name slots.
names-slots : (parts : Parts ℕ) → NameSlots (each_atom numbered_of parts)
unfolding each_atom NameSlots numbered_of
names-slots end = tt
names-slots (atom x rest) = (omega arith, omega arith, names-slots rest)
names-slots (and kids rest) = (names-slots kids, names-slots rest)
names-slots (or kids rest) = (names-slots kids, names-slots rest)

back-kind : (tree : Node ℕ) → held.kind_of (each_atom_of numbered_of tree) ≡ kind_of tree
unfolding held.kind_of each_atom_of
back-kind (leaf a) = refl
back-kind (all_of kids) = refl
back-kind (any_of kids) = refl

-- ---- the places that tokens tell

map-join : (f : ℕ → ℕ) (kids rest : Parts ℕ) → map f (in_order kids ++ in_order rest) ≡ map f (in_order kids) ++ map f (in_order rest)
map-join f kids rest = map-append f (in_order kids) (in_order rest)

bytes-append : (l m : List ℕ) → place_bytes (l ++ m) ≡ place_bytes l ++ place_bytes m
unfolding place_bytes told_if
bytes-append [] m = refl
bytes-append (t ∷ l) m = ap (told_if (ltb t 16777216) t) (bytes-append l m) ∙ told-append (ltb t 16777216) t (place_bytes l) (place_bytes m)
  where
    told-append : (b : Bool) (t : ℕ) (l m : List ℕ) → told_if b t (l ++ m) ≡ told_if b t l ++ m
    told-append true t l m = refl
    told-append false t l m = refl

byte_of : ℕ → ℕ
byte_of t = t / 512 % 256

byte-atom : (t : ℕ) (l : List ℕ) → t < 16777216 → place_bytes (t ∷ l) ≡ byte_of t ∷ place_bytes l
unfolding place_bytes told_if byte_of
byte-atom t l h = rw (lt-ltb t 16777216 h)

byte-node : (count : ℕ) (l : List ℕ) → place_bytes ((16777216 + count) ∷ l) ≡ place_bytes l
unfolding place_bytes told_if
byte-node count l = rw (le-ltb (16777216 + count) 16777216 (omega arith))

bytes-told : (d parent : ℕ) (parts : Parts ℕ) → TokensWithin d parent parts → place_bytes (tokens parts) ≡ map byte_of (in_order parts)
unfolding tokens in_order TokensWithin place_bytes
bytes-told d parent end within = refl
bytes-told d parent (atom x rest) within = byte-atom x (tokens rest) within.0 ∙ ap (λ (l : List ℕ). byte_of x ∷ l) (bytes-told d parent rest within.1)
bytes-told d parent (and kids rest) within =
    byte-node (children kids) (tokens kids ++ tokens rest) ∙ bytes-append (tokens kids) (tokens rest)
    ∙ ap₂ ◌++◌ (bytes-told (d - 1) 1 kids within.2) (bytes-told d parent rest within.3) ∙ sym (map-join byte_of kids rest)
bytes-told d parent (or kids rest) within =
    byte-node (children kids) (tokens kids ++ tokens rest) ∙ bytes-append (tokens kids) (tokens rest)
    ∙ ap₂ ◌++◌ (bytes-told (d - 1) 2 kids within.2) (bytes-told d parent rest within.3) ∙ sym (map-join byte_of kids rest)

both-places : (table : Table) (kids rest : Parts ℕ)
    → map (λ (k : ℕ). k % 256) (places (each_atom (atom_of table) kids)) ≡ map byte_of (in_order kids)
    → map (λ (k : ℕ). k % 256) (places (each_atom (atom_of table) rest)) ≡ map byte_of (in_order rest)
    → map (λ (k : ℕ). k % 256) (map (λ (a : Placed). a.place) (in_order (each_atom (atom_of table) kids) ++ in_order (each_atom (atom_of table) rest)))
    ≡ map byte_of (in_order kids ++ in_order rest)
unfolding places
both-places table kids rest first second =
    let k = in_order (each_atom (atom_of table) kids) in
    let l = in_order (each_atom (atom_of table) rest) in
    ap (map (λ (k : ℕ). k % 256)) (map-append (λ (a : Placed). a.place) k l)
    ∙ map-append (λ (k : ℕ). k % 256) (map (λ (a : Placed). a.place) k) (map (λ (a : Placed). a.place) l)
    ∙ ap₂ ◌++◌ first second ∙ sym (map-join byte_of kids rest)

-- The places of the atoms that tokens stand for, each in a byte.
places-in : (table : Table) (parts : Parts ℕ) → map (λ (k : ℕ). k % 256) (places (each_atom (atom_of table) parts)) ≡ map byte_of (in_order parts)
unfolding places in_order each_atom atom_of byte_of
places-in table end = refl
places-in table (atom x rest) = ap₂ (λ (k : ℕ) (l : List ℕ). k ∷ l) (in-byte x) (places-in table rest)
  where
    in-byte : (x : ℕ) → x / 512 % 32768 % 256 ≡ x / 512 % 256
    in-byte x = omega arith
places-in table (and kids rest) = both-places table kids rest (places-in table kids) (places-in table rest)
places-in table (or kids rest) = both-places table kids rest (places-in table kids) (places-in table rest)

module _ (table : Table) (tree : Node ℕ) (r : Tree) (simplified : Simplified table tree r) where
  -- The simplified tree of numbered atoms.
  abbrev pub result : Node NumberedAtom
  result = each_atom_of numbered_of simplified.result

  -- It is what the book's `simplify` gives, without the places.
  pub result-is : each_atom_of (in_slot table) result ≡ each_atom_of without_place (simplify table.variables (each_atom_of (atom_of table) tree))
  unfolding in_slot numbered_of atom_of
  result-is =
      tree-after (in_slot table) numbered_of simplified.result ∙ sym (tree-after without_place (atom_of table) simplified.result)
      ∙ ap (each_atom_of without_place) simplified.is

  -- And its tokens tell the places of that.
  pub result-places : place_bytes (take r.tokens.count r.tokens.token)
      ≡ map (λ (k : ℕ). k % 256) (places (alone (simplify table.variables (each_atom_of (atom_of table) tree))))
  result-places =
      ap place_bytes simplified.lists.is ∙ bytes-told 255 0 (alone simplified.result) simplified.within
      ∙ sym (places-in table (alone simplified.result))
      ∙ ap (λ (f : Parts Placed). map (λ (k : ℕ). k % 256) (places f)) (alone-each (atom_of table) simplified.result)
      ∙ ap (λ (n : Node Placed). map (λ (k : ℕ). k % 256) (places (alone n))) simplified.is

  row_count : r.tokens.count ≡ nodes (alone simplified.result)
  row_count =
      simplified.lists.size ∙ sym (length-map (tokens (alone simplified.result)) plain)
      ∙ ap length (plain-tokens 255 0 (alone simplified.result) simplified.within)
      ∙ length-tokens (each_atom numbered_of (alone simplified.result)) ∙ nodes-each numbered_of (alone simplified.result)

  -- A tape that begins with the plain tokens of the row holds it.
  pub result-holds : {tape : List ℕ} → take r.tokens.count tape ≡ map plain (take r.tokens.count r.tokens.token) → Holds tape r.tokens.count result
  result-holds {tape} same = record {
    stored = same ∙ ap (map plain) simplified.lists.is ∙ plain-tokens 255 0 (alone simplified.result) simplified.within
        ∙ ap held.tokens (alone-each numbered_of simplified.result);
    counted = row_count ∙ sym (nodes-each numbered_of (alone simplified.result)) ∙ ap nodes (alone-each numbered_of simplified.result);
    few = omega (arith, row_count, simplified.few);
    slots = subst NameSlots (alone-each numbered_of simplified.result) (names-slots (alone simplified.result));
  }

  -- Its root is of the kind that is told.
  pub result-kind : held.kind_of result ≡ r.root
  result-kind = back-kind simplified.result ∙ sym simplified.root
