-- The slots that a tape names, token by token and in the tokens of a tree, and how many atoms these are.
-- The functions walk the tape; these laws carry what they find to the tree that it holds.
use mathlib.Core.Path.{◌≡◌, refl, sym, ap, ◌∙◌}
use mathlib.Core.Bool.{Bool, true, false, cond}
use mathlib.Core.List.{List, [], ◌∷◌, ◌++◌}
use Prim.Native.Nat.{ℕ, ◌+◌, ◌*◌, ◌/◌, ◌<◌, ◌≤◌}
use native.Mathlib.Numerals.{add-one}
use native.Mathlib.Omega.{arith}
use lib.Dec.{ltb}
use lib.ListN.{length, get_or, take, length-append, length-take}
use lib.Seq.{slice, slice-cons, slice_empty, get_or-take}
use borrow.Author.Tests.{lt-ltb, le-ltb}
use Rattle.std.specs.List.{count_by}
use Rattle.std.proofs.lemmas.List.{length-take-le}
use Rattle.std.proofs.lemmas.List.Recursion.{is_count_by}
use Rattle.rules.specs.Formula.{Parts, end, atom, and, or, Node, alone, atoms, children}
use Rattle.rules.specs.Block.{NumberedAtom}
use Rattle.sign_laws.specs.Lists.{Every, every_none, every, every_append, every-get_d}
use Rattle.block.specs.Held.{tokens}
use Rattle.block.specs.Tokens.{length-tokens}
use Rattle.used.specs.Tape.{NameSlots, Holds}
use Rattle.used.specs.FirstUse.{slot_if, slots_of, TapeFits}

-- ---- One token.

-- An atom's token names its slot,
pub slot-of-atom : (token : ℕ) (tape : List ℕ) → token < 16777216 → slots_of (token ∷ tape) ≡ token / 8 ∷ slots_of tape
unfolding slots_of slot_if
slot-of-atom token tape h = rw (lt-ltb token 16777216 h)

-- and that of an AND or an OR names none.
pub slot-of-join : (token : ℕ) (tape : List ℕ) → 16777216 ≤ token → slots_of (token ∷ tape) ≡ slots_of tape
unfolding slots_of slot_if
slot-of-join token tape h = rw (le-ltb token 16777216 h)

-- What is left of a tape that is walked is its next token and the rest.
pub tape-next : (token : List ℕ) (count i : ℕ) → i < count → count ≤ length token → slice i count token ≡ get_or token i 0 ∷ slice (i + 1) count token
tape-next token count i h long = rw (add-one i) (slice-cons i count token 0 h long)

-- And nothing at its end.
pub tape-end : (token : List ℕ) (count i : ℕ) → i ≤ count → count ≤ i → slice i count token ≡ []
tape-end token count i h k = let e : i ≡ count = omega arith in rw e (slice_empty count token)

-- ---- The tokens of a tree.

-- An atom's token has its number.
pub number-back : (a : NumberedAtom) → a.set < 8 → (a.number * 8 + a.set) / 8 ≡ a.number
number-back a h = omega arith

-- So it names the slot of its number.
pub slot-named : (a : NumberedAtom) (tape : List ℕ) → a.number < 64 → a.set < 8 → slots_of ((a.number * 8 + a.set) ∷ tape) ≡ a.number ∷ slots_of tape
slot-named a tape n s = slot-of-atom (a.number * 8 + a.set) tape (omega arith) ∙ ap (λ (k : ℕ). k ∷ slots_of tape) (number-back a s)

slot_if-append : (b : Bool) (slot : ℕ) (xs ys : List ℕ) → slot_if b slot (xs ++ ys) ≡ slot_if b slot xs ++ ys
unfolding slot_if
slot_if-append true slot xs ys = refl
slot_if-append false slot xs ys = refl

-- Two tapes, one behind the other, name the slots of both.
slots-append : (xs ys : List ℕ) → slots_of (xs ++ ys) ≡ slots_of xs ++ slots_of ys
unfolding slots_of
slots-append [] ys = refl
slots-append (x ∷ xs) ys = rw (slots-append xs ys) (slot_if-append (ltb x 16777216) (x / 8) (slots_of xs) (slots_of ys))

-- An AND's or an OR's tape names the slots of its parts and then those of what follows.
pub slots-joined : (children : ℕ) (kids rest : List ℕ) → slots_of ((16777216 + children) ∷ (kids ++ rest)) ≡ slots_of kids ++ slots_of rest
slots-joined children kids rest = slot-of-join (16777216 + children) (kids ++ rest) (omega arith) ∙ slots-append kids rest

joined-counted : (children : ℕ) (kids rest : List ℕ) {m n : ℕ} → length (slots_of kids) ≡ m → length (slots_of rest) ≡ n
    → length (slots_of ((16777216 + children) ∷ (kids ++ rest))) ≡ m + n
joined-counted children kids rest e f = rw (slots-joined children kids rest, length-append (slots_of kids) (slots_of rest), e, f)

-- A tree's tape names as many slots as the tree has atoms.
pub slots-counted : (parts : Parts NumberedAtom) → NameSlots parts → length (slots_of (tokens parts)) ≡ atoms parts
unfolding tokens atoms NameSlots slots_of
slots-counted end h = refl
slots-counted (atom a rest) h = rw (slot-named a (tokens rest) h.0 h.1) (omega (arith, slots-counted rest h.2))
slots-counted (and kids rest) h = joined-counted (children kids) (tokens kids) (tokens rest) (slots-counted kids h.0) (slots-counted rest h.1)
slots-counted (or kids rest) h = joined-counted (children kids) (tokens kids) (tokens rest) (slots-counted kids h.0) (slots-counted rest h.1)

-- They are slots below 64.
pub slots-below : (parts : Parts NumberedAtom) → NameSlots parts → Every (λ (slot : ℕ). slot < 64) (slots_of (tokens parts))
unfolding tokens NameSlots slots_of
slots-below end h = every_none
slots-below (atom a rest) h = rw (slot-named a (tokens rest) h.0 h.1) (every h.0 (slots-below rest h.2))
slots-below (and kids rest) h = rw (slots-joined (children kids) (tokens kids) (tokens rest)) (every_append (slots-below kids h.0) (slots-below rest h.1))
slots-below (or kids rest) h = rw (slots-joined (children kids) (tokens kids) (tokens rest)) (every_append (slots-below kids h.0) (slots-below rest h.1))

-- ---- A tape that holds a tree.

-- A token that is an atom's is small.
record SmallAtom (token : ℕ) : Type 0 where
  small : token < 16777216 → token < 512

small-atom : (a : NumberedAtom) → a.number < 64 → a.set < 8 → SmallAtom (a.number * 8 + a.set)
small-atom a n s = record { small = λ l. omega arith }

no-atom : (children : ℕ) → SmallAtom (16777216 + children)
no-atom children = record { small = λ l. omega arith }

tokens-small : (parts : Parts NumberedAtom) → NameSlots parts → Every SmallAtom (tokens parts)
unfolding tokens NameSlots
tokens-small end h = every_none
tokens-small (atom a rest) h = every (small-atom a h.0 h.1) (tokens-small rest h.2)
tokens-small (and kids rest) h = every (no-atom (children kids)) (every_append (tokens-small kids h.0) (tokens-small rest h.1))
tokens-small (or kids rest) h = every (no-atom (children kids)) (every_append (tokens-small kids h.0) (tokens-small rest h.1))

-- A tape that holds a tree has its tokens, and its atoms name slots below 64.
pub tape-fits : {token : List ℕ} {count : ℕ} {tree : Node NumberedAtom} → Holds token count tree → TapeFits token count
tape-fits {token} {count} {tree} h = record {
  long = omega (arith, length-take count token, ap length h.stored, length-tokens (alone tree), h.counted);
  slots = λ i l s.
      let back : get_or (take count token) i 0 ≡ get_or token i 0 = get_or-take count token i 0 l in
      let there : SmallAtom (get_or (tokens (alone tree)) i 0) = every-get_d i 0 (record { small = λ m. omega arith }) (tokens-small (alone tree) h.slots) in
      (rw (← h.stored, back) at there).small s;
}

-- ---- Counting the atoms of a tape.

-- The tokens below 2 ^ 24 are as many as the slots that a tape names.
few-counted : (tape : List ℕ) → count_by (λ token. ltb token 16777216) tape ≡ length (slots_of tape)
unfolding slots_of slot_if
few-counted tape = sym (is_count_by (λ (l : List ℕ). length (slots_of l)) (λ token. ltb token 16777216) refl (λ token later. by-test (ltb token 16777216) (token / 8) (slots_of later)) tape)
  where
    by-test : (b : Bool) (slot : ℕ) (later : List ℕ) → length (slot_if b slot later) ≡ cond b (1 + length later) (length later)
    by-test true slot later = omega arith
    by-test false slot later = refl

-- All of them are the tree's atoms.
pub counted : {token : List ℕ} {count : ℕ} (tree : Node NumberedAtom) → Holds token count tree
    → count_by (λ token. ltb token 16777216) (take count token) ≡ atoms (alone tree)
counted tree holds = rw holds.stored (few-counted (tokens (alone tree)) ∙ slots-counted (alone tree) holds.slots)

-- ---- The tokens that are counted, alone.

pub tape-size : {token : List ℕ} {count : ℕ} → TapeFits token count → length (take count token) ≡ count
tape-size {token} {count} tape = length-take-le count token tape.long

pub tape-front : {token : List ℕ} {count : ℕ} → TapeFits token count → TapeFits (take count token) count
tape-front {token} {count} tape = record {
  long = omega (arith, tape-size tape);
  slots = λ i l. rw (get_or-take count token i 0 l) (tape.slots i l);
}
