-- The book's table of used forms, its numbers and its tokens, by the slots' order of first use.
-- All rests on this: two forms of the working table are the same exactly if their slots are.
use mathlib.Core.Path.{◌≡◌, refl, sym, ap, ◌∙◌}
use mathlib.Core.Bool.{Bool, true, false}
use mathlib.Core.List.{List, [], ◌∷◌, ◌++◌, map, map-append}
use Prim.Native.Nat.{ℕ, ◌+◌, ◌*◌, ◌<◌}
use native.Mathlib.Omega.{arith}
use lib.ListN.{get_or}
use borrow.Author.Tests.{lt-ltb, le-ltb}
use Rattle.rules.specs.Polynomial.{Polynomial}
use Rattle.rules.specs.Formula.{Parts, end, atom, and, or, each_atom, children}
use Rattle.rules.specs.Block.{NumberedAtom}
use Rattle.rules.specs.Answer.{knows, added_unless, used, number_in, numbered}
use Rattle.sign_laws.specs.Lists.{Every, every_none, every}
use Rattle.ending_laws.specs.Shapes.{children-each}
use Rattle.table.specs.Table.{Table, form_at, Forms}
use Rattle.block.specs.Held.{tokens}
use Rattle.block.specs.Tokens.{set_back}
use Rattle.used.specs.Tape.{in_slot, NameSlots}
use Rattle.used.specs.FirstUse.{slots_of, listed, listed_unless, first_uses, order_of, place_in, place_if, number_of, Numbers, atom_or, renumbered}
use Rattle.used.proofs.Slots.{number-back, slot-named, slots-joined, slots-below}
use Rattle.used.proofs.FirstUse.{Below, listed_unless-below, uses-below, uses-append, Listed, uses-list}

-- ---- The forms in the slots.

module _ {table : Table} (forms : Forms table) where
  -- A form is known exactly if its slot is listed,
  knows-listed : {order : List ℕ} → Every Below order → (slot : ℕ) → slot < 64 → knows (map (form_at table) order) (form_at table slot) ≡ listed order slot
  unfolding knows listed
  knows-listed every_none slot h = refl
  knows-listed (every {a = first} f fs) slot h = rw (forms.distinct slot first h f, knows-listed fs slot h)

  -- its number is its slot's place,
  number-place : {order : List ℕ} → Every Below order → (slot : ℕ) → slot < 64 → number_in (map (form_at table) order) (form_at table slot) ≡ place_in order slot
  unfolding number_in place_in
  number-place every_none slot h = refl
  number-place (every {a = first} f fs) slot h = rw (forms.distinct slot first h f, number-place fs slot h)

  abbrev forms_of : List ℕ → List Polynomial
  forms_of order = map (form_at table) order

  -- and it is added as its slot is.
  added-listed : (b : Bool) (slot : ℕ) (order : List ℕ) → added_unless b (form_at table slot) (forms_of order) ≡ forms_of (listed_unless b slot order)
  unfolding added_unless listed_unless
  added-listed true slot order = refl
  added-listed false slot order = sym (map-append (form_at table) order (slot ∷ []))

  -- The parts of a tree use what the slots say, from an order on.
  UsesSlots : Parts NumberedAtom → List ℕ → Type 0
  UsesSlots parts order = used (forms_of order) (each_atom (in_slot table) parts) ≡ forms_of (first_uses order (slots_of (tokens parts)))

  used-atom : (a : NumberedAtom) (rest : Parts NumberedAtom) → a.number < 64 → a.set < 8 → {order : List ℕ} → Every Below order
      → UsesSlots rest (listed_unless (listed order a.number) a.number order) → UsesSlots (atom a rest) order
  unfolding UsesSlots used each_atom in_slot tokens first_uses
  used-atom a rest n s {order} o e =
      let p = form_at table a.number in
      let added : added_unless (knows (forms_of order) p) p (forms_of order) ≡ forms_of (listed_unless (listed order a.number) a.number order) =
      rw (knows-listed o a.number n) (added-listed (listed order a.number) a.number order) in
      ap (λ (new : List Polynomial). used new (each_atom (in_slot table) rest)) added
      ∙ e
      ∙ sym (ap (λ (l : List ℕ). forms_of (first_uses order l)) (slot-named a (tokens rest) n s))

  used-join : (kids rest : Parts NumberedAtom) (order : List ℕ) → UsesSlots kids order → UsesSlots rest (first_uses order (slots_of (tokens kids)))
      → used (used (forms_of order) (each_atom (in_slot table) kids)) (each_atom (in_slot table) rest)
      ≡ forms_of (first_uses order (slots_of ((16777216 + children kids) ∷ (tokens kids ++ tokens rest))))
  unfolding UsesSlots
  used-join kids rest order e f =
      rw (e, f, slots-joined (children kids) (tokens kids) (tokens rest), uses-append order (slots_of (tokens kids)) (slots_of (tokens rest)))

  uses-slots : (parts : Parts NumberedAtom) → NameSlots parts → {order : List ℕ} → Every Below order → UsesSlots parts order
  unfolding UsesSlots used each_atom tokens NameSlots slots_of first_uses
  uses-slots end h o = refl
  uses-slots (atom a rest) h {order} o = used-atom a rest h.0 h.1 o (uses-slots rest h.2 (listed_unless-below (listed order a.number) h.0 o))
  uses-slots (and kids rest) h {order} o = used-join kids rest order (uses-slots kids h.0 o) (uses-slots rest h.1 (uses-below o (slots-below kids h.0)))
  uses-slots (or kids rest) h {order} o = used-join kids rest order (uses-slots kids h.0 o) (uses-slots rest h.1 (uses-below o (slots-below kids h.0)))

  -- "lists the used normal forms by first use in the tree": they are those in the slots by first use.
  pub used-forms : (parts : Parts NumberedAtom) → NameSlots parts → used [] (each_atom (in_slot table) parts) ≡ map (form_at table) (order_of (tokens parts))
  unfolding UsesSlots
  used-forms parts h = uses-slots parts h every_none

-- ---- The tokens.

-- The array has the number of the form in that slot.
record Told (table : Table) (new : List Polynomial) (number : List ℕ) (slot : ℕ) : Type 0 where
  told : get_or number slot 0 ≡ number_in new (form_at table slot)

-- It has it for each listed slot.
each_told : {table : Table} → Forms table → {order number : List ℕ} → Every Below order → Numbers order number
    → {slots : List ℕ} → Every (Listed order) slots → Every (Told table (map (form_at table) order) number) slots
unfolding number_of place_if
each_told forms o n every_none = every_none
each_told forms {order} o n (every {a = slot} h hs) =
    let place : number_of order slot ≡ place_in order slot = rw h.is in
    every (record { told = n.each slot h.below ∙ place ∙ sym (number-place forms o slot h.below) }) (each_told forms o n hs)

-- A property of every element, of a list in two parts.
module _ {P : ℕ → Type 0} where
  every-head : {x : ℕ} {xs : List ℕ} → Every P (x ∷ xs) → P x
  every-head (every h hs) = h

  every-tail : {x : ℕ} {xs : List ℕ} → Every P (x ∷ xs) → Every P xs
  every-tail (every h hs) = hs

  every_first : (xs ys : List ℕ) → Every P (xs ++ ys) → Every P xs
  every_first [] ys h = every_none
  every_first (x ∷ xs) ys h = every (every-head h) (every_first xs ys (every-tail h))

  every_rest : (xs ys : List ℕ) → Every P (xs ++ ys) → Every P ys
  every_rest [] ys h = h
  every_rest (x ∷ xs) ys h = every_rest xs ys (every-tail h)

-- An atom's token gets the new number and keeps its set,
renumbered-atom : (number : List ℕ) (a : NumberedAtom) → a.number < 64 → a.set < 8
    → renumbered number (a.number * 8 + a.set) ≡ get_or number a.number 0 * 8 + a.set
unfolding renumbered atom_or
renumbered-atom number a n s =
    let small : a.number * 8 + a.set < 16777216 = omega arith in
    rw (lt-ltb (a.number * 8 + a.set) 16777216 small, number-back a s, set_back a.number a.set s)

-- and another stays.
renumbered-join : (number : List ℕ) (k : ℕ) → renumbered number (16777216 + k) ≡ 16777216 + k
unfolding renumbered atom_or
renumbered-join number k = rw (le-ltb (16777216 + k) 16777216 (omega arith))

module _ (table : Table) (new : List Polynomial) (number : List ℕ) where
  abbrev retold : Parts NumberedAtom → Parts NumberedAtom
  retold parts = each_atom (numbered new) (each_atom (in_slot table) parts)

  join-told : (kids rest : Parts NumberedAtom)
      → tokens (retold kids) ≡ map (renumbered number) (tokens kids) → tokens (retold rest) ≡ map (renumbered number) (tokens rest)
      → (16777216 + children (retold kids)) ∷ (tokens (retold kids) ++ tokens (retold rest))
      ≡ map (renumbered number) ((16777216 + children kids) ∷ (tokens kids ++ tokens rest))
  join-told kids rest e f =
      let same : children (retold kids) ≡ children kids = children-each (numbered new) (each_atom (in_slot table) kids) ∙ children-each (in_slot table) kids in
      rw (same, e, f, renumbered-join number (children kids), map-append (renumbered number) (tokens kids) (tokens rest))

  -- The tokens of the tree with the numbers of the new table are the tape with the numbers of the array.
  tokens-told : (parts : Parts NumberedAtom) → NameSlots parts → Every (Told table new number) (slots_of (tokens parts))
      → tokens (retold parts) ≡ map (renumbered number) (tokens parts)
  unfolding tokens each_atom in_slot numbered NameSlots
  tokens-told end h t = refl
  tokens-told (atom a rest) h t =
      let each = rw (slot-named a (tokens rest) h.0 h.1) at t in
      rw (renumbered-atom number a h.0 h.1, (every-head each).told, tokens-told rest h.2 (every-tail each))
  tokens-told (and kids rest) h t =
      let each = rw (slots-joined (children kids) (tokens kids) (tokens rest)) at t in
      join-told kids rest (tokens-told kids h.0 (every_first (slots_of (tokens kids)) (slots_of (tokens rest)) each))
      (tokens-told rest h.1 (every_rest (slots_of (tokens kids)) (slots_of (tokens rest)) each))
  tokens-told (or kids rest) h t =
      let each = rw (slots-joined (children kids) (tokens kids) (tokens rest)) at t in
      join-told kids rest (tokens-told kids h.0 (every_first (slots_of (tokens kids)) (slots_of (tokens rest)) each))
      (tokens-told rest h.1 (every_rest (slots_of (tokens kids)) (slots_of (tokens rest)) each))

-- With the numbers of the order of first use, the tape is that of the tree with the numbers of the used forms.
pub tokens-renumbered : {table : Table} → Forms table → (parts : Parts NumberedAtom) → NameSlots parts → {number : List ℕ} → Numbers (order_of (tokens parts)) number
    → tokens (each_atom (numbered (map (form_at table) (order_of (tokens parts)))) (each_atom (in_slot table) parts)) ≡ map (renumbered number) (tokens parts)
tokens-renumbered {table} forms parts h {number} n =
    let below : Every Below (slots_of (tokens parts)) = slots-below parts h in
    tokens-told table (map (form_at table) (order_of (tokens parts))) number parts h (each_told forms (uses-below every_none below) n (uses-list [] below))
