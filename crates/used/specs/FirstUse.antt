-- The slots of a tape's atoms by first use, their new numbers, and the tape with these numbers: "lists the used normal forms by first use in the tree".
-- The same as the book's `used` and `number_in`, on the numbers of slots instead of the forms in them.
use Rattle.std.specs.Prelude.{◌≡◌, Bool, true, false, ◌||◌, List, [], ◌∷◌, ◌++◌, map, ℕ, suc, ◌+◌, ◌*◌, ◌/◌, ◌%◌, ◌<◌, ◌≤◌, eqb, ltb, ℤ, length, get_or}
use Rattle.std.proofs.Math.Option.{Option, none, some}
use Rattle.std.proofs.lemmas.List.Edits.{sets}
use Rattle.rules.specs.Polynomial.{Polynomial}
use Rattle.rules.specs.Answer.{here_or}
use Rattle.block.specs.Held.{slots}

-- ---- The slots that a tape names, in its order. A token below 2 ^ 24 is an atom's: its slot times eight and its set.

unfoldable pub slot_if : Bool → ℕ → List ℕ → List ℕ
slot_if true slot later = slot ∷ later
slot_if false slot later = later

unfoldable pub slots_of : List ℕ → List ℕ
slots_of [] = []
slots_of (token ∷ tape) = slot_if (ltb token 16777216) (token / 8) (slots_of tape)

-- ---- The order of first use.

unfoldable pub listed : List ℕ → ℕ → Bool
listed [] slot = false
listed (first ∷ order) slot = eqb slot first || listed order slot

unfoldable pub listed_unless : Bool → ℕ → List ℕ → List ℕ
listed_unless true slot order = order
listed_unless false slot order = order ++ (slot ∷ [])

-- The order, with the slots that are not listed yet behind it.
unfoldable pub first_uses : List ℕ → List ℕ → List ℕ
first_uses order [] = order
first_uses order (slot ∷ later) = first_uses (listed_unless (listed order slot) slot order) later

-- The order of a tape.
abbrev pub order_of : List ℕ → List ℕ
order_of tape = first_uses [] (slots_of tape)

-- ---- The new numbers: a listed slot's place in the order, and 64 for the others.

unfoldable pub place_in : List ℕ → ℕ → ℕ
place_in [] slot = 0
place_in (first ∷ order) slot = here_or (eqb slot first) (suc (place_in order slot))

unfoldable pub place_if : Bool → ℕ → ℕ
place_if true place = place
place_if false place = 64

unfoldable pub number_of : List ℕ → ℕ → ℕ
number_of order slot = place_if (listed order slot) (place_in order slot)

-- The array of the 64 slots' numbers.
pub record Numbers (order number : List ℕ) : Type 0 where
  pub size : length number ≡ 64
  pub each : (slot : ℕ) → slot < 64 → get_or number slot 0 ≡ number_of order slot

-- ---- What the functions ask, find and store.

-- The first `count` tokens are there, and an atom's names a slot below 64.
pub record TapeFits (token : List ℕ) (count : ℕ) : Type 0 where
  pub long : count ≤ length token
  pub slots : (i : ℕ) → i < count → get_or token i 0 < 16777216 → get_or token i 0 < 512

-- The table holds a form of at most sixteen terms in each of its first 64 slots.
pub record FormsFit (coefficient : List ℤ) (monomial terms : List ℕ) : Type 0 where
  pub coefficients : length coefficient ≡ 1280
  pub monomials : length monomial ≡ 1280
  pub counts : length terms ≡ 81
  pub few : (slot : ℕ) → get_or terms slot 0 ≤ 16

-- The used slots are so many of the 64.
pub record UsedFit (order : List ℕ) (used : ℕ) : Type 0 where
  pub few : used ≤ 64
  pub long : used ≤ length order
  pub slots : (i : ℕ) → i < used → get_or order i 0 < 64

-- The new arrays have room for so many forms.
pub record RoomFor (used : ℕ) (coefficient : List ℤ) (monomial terms : List ℕ) : Type 0 where
  pub coefficients : 16 * used ≤ length coefficient
  pub monomials : 16 * used ≤ length monomial
  pub counts : used ≤ length terms

-- So many slots are used, their order is stored, and each slot's number.
pub record Ordered (order array array' number : List ℕ) (used : ℕ) : Type 0 where
  pub counted : used ≡ length order
  pub few : used ≤ 64
  pub stored : array' ≡ sets array 0 order
  pub numbers : Numbers order number

-- The forms of a table, copied one after the other, with their counts of terms.
pub record Copied (table : List Polynomial) (coefficient coefficient' : List ℤ) (monomial monomial' terms terms' : List ℕ) : Type 0 where
  pub coefficients : coefficient' ≡ slots (λ t. t.coefficient) 0 table coefficient
  pub monomials : monomial' ≡ slots (λ t. t.monomial) 0 table monomial
  pub counts : terms' ≡ sets terms 0 (map length table)

-- Whether there is a constant.
unfoldable pub is_some : Option ℤ → Bool
is_some none = false
is_some (some c) = true

-- A token with the new number of its slot; an AND's or an OR's stays.
unfoldable pub atom_or : Bool → ℕ → ℕ → ℕ
atom_or true of_atom of_join = of_atom
atom_or false of_atom of_join = of_join

unfoldable pub renumbered : List ℕ → ℕ → ℕ
renumbered number token = atom_or (ltb token 16777216) (get_or number (token / 8) 0 * 8 + token % 8) token
