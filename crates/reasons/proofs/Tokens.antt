-- Tokens and their atoms: the place of the first one of a slot is that of its polynomial, and the places of tokens are those of their atoms.
use mathlib.Core.Path.{◌≡◌, refl, sym, ap, ◌∙◌}
use mathlib.Core.Bool.{false}
use mathlib.Core.List.{List, [], ◌∷◌, ◌++◌, map}
use Prim.Native.Nat.{ℕ, ◌+◌, ◌-◌, ◌/◌, ◌%◌, ◌^◌, ◌<◌, ◌≤◌}
use native.Mathlib.Omega.{arith}
use lib.Dec.{eqb}
use lib.ListN.{length, get_or, set, take, drop, length-drop}
use lib.Seq.{set_out, take_all, drop-cons}
use native.Mathlib.Numerals.{add-one}
use lib.Bits.{bit_or}
use borrow.Author.Tests.{eq-eqb, ne_eqb}
use Rattle.rules.specs.Level.{Placed, plain, plains, implied}
use Rattle.table.specs.Table.{Table, Forms, form_at}
use Rattle.tape.specs.declared.rows.Row.{Row}
use Rattle.tape.specs.Row.{Lists}
use Rattle.tape.specs.Listing.{rest-next, rest-none}
use Rattle.tape.specs.Token.{slot, place, atom_of, atoms_in}
use Rattle.round.specs.declared.State.{State}
use Rattle.leaving.specs.Enough.{enough_if, enough_for}
use Rattle.rules.specs.Reasons.{leave_out, implying, places_of, or_place, place_of}
use Rattle.reason_laws.specs.LeaveOut.{leave_out-map}
use Rattle.reason_laws.specs.Sooner.{first_is}
use Rattle.reasons.specs.Records.{with_place, words_from}
use Rattle.reasons.specs.Telling.{asking, first_place, is_first}

pub first-place : {t : Table} → Forms t → (number own : ℕ) → number < 64 → (l : List ℕ)
    → place_of (form_at t number) (atoms_in t l) own ≡ first_place number l own
unfolding place_of first_place atom_of
first-place forms number own low [] = refl
first-place {t} forms number own low (x ∷ l) = rw (forms.distinct number (slot x) low (omega arith), first-place forms number own low l)

pub first-is : (t : Table) (i : ℕ) (l : List ℕ) → first_is i (atoms_in t l) ≡ is_first i l
unfolding first_is is_first atom_of
first-is t i [] = refl
first-is t i (x ∷ l) = refl

pub places-of : (t : Table) (l : List ℕ) → places_of (atoms_in t l) ≡ map place l
unfolding places_of atom_of
places-of t [] = refl
places-of t (x ∷ l) = ap (λ (m : List ℕ). place x ∷ m) (places-of t l)

-- ---- On the way through a row.

module _ {row : Row} {l : List ℕ} (h : Lists row l) {i : ℕ} (low : i < length (take row.count row.token)) where
  abbrev x : ℕ
  x = get_or (take row.count row.token) i 0

  rest-token : drop i l ≡ get_or (take row.count row.token) i 0 ∷ drop (i + 1) l
  rest-token = rw (h.is, add-one i) (drop-cons l i 0 (rw h.is at low))

  -- the first token of a slot
  pub first_here : {number : ℕ} (own : ℕ) → number ≡ slot (get_or (take row.count row.token) i 0)
      → first_place number (drop i l) own ≡ place (get_or (take row.count row.token) i 0)
  unfolding first_place or_place
  first_here {number} own e = rw (rest-token, eq-eqb number (slot x) e)

  pub first_later : {number : ℕ} (own : ℕ) → (number ≡ slot (get_or (take row.count row.token) i 0) → ⊥)
      → first_place number (drop i l) own ≡ first_place number (drop (i + 1) l) own
  unfolding first_place or_place
  first_later {number} own e = rw (rest-token, ne_eqb number (slot x) e)

  -- the words of the places
  pub words-next : (words : List ℕ) → words_from words (map place (drop i l))
      ≡ words_from (with_place words (place (get_or (take row.count row.token) i 0))) (map place (drop (i + 1) l))
  unfolding words_from
  words-next words = ap (λ (m : List ℕ). words_from words (map place m)) rest-token

-- Whether the next one is at the place.
module _ {row : Row} {l : List ℕ} (h : Lists row l) {i : ℕ} (low : i < length l) where
  pub next-is : (k : ℕ) → is_first k (drop i l) ≡ eqb k (place (get_or row.token i 0))
  unfolding is_first
  next-is k = rw (rest-next h low)

-- There is no token of the slot, and no more places.
module _ {row : Row} {l : List ℕ} (h : Lists row l) {i : ℕ} (over : length (take row.count row.token) ≤ i) where
  no-rest : drop i l ≡ []
  no-rest = rest-none l i (rw h.is at over)

  pub first-none : (number own : ℕ) → first_place number (drop i l) own ≡ own
  unfolding first_place
  first-none number own = rw no-rest

  pub words-done : (words : List ℕ) → words_from words (map place (drop i l)) ≡ words
  unfolding words_from
  words-done words = rw no-rest

-- A place stored.
pub stored-place : (words : List ℕ) (p q power : ℕ) → p ≡ q → power ≡ 2 ^ (p % 64)
    → set words (p / 64) (bit_or (get_or words (p / 64) 0) power) ≡ with_place words q
unfolding with_place
stored-place words p q power e f = rw (f, e)

-- A place that no word has.
pub high-place : (words : List ℕ) (p : ℕ) → length words ≡ 4 → 256 ≤ p → with_place words p ≡ words
unfolding with_place
high-place words p long high = set_out words (p / 64) _ (omega arith)

-- There is no next one.
pub none-next : (l : List ℕ) (i k : ℕ) → length l ≤ i → is_first k (drop i l) ≡ false
unfolding is_first
none-next l i k over = rw (rest-none l i over)

-- The first tokens of one list and the last of another.
pub others-listed : {row : Row} (k l : List ℕ) (kept from to : ℕ) → to ≡ length l
    → Lists row (take (kept - 0) (drop 0 k) ++ take (to - from) (drop from l)) → Lists row (take kept k ++ drop from l)
others-listed {row} k l kept from to e h =
    let z : kept - 0 ≡ kept = omega arith in
    rw (z, take_all (to - from) (drop from l) (omega (arith, length-drop from l))) at h

-- What is named for an atom that goes.
pub named-for : (t : Table) (state : State) (token : ℕ) (l : List ℕ)
    → map place (leave_out (enough_for t (asking state token)) l) ≡ places_of (implying t.variables (atoms_in t l) (plain (atom_of t token)))
unfolding enough_for enough_if implying
named-for t state token l =
    sym (places-of t (leave_out (enough_for t (asking state token)) l))
    ∙ ap places_of (leave_out-map (atom_of t) (λ (k : List Placed). implied t.variables (plains k) (plain (atom_of t token))) l)
