-- The words of a pool, and the pool that any words stand for: n, the numbers present, and 128 slots of 34 words, each the row of marks, the number of
-- terms, 16 coefficients and 16 monomials. A word that is not there reads as 0.
use Rattle.std.specs.Prelude.{List, [], ◌∷◌, Bool, true, false, ℕ, zero, suc, ◌+◌, ◌*◌, eqb, ltb, length, get_or, set}
use Rattle.rules.specs.Polynomial.{Polynomial}
use Rattle.rules.specs.Pool.{either, count, Slot, Pool, slot_of, unless_none}
use Rattle.pool_laws.specs.Places.{place_for}
use Rattle.terms.specs.View.{few}
use Rattle.pool.specs.Marks.{marks, row_word}
use Rattle.pool.specs.Coefficients.{coefficient_of, coefficient_word}

-- ---- What words stand for.

-- The k terms from a place on: each coefficient's monomial stands 16 words behind it.
unfoldable pub terms_in : List ℕ → ℕ → ℕ → Polynomial
terms_in words i zero = []
terms_in words i (suc k) = record { coefficient = coefficient_of (get_or words i 0); monomial = get_or words (i + 16) 0 } ∷ terms_in words (suc i) k

-- Where slot i begins.
abbrev pub slot_place : ℕ → ℕ
slot_place i = 2 + 34 * i

-- The slot at a place. Its uses are the number of its marks; of the terms sixteen at most are read.
unfoldable pub slot_at : List ℕ → ℕ → Slot
slot_at words at = slot_of (terms_in words (at + 2) (few (get_or words (at + 1) 0))) (marks 32 (get_or words at 0))

-- The k slots from number i on.
unfoldable pub slots_from : List ℕ → ℕ → ℕ → List Slot
slots_from words i zero = []
slots_from words i (suc k) = slot_at words (slot_place i) ∷ slots_from words (suc i) k

abbrev pub slots_of : List ℕ → List Slot
slots_of words = slots_from words 0 128

unfoldable pub pool_of : List ℕ → Pool
pool_of words = record { variables = get_or words 0 0; present = marks 32 (get_or words 1 0); slots = slots_of words }

-- ---- What is stored.

-- A term at a place.
abbrev pub put_term : List ℕ → ℕ → ℕ → ℕ → List ℕ
put_term words i coefficient monomial = set (set words i coefficient) (i + 16) monomial

-- Terms from a place on, and zeros behind them, k places in all.
unfoldable pub put_terms : List ℕ → ℕ → Polynomial → ℕ → List ℕ
put_terms words i p zero = words
put_terms words i [] (suc k) = put_terms (put_term words i 0 0) (suc i) [] k
put_terms words i (t ∷ p) (suc k) = put_terms (put_term words i (coefficient_word t.coefficient) t.monomial) (suc i) p k

-- A form and its row, in the slot at a place.
unfoldable pub put_slot : List ℕ → ℕ → Polynomial → List Bool → List ℕ
put_slot words at p row = put_terms (set (set words at (row_word row)) (at + 1) (length p)) (at + 2) p 16

-- A form listed for a number: it goes to its place, if there is one.
unfoldable pub listed_words : ℕ → List ℕ → Polynomial → List ℕ
listed_words number words p =
    let place = place_for p (slots_of words) in
    either (ltb place 128) (put_slot words (slot_place place) p (set (marks 32 (get_or words (slot_place place) 0)) number true)) words

unfoldable pub all_listed : ℕ → List ℕ → List Polynomial → List ℕ
all_listed number words [] = words
all_listed number words (p ∷ ps) = all_listed number (listed_words number words p) ps

-- The words after an addition.
unfoldable pub added_words : ℕ → ℕ → List Polynomial → List ℕ → List ℕ
added_words number n forms words =
    set (set (all_listed number words forms) 0 n) 1 (row_word (set (marks 32 (get_or words 1 0)) number true))

-- k words cleared from a place on.
unfoldable pub zeros : List ℕ → ℕ → ℕ → List ℕ
zeros words i zero = words
zeros words i (suc k) = zeros (set words i 0) (suc i) k

-- A mark taken away: without a mark left the 34 words are cleared.
unfoldable pub unlisted : ℕ → List ℕ → ℕ → List ℕ
unlisted number words at =
    let row = set (marks 32 (get_or words at 0)) number false in
    either (eqb (count row) 0) (zeros words at 34) (set words at (row_word row))

-- From the k slots from number i on.
unfoldable pub all_unlisted : ℕ → List ℕ → ℕ → ℕ → List ℕ
all_unlisted number words i zero = words
all_unlisted number words i (suc k) = all_unlisted number (unlisted number words (slot_place i)) (suc i) k

-- The words after a withdrawal.
unfoldable pub withdrawn_words : ℕ → List ℕ → List ℕ
withdrawn_words number words =
    let left = set (marks 32 (get_or words 1 0)) number false in
    set (set (all_unlisted number words 0 128) 1 (row_word left)) 0 (unless_none (count left) (get_or words 0 0))
