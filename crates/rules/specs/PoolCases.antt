-- 02, #113: small releases followed by computation. What blocks list, a release of two blocks that share a form, a slot that is freed and used again,
-- the refusals in order, and a full pool.
use Rattle.std.specs.Prelude.{◌≡◌, refl, Bool, true, false, List, [], ◌∷◌, ◌++◌, map, ℕ, zero, suc, ℤ, pos, negsuc, length, take, replicate}
use Rattle.rules.specs.Signs.{open_signs}
use Rattle.rules.specs.Polynomial.{Term, Polynomial, open_polynomial}
use Rattle.rules.specs.Formula.{leaf, open_formula}
use Rattle.rules.specs.Bits.{open_bits}
use Rattle.rules.specs.Pairs.{open_pairs}
use Rattle.rules.specs.Block.{Block, edition1, edition2, write_block, open_block}
use Rattle.rules.specs.Answer.{open_answer}
use Rattle.rules.specs.Pool.{forms_listed, Slot, slot_of, Pool, cleared, empty_pool, forms_in_use, Outcome, add_block, withdraw, Call, addition}
use Rattle.rules.specs.Pool.{withdrawal, called}
use Rattle.rules.specs.Pool.{after_all, refusals, open_pool}

abbrev term : ℤ → ℕ → Term
term a m = record { coefficient = a; monomial = m }

-- Of n variables, a block with this table; its tree uses the first polynomial alone.
abbrev block : ℕ → List Polynomial → Block
block n table = record { variables = n; table = table; tree = leaf (record { number = 0; set = 1 }) }

-- x is the monomial 16 and y is 1: x - y, x + 1, y + 1.
abbrev pub x-y : Polynomial
x-y = term (pos 1) 16 ∷ term (negsuc 0) 1 ∷ []

abbrev pub x+1 : Polynomial
x+1 = term (pos 1) 16 ∷ term (pos 1) 0 ∷ []

abbrev pub y+1 : Polynomial
y+1 = term (pos 1) 1 ∷ term (pos 1) 0 ∷ []

-- 2x - 2y, y - x, the constant 3, x + 1 and x - y: a multiple, a negation and a repeat of one form, and another.
abbrev pub first : Block
first = block 2 ((term (pos 2) 16 ∷ term (negsuc 1) 1 ∷ []) ∷ (term (negsuc 0) 16 ∷ term (pos 1) 1 ∷ []) ∷ (term (pos 3) 0 ∷ []) ∷ x+1 ∷ x-y ∷ [])

abbrev pub second : Block
second = block 2 (y+1 ∷ x-y ∷ [])

-- It lists nothing.
abbrev pub constant_alone : Block
constant_alone = block 3 ((term (pos 5) 0 ∷ []) ∷ [])

-- The row of 32 marks that begins so.
abbrev row : Bool → Bool → Bool → List Bool
row a b c = a ∷ b ∷ c ∷ replicate 29 false

abbrev first_slots : List Call → List Slot
first_slots calls = take 4 (after_all called calls empty_pool).slots

abbrev both_added : List Call
both_added = addition 0 (write_block edition1 first) ∷ addition 1 (write_block edition2 second) ∷ []

-- A form that two blocks list is stored once and has two uses; it stays while one of them is present; a freed slot is cleared, and used again.
pub shared :
    (first_slots both_added ≡ slot_of x-y (row true true false) ∷ slot_of x+1 (row true false false) ∷ slot_of y+1 (row false true false) ∷ cleared ∷ [])
    × (first_slots (both_added ++ (withdrawal 0 ∷ [])) ≡ slot_of x-y (row false true false) ∷ cleared ∷ slot_of y+1 (row false true false) ∷ cleared ∷ [])
    × (first_slots (both_added ++ (withdrawal 0 ∷ addition 2 (write_block edition1 first) ∷ []))
    ≡ slot_of x-y (row false true true) ∷ slot_of x+1 (row false false true) ∷ slot_of y+1 (row false true false) ∷ cleared ∷ [])
    × (after_all called (both_added ++ (withdrawal 1 ∷ withdrawal 0 ∷ [])) empty_pool ≡ empty_pool)
unfolding open_signs open_polynomial open_formula open_bits open_pairs open_block open_answer open_pool
shared = (refl, refl, refl, refl)

-- The reader's refusal, 26 for a number present or above 31, 27 for another n, 26 for a number absent or above 31; equal bytes under two numbers; the
-- n of a block that lists nothing; and another n when no block is present.
pub refused-in-order :
    refusals called
    (both_added ++ (addition 0 [] ∷ addition 0 (write_block edition1 constant_alone) ∷ addition 32 (write_block edition1 first)
    ∷ addition 31 (write_block edition1 constant_alone) ∷ addition 31 (write_block edition1 first) ∷ withdrawal 32 ∷ withdrawal 2 ∷ withdrawal 0 ∷ withdrawal 0 ∷ withdrawal 1 ∷ withdrawal 31
    ∷ addition 5 (write_block edition1 constant_alone) ∷ addition 6 (write_block edition2 second) ∷ [])) empty_pool
    ≡ 0 ∷ 0 ∷ 2 ∷ 26 ∷ 26 ∷ 27 ∷ 0 ∷ 26 ∷ 26 ∷ 0 ∷ 26 ∷ 0 ∷ 0 ∷ 0 ∷ 27 ∷ []
unfolding open_signs open_polynomial open_formula open_bits open_pairs open_block open_answer open_pool
refused-in-order = refl

-- So many slots with x + c for falling c, listed by the block 0, and the others cleared.
unfoldable pub full_slots : ℕ → List Slot
full_slots zero = []
full_slots (suc k) = slot_of (term (pos 1) 16 ∷ term (pos (suc k)) 0 ∷ []) (row true false false) ∷ full_slots k

unfoldable pub nearly_full : List Slot → Pool
nearly_full free = record { variables = 2; present = row true false false; slots = full_slots 126 ++ free }

-- With 126 forms in use two more are stored; with 127 they are one too many, unless one of them is in use; with both in use a full pool takes the
-- block.
pub full :
    ((add_block 1 second (nearly_full (cleared ∷ cleared ∷ []))).refusal ≡ 0)
    × ((add_block 1 second (nearly_full (cleared ∷ slot_of (term (pos 1) 32 ∷ []) (row true false false) ∷ []))).refusal ≡ 28)
    × ((add_block 1 second (nearly_full (cleared ∷ slot_of y+1 (row true false false) ∷ []))).refusal ≡ 0)
    × ((add_block 1 second (nearly_full (slot_of y+1 (row true false false) ∷ slot_of (term (pos 1) 32 ∷ []) (row true false false) ∷ []))).refusal ≡ 28)
    × ((add_block 1 second (nearly_full (slot_of y+1 (row true false false) ∷ slot_of x-y (row true false false) ∷ []))).refusal ≡ 0)
unfolding open_signs open_polynomial open_answer open_pool full_slots nearly_full
full = (refl, refl, refl, refl, refl)

abbrev full_pool : Pool
full_pool = nearly_full (slot_of (term (pos 1) 48 ∷ []) (row true false false) ∷ slot_of (term (pos 1) 32 ∷ []) (row true false false) ∷ [])

-- A full pool refuses a new form, after 26 and 27, and stays as it was; what is withdrawn makes room.
pub full_refuses :
    ((add_block 1 second full_pool).refusal ≡ 28)
    × ((add_block 1 second full_pool).result ≡ full_pool)
    × ((add_block 1 (block 3 (y+1 ∷ x-y ∷ [])) full_pool).refusal ≡ 27)
    × ((add_block 0 (block 3 (y+1 ∷ x-y ∷ [])) full_pool).refusal ≡ 26)
    × ((add_block 1 second (withdraw 0 full_pool).result).refusal ≡ 0)
unfolding open_signs open_polynomial open_answer open_pool full_slots nearly_full
full_refuses = (refl, refl, refl, refl, refl)
