-- Tokens of atoms brought to normal form. An atom's token is number * 8 + set, below 2 ^ 9; the bits from 2 ^ 9 up to 2 ^ 24 are carried along.
-- A token from 2 ^ 24 on is a node's, and stays.
use Rattle.std.specs.Prelude.{◌≡◌, Bool, true, false, cond, List, map, ◌++◌, ℕ, ◌+◌, ◌*◌, ◌/◌, ◌%◌, ◌<◌, ltb, ℤ, get_or, take, drop}
use Rattle.std.proofs.Common.{ap₂, ◌∙◌, arith}
use Rattle.rules.specs.Signs.{SignSet, has, mirror_of_sign, mirror}
use Rattle.rules.specs.Polynomial.{normal}
use Rattle.sign_laws.specs.Sets.{set_of-small}
use Rattle.table.specs.Table.{form_at}
use Rattle.forms.specs.declared.WorkingTable.{WorkingTable}
use Rattle.normal.specs.Normal.{turned_set}
use Rattle.forms.specs.Slots.{slot_of}
use Rattle.forms.specs.Working.{table_of, Worked}

-- The token of the atom's normal form: the number of the form, the set mirrored if the polynomial was negated.
unfoldable pub normal_token : List ℕ → List Bool → ℕ → ℕ
normal_token number turned t = t / 512 * 512 + get_or number (t / 8 % 64) 0 * 8 + turned_set (get_or turned (t / 8 % 64) false) (t % 8)

-- A node's token stays.
unfoldable pub normal_unless_node : List ℕ → List Bool → ℕ → ℕ
normal_unless_node number turned t = cond (ltb t 16777216) (normal_token number turned t) t

-- The first tokens of a tape.
abbrev pub normal_tokens : List ℕ → List Bool → ℕ → List ℕ → List ℕ
normal_tokens number turned count tape = map (normal_unless_node number turned) (take count tape) ++ drop count tape

-- ---- The parts of a token.

turned-small : (b : Bool) (s : SignSet) → s < 8 → turned_set b s < 8
unfolding turned_set mirror
turned-small true s h = set_of-small (λ x. has (mirror_of_sign x) s)
turned-small false s h = h

slot-part : (place slot set : ℕ) → slot < 64 → set < 8 → (place * 512 + slot * 8 + set) / 8 % 64 ≡ slot
slot-part place slot set h k = omega arith

set-part : (place slot set : ℕ) → set < 8 → (place * 512 + slot * 8 + set) % 8 ≡ set
set-part place slot set k = omega arith

place-part : (place slot set : ℕ) → slot < 64 → set < 8 → (place * 512 + slot * 8 + set) / 512 ≡ place
place-part place slot set h k = omega arith

module _ (number : List ℕ) (turned : List Bool) (t : ℕ) where
  set_small : turned_set (get_or turned (t / 8 % 64) false) (t % 8) < 8
  set_small = turned-small (get_or turned (t / 8 % 64) false) (t % 8) (omega arith)

  -- The set of the normal form's token.
  pub token-set : normal_token number turned t % 8 ≡ turned_set (get_or turned (t / 8 % 64) false) (t % 8)
  unfolding normal_token
  token-set = set-part (t / 512) (get_or number (t / 8 % 64) 0) (turned_set (get_or turned (t / 8 % 64) false) (t % 8)) set_small

  module _ (small : get_or number (t / 8 % 64) 0 < 64) where
    -- Its slot.
    pub token-slot : normal_token number turned t / 8 % 64 ≡ get_or number (t / 8 % 64) 0
    unfolding normal_token
    token-slot = slot-part (t / 512) (get_or number (t / 8 % 64) 0) (turned_set (get_or turned (t / 8 % 64) false) (t % 8)) small set_small

    -- The place is carried along, so an atom's token stays below 2 ^ 24.
    pub token-place : normal_token number turned t / 512 ≡ t / 512
    unfolding normal_token
    token-place = place-part (t / 512) (get_or number (t / 8 % 64) 0) (turned_set (get_or turned (t / 8 % 64) false) (t % 8)) small set_small

    -- An atom's token stays one.
    pub token-stays : t < 16777216 → normal_token number turned t < 16777216
    token-stays h = omega (arith, token-place)

-- ---- The atom of a token.

-- The token of the normal form names, in the working table, the normal form of the atom that the token names in the block's.
pub token-normal : {plain : Bool} (cs : List ℤ) (ms ts : List ℕ) (m n : ℕ) (w : WorkingTable) → Worked plain cs ms ts m n w → (t : ℕ) → t / 8 % 64 < m
    → record { polynomial = form_at (table_of n w) (normal_token w.number w.turned t / 8 % 64); set = normal_token w.number w.turned t % 8 }
    ≡ normal (record { polynomial = slot_of cs ms ts (t / 8 % 64); set = t % 8 })
token-normal cs ms ts m n w worked t h =
    ap₂ (λ (slot : ℕ) (s : SignSet). record { polynomial = form_at (table_of n w) slot; set = s })
    (token-slot w.number w.turned t (worked.below (t / 8 % 64) h)) (token-set w.number w.turned t)
    ∙ worked.atoms (t / 8 % 64) (t % 8) h
