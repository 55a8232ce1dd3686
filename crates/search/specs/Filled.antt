-- Boards of which each set has a sign: on these the signs of monomials, and of their sums, are never empty, and the tries are what the code finds.
-- A set below 8 has one unless it is the empty set.
use Rattle.std.specs.Prelude.{◌≡◌, refl, false, [], ◌∷◌, ℕ, suc, ◌<◌, eqb, length, get_or}
use Rattle.std.proofs.Common.{arith}
use Rattle.rules.specs.Signs.{empty, full}
use Rattle.rules.specs.Polynomial.{Board}
use Rattle.rules.specs.Deduce.{any_empty}
use Rattle.sign_laws.specs.Booleans.{neither}
use Rattle.sign_laws.specs.Lists.{Every, every_none, every}
use Rattle.sign_laws.specs.Sets.{not_empty}
use Rattle.removal_laws.specs.Wider.{Wider, no_sets, sets}
use Rattle.removal_laws.specs.Terms.{Signed, small_signed}

-- each set has a sign
abbrev pub Filled : Board → Type 0
Filled board = Every Signed board

-- sets below 8 of which none is empty
pub filled-low : (board : Board) → ((i : ℕ) → i < length board → get_or board i full < 8) → any_empty board ≡ false → Filled board
unfolding any_empty
filled-low [] low e = every_none
filled-low (s ∷ board) low e =
    let (here, later) = (neither (eqb s empty) (any_empty board)).0 e in
    every (small_signed s (low 0 (omega arith)) here) (filled-low board (λ i h. low (suc i) (omega arith)) later)

-- none of them is empty
pub filled-none-empty : {board : Board} → Filled board → any_empty board ≡ false
unfolding any_empty
filled-none-empty every_none = refl
filled-none-empty (every {a = s} {l = board} h hs) = (neither (eqb s empty) (any_empty board)).1 (not_empty s h.held, filled-none-empty hs)

-- a wider board is filled too
pub filled-wider : {board wide : Board} → Wider board wide → Filled board → Filled wide
filled-wider no_sets every_none = every_none
filled-wider (sets part w) (every h hs) = every (record { sign = h.sign; held = part.each h.sign h.held }) (filled-wider w hs)
