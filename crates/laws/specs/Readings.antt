-- A board whose sets have the signs of the readings, place by place, is one that the readings fit.
use Rattle.std.specs.Prelude.{◌≡◌, List, [], ◌∷◌, ℕ, suc, ◌<◌, ℤ, pos, length, get_or}
use Rattle.std.proofs.Common.{sym, ◌∙◌, subst, arith}
use Rattle.rules.specs.Signs.{full, sign_of}
use Rattle.rules.specs.Polynomial.{Board}
use Rattle.sign_laws.specs.Sets.{◌In◌}
use Rattle.deduction_laws.specs.Readings.{Fits as ReadingsFit, no_readings, reading}

-- A board that holds the signs of the readings, place by place.
pub place-by-place : (readings : List ℤ) (board : Board) → length board ≡ length readings
    → ((i : ℕ) → i < length readings → sign_of (get_or readings i (pos 0)) In get_or board i full) → ReadingsFit readings board
place-by-place [] [] long each = no_readings
place-by-place [] (s ∷ board) long each = absurd (omega arith)
place-by-place (x ∷ readings) [] long each = absurd (omega arith)
place-by-place (x ∷ readings) (s ∷ board) long each =
    reading (record { sign = each 0 (omega arith) }) (place-by-place readings board (omega arith) (λ i h. each (suc i) (omega arith)))
