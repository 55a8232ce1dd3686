-- No token that was passed is of the slot.
use Rattle.std.proofs.Common.{◌≡◌, List, ℕ, drop}
use Rattle.tape.specs.Row.{Lists}
use Rattle.tape.specs.Token.{place}
use Rattle.reasons.specs.Telling.{first_place}
use Rattle.reasons.proofs.first_place.Given as goal

abbrev pub invariant-loop-other : goal.invariant-loop-other
invariant-loop-other l =
    (tokens : List ℕ) → Lists l.fn.list tokens → first_place l.number (drop l.other-index tokens) (place l.fn.token) ≡ first_place l.number tokens (place l.fn.token)
