-- A run of places walked one place at a time: what a step does to the signs, and to the sign by terms.
-- Each loop keeps that what is left to do, done from what is at hand, gives what was asked.
use mathlib.Core.Path.{◌≡◌}
use mathlib.Core.List.{List}
use Prim.Native.Nat.{ℕ, suc, ◌+◌, ◌-◌, ◌<◌, ◌≤◌}
use native.Mathlib.Numerals.{add-one}
use native.Mathlib.Omega.{arith}
use lib.IntN.{ℤ, pos}
use lib.ListN.{get_or, set}
use Rattle.rules.specs.Signs.{SignSet, sign_of, only, sum, product}
use Rattle.rules.specs.Polynomial.{Board, monomial_sign}
use Rattle.terms.specs.Signed.{signs_from, signed, by_signs_from}

count-step : (i to : ℕ) → i < to → to - i ≡ suc (to - (i + 1))
count-step i to h = omega arith

count-end : (i to : ℕ) → to ≤ i → to - i ≡ 0
count-end i to h = omega arith

pub signed-step : (board : Board) (ms : List ℕ) (ss : List SignSet) (i to : ℕ) → i < to
    → signed board ms ss i to ≡ signed board ms (set ss i (monomial_sign board (get_or ms i 0))) (i + 1) to
unfolding signs_from
signed-step board ms ss i to h = rw (count-step i to h, add-one i)

pub signed-end : (board : Board) (ms : List ℕ) (ss : List SignSet) (i to : ℕ) → to ≤ i → signed board ms ss i to ≡ ss
unfolding signs_from
signed-end board ms ss i to h = rw (count-end i to h)

pub by-signs-step : (sofar : SignSet) (cs : List ℤ) (ss : List SignSet) (i to : ℕ) → i < to
    → by_signs_from sofar cs ss i (to - i) ≡ by_signs_from (sum sofar (product (only (sign_of (get_or cs i (pos 0)))) (get_or ss i 0))) cs ss (i + 1) (to - (i + 1))
unfolding by_signs_from
by-signs-step sofar cs ss i to h = rw (count-step i to h, add-one i)

pub by-signs-end : (sofar : SignSet) (cs : List ℤ) (ss : List SignSet) (i to : ℕ) → to ≤ i → by_signs_from sofar cs ss i (to - i) ≡ sofar
unfolding by_signs_from
by-signs-end sofar cs ss i to h = rw (count-end i to h)
