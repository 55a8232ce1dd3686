-- Who takes a sign out, after one more atom; and the slots that are marked because their atoms alone take one out.
use mathlib.Core.Path.{◌≡◌, sym, subst}
use mathlib.Core.Bool.{true}
use mathlib.Core.List.{List}
use Prim.Native.Nat.{ℕ, suc, ◌-◌, ◌/◌, ◌%◌, ◌<◌}
use native.Mathlib.Omega.{arith}
use lib.ListN.{get_or}
use Rattle.rules.specs.Signs.{Sign, negative, nought, positive, only}
use Rattle.common_run.specs.declared.takers.Takers.{Takers}
use Rattle.common_run.specs.Marks.{marked_by, MarkedAt}
use Rattle.common_run.specs.Takers.{taker_of, Taker, Taken, SoleMarked, NeededMarked}
use Rattle.common_run.proofs.Marking.{grows-itself, grows-on}

-- ---- one more atom, of slot k

-- of the three signs
pub no-taker : {takers : Takers} → takers.negative ≡ 0 → takers.nought ≡ 0 → takers.positive ≡ 0 → (s : Sign) → taker_of takers s ≡ 0
unfolding taker_of
no-taker n z p negative = n
no-taker n z p nought = z
no-taker n z p positive = p

pub three-signs : (takers : Takers) (old cut k : ℕ) {r : Takers} → Taker takers.negative (old / 4 % 2) (cut / 4 % 2) k r.negative
    → Taker takers.nought (old / 2 % 2) (cut / 2 % 2) k r.nought → Taker takers.positive (old % 2) (cut % 2) k r.positive
    → Taken takers old cut k r
unfolding taker_of only
three-signs takers old cut k {r} n z p = record { each = sign }
  where
    sign : (s : Sign) → Taker (taker_of takers s) (old / only s % 2) (cut / only s % 2) k (taker_of r s)
    sign negative = n
    sign nought = z
    sign positive =
        let e : old / 1 % 2 ≡ old % 2 = omega arith in
        let f : cut / 1 % 2 ≡ cut % 2 = omega arith in
        rw (e, f) p

-- ---- marks

module _ (marks : List ℕ) (by round : ℕ) where
  pub sole_none : by ≡ 0 → SoleMarked marks by round marks
  sole_none e = record { grows = grows-itself marks; here = λ k low q. absurd (omega arith) }

  pub sole-several : 64 < by → SoleMarked marks by round marks
  sole-several h = record { grows = grows-itself marks; here = λ k low q. absurd (omega arith) }

  pub sole-one : {more : List ℕ} → (by ≡ 0 → ⊥) → MarkedAt marks 0 by (by - 1) round more → SoleMarked marks by round more
  sole-one {more} some m = record {
    grows = m.grows;
    here = λ k low q. let e : by - 1 ≡ k = omega arith in subst (λ (x : ℕ). marked_by (get_or more x 0) round ≡ true) e (m.here (λ z. some (sym z)));
  }

pub three-marked : {marks one two three : List ℕ} (takers : Takers) {round : ℕ} → SoleMarked marks takers.negative round one
    → SoleMarked one takers.nought round two → SoleMarked two takers.positive round three → NeededMarked marks takers round three
unfolding taker_of
three-marked {three = three} takers {round} f g h = record { grows = grows-on f.grows (grows-on g.grows h.grows); here = sign }
  where
    sign : (s : Sign) (k : ℕ) → k < 64 → taker_of takers s ≡ suc k → marked_by (get_or three k 0) round ≡ true
    sign negative k low e = h.grows.keeps k round (g.grows.keeps k round (f.here k low e))
    sign nought k low e = h.grows.keeps k round (g.here k low e)
    sign positive k low e = h.here k low e
