-- The exponents of a term by edition, and the pairs of a monomial: each is a first field and the others.
use mathlib.Core.Path.{◌≡◌, refl, sym, ap, ◌∙◌}
use mathlib.Core.List.{List, [], ◌∷◌, ◌++◌}
use Prim.Native.Nat.{ℕ, zero, suc, ◌+◌, ◌-◌, ◌*◌, ◌≤◌, ◌<◌}
use native.Mathlib.Omega.{arith}
use lib.ListN.{length}
use Rattle.rules.specs.Bits.{field}
use Rattle.rules.specs.Polynomial.{exponent}
use Rattle.rules.specs.Pairs.{Pair, pair_unless, pairs_from, pairs_of, write_pairs}
use Rattle.rules.specs.Block.{edition_of, write_exponents}
use Rattle.block.proofs.ReadingHead.{in-edition1, in-edition2}
use Rattle.writer.specs.Written.{Room, Wrote}
use Rattle.writer.proofs.Writing.{Split, wrote_nothing}

-- ---- the exponents

pub exponents-field : (edition n m : ℕ) → edition < 2 → write_exponents (edition_of edition) n m ≡ field (4 * n) m
unfolding write_exponents
exponents-field edition n m first = rw (in-edition1 edition first)

pub exponents-split : (edition n m : ℕ) → 2 ≤ edition → {count : ℕ} → count ≡ length (pairs_from n n m)
    → Split (write_exponents (edition_of edition) n m) (field 5 count) (write_pairs (pairs_from n n m))
unfolding write_exponents pairs_of
exponents-split edition n m second counted = record { whole_is = rw (in-edition2 edition second, counted) }

-- ---- the pairs of the last k variables

from_next : (n k m : ℕ) → (k ≡ 0 → ⊥) → pairs_from n k m ≡ pair_unless (n - k) (exponent m (k - 1)) (pairs_from n (k - 1) m)
unfolding pairs_from
from_next n zero m some = absurd (some refl)
from_next n (suc k) m some = let others : suc k - 1 ≡ k = omega arith in rw others

unless-zero : (v : ℕ) {e : ℕ} (later : List Pair) → e ≡ 0 → pair_unless v e later ≡ later
unfolding pair_unless
unless-zero v later none = rw none

unless-some : (v e : ℕ) (later : List Pair) → (e ≡ 0 → ⊥) → pair_unless v e later ≡ record { variable = v; exponent = e } ∷ later
unfolding pair_unless
unless-some v zero later some = absurd (some refl)
unless-some v (suc e) later some = refl

module _ (n k m : ℕ) where
  pub no_pairs : k ≡ 0 → pairs_from n k m ≡ []
  unfolding pairs_from
  no_pairs none = rw none

  pub none_written : k ≡ 0 → {out : List ℕ} {at : ℕ} → Wrote out out at (write_pairs (pairs_from n k m)) at
  unfolding write_pairs
  none_written none = rw (no_pairs none) wrote_nothing

  module _ (some : k ≡ 0 → ⊥) {e : ℕ} (is : e ≡ exponent m (k - 1)) where
    pub pair-skipped : e ≡ 0 → pairs_from n k m ≡ pairs_from n (k - 1) m
    pair-skipped zero_is = from_next n k m some ∙ unless-zero (n - k) (pairs_from n (k - 1) m) (sym is ∙ zero_is)

    first-pair : (e ≡ 0 → ⊥) → pairs_from n k m ≡ record { variable = n - k; exponent = e } ∷ pairs_from n (k - 1) m
    first-pair above = from_next n k m some ∙ rw (← is) (unless-some (n - k) e (pairs_from n (k - 1) m) above)

    pub pair-counted : (e ≡ 0 → ⊥) → length (pairs_from n k m) ≡ length (pairs_from n (k - 1) m) + 1
    pair-counted above = rw (first-pair above) (omega arith)

    pub pair-split : (e ≡ 0 → ⊥) → Split (write_pairs (pairs_from n k m)) (field 4 (n - k)) (field 4 e ++ write_pairs (pairs_from n (k - 1) m))
    unfolding write_pairs
    pair-split above = record { whole_is = rw (first-pair above) }
