-- A walk over the rows of two runs: what it has come to, with the rows that are left, stays what all rows give.
-- The three loops of this crate are such walks; what they keep is P, of all rows and those that are left.
use mathlib.Core.Path.{subst}
use mathlib.Core.List.{List, [], ◌∷◌}
use Prim.Native.Nat.{ℕ, ◌≤◌}
use native.Mathlib.Nat.{le_refl}
use native.Mathlib.Omega.{arith}
use lib.IntN.{ℤ}
use Rattle.rules.specs.Signs.{SignSet, kind}
use Rattle.rules.specs.Polynomial.{Board}
use Rattle.rules.specs.Deduce.{Row, rows_of_q, rows}
use Rattle.terms.specs.View.{terms_of, terms-nil}
use Rattle.terms.specs.Signed.{Signed, signed-within}
use Rattle.plain_laws.specs.Bounds.{largest}
use Rattle.deduce.specs.declared.merge.Step.{Step}
use Rattle.deduce.specs.Merge.{AtMost, On, Next}
use Rattle.plain.specs.Values.{SmallPair}

-- the walk over the runs i₀..p and j₀..q, come to i and j
pub record Walked (cs : List ℤ) (ms : List ℕ) (ss : List SignSet) (i₀ p j₀ q : ℕ) (P : List Row → List Row → Type 0) (i j : ℕ) : Type 0 where
  pub first : On i₀ i p
  pub second : On j₀ j q
  pub rest : {board : Board} → Signed board ms ss i₀ p → Signed board ms ss j₀ q
      → P (rows board (terms_of cs ms i₀ p) (terms_of cs ms j₀ q)) (rows board (terms_of cs ms i p) (terms_of cs ms j q))

module _ {cs : List ℤ} {ms : List ℕ} {ss : List SignSet} {i₀ p j₀ q i j : ℕ} {P : List Row → List Row → Type 0} (w : Walked cs ms ss i₀ p j₀ q P i j) where
  -- one row further
  pub walk-on : {Q : List Row → List Row → Type 0} {n : Step} → Next cs ms ss i p j q n
      → ((board : Board) → Signed board ms ss i₀ p → Signed board ms ss j₀ q → (left : List Row) (m : ℕ)
      → P (rows board (terms_of cs ms i₀ p) (terms_of cs ms j₀ q)) (record { a = n.a; b = n.b; monomial = m; s = kind n.s } ∷ left)
      → Q (rows board (terms_of cs ms i₀ p) (terms_of cs ms j₀ q)) left)
      → Walked cs ms ss i₀ p j₀ q Q n.i n.j
  walk-on step keeps = record {
    first = omega (arith, w.first.on, w.first.within, step.first.on, step.first.within);
    second = omega (arith, w.second.on, w.second.within, step.second.on, step.second.within);
    rest = λ {board} s t.
        let taken = step.row (signed-within i p w.first.on (le_refl p) s) (signed-within j q w.second.on (le_refl q) t) in
        keeps board s t _ taken.monomial (subst (P (rows board (terms_of cs ms i₀ p) (terms_of cs ms j₀ q))) taken.is (w.rest s t));
  }

  -- its coefficients have the magnitudes of the others
  pub row_small : {n : Step} → Next cs ms ss i p j q n → AtMost largest cs i₀ p → AtMost largest cs j₀ q → SmallPair n.a n.b
  row_small step f g =
      let both = step.magnitudes largest (record { each = λ k h l. f.each k (omega (arith, w.first.on)) l }) (record { each = λ k h l. g.each k (omega (arith, w.second.on)) l }) in
      record { first = both.0; second = both.1 }

  -- no row is left
  pub walk-done : p ≤ i → q ≤ j → {board : Board} → Signed board ms ss i₀ p → Signed board ms ss j₀ q → P (rows board (terms_of cs ms i₀ p) (terms_of cs ms j₀ q)) []
  unfolding rows rows_of_q
  walk-done h k s t = rw (terms-nil cs ms i p h, terms-nil cs ms j q k) at (w.rest s t)

-- where it begins
pub walk_from : {cs : List ℤ} {ms : List ℕ} {ss : List SignSet} {i₀ p j₀ q : ℕ} {P : List Row → List Row → Type 0} → i₀ ≤ p → j₀ ≤ q → ((all : List Row) → P all all)
    → Walked cs ms ss i₀ p j₀ q P i₀ j₀
walk_from h k start = record { first = record { on = le_refl _; within = h }; second = record { on = le_refl _; within = k }; rest = λ s t. start _ }
