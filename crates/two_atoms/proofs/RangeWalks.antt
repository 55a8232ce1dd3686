-- The walk that narrows a range: at each index that is left out some monomial fails, and what comes after it keeps that.
use mathlib.Core.Path.{◌≡◌, refl, sym, ap, ◌∙◌}
use mathlib.Core.Bool.{Bool, true, false}
use mathlib.Core.List.{List}
use Prim.Native.Nat.{ℕ, ◌-◌, ◌<◌, ◌≤◌}
use native.Mathlib.Nat.{le_refl}
use native.Mathlib.Omega.{arith}
use borrow.Author.Tests.{ltb-true, ltb-false}
use lib.Dec.{ltb, lit<}
use lib.IntN.{ℤ, ◌-ℤ◌, ◌*ℤ◌}
use Rattle.rules.specs.Signs.{SignSet, nought, sign_of, only, has, sum, product, inside}
use Rattle.rules.specs.Polynomial.{Board, by_terms_from, by_terms}
use Rattle.sign_laws.specs.Lists.{Every}
use Rattle.sign_laws.specs.Sets.{◌In◌, in-only}
use Rattle.removal_laws.specs.Terms.{Signed as HasSign, product-signed}
use Rattle.terms.specs.Signed.{Signed, signed-within}
use Rattle.deduce.specs.Merge.{On}
use Rattle.two_atoms.specs.declared.pair.Pair.{Pair}
use Rattle.two_atoms.specs.declared.range.Range.{Range}
use Rattle.two_atoms.specs.declared.total.Step.{Step}
use Rattle.two_atoms.specs.Totals.{total_from, Stepped}
use Rattle.two_atoms.specs.Tries.{factor_at}
use Rattle.two_atoms.specs.Ranges.{asked_in, barred, added_at, Raised, Lowered, Outside, under, over, Narrowed}
use Rattle.two_atoms.proofs.Totals.{stays}
use Rattle.two_atoms.proofs.Walks.{sum_low}
use Rattle.two_atoms.proofs.Ranges.{outer, has-barred, added-in-sum, sum-signed, product-low}

-- no set of the board is empty, and the signs of the three runs are its
pub record OnRuns (board : Board) (ms : List ℕ) (ss : List SignSet) (i m j n k o : ℕ) : Type 0 where
  pub p : Signed board ms ss i m
  pub q1 : Signed board ms ss j n
  pub q2 : Signed board ms ss k o
  pub filled : Every HasSign board

-- some set at hand to which what is left adds what all monomials give
pub record AtHand (board : Board) (cs : List ℤ) (ms : List ℕ) (i₀ m j₀ n k₀ o : ℕ) (u w : ℤ) (i j k : ℕ) : Type 0 where
  pub set : SignSet
  pub low : set < 8
  pub signed : HasSign set
  pub rest : by_terms_from set board (total_from cs ms i m j n k o u w) ≡ by_terms board (total_from cs ms i₀ m j₀ n k₀ o u w)

-- the walk has come to i, j and k with the indices from..to
pub record RangeWalked (cs : List ℤ) (ms : List ℕ) (ss : List SignSet) (i₀ m j₀ n k₀ o : ℕ) (u : ℤ) (mirrored : Bool)
    (from₀ to₀ from to i j k : ℕ) : Type 0 where
  pub first : On i₀ i m
  pub second : On j₀ j n
  pub third : On k₀ k o
  pub ordered : from ≤ to
  pub low : to ≤ 8
  pub at_hand : {board : Board} → OnRuns board ms ss i₀ m j₀ n k₀ o → (w : ℤ) → AtHand board cs ms i₀ m j₀ n k₀ o u w i j k
  pub fails : {board : Board} → OnRuns board ms ss i₀ m j₀ n k₀ o → (q : ℕ) → from₀ ≤ q → q < to₀ → Outside from to q
      → barred mirrored In by_terms board (total_from cs ms i₀ m j₀ n k₀ o u (factor_at (7 - q)))

pub not-outside : {X : Type 0} {from to q : ℕ} → from ≤ q → q < to → Outside from to q → X
not-outside f g (under l) = absurd (omega arith)
not-outside f g (over l) = absurd (omega arith)

pub range-begun : {cs : List ℤ} {ms : List ℕ} {ss : List SignSet} {i m j n k o : ℕ} {u : ℤ} {mirrored : Bool} {from to : ℕ} → i ≤ m → j ≤ n → k ≤ o
    → from ≤ to → to ≤ 8
    → RangeWalked cs ms ss i m j n k o u mirrored from to from to i j k
unfolding by_terms only
range-begun a b c d e = record {
  first = omega arith;
  second = omega arith;
  third = omega arith;
  ordered = d;
  low = e;
  at_hand = λ h w. record { set = 2; low = lit< tt; signed = record { sign = nought; held = in-only nought }; rest = refl };
  fails = λ h q f g l. not-outside f g l;
}

module _ {cs : List ℤ} {ms : List ℕ} {ss : List SignSet} {i₀ m j₀ n k₀ o : ℕ} {u : ℤ} {mirrored : Bool} {from₀ to₀ from to i j k : ℕ}
    (t : RangeWalked cs ms ss i₀ m j₀ n k₀ o u mirrored from₀ to₀ from to i j k) {r : Step} (h : Stepped cs ms ss i m j n k o u r) where
  module _ {board : Board} (a : OnRuns board ms ss i₀ m j₀ n k₀ o) where
    step-signed : HasSign r.s
    step-signed = h.signed (signed-within i m t.first.on (le_refl m) a.p) (signed-within j n t.second.on (le_refl n) a.q1)
        (signed-within k o t.third.on (le_refl o) a.q2) a.filled

    adds_on : (w : ℤ) (s : SignSet) → s < 8
        → by_terms_from (sum s (product (only (sign_of (r.x -ℤ w *ℤ r.b))) r.s)) board (total_from cs ms r.i m r.j n r.k o u w)
        ≡ by_terms_from s board (total_from cs ms i m j n k o u w)
    adds_on = h.adds (signed-within i m t.first.on (le_refl m) a.p) (signed-within j n t.second.on (le_refl n) a.q1)
        (signed-within k o t.third.on (le_refl o) a.q2) a.filled

    hand_on : (w : ℤ) → AtHand board cs ms i₀ m j₀ n k₀ o u w r.i r.j r.k
    hand_on w =
        let s = t.at_hand a w in
        let x = product (only (sign_of (r.x -ℤ w *ℤ r.b))) r.s in
        record {
          set = sum s.set x;
          low = sum_low s.set x;
          signed = sum-signed s.signed (product-signed (record { sign = sign_of (r.x -ℤ w *ℤ r.b); held = in-only _ }) step-signed);
          rest = adds_on w s.set s.low ∙ s.rest;
        }

    -- the monomial fails at an index, and with it the set by terms
    fails-here : (q : ℕ) → inside (added_at r.x r.b r.s q) (asked_in mirrored) ≡ false
        → barred mirrored In by_terms board (total_from cs ms i₀ m j₀ n k₀ o u (factor_at (7 - q)))
    fails-here q e =
        let w = factor_at (7 - q) in
        let s = t.at_hand a w in
        let x = added_at r.x r.b r.s q in
        let held = stays (outer mirrored) a.filled (total_from cs ms r.i m r.j n r.k o u w)
        (added-in-sum (outer mirrored) s.signed (has-barred mirrored x (product-low _ _) e)) in
        record { is = ap (has (barred mirrored)) (sym (adds_on w s.set s.low ∙ s.rest)) ∙ held.is }

  module _ {asked : SignSet} (e : asked ≡ asked_in mirrored) {from' to' : ℕ} (f : Raised r.x r.b r.s asked from to from')
      (g : Lowered r.x r.b r.s asked from' to to') where
    fails-on : {board : Board} → OnRuns board ms ss i₀ m j₀ n k₀ o → (q : ℕ) → from₀ ≤ q → q < to₀ → Outside from' to' q
        → barred mirrored In by_terms board (total_from cs ms i₀ m j₀ n k₀ o u (factor_at (7 - q)))
    fails-on {board} a q c d (under l) = by (ltb q from) refl
      where
        by : (b : Bool) → ltb q from ≡ b → barred mirrored In by_terms board (total_from cs ms i₀ m j₀ n k₀ o u (factor_at (7 - q)))
        by true x = t.fails a q c d (under (ltb-true q from x))
        by false x = fails-here a q (sym (ap (inside (added_at r.x r.b r.s q)) e) ∙ f.fails q (ltb-false q from x) l)
    fails-on {board} a q c d (over l) = by (ltb q to) refl
      where
        by : (b : Bool) → ltb q to ≡ b → barred mirrored In by_terms board (total_from cs ms i₀ m j₀ n k₀ o u (factor_at (7 - q)))
        by true x = fails-here a q (sym (ap (inside (added_at r.x r.b r.s q)) e) ∙ g.fails q l (ltb-true q to x))
        by false x = t.fails a q c d (over (ltb-false q to x))

    -- one monomial further
    pub walk-range : RangeWalked cs ms ss i₀ m j₀ n k₀ o u mirrored from₀ to₀ from' to' r.i r.j r.k
    walk-range = record {
      first = omega arith;
      second = omega arith;
      third = omega arith;
      ordered = g.ordered;
      low = omega arith;
      at_hand = λ a w. hand_on a w;
      fails = fails-on;
    }

-- what is left of the range
pub range-narrowed : {cs : List ℤ} {ms : List ℕ} {ss : List SignSet} {x : Pair} {u : ℤ} {mirrored : Bool} {range : Range} {from to i j k : ℕ}
    → RangeWalked cs ms ss x.p.from x.p.to x.q1.from x.q1.to x.q2.from x.q2.to u mirrored
    range.from range.to from to i j k
    → Narrowed cs ms ss x u mirrored range (record { from = from; to = to })
range-narrowed t = record { fails = λ a q f g l. t.fails (record { p = a.p; q1 = a.q1; q2 = a.q2; filled = a.filled }) q f g l }
