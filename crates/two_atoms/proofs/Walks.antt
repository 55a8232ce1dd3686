-- The walk over the monomials of p + u·q1 + v·q2, from one to the next and to its end.
use mathlib.Core.Path.{◌≡◌, ap, ◌∙◌}
use mathlib.Core.Bool.{true}
use mathlib.Core.List.{List}
use Prim.Native.Nat.{ℕ, ◌<◌, ◌≤◌}
use native.Mathlib.Nat.{le_refl}
use native.Mathlib.Omega.{arith}
use lib.IntN.{ℤ, neg_ℤ, ◌-ℤ◌, ◌*ℤ◌}
use Rattle.rules.specs.Signs.{SignSet, kind, sign_of, only, sum, product, all_signs, negative, positive}
use Rattle.rules.specs.Polynomial.{Board, by_terms_from, by_terms}
use Rattle.rules.specs.TwoAtoms.{tried}
use Rattle.sign_laws.specs.Lists.{Every}
use Rattle.sign_laws.specs.Sets.{set_of-small, in-full}
use Rattle.removal_laws.specs.Terms.{Signed as HasSign}
use Rattle.terms.specs.View.{terms-nil}
use Rattle.terms.specs.Signed.{Signed, signed-within}
use Rattle.deduce.specs.Merge.{On}
use Rattle.deduce.specs.Last.{asks_zero}
use Rattle.deduce.specs.declared.Run.{Run}
use Rattle.two_atoms.specs.declared.total.Step.{Step}
use Rattle.two_atoms.specs.Sums.{Places}
use Rattle.two_atoms.specs.Totals.{total_from, Stepped, Total}
use Rattle.two_atoms.proofs.Sums.{plus_none, sum-none}
use Rattle.two_atoms.proofs.Totals.{below, above, stays, has_both, mixed-tried}

-- the walk over the runs i₀..m, j₀..n and k₀..o has come to i, j and k with the set at hand: what is left adds up to all of it
pub record TotalWalked (cs : List ℤ) (ms : List ℕ) (ss : List SignSet) (i₀ m j₀ n k₀ o : ℕ) (u w : ℤ) (sofar : SignSet) (i j k : ℕ) : Type 0 where
  pub first : On i₀ i m
  pub second : On j₀ j n
  pub third : On k₀ k o
  pub low : sofar < 8
  pub rest : {board : Board} → Signed board ms ss i₀ m → Signed board ms ss j₀ n → Signed board ms ss k₀ o → Every HasSign board
      → by_terms_from sofar board (total_from cs ms i m j n k o u w) ≡ by_terms board (total_from cs ms i₀ m j₀ n k₀ o u w)

-- a part of the places at the end
pub from-within : {cs : List ℤ} {ms : List ℕ} {ss : List SignSet} {i₀ i m : ℕ} → Places cs ms ss i₀ m → On i₀ i m → Places cs ms ss i m
from-within h w = record { ordered = w.within; coefficients = h.coefficients; monomials = h.monomials; signs = h.signs }

pub sum_low : (a b : SignSet) → sum a b < 8
unfolding sum all_signs
sum_low a b = set_of-small _

module _ {cs : List ℤ} {ms : List ℕ} {ss : List SignSet} {i₀ m j₀ n k₀ o : ℕ} {u w : ℤ} {sofar : SignSet} {i j k : ℕ}
    (t : TotalWalked cs ms ss i₀ m j₀ n k₀ o u w sofar i j k) where
  -- one monomial further
  pub walk-total : {r : Step} {next : SignSet} → Stepped cs ms ss i m j n k o u r
      → next ≡ sum sofar (product (only (sign_of (r.x -ℤ w *ℤ r.b))) r.s)
      → TotalWalked cs ms ss i₀ m j₀ n k₀ o u w next r.i r.j r.k
  walk-total {r} {next} h e = record {
    first = omega arith;
    second = omega arith;
    third = omega arith;
    low = rw e (sum_low _ _);
    rest = λ a b c signed. rw e (h.adds (signed-within i m t.first.on (le_refl m) a) (signed-within j n t.second.on (le_refl n) b)
        (signed-within k o t.third.on (le_refl o) c) signed w sofar t.low ∙ t.rest a b c signed);
  }

-- the set at hand holds negative and positive numbers
pub total-mixed : {cs : List ℤ} {ms : List ℕ} {ss : List SignSet} {p q1 q2 : Run} {u w : ℤ} {sofar : SignSet} {i j k : ℕ}
    → TotalWalked cs ms ss p.from p.to q1.from q1.to q2.from q2.to u w sofar i j k → asks_zero (kind sofar) ≡ true
    → Total cs ms ss p q1 q2 u w 7
total-mixed {cs} {ms} {p = p} {q1} {q2} {u} {w} {sofar} {i} {j} {k} t e = record {
  on = λ {board} a b c signed np nn strict.
      let both = has_both sofar t.low e in
      let rest = total_from cs ms i p.to j q1.to k q2.to u w in
      mixed-tried 7 (by_terms_from sofar board rest) (in-full negative) (in-full positive) (stays below signed rest both.0)
      (stays above signed rest both.1) np nn strict
      ∙ ap (λ (s : SignSet). tried np nn s strict) (t.rest a b c signed);
}

-- all runs are at their end
pub total-done : {cs : List ℤ} {ms : List ℕ} {ss : List SignSet} {p q1 q2 : Run} {u w : ℤ} {sofar : SignSet} {i j k : ℕ}
    → TotalWalked cs ms ss p.from p.to q1.from q1.to q2.from q2.to u w sofar i j k → p.to ≤ i → q1.to ≤ j → q2.to ≤ k
    → Total cs ms ss p q1 q2 u w sofar
unfolding by_terms_from
total-done {cs} {ms} {p = p} {q1} {q2} {u} {w} {sofar} {i} {j} {k} t f g h = record {
  on = λ {board} a b c signed np nn strict. ap (λ (s : SignSet). tried np nn s strict)
      (rw (sum-none cs ms u f g, terms-nil cs ms k q2.to h, plus_none (neg_ℤ w)) at (t.rest a b c signed));
}
