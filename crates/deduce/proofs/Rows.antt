-- The merge, one law for each way that a row is taken off the two runs, and the three results of the walk apart.
-- A row's kind comes from the sign that is lent at the term's place.
use mathlib.Core.Path.{◌≡◌, refl, sym, ap, ◌∙◌}
use mathlib.Core.List.{List, [], ◌∷◌}
use Prim.Native.Nat.{ℕ, ◌+◌, ◌<◌, ◌≤◌}
use native.Mathlib.Nat.{le_refl}
use native.Mathlib.Omega.{arith}
use borrow.Author.Tests.{eq-eqb, ne_eqb, lt-ltb, le-ltb}
use lib.IntN.{ℤ, pos}
use lib.ListN.{get_or}
use Rattle.rules.specs.Signs.{SignSet, Kind, kind}
use Rattle.rules.specs.Polynomial.{Board}
use Rattle.rules.specs.Deduce.{Row, row, rows_of_q, of_three, rows_from, rows, interval_l, interval_u, finding_of}
use Rattle.deduction_laws.specs.Vanishing.{vanish_rows, finding-in-one-pass}
use Rattle.terms.specs.View.{terms-cons, terms-nil}
use Rattle.terms.specs.Signed.{Signed, signed-within}
use Rattle.deduce.specs.declared.merge.Step.{Step}
use Rattle.deduce.specs.Merge.{Gathered, nothing, gather_row, gather, gather_rest, found_from, Taken, On, Next}

-- the first of the rows of two runs, with the signs that are lent
module _ {board : Board} (cs : List ℤ) {ms : List ℕ} {ss : List SignSet} {i p j q : ℕ} (first : Signed board ms ss i p) (second : Signed board ms ss j q) where
  pub of-both : i < p → j < q → get_or ms i 0 ≡ get_or ms j 0
      → Taken board cs ms i p j q (get_or cs i (pos 0)) (get_or cs j (pos 0)) (kind (get_or ss i 0)) (i + 1) (j + 1)
  unfolding rows rows_from of_three row
  of-both h k e = record { monomial = get_or ms i 0; is = rw (first.at i (le_refl i) h, terms-cons cs ms i p h, terms-cons cs ms j q k) (simp (eq-eqb _ _ e)) }

  pub of-p : i < p → j < q → (get_or ms i 0 ≡ get_or ms j 0 → ⊥) → get_or ms j 0 < get_or ms i 0
      → Taken board cs ms i p j q (get_or cs i (pos 0)) (pos 0) (kind (get_or ss i 0)) (i + 1) j
  unfolding rows rows_from of_three row
  of-p h k e l = record { monomial = get_or ms i 0; is = rw (first.at i (le_refl i) h, terms-cons cs ms i p h, terms-cons cs ms j q k) (simp (ne_eqb _ _ e, lt-ltb _ _ l)) }

  pub of-q : i < p → j < q → (get_or ms i 0 ≡ get_or ms j 0 → ⊥) → get_or ms i 0 ≤ get_or ms j 0
      → Taken board cs ms i p j q (pos 0) (get_or cs j (pos 0)) (kind (get_or ss j 0)) i (j + 1)
  unfolding rows rows_from of_three row
  of-q h k e l = record { monomial = get_or ms j 0; is = rw (second.at j (le_refl j) k, terms-cons cs ms i p h, terms-cons cs ms j q k) (simp (ne_eqb _ _ e, le-ltb _ _ l)) }

  pub of-p-alone : i < p → q ≤ j → Taken board cs ms i p j q (get_or cs i (pos 0)) (pos 0) (kind (get_or ss i 0)) (i + 1) j
  unfolding rows rows_from row
  of-p-alone h k = record { monomial = get_or ms i 0; is = rw (first.at i (le_refl i) h, terms-cons cs ms i p h, terms-nil cs ms j q k) }

  pub of-q-alone : p ≤ i → j < q → Taken board cs ms i p j q (pos 0) (get_or cs j (pos 0)) (kind (get_or ss j 0)) i (j + 1)
  unfolding rows rows_of_q row
  of-q-alone h k = record { monomial = get_or ms j 0; is = rw (second.at j (le_refl j) k, terms-nil cs ms i p h, terms-cons cs ms j q k) }

-- what is gathered with it
pub taken-off : {board : Board} {cs : List ℤ} {ms : List ℕ} {i p j q : ℕ} {a b : ℤ} {s : Kind} {i' j' : ℕ} → Taken board cs ms i p j q a b s i' j' → (g : Gathered)
    → gather_rest board cs ms i p j q g ≡ gather_rest board cs ms i' p j' q (gather_row s a b g)
unfolding gather
taken-off t g = ap (gather g) t.is

-- both runs at their end
pub of_none : (board : Board) (cs : List ℤ) (ms : List ℕ) (i p j q : ℕ) (g : Gathered) → p ≤ i → q ≤ j → gather_rest board cs ms i p j q g ≡ g
unfolding rows rows_of_q gather
of_none board cs ms i p j q g h k = rw (terms-nil cs ms i p h, terms-nil cs ms j q k)

-- the walk over the runs i₀..p and j₀..q from g₀ on, come to i and j with g gathered: what is left adds up to all of it
pub record Walked (cs : List ℤ) (ms : List ℕ) (ss : List SignSet) (i₀ p j₀ q : ℕ) (g₀ g : Gathered) (i j : ℕ) : Type 0 where
  pub first : On i₀ i p
  pub second : On j₀ j q
  pub rest : {board : Board} → Signed board ms ss i₀ p → Signed board ms ss j₀ q
      → gather_rest board cs ms i p j q g ≡ gather_rest board cs ms i₀ p j₀ q g₀

-- one row further
pub walk-on : {cs : List ℤ} {ms : List ℕ} {ss : List SignSet} {i₀ p j₀ q i j : ℕ} {g₀ g h : Gathered} {r : Step}
    → Walked cs ms ss i₀ p j₀ q g₀ g i j → Next cs ms ss i p j q r → h ≡ gather_row (kind r.s) r.a r.b g → Walked cs ms ss i₀ p j₀ q g₀ h r.i r.j
walk-on {p = p} {q = q} {i = i} {j = j} {g = g} w n e = record {
  first = omega arith;
  second = omega arith;
  rest = λ s t. rw e (sym (taken-off (n.row (signed-within i p w.first.on (le_refl p) s) (signed-within j q w.second.on (le_refl q) t)) g) ∙ w.rest s t);
}

-- ---- the three results apart

pub gathered : (xs : List Row) (g : Gathered)
    → gather g xs ≡ record { l = interval_l g.l xs; u = interval_u g.u xs; vanishing = vanish_rows g.vanishing xs }
unfolding gather gather_row interval_l interval_u vanish_rows
gathered [] g = refl
gathered (x ∷ xs) g = gathered xs (gather_row x.s x.a x.b g)

-- what is gathered gives the book's finding
pub finding-gathered : (k : Kind) (xs : List Row) → found_from k (gather nothing xs) ≡ finding_of k xs
unfolding nothing
finding-gathered k xs = ap (found_from k) (gathered xs nothing) ∙ finding-in-one-pass k xs
