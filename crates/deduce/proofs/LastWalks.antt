-- The walks over the rows where one t is left: what is left of it so far, with the rows that are left, gives what all of them give.
-- Where that t is 0 the walk is over the terms of p alone.
use mathlib.Core.Path.{◌≡◌, sym, ap, ◌∙◌}
use mathlib.Core.Bool.{true, not, ◌||◌}
use mathlib.Core.List.{List}
use Prim.Native.Nat.{ℕ, ◌<◌, ◌≤◌, ◌+◌}
use native.Mathlib.Nat.{le_refl}
use native.Mathlib.Omega.{arith}
use lib.IntN.{ℤ, pos}
use lib.ListN.{get_or}
use Rattle.rules.specs.Signs.{sign_of, SignSet, only, Kind, kind}
use Rattle.rules.specs.Polynomial.{Polynomial, Board}
use Rattle.rules.specs.Deduce.{Fraction, at, rows}
use Rattle.deduction_laws.specs.Fractions.{combined}
use Rattle.terms.specs.View.{term_at, terms_of, terms-cons, terms-nil}
use Rattle.terms.specs.Signed.{Signed, signed-within}
use Rattle.interval.specs.Ends.{end_of, There, Zero}
use Rattle.deduce.specs.declared.last.Last.{Last}
use Rattle.deduce.specs.declared.merge.Step.{Step}
use Rattle.deduce.specs.declared.Run.{Run}
use Rattle.deduce.specs.Merge.{Gathered, gather_row, gather, gather_rest, found_from, On, Next, Found}
use Rattle.deduce.specs.Last.{last_of, Kept, FoundAtZero}
use Rattle.deduce.proofs.Rows.{Walked, of_none, taken-off}
use Rattle.deduce.proofs.Lasts.{Alike, alike, last_row, last-gone, zero_row, zero-end}

-- ---- where the last t is 0

-- the walk over p's terms from i₀ to to, come to i with r left of x
pub record ZeroWalked (cs : List ℤ) (ss : List SignSet) (to : ℕ) (x : Last) (i₀ : ℕ) (r : Last) (i : ℕ) : Type 0 where
  pub on : i₀ ≤ i
  pub t : r.t ≡ x.t
  pub rest : {board : Board} {ms : List ℕ} → Signed board ms ss i₀ to → (k : Kind) (q : Polynomial) → Zero x.t
      → found_from k (gather (last_of r) (rows board (terms_of cs ms i to) q)) ≡ found_from k (gather (last_of x) (rows board (terms_of cs ms i₀ to) q))

-- one term further
pub zero-walk-on : {cs : List ℤ} {ss : List SignSet} {to i₀ i : ℕ} {x y r : Last} → ZeroWalked cs ss to x i₀ y i → i < to
    → Kept y (only (sign_of (get_or cs i (pos 0)))) (kind (get_or ss i 0)) r → ZeroWalked cs ss to x i₀ r (i + 1)
zero-walk-on {cs} {ss} {to} {i₀} {i} {x} {y} {r} w h kept = record {
  on = omega (arith, w.on);
  t = kept.t ∙ w.t;
  rest = λ {board} {ms} s k q z.
      zero_row k z.there.fraction z.nought board (term_at cs ms i) (terms_of cs ms (i + 1) to) q (ap end_of w.t ∙ z.there.is) (rw (s.at i w.on h) at kept)
      ∙ (rw (terms-cons cs ms i to h) at (w.rest s k q z));
}

-- and no further: nothing is left of x, or no term
module _ {cs : List ℤ} {ss : List SignSet} {set : SignSet} {p : Run} {x r : Last} {i : ℕ} (w : ZeroWalked cs ss p.to x p.from r i) (z : Zero x.t) where
  pub zero-gone : not (r.l || r.u) ≡ true → FoundAtZero cs ss p set x 7
  zero-gone e = record { found = λ {board} {ms} s q. last-gone (kind set) r (rows board (terms_of cs ms i p.to) q) e ∙ w.rest s (kind set) q z }

  pub zero-done : {v : SignSet} → p.to ≤ i → v ≡ found_from (kind set) (last_of r) → FoundAtZero cs ss p set x v
  zero-done h e = record {
    found = λ {board} {ms} s q.
        let none = zero-end (kind set) z.there.fraction z.nought board r q (ap end_of w.t ∙ z.there.is) in
        e ∙ sym (rw (terms-nil cs ms i p.to h) none) ∙ w.rest s (kind set) q z;
  }

-- ---- where it is any

-- the walk over the runs i₀..p and j₀..q, come to i and j with r left of x
pub record LastWalked (cs : List ℤ) (ms : List ℕ) (ss : List SignSet) (i₀ p j₀ q : ℕ) (x r : Last) (i j : ℕ) : Type 0 where
  pub first : On i₀ i p
  pub second : On j₀ j q
  pub t : r.t ≡ x.t
  pub rest : {board : Board} → Signed board ms ss i₀ p → Signed board ms ss j₀ q → (k : Kind) → There x.t
      → found_from k (gather_rest board cs ms i p j q (last_of r)) ≡ found_from k (gather_rest board cs ms i₀ p j₀ q (last_of x))

-- one row further
pub last-walk-on : {cs : List ℤ} {ms : List ℕ} {ss : List SignSet} {i₀ p j₀ q i j : ℕ} {x y r : Last} {n : Step} {value : SignSet}
    → LastWalked cs ms ss i₀ p j₀ q x y i j → Next cs ms ss i p j q n → ((f : Fraction) → end_of y.t ≡ at f → value ≡ only (sign_of (combined f n.a n.b)))
    → Kept y value (kind n.s) r → LastWalked cs ms ss i₀ p j₀ q x r n.i n.j
last-walk-on {p = p} {q = q} {i = i} {j = j} {y = y} {n = n} w step v kept = record {
  first = omega arith;
  second = omega arith;
  t = kept.t ∙ w.t;
  rest = λ {board} s t k e.
      let here = ap end_of w.t ∙ e.is in
      let more = taken-off (step.row (signed-within i p w.first.on (le_refl p) s) (signed-within j q w.second.on (le_refl q) t)) (last_of y) in
      sym (alike (last_row n.a n.b e.fraction here (v e.fraction here) kept) k _) ∙ ap (found_from k) (sym more) ∙ w.rest s t k e;
}

module _ {cs : List ℤ} {ms : List ℕ} {ss : List SignSet} {p q : Run} {set : SignSet} {x r : Last} {i j : ℕ}
    (w : LastWalked cs ms ss p.from p.to q.from q.to x r i j) (there : There x.t) where
  -- nothing is left of x
  pub last_none : not (r.l || r.u) ≡ true → Found cs ms ss p q set (last_of x) 7
  last_none e = record {
    found = λ {board} s t.
        last-gone (kind set) r (rows board (terms_of cs ms i p.to) (terms_of cs ms j q.to)) e ∙ w.rest s t (kind set) there;
  }

  -- no row is left
  pub last_done : {v : SignSet} → p.to ≤ i → q.to ≤ j → v ≡ found_from (kind set) (last_of r) → Found cs ms ss p q set (last_of x) v
  last_done h k e = record {
    found = λ {board} s t.
        e ∙ ap (found_from (kind set)) (sym (of_none board cs ms i p.to j q.to (last_of r) h k)) ∙ w.rest s t (kind set) there;
  }

-- ---- the row that leaves one t

-- w is the walk up to it, n the row, and x what it leaves
module _ {cs : List ℤ} {ms : List ℕ} {ss : List SignSet} {p q : Run} {i j : ℕ} {g₀ g : Gathered} {n : Step} (x : Last)
    (w : Walked cs ms ss p.from p.to q.from q.to g₀ g i j) (step : Next cs ms ss i p.to j q.to n)
    (same : Alike (gather_row (kind n.s) n.a n.b g) (last_of x)) where
  left-on : {board : Board} (k : Kind) → Signed board ms ss p.from p.to → Signed board ms ss q.from q.to
      → found_from k (gather_rest board cs ms n.i p.to n.j q.to (last_of x))
      ≡ found_from k (gather_rest board cs ms p.from p.to q.from q.to g₀)
  left-on k s t =
      let mine = signed-within i p.to w.first.on (le_refl p.to) s in
      let its = signed-within j q.to w.second.on (le_refl q.to) t in
      sym (alike same k _) ∙ ap (found_from k) (sym (taken-off (step.row mine its) g) ∙ w.rest s t)

  -- what is found after it is what is found
  pub left-zero : {set v : SignSet} → FoundAtZero cs ss (record { from = n.i; to = p.to }) set x v → Found cs ms ss p q set g₀ v
  left-zero {set} f = record {
    found = λ s t.
        f.found (signed-within n.i p.to (omega arith) (le_refl p.to) s) (terms_of cs ms n.j q.to) ∙ left-on (kind set) s t;
  }

  pub left-any : {set v : SignSet} → Found cs ms ss (record { from = n.i; to = p.to }) (record { from = n.j; to = q.to }) set (last_of x) v → Found cs ms ss p q set g₀ v
  left-any {set} f = record {
    found = λ s t.
        f.found (signed-within n.i p.to (omega arith) (le_refl p.to) s) (signed-within n.j q.to (omega arith) (le_refl q.to) t) ∙ left-on (kind set) s t;
  }
