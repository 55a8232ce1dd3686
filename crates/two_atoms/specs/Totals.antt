-- The set by terms of p + u·q1 + v·q2, of three runs of places of the lent slices, v being -w.
-- `Stepped` says what one monomial adds to the set, `Total` what the whole walk gives.
use Rattle.std.specs.Prelude.{◌≡◌, Bool, List, ℕ, ◌+◌, ◌<◌, ℤ, neg_ℤ, ◌-ℤ◌, ◌*ℤ◌}
use Rattle.rules.specs.Signs.{SignSet, sign_of, only, sum, product}
use Rattle.rules.specs.Polynomial.{Polynomial, Board, by_terms_from, by_terms}
use Rattle.rules.specs.TwoAtoms.{plus_times, tried}
use Rattle.sign_laws.specs.Lists.{Every}
use Rattle.removal_laws.specs.Terms.{Signed as HasSign}
use Rattle.terms.specs.View.{terms_of}
use Rattle.terms.specs.Signed.{Signed}
use Rattle.deduce.specs.Merge.{On}
use Rattle.deduce.specs.declared.Run.{Run}
use Rattle.two_atoms.specs.declared.total.Step.{Step}
use Rattle.two_atoms.specs.Sums.{sum_from}

-- p + u·q1 + v·q2, of p's terms at i..m, q1's at j..n and q2's at k..o
abbrev pub total_from : List ℤ → List ℕ → ℕ → ℕ → ℕ → ℕ → ℕ → ℕ → ℤ → ℤ → Polynomial
total_from cs ms i m j n k o u w = plus_times (sum_from cs ms i m j n u) (neg_ℤ w) (terms_of cs ms k o)

-- a monomial is taken off the three runs, whatever v is
pub record Stepped (cs : List ℤ) (ms : List ℕ) (ss : List SignSet) (i m j n k o : ℕ) (u : ℤ) (r : Step) : Type 0 where
  pub signed : {board : Board} → Signed board ms ss i m → Signed board ms ss j n → Signed board ms ss k o → Every HasSign board → HasSign r.s
  pub adds : {board : Board} → Signed board ms ss i m → Signed board ms ss j n → Signed board ms ss k o → Every HasSign board
      → (w : ℤ) (sofar : SignSet) → sofar < 8
      → by_terms_from (sum sofar (product (only (sign_of (r.x -ℤ w *ℤ r.b))) r.s)) board (total_from cs ms r.i m r.j n r.k o u w)
      ≡ by_terms_from sofar board (total_from cs ms i m j n k o u w)
  pub first : On i r.i m
  pub second : On j r.j n
  pub third : On k r.k o
  pub less_left : i + j + k < r.i + r.j + r.k

-- r gives the findings that the set by terms of p + u·q1 + v·q2 gives, on each board that has no empty set and whose signs these are
pub record Total (cs : List ℤ) (ms : List ℕ) (ss : List SignSet) (p q1 q2 : Run) (u w : ℤ) (r : SignSet) : Type 0 where
  pub on : {board : Board} → Signed board ms ss p.from p.to → Signed board ms ss q1.from q1.to → Signed board ms ss q2.from q2.to
      → Every HasSign board → (never-positive never-negative strict : Bool)
      → tried never-positive never-negative r strict
      ≡ tried never-positive never-negative (by_terms board (total_from cs ms p.from p.to q1.from q1.to q2.from q2.to u w)) strict
