-- p + u·q of two runs of places of the lent slices, term by term: what is left of it from places i and j on.
-- `NextSum` says what one monomial of p or q adds, `Led` what the first term is.
use Rattle.std.specs.Prelude.{◌≡◌, true, false, List, [], ◌∷◌, ℕ, ◌+◌, ◌<◌, ◌≤◌, ℤ, pos, length}
use Rattle.rules.specs.Signs.{SignSet}
use Rattle.rules.specs.Polynomial.{Term, Polynomial, Board, monomial_sign}
use Rattle.rules.specs.Deduce.{is_zero}
use Rattle.rules.specs.TwoAtoms.{unless_zero, plus_times}
use Rattle.terms.specs.View.{terms_of}
use Rattle.terms.specs.Signed.{Signed}
use Rattle.deduce.specs.Merge.{On}
use Rattle.two_atoms.specs.declared.sum.Row.{Row}
use Rattle.two_atoms.specs.declared.sum.Lead.{Lead}

-- the places i..m are places of the three slices
pub record Places (cs : List ℤ) (ms : List ℕ) (ss : List SignSet) (i m : ℕ) : Type 0 where
  pub ordered : i ≤ m
  pub coefficients : m ≤ length cs
  pub monomials : m ≤ length ms
  pub signs : m ≤ length ss

abbrev pub term : ℤ → ℕ → Term
term c m = record { coefficient = c; monomial = m }

-- p + u·q, of p's terms at i..m and q's at j..n
abbrev pub sum_from : List ℤ → List ℕ → ℕ → ℕ → ℕ → ℕ → ℤ → Polynomial
sum_from cs ms i m j n u = plus_times (terms_of cs ms i m) u (terms_of cs ms j n)

-- a monomial is taken off the two runs
pub record NextSum (cs : List ℤ) (ms : List ℕ) (ss : List SignSet) (i m j n : ℕ) (u : ℤ) (r : Row) : Type 0 where
  pub sign : {board : Board} → Signed board ms ss i m → Signed board ms ss j n → r.s ≡ monomial_sign board r.monomial
  pub sum : sum_from cs ms i m j n u ≡ unless_zero (is_zero r.c) (term r.c r.monomial) (sum_from cs ms r.i m r.j n u)
  pub first : On i r.i m
  pub second : On j r.j n
  pub less_left : i + j < r.i + r.j

-- the first term, if there is one
pub record Led (cs : List ℤ) (ms : List ℕ) (ss : List SignSet) (i m j n : ℕ) (u : ℤ) (r : Lead) : Type 0 where
  pub sign : {board : Board} → Signed board ms ss i m → Signed board ms ss j n → r.s ≡ monomial_sign board r.monomial
  pub sum : r.there ≡ true → sum_from cs ms i m j n u ≡ term r.c r.monomial ∷ sum_from cs ms r.i m r.j n u
  pub none : r.there ≡ false → (sum_from cs ms i m j n u ≡ []) × ((r.c ≡ pos 0) × (sum_from cs ms r.i m r.j n u ≡ []))
  pub first : On i r.i m
  pub second : On j r.j n
  pub goes_on : r.there ≡ true → i + j < r.i + r.j
  pub less_left : i + j < m + n → i + j < r.i + r.j
