-- The merge of two runs of terms, row by row: L, U and where the strict rows vanish, in one walk over the book's rows.
-- `Next` says what one step of the merge takes off, `Found` what the whole walk finds.
use Rattle.std.specs.Prelude.{◌≡◌, List, [], ◌∷◌, ℕ, ◌+◌, ◌<◌, ◌≤◌, ℤ, pos, nat_abs, length, get_or}
use Rattle.rules.specs.Signs.{SignSet, Kind, kind}
use Rattle.rules.specs.Polynomial.{Board}
use Rattle.rules.specs.Deduce.{Interval, cut_l, cut_u, Row, rows, every_t}
use Rattle.deduction_laws.specs.Vanishing.{Vanishing, everywhere, vanish_row, finding_by}
use Rattle.terms.specs.View.{terms_of}
use Rattle.terms.specs.Signed.{Signed}
use Rattle.interval.specs.Ends.{interval_of, vanishing_of}
use Rattle.deduce.specs.declared.merge.Cuts.{Cuts}
use Rattle.deduce.specs.declared.merge.Step.{Step}
use Rattle.deduce.specs.declared.Run.{Run}

-- L, U, and where the strict rows vanish
pub record Gathered : Type 0 where
  pub l : Interval
  pub u : Interval
  pub vanishing : Vanishing

abbrev pub gathered_of : Cuts → Gathered
gathered_of c = record { l = interval_of c.l; u = interval_of c.u; vanishing = vanishing_of c.vanishing }

-- before the first row
unfoldable pub nothing : Gathered
nothing = record { l = every_t; u = every_t; vanishing = everywhere }

-- after one more row, and after all of some rows
unfoldable pub gather_row : Kind → ℤ → ℤ → Gathered → Gathered
gather_row s a b g = record { l = cut_l s a b g.l; u = cut_u s a b g.u; vanishing = vanish_row s a b g.vanishing }

unfoldable pub gather : Gathered → List Row → Gathered
gather g [] = g
gather g (x ∷ xs) = gather (gather_row x.s x.a x.b g) xs

-- after all rows of the terms at i..p and j..q
abbrev pub gather_rest : Board → List ℤ → List ℕ → ℕ → ℕ → ℕ → ℕ → Gathered → Gathered
gather_rest board cs ms i p j q g = gather g (rows board (terms_of cs ms i p) (terms_of cs ms j q))

-- the places i..p and j..q are places of the three slices, and not both runs are at their end
pub record Left (cs : List ℤ) (ms : List ℕ) (ss : List SignSet) (i p j q : ℕ) : Type 0 where
  pub first : i ≤ p
  pub second : j ≤ q
  pub more : i + j < p + q
  pub first_coefficients : p ≤ length cs
  pub first_monomials : p ≤ length ms
  pub first_signs : p ≤ length ss
  pub second_coefficients : q ≤ length cs
  pub second_monomials : q ≤ length ms
  pub second_signs : q ≤ length ss

-- a place that was at i₀ has come to i, and not past p
pub record On (i₀ i p : ℕ) : Type 0 where
  pub on : i₀ ≤ i
  pub within : i ≤ p

-- the rows of the terms at i..p and j..q are a row with this a, b and s, and the rows of those at i'..p and j'..q
pub record Taken (board : Board) (cs : List ℤ) (ms : List ℕ) (i p j q : ℕ) (a b : ℤ) (s : Kind) (i' j' : ℕ) : Type 0 where
  pub monomial : ℕ
  pub is : rows board (terms_of cs ms i p) (terms_of cs ms j q)
      ≡ record { a = a; b = b; monomial = monomial; s = s } ∷ rows board (terms_of cs ms i' p) (terms_of cs ms j' q)

-- no coefficient at i..p has a greater magnitude
pub record AtMost (m : ℕ) (cs : List ℤ) (i p : ℕ) : Type 0 where
  pub each : (k : ℕ) → i ≤ k → k < p → nat_abs (get_or cs k (pos 0)) ≤ m

-- a row is taken off the two runs
pub record Next (cs : List ℤ) (ms : List ℕ) (ss : List SignSet) (i p j q : ℕ) (r : Step) : Type 0 where
  pub row : {board : Board} → Signed board ms ss i p → Signed board ms ss j q → Taken board cs ms i p j q r.a r.b (kind r.s) r.i r.j
  pub first : On i r.i p
  pub second : On j r.j q
  pub less_left : i + j < r.i + r.j
  pub magnitudes : (m : ℕ) → AtMost m cs i p → AtMost m cs j q → (nat_abs r.a ≤ m) × (nat_abs r.b ≤ m)

-- what is found from what is gathered
abbrev pub found_from : Kind → Gathered → SignSet
found_from k g = finding_by k g.l g.u g.vanishing

-- r is what is found for q's set from the rows of p and q on top of what is gathered, on each board whose signs these are
pub record Found (cs : List ℤ) (ms : List ℕ) (ss : List SignSet) (p q : Run) (set : SignSet) (g : Gathered) (r : SignSet) : Type 0 where
  pub found : {board : Board} → Signed board ms ss p.from p.to → Signed board ms ss q.from q.to
      → r ≡ found_from (kind set) (gather_rest board cs ms p.from p.to q.from q.to g)
