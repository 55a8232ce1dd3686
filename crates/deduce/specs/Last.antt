-- One t that is left of L and U: what it stands for, what a monomial leaves of it, and what is found from it.
use Rattle.std.specs.Prelude.{◌≡◌, Bool, true, false, not, ◌&&◌, ◌||◌, List, ℕ, eqb, ℤ, pos}
use Rattle.rules.specs.Signs.{SignSet, Kind, ∅, >0, =0, ≥0, <0, ≠0, ≤0, any, kind, named, inside}
use Rattle.rules.specs.Polynomial.{Board, Polynomial}
use Rattle.rules.specs.Deduce.{Fraction, at, rows, is_strict}
use Rattle.deduction_laws.specs.FractionSets.{L, U, asked}
use Rattle.deduction_laws.specs.Exact.{has_at}
use Rattle.deduction_laws.specs.Vanishing.{strict_where}
use Rattle.terms.specs.Signed.{Signed}
use Rattle.interval.specs.declared.interval.End.{End as KeptEnd}
use Rattle.interval.specs.Ends.{end_of, interval_of, vanishing_of}
use Rattle.deduce.specs.declared.merge.Cuts.{Cuts}
use Rattle.deduce.specs.declared.last.Last.{Last}
use Rattle.deduce.specs.declared.Run.{Run}
use Rattle.deduce.specs.Merge.{Gathered, gather, found_from}
use Rattle.deduce.specs.Runs.{polynomial_of}

-- a + tb = 0 is asked for
unfoldable pub asks_zero : Kind → Bool
asks_zero ∅ = false
asks_zero >0 = false
asks_zero =0 = false
asks_zero ≥0 = false
asks_zero <0 = false
asks_zero ≠0 = true
asks_zero ≤0 = false
asks_zero any = true

-- L and U, each with this t alone or with none; there some strict row vanishes never, or all do
abbrev pub last_of : Last → Gathered
last_of x = record {
  l = record { low = end_of x.t; high = end_of x.t; void = not x.l };
  u = record { low = end_of x.t; high = end_of x.t; void = not x.u };
  vanishing = record { a = pos 0; b = pos 0; never = x.strict };
}

-- r is the t, whether it is in L and U, and whether some strict row does not vanish at it
pub record AtLast (c : Cuts) (e : KeptEnd) (r : Last) : Type 0 where
  pub t : r.t ≡ e
  pub l : (f : Fraction) → end_of e ≡ at f → r.l ≡ has_at f (interval_of c.l)
  pub u : (f : Fraction) → end_of e ≡ at f → r.u ≡ has_at f (interval_of c.u)
  pub strict : (f : Fraction) → end_of e ≡ at f → r.strict ≡ strict_where (vanishing_of c.vanishing) f

-- r is what a monomial with this kind leaves of x, where a + tb has this sign
pub record Kept (x : Last) (value : SignSet) (k : Kind) (r : Last) : Type 0 where
  pub t : r.t ≡ x.t
  pub l : r.l ≡ (x.l && inside value (named (asked L k)))
  pub u : r.u ≡ (x.u && inside value (named (asked U k)))
  pub strict : r.strict ≡ (x.strict || (is_strict k && not (eqb value 2)))

-- r is what is found for q's set from the rows of p and any q on top of the last t, on each board whose signs these are
pub record FoundAtZero (cs : List ℤ) (ss : List SignSet) (p : Run) (set : SignSet) (last : Last) (r : SignSet) : Type 0 where
  pub found : {board : Board} {ms : List ℕ} → Signed board ms ss p.from p.to → (q : Polynomial)
      → r ≡ found_from (kind set) (gather (last_of last) (rows board (polynomial_of cs ms p) q))
