-- The rows so far are rows of the pair, and what is left is below them.
use Rattle.std.proofs.Common.{◌≡◌, ℕ, ◌<◌, length}
use Rattle.sieve.specs.Rows.{rows, RowAt}
use Rattle.sieve.proofs.Merge.{Merged}
use Rattle.sieve.proofs.rows.fill.Given as goal

abbrev pub invariant-loop-count : goal.invariant-loop-count
invariant-loop-count l = record {
  firsts : length l.a ≡ 48;
  seconds : length l.b ≡ 48;
  thirds : length l.c ≡ 48;
  signs : length l.s ≡ 48;
  merged : Merged l.coefficient l.monomial l.sign l.pair l.i l.j l.k;
  each : (q : ℕ) → q < l.count → RowAt l.coefficient l.monomial l.sign l.pair (rows l.a l.b l.c l.s) q;
}
