-- `neighbour` meets its contract: the nearest so far, with the rows that are left, is the neighbour among all.
use borrow.Author.Rules.{rules}
use mathlib.Core.Path.{◌≡◌, ap}
use mathlib.Core.List.{List}
use Prim.Native.Nat.{◌+◌, ◌-◌}
use native.Mathlib.Omega.{arith}
use Rattle.rules.specs.Deduce.{Row, at_zero}
use Rattle.interval.specs.declared.interval.End.{End as KeptEnd}
use Rattle.interval.specs.Ends.{end_of, There}
use Rattle.interval.specs.Coefficients.{back}
use Rattle.plain.specs.Met.{nearest, neighbour}
use Rattle.plain.specs.Values.{SmallEnd}
use Rattle.plain.proofs.Walks.{Walked, walk_from, walk-on, row_small, walk-done}
use Rattle.plain.proofs.Nears.{pair_small, nearest-row, still-there, zero-there}
use Rattle.plain.proofs.met.neighbour.Statement.{statement}
use Rattle.plain.proofs.met.neighbour.Tie as tie

abbrev Nearest : KeptEnd → KeptEnd → List Row → List Row → Type 0
Nearest f near all left = nearest (end_of f) (end_of near) left ≡ neighbour (end_of f) all

abbrev invariant-loop : tie.invariant-loop-i
invariant-loop coefficient monomial sign f p-to q-to near₀ i₀ j₀ near i j =
    Walked coefficient monomial sign i₀ p-to j₀ q-to (Nearest f near) i j × (SmallEnd near × (There near₀ → There near))

abbrev decreases-loop : tie.decreases-loop-i
decreases-loop coefficient monomial sign f p-to q-to near₀ i₀ j₀ near i j = p-to + q-to - (i + j)

nearer-requires : tie.Need-nearer-near-requires invariant-loop decreases-loop
nearer-requires c κs = (pair_small (record { first = omega arith; second = omega arith }), pair_small (record { first = omega arith; second = omega arith }))

loop-holds : tie.Need-loop-i-init invariant-loop decreases-loop
unfolding neighbour at_zero
loop-holds c =
    let s = c.before.before.before in (
      walk_from s.requires.first.ordered s.requires.second.ordered (λ all. ap (λ n. nearest (end_of s.args.f) n all) c.nearer-near.ensures.0),
      (c.nearer-near.ensures.1, λ h. h),
    )

nearer-requires-2 : tie.Need-nearer-near-requires-in-loop-i invariant-loop decreases-loop
nearer-requires-2 c κs =
    let n = c.before.before.next-step in
    let l = c.before.before.before.before.loop-i in
    let s = c.before.before.before.before.before.before.before.before in
    let told = c.struct_told-in-loop-i-1.given in (
      l.invariant.1.0,
      pair_small (rw (back {z = n.result.a} (record { sfits = told.0.1 }), back {z = n.result.b} (record { sfits = told.1.0.1 }))
          (row_small l.invariant.0 n.ensures s.requires.first_small s.requires.second_small)),
    )

loop-again : tie.Need-loop-i-preserved invariant-loop decreases-loop
loop-again c =
    let d = c.before in
    let n = d.before.before.next-step in
    let l = d.before.before.before.before.loop-i in
    let told = d.struct_told-in-loop-i-1.given in
    let a = back {z = n.result.a} (record { sfits = told.0.1 }) in
    let b = back {z = n.result.b} (record { sfits = told.1.0.1 }) in (
      walk-on l.invariant.0 n.ensures (λ board s t left m h. nearest-row _ _ _ left (rw (a, b) at c.nearer-near-in-loop-i.ensures.0) h),
      (c.nearer-near-in-loop-i.ensures.1, λ h. still-there _ _ (l.invariant.1.1 h) c.nearer-near-in-loop-i.ensures.0),
    )

returns : tie.Need-returns invariant-loop decreases-loop
unfolding nearest at_zero
returns c =
    let l = c.before.loop-i in
    let first = c.before.before.nearer-near in
    record {
      on = λ s t. walk-done l.invariant.0 (omega arith) (omega arith) s t;
      small = l.invariant.1.0;
      least = λ h. l.invariant.1.1 (zero-there h first.ensures.0);
    }

pub neighbour_spec : {M : Type 1} → statement M
neighbour_spec =
    tie.close
    (tie.spec invariant-loop decreases-loop nearer-requires loop-holds (λ c. omega arith) (λ c. omega arith) (λ c κs. search rules) nearer-requires-2 (λ c. omega arith) loop-again returns)
