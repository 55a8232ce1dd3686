-- `seen` meets its contract: what is seen so far, and then of the values that the rows that are left bring, is what is seen of all.
use borrow.Author.Rules.{rules}
use mathlib.Core.Path.{◌≡◌, refl, ◌∙◌}
use mathlib.Core.List.{List}
use Prim.Native.Nat.{◌+◌, ◌-◌}
use native.Mathlib.Omega.{arith}
use Rattle.rules.specs.Signs.{kind, Kind}
use Rattle.rules.specs.Deduce.{Row, at_zero}
use Rattle.interval.specs.Ends.{end_of}
use Rattle.interval.specs.Coefficients.{back}
use Rattle.plain.specs.declared.tests.Seen.{Seen}
use Rattle.plain.specs.Met.{met_from, under}
use Rattle.plain.specs.Tests.{after_all, nothing}
use Rattle.plain.proofs.Walks.{Walked, walk_from, walk-on, row_small, walk-done}
use Rattle.plain.proofs.Nears.{pair_small}
use Rattle.plain.proofs.Seens.{met-row, met-last}
use Rattle.plain.proofs.met.seen.Statement.{statement}
use Rattle.plain.proofs.met.seen.Tie as tie

abbrev SeenSoFar : Kind → Seen → List Row → List Row → Type 0
SeenSoFar k g all left = after_all k all g (met_from all left) ≡ after_all k all nothing (met_from all all)

abbrev invariant-loop : tie.invariant-loop-i
invariant-loop coefficient monomial sign p q set p-to q-to so-far₀ i₀ j₀ so_far i j =
    Walked coefficient monomial sign p.from p.to q.from q.to (SeenSoFar (kind set) so_far) i j

abbrev decreases-loop : tie.decreases-loop-i
decreases-loop coefficient monomial sign p q set p-to q-to so-far₀ i₀ j₀ so_far i j = p-to + q-to - (i + j)

loop-holds : tie.Need-loop-i-init invariant-loop decreases-loop
unfolding nothing
loop-holds c = let s = c.before.before in walk_from s.requires.first.ordered s.requires.second.ordered (λ all. refl)

met-requires : tie.Need-met-so_far-requires invariant-loop decreases-loop
met-requires c κs =
    let n = c.before.before.next-step in
    let l = c.before.before.before.before.loop-i in
    let s = c.before.before.before.before.before.before.before in
    let told = c.struct_told-in-loop-i-1.given in (
      s.requires,
      pair_small (rw (back {z = n.result.a} (record { sfits = told.0.1 }), back {z = n.result.b} (record { sfits = told.1.0.1 }))
          (row_small l.invariant n.ensures s.requires.first_small s.requires.second_small)),
    )

loop-again : tie.Need-loop-i-preserved invariant-loop decreases-loop
loop-again c =
    let d = c.before in
    let n = d.before.before.next-step in
    let l = d.before.before.before.before.loop-i in
    let told = d.struct_told-in-loop-i-1.given in
    let a = back {z = n.result.a} (record { sfits = told.0.1 }) in
    let b = back {z = n.result.b} (record { sfits = told.1.0.1 }) in
    walk-on l.invariant n.ensures (λ board s t left m h. met-row _ _ _ _ left (rw (a, b) at (c.met-so_far.ensures.on s t)) ∙ h)

met-requires-2 : tie.Need-met-so_far-requires-2 invariant-loop decreases-loop
met-requires-2 c κs = (c.before.before.before.before.requires, pair_small (record { first = omega arith; second = omega arith }))

under-requires : tie.Need-under-requires invariant-loop decreases-loop
under-requires c κs = (c.neighbour-least.ensures.least refl, c.neighbour-least.ensures.small)

tested-requires : tie.Need-tested-requires invariant-loop decreases-loop
tested-requires c κs = (c.before.before.before.before.before.before.before.requires, c.under.ensures.0)

returns : tie.Need-returns invariant-loop decreases-loop
unfolding at_zero
returns c =
    let zero = c.before.before.before in
    let n = c.before.before.neighbour-least.ensures in
    let l = zero.before.before.loop-i in
    let least = n.least refl in
    let last = c.tested.ensures (under (end_of c.before.before.neighbour-least.result)) (rw least.is (c.before.under.ensures.1 least.fraction least.is)) in
    record {
      on = λ s t. met-last _ _ _ (zero.met-so_far-2.ensures.on s t) (n.on s t) (last.on s t) ∙ walk-done l.invariant (omega arith) (omega arith) s t;
    }

pub seen_spec : {M : Type 1} → statement M
seen_spec =
    tie.close
    (tie.spec invariant-loop decreases-loop loop-holds (λ c. omega arith) (λ c. omega arith) (λ c κs. search rules) met-requires (λ c. omega arith) loop-again met-requires-2 (λ c κs. search rules)
    under-requires tested-requires returns)
