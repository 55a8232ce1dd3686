-- `test_value` meets its contract: what is passed so far, with the rows that are left, is what all of them give.
use borrow.Author.Rules.{rules}
use mathlib.Core.Path.{refl, sym, ◌∙◌}
use mathlib.Core.List.{List}
use Prim.Native.Nat.{◌+◌, ◌-◌}
use native.Mathlib.Omega.{arith}
use Rattle.sign_laws.specs.Booleans.{and-true, or-false}
use Rattle.rules.specs.Deduce.{Fraction, Row}
use Rattle.rules.specs.Plain.{passes, strict_at}
use Rattle.interval.specs.Coefficients.{back}
use Rattle.plain.specs.declared.value.Value.{Value}
use Rattle.plain.specs.declared.tests.Passed.{Passed}
use Rattle.plain.specs.Values.{Is}
use Rattle.plain.proofs.Walks.{Walked, walk_from, walk-on, row_small, walk-done}
use Rattle.plain.proofs.Seens.{Says, says_row}
use Rattle.plain.proofs.tests.test_value.Statement.{statement}
use Rattle.plain.proofs.tests.test_value.Tie as tie

abbrev Tested : Value → Passed → List Row → List Row → Type 0
Tested t x all left = (f : Fraction) → Is t f → Says f x all left

abbrev invariant-loop : tie.invariant-loop-i
invariant-loop coefficient monomial sign t p-to q-to passed₀ i₀ j₀ passed i j = Walked coefficient monomial sign i₀ p-to j₀ q-to (Tested t passed) i j

abbrev decreases-loop : tie.decreases-loop-i
decreases-loop coefficient monomial sign t p-to q-to passed₀ i₀ j₀ passed i j = p-to + q-to - (i + j)

loop-holds : tie.Need-loop-i-init invariant-loop decreases-loop
loop-holds c = let s = c.before.before in walk_from s.requires.0.first.ordered s.requires.0.second.ordered (λ all f h. (refl, (refl, refl)))

next-requires : tie.Need-next-step-requires invariant-loop decreases-loop
next-requires c κs = search rules

sign-at-requires : tie.Need-sign_at-requires invariant-loop decreases-loop
sign-at-requires c κs =
    let n = c.before.before.next-step in
    let l = c.before.before.before.before.loop-i in
    let s = c.before.before.before.before.before.before.before in
    let told = c.struct_told-in-loop-i-1.given in (
      s.requires.1,
      rw (back {z = n.result.a} (record { sfits = told.0.1 }), back {z = n.result.b} (record { sfits = told.1.0.1 }))
          (row_small l.invariant n.ensures s.requires.0.first_small s.requires.0.second_small),
    )

loop-again : tie.Need-loop-i-preserved invariant-loop decreases-loop
loop-again c =
    let d = c.before.before in
    let n = d.before.before.next-step in
    let l = d.before.before.before.before.loop-i in
    let told = d.struct_told-in-loop-i-1.given in
    let a = back {z = n.result.a} (record { sfits = told.0.1 }) in
    let b = back {z = n.result.b} (record { sfits = told.1.0.1 }) in
    walk-on l.invariant n.ensures (λ board s t left m h f i. says_row f _ _ left (rw (a, b) at (c.before.sign_at.ensures f i)) c.by-passed.ensures (h f i))

returns : tie.Need-returns invariant-loop decreases-loop
unfolding passes strict_at
returns c f i =
    let l = c.before.loop-i in
    record {
      on = λ s t. let (x, (y, z)) = walk-done l.invariant (omega arith) (omega arith) s t f i in
          (sym (and-true l.passed.l) ∙ x, (sym (and-true l.passed.u) ∙ y, sym (or-false l.passed.strict) ∙ z));
    }

pub test_value_spec : {M : Type 1} → statement M
test_value_spec =
    tie.close
    (tie.spec invariant-loop decreases-loop loop-holds (λ c. omega arith) (λ c. omega arith) next-requires sign-at-requires (λ c κs. search rules) (λ c. omega arith) loop-again returns)
