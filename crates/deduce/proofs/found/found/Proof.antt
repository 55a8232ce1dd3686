-- `found` meets its contract: what is gathered from the rows that are left, on top of what is at hand, stays what all rows give.
use borrow.Author.Rules.{rules}
use mathlib.Core.Path.{◌≡◌, refl, sym, ap, ◌∙◌}
use mathlib.Core.Bool.{true, not, ◌&&◌}
use Prim.Native.Nat.{◌≤◌, ◌+◌, ◌-◌}
use native.Mathlib.Omega.{arith}
use mir.Syntax.{w32}
use mir.Val.{to_z, of_z}
use Rattle.sign_laws.specs.Booleans.{and_first, and_second, neither, not-true}
use Rattle.rules.specs.Signs.{kind}
use Rattle.rules.specs.Deduce.{at, every_t, is_zero, has_t}
use Rattle.deduction_laws.specs.Vanishing.{everywhere}
use Rattle.interval.specs.Ends.{end_at, end_of, interval_of, There}
use Rattle.interval.specs.Coefficients.{back, is-zero}
use Rattle.deduce.specs.Merge.{gathered_of, nothing, gather_row, found_from}
use Rattle.deduce.specs.Last.{asks_zero, last_of}
use Rattle.deduce.proofs.Rows.{Walked, walk-on, of_none}
use Rattle.deduce.proofs.Nothing.{finding-nothing}
use Rattle.deduce.proofs.Lasts.{Alike, RootOf, root-of, root-left}
use Rattle.deduce.proofs.LastWalks.{left-zero, left-any}
use Rattle.deduce.proofs.found.found.Statement.{statement}
use Rattle.deduce.proofs.found.found.Tie as tie

abbrev invariant-loop : tie.invariant-loop-i
invariant-loop coefficient monomial sign set p-to q-to c₀ i₀ j₀ c i j = Walked coefficient monomial sign i₀ p-to j₀ q-to nothing (gathered_of c) i j

abbrev decreases-loop : tie.decreases-loop-i
decreases-loop coefficient monomial sign set p-to q-to c₀ i₀ j₀ c i j = p-to + q-to - (i + j)

loop-holds : tie.Need-loop-i-init invariant-loop decreases-loop
unfolding nothing every_t everywhere
loop-holds c = record { first = omega arith; second = omega arith; rest = λ s t. refl }

-- the row's coefficients, from their bits
a_back : (c : tie.After-struct_told-in-loop-i-1 invariant-loop decreases-loop) → let n = c.next-step.result in to_z w32 (of_z w32 n.a) ≡ n.a
a_back c = back {z = c.next-step.result.a} (record { sfits = c.struct_told-in-loop-i-1.given.0.1 })

b-back : (c : tie.After-struct_told-in-loop-i-1 invariant-loop decreases-loop) → let n = c.next-step.result in to_z w32 (of_z w32 n.b) ≡ n.b
b-back c = back {z = c.next-step.result.b} (record { sfits = c.struct_told-in-loop-i-1.given.1.0.1 })

-- the row leaves one t
leaves : (c : tie.Then-leaves_one invariant-loop decreases-loop) → let n = c.next-step.result in not (is_zero n.b) && asks_zero (kind n.s) ≡ true
leaves c = rw (b-back c.before.before) at (sym c.leaves_one.ensures ∙ c.if-leaves_one.true)

root : (c : tie.Then-leaves_one invariant-loop decreases-loop) → let n = c.next-step.result in RootOf n.a n.b
root c =
    let n = c.next-step.result in
    root-of n.a n.b (not-true (is_zero n.b) (and_first (not (is_zero n.b)) (asks_zero (kind n.s)) (leaves c)))

end_is : (c : tie.Then-leaves_one invariant-loop decreases-loop) → let n = c.next-step.result in
    end_at (to_z w32 (of_z w32 n.a)) (to_z w32 (of_z w32 n.b)) ≡ at (root c).fraction
end_is c = rw (a_back c.before.before, b-back c.before.before) (root c).is

left : (c : tie.After-at-last invariant-loop decreases-loop) → let n = c.next-step.result in
    Alike (gather_row (kind n.s) n.a n.b (gathered_of c.loop-i.c)) (last_of c.at-last.result)
left c =
    let n = c.next-step.result in
    let r = root c.before in
    root-left (kind n.s) r.fraction (end_is c.before) r.root (and_second (not (is_zero n.b)) (asks_zero (kind n.s)) (leaves c.before)) c.at-last.ensures

there : (c : tie.After-at-last invariant-loop decreases-loop) → There c.at-last.result.t
there c = record { fraction = (root c.before).fraction; is = ap end_of c.at-last.ensures.t ∙ end_is c.before }

-- after one more row
walked : (c : tie.After-by-c invariant-loop decreases-loop) →
    let s = c.args in
    let r = c.next-step.result in
    Walked s.coefficient.now s.monomial.now s.sign.now s.p.from s.p.to s.q.from s.q.to nothing (gathered_of c.by-c.result) r.i r.j
walked c =
    walk-on c.loop-i.invariant c.next-step.ensures
    (rw (c.by-c.ensures, a_back c.before.before.before, b-back c.before.before.before))

found-at-zero-requires : tie.Need-found_at_zero-requires invariant-loop decreases-loop
unfolding there
found-at-zero-requires c κs =
    let start = c in
    let fits = c.struct_told-in-loop-i-1.given.0.1 in
    let nought = (root c.before.before).nought (is-zero (record { sfits = fits }) c.if-a-eq0.true) in
    ((start.requires.0.coefficients, start.requires.0.signs), record { there = there c.before; nought = nought })

returns : tie.Need-returns-then-a-eq0 invariant-loop decreases-loop
returns c =
    let d = c.before.before in
    left-zero d.at-last.result d.loop-i.invariant d.next-step.ensures (left d)
    c.found_at_zero.ensures

found-at-requires : tie.Need-found_at-requires invariant-loop decreases-loop
found-at-requires c κs =
    let start = c in
    let step = c.next-step.ensures in
    let (mine, its) = start.requires in (
      record { ordered = step.first.within; coefficients = mine.coefficients; monomials = mine.monomials; signs = mine.signs },
      (
        record { ordered = step.second.within; coefficients = its.coefficients; monomials = its.monomials; signs = its.signs },
        there c.before,
      ),
    )

returns-2 : tie.Need-returns-then-leaves_one invariant-loop decreases-loop
returns-2 c =
    let d = c.before.before in
    left-any d.at-last.result d.loop-i.invariant d.next-step.ensures (left d)
    c.found_at.ensures

returns-3 : tie.Need-returns-then-not-has_t invariant-loop decreases-loop
returns-3 c =
    let w = walked c.before.before in
    let r = c.by-c.result in
    let none = (neither (has_t (interval_of r.l)) (has_t (interval_of r.u))).0 (sym c.has_t.ensures ∙ c.if-not-has_t.true) in
    record { found = λ s t. finding-nothing _ (gathered_of r) _ none.0 none.1 ∙ ap (found_from _) (w.rest s t) }

returns-4 : tie.Need-returns invariant-loop decreases-loop
returns-4 c =
    let l = c.loop-i in
    let a = c.args in
    let h : a.p.to ≤ l.i = omega arith in
    let k : a.q.to ≤ l.j = omega arith in
    record { found = λ s t. c.finding.ensures ∙ ap (found_from _) (sym (of_none _ _ _ _ _ _ _ _ h k) ∙ l.invariant.rest s t) }

pub found_spec : {M : Type 1} → statement M
found_spec =
    tie.close
    (tie.spec invariant-loop decreases-loop loop-holds (λ c. omega arith) (λ c. omega arith) (λ c κs. search rules) (λ c κs. search rules) (λ c κs. search rules)
    found-at-zero-requires returns found-at-requires returns-2 (λ c κs. search rules) (λ c κs. search rules) returns-3
    (λ c. omega arith) (λ c. walked c.before.before) (λ c κs. search rules) returns-4)
