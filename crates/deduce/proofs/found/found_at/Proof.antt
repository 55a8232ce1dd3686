-- `found_at` meets its contract: what the rows that are left leave of what is left is what all of them leave.
use borrow.Author.Rules.{rules}
use mathlib.Core.Path.{◌≡◌, refl, sym, ap, ◌∙◌}
use Prim.Native.Nat.{◌+◌, ◌-◌}
use native.Mathlib.Omega.{arith}
use Rattle.rules.specs.Signs.{sign_of, only, kind}
use Rattle.rules.specs.Deduce.{Fraction, at}
use Rattle.deduction_laws.specs.Fractions.{combined}
use Rattle.interval.specs.Ends.{end_of}
use Rattle.interval.specs.Coefficients.{back}
use Rattle.deduce.specs.declared.last.Last.{Last}
use Rattle.deduce.specs.Last.{Kept}
use Rattle.deduce.proofs.Lasts.{gone, ruled_out}
use Rattle.deduce.proofs.LastWalks.{LastWalked, last-walk-on, last_none, last_done}
use Rattle.deduce.proofs.found.found_at.Statement.{statement}
use Rattle.deduce.proofs.found.found_at.Tie as tie

abbrev invariant-loop : tie.invariant-loop-i
invariant-loop coefficient monomial sign set p-to q-to left₀ i₀ j₀ left i j = LastWalked coefficient monomial sign i₀ p-to j₀ q-to left₀ left i j

abbrev decreases-loop : tie.decreases-loop-i
decreases-loop coefficient monomial sign set p-to q-to left₀ i₀ j₀ left i j = p-to + q-to - (i + j)

-- the sign of a + tb
value-is : (c : tie.After-sign_at-value invariant-loop decreases-loop) →
    let n = c.before.before.before.before.next-step.result in
    (f : Fraction) → end_of c.before.before.before.before.before.before.loop-i.left.t ≡ at f → c.sign_at-value.result.0 ≡ only (sign_of (combined f n.a n.b))
value-is c f e =
    let n = c.before.before.before.before.next-step.result in
    let told = c.before.before.struct_told-1.given in
    rw (← back {z = n.a} (record { sfits = told.0.1 }), ← back {z = n.b} (record { sfits = told.1.0.1 })) (c.sign_at-value.ensures f e)

-- after one more row, of which r is left
walked : (c : tie.After-sign_at-value invariant-loop decreases-loop) (r : Last) →
    let s = c.before.before.before.before.before.before.before.before.before.args in
    let l = c.before.before.before.before.before.before.loop-i in
    let n = c.before.before.before.before.next-step.result in
    Kept l.left c.sign_at-value.result.0 (kind n.s) r
    → LastWalked s.coefficient.now s.monomial.now s.sign.now s.p.from s.p.to s.q.from s.q.to s.last r n.i n.j
walked c r kept = last-walk-on c.before.before.before.before.before.before.loop-i.invariant c.before.before.before.before.next-step.ensures (value-is c) kept

returns : tie.Need-returns-then-rules_out invariant-loop decreases-loop
returns c =
    let d = c.before.before in
    let start = d.before.before.before.before.before.before.before.before.before in
    let l = d.before.before.before.before.before.before.loop-i in
    let there = start.requires.1.1 in
    let value = value-is d there.fraction (ap end_of l.invariant.t ∙ there.is) in
    let out = ruled_out {x = l.left} _ value (sym c.before.rules_out.ensures ∙ c.if-rules_out.true) in
    last_none (walked d (gone l.left) out) there refl

returns-2 : tie.Need-returns-then-is_gone invariant-loop decreases-loop
returns-2 c =
    let d = c.before.before.before.before.before in
    let start = d.before.before.before.before.before.before.before.before.before in
    last_none (walked d _ c.before.before.by-left.ensures) start.requires.1.1 (sym c.before.is_gone.ensures ∙ c.if-is_gone.true)

returns-3 : tie.Need-returns invariant-loop decreases-loop
returns-3 c = last_done c.before.before.loop-i.invariant c.before.before.before.before.before.requires.1.1 (omega arith) (omega arith) c.found.ensures

pub found_at_spec : {M : Type 1} → statement M
found_at_spec =
    tie.close
    (tie.spec invariant-loop decreases-loop (λ c. record { first = omega arith; second = omega arith; t = refl; rest = λ s t k e. refl }) (λ c. omega arith) (λ c. omega arith)
    (λ c κs. search rules) (λ c κs. search rules) (λ c κs. search rules) returns (λ c κs. search rules) (λ c κs. search rules) returns-2 (λ c. omega arith)
    (λ c. walked c.before.before.before.before.before _ c.before.before.by-left.ensures) (λ c κs. search rules) returns-3)
