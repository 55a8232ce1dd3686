-- `next_step` meets its contract: the monomial is in p + u·q1 and in q2, in one of them, or one of them is at its end.
use borrow.Author.Rules.{rules}
use native.Mathlib.Omega.{arith}
use Rattle.interval.specs.Coefficients.{back}
use Rattle.two_atoms.proofs.Sums.{no_number, no-long-number}
use Rattle.two_atoms.proofs.Totals.{stepped, taken-both, taken-first, taken-second, taken-second-alone, taken-first-alone}
use Rattle.two_atoms.proofs.total.next_step.Statement.{statement}
use Rattle.two_atoms.proofs.total.next_step.Tie as tie

returns : tie.Need-returns-then-mine-its
returns c =
    let s = c.before.before.before.before.before.before.before.before.before.before in
    let led = rw (back s.ranges.u) at c.before.before.before.before.before.before.before.first-lead.ensures in
    stepped (record { sfits = c.before.before.before.before.before.before.struct_told-1.given.1.0.1 })
    (record { sfits = c.before.before.before.b-1.given })
    (taken-both s.args.k s.args.o led c.before.if-lead.true (omega arith) c.if-mine-its.true) led.first led.second (omega arith)
    (omega (arith, led.first.on, led.second.on))

returns-2 : tie.Need-returns-then-its-mine
returns-2 c =
    let s = c.before.before.before.before.before.before.before.before.before.before.before in
    let led = rw (back s.ranges.u) at c.before.before.before.before.before.before.before.before.first-lead.ensures in
    stepped (record { sfits = c.before.before.before.before.before.before.before.struct_told-1.given.1.0.1 }) no_number
    (taken-first s.args.k s.args.o led c.before.before.if-lead.true (omega arith) c.before.if-mine-its.false c.if-its-mine.true)
    led.first led.second (omega arith) (omega (arith, led.goes_on c.before.before.if-lead.true))

returns-3 : tie.Need-returns-then-lead
returns-3 c =
    let s = c.before.before.before.before.before.before.before.before.before.before.before in
    let led = rw (back s.ranges.u) at c.before.before.before.before.before.before.before.before.first-lead.ensures in
    stepped no-long-number (record { sfits = c.before.before.before.before.b-1.given })
    (taken-second s.args.k s.args.o led c.before.before.if-lead.true (omega arith) c.before.if-mine-its.false c.if-its-mine.false)
    (omega arith) (omega arith) (omega arith) (omega arith)

returns-4 : tie.Need-returns-then-k-o
returns-4 c =
    let s = c.before.before.before.before.before.before.before.before.before in
    let led = rw (back s.ranges.u) at c.before.before.before.before.before.before.first-lead.ensures in
    stepped no-long-number (record { sfits = c.before.before.b-1.given })
    (taken-second-alone s.args.k s.args.o led c.if-lead.false (omega arith)) (omega arith) (omega arith) (omega arith) (omega arith)

returns-5 : tie.Need-returns
returns-5 c =
    let s = c.before.before.before.before.before in
    let led = rw (back s.ranges.u) at c.before.before.first-lead.ensures in
    stepped (record { sfits = c.before.struct_told-1.given.1.0.1 }) no_number
    (taken-first-alone s.args.k s.args.o led (omega arith)) led.first led.second (omega arith)
    (omega (arith, led.less_left (omega arith)))

pub next_step_spec : {M : Type 1} → statement M
next_step_spec =
    tie.close
    (tie.spec (λ c κs. search rules) (λ c. search rules) (λ c. search rules) (λ c. search rules) (λ c. search rules) (λ c. search rules)
    (λ c. search rules) returns returns-2 (λ c. search rules) returns-3 (λ c. search rules) returns-4 returns-5)
