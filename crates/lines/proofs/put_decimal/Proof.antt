-- `put_decimal` meets its contract: one, two or three digits, by the book's own tests.
use mathlib.Core.Path.{ap}
use native.Mathlib.Omega.{arith}
use lib.ListN.{length}
use borrow.Author.Rules.{rules}
use Rattle.lines.specs.Written.{wrote-both, wrote_as}
use Rattle.lines.proofs.Runs.{one-digit, two_digits, three-digits}
use Rattle.lines.proofs.put_decimal.Statement.{statement}
use Rattle.lines.proofs.put_decimal.Tie as tie

-- ---- one digit

room-one : tie.Need-put_digit-requires
room-one c κs = omega (arith, ap length (one-digit c.before.before.before.args.n c.before.if-n-lt10.true))

returns_one : tie.Need-returns-then-n-lt10
returns_one c =
    let tested = c.before.before.before.before in
    wrote_as c.before.before.put_digit.ensures (one-digit tested.before.before.args.n tested.if-n-lt10.true)

-- ---- two digits

room-two : tie.Need-put_digit-ones-requires
room-two c κs =
    let tested = c.before in
    omega (arith, ap length (two_digits tested.before.before.before.args.n tested.before.if-n-lt10.false tested.if-n-lt100.true))

room-two-2 : tie.Need-put_digit-requires-then-n-lt100
room-two-2 c κs =
    let tested = c.before.before.before.before.before in
    omega (arith, ap length (two_digits tested.before.before.before.args.n tested.before.if-n-lt10.false tested.if-n-lt100.true))

returns-two : tie.Need-returns-then-n-lt100
returns-two c =
    let second = c.before.before in
    let first = second.before.before.before.before in
    let tested = first.before.before in
    wrote_as (wrote-both first.put_digit-ones.ensures second.put_digit-then-n-lt100.ensures)
    (two_digits tested.before.before.before.args.n tested.before.if-n-lt10.false tested.if-n-lt100.true)

-- ---- three digits

room-three : tie.Need-put_digit-tens-requires
room-three c κs = omega (arith, ap length (three-digits c.before.before.before.before.args.n c.before.if-n-lt100.false))

room-three-2 : tie.Need-put_digit-ones-requires-2
room-three-2 c κs =
    let tested = c.before.before.before.before.before in
    omega (arith, ap length (three-digits tested.before.before.before.args.n tested.if-n-lt100.false))

room-three-3 : tie.Need-put_digit-requires-2
room-three-3 c κs =
    let tested = c.before.before.before.before.before.before.before.before.before in
    omega (arith, ap length (three-digits tested.before.before.before.args.n tested.if-n-lt100.false))

returns-three : tie.Need-returns
returns-three c =
    let third = c.before.before in
    let second = third.before.before.before.before in
    let first = second.before.before.before.before in
    let tested = first.before.before in
    wrote_as (wrote-both first.put_digit-tens.ensures (wrote-both second.put_digit-ones-2.ensures third.put_digit-2.ensures))
    (three-digits tested.before.before.before.args.n tested.if-n-lt100.false)

pub put_decimal_spec : {M : Type 1} → statement M
put_decimal_spec =
    tie.close
    (tie.spec room-one (λ c. search rules) returns_one room-two room-two-2 (λ c. search rules) returns-two room-three room-three-2 room-three-3
    (λ c. search rules) returns-three)
