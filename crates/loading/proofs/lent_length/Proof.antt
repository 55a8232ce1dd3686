-- `lent_length` meets its contract: bytes 3 and 4 are the length field.
use borrow.Author.Rules.{rules}
use native.Mathlib.Omega.{arith}
use Rattle.loading.specs.Started.{lent-all, said-is, lent-said}
use Rattle.loading.proofs.lent_length.Statement.{statement}
use Rattle.loading.proofs.lent_length.Tie as tie

returns : tie.Need-returns-then-all-lt5
returns c =
    let a = c.before.before.args in
    lent-all a.area.now (λ five. omega (arith, five, c.if-all-lt5.true))

returns-2 : tie.Need-returns-then-said-lt5
returns-2 c =
    let low = c.before.wide-2 in
    let high = c.before.before.before.wide in
    let first = c.before.before.before.before.before in
    let a = first.before.before.args in
    let said = said-is a.area.now high.result low.result (omega (arith, first.if-all-lt5.false)) high.ensures.0 low.ensures.0
    high.ensures.1 low.ensures.1 in
    lent-all a.area.now (λ five. omega (arith, five, said, c.if-said-lt5.true))

returns-3 : tie.Need-returns-then-all-said
returns-3 c =
    let low = c.before.before.wide-2 in
    let high = c.before.before.before.before.wide in
    let first = c.before.before.before.before.before.before in
    let a = first.before.before.args in
    let said = said-is a.area.now high.result low.result (omega (arith, first.if-all-lt5.false)) high.ensures.0 low.ensures.0
    high.ensures.1 low.ensures.1 in
    lent-all a.area.now (λ five. omega (arith, five, said, c.if-all-said.true))

returns-4 : tie.Need-returns
returns-4 c =
    let low = c.before.before.wide-2 in
    let high = c.before.before.before.before.wide in
    let first = c.before.before.before.before.before.before in
    let a = first.before.before.args in
    let said = said-is a.area.now high.result low.result (omega (arith, first.if-all-lt5.false)) high.ensures.0 low.ensures.0
    high.ensures.1 low.ensures.1 in
    lent-said a.area.now _ said (omega (arith, c.before.if-said-lt5.false)) (omega (arith, c.if-all-said.false))

mul-said : tie.Need-overflow_mul-said
mul-said c = omega (arith, c.wide.ensures.1)

add-said : tie.Need-overflow_add-said
add-said c = omega (arith, c.before.before.wide.ensures.1, c.wide-2.ensures.1)

pub lent_length_spec : {M : Type 1} → statement M
lent_length_spec =
    tie.close
    (tie.spec
    returns
    (λ c. search rules)
    (λ c κs. search rules)
    mul-said
    (λ c. search rules)
    (λ c κs. search rules)
    add-said
    returns-2
    returns-3
    returns-4)
