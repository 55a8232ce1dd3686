-- `arithmetic::times` meets its contract.
use borrow.Author.Rules.{rules}
use Rattle.arithmetic.specs.Numbers.{times_zero, times-lost, product_small, times-kept-by}
use Rattle.arithmetic.proofs.times.Statement.{statement}
use Rattle.arithmetic.proofs.times.Tie as tie

returns : tie.Need-returns-then-magnitude-eq0
returns c = times_zero _ _ _ c.if-magnitude-eq0.true

returns-2 : tie.Need-returns-then-limit-magnitude
returns-2 c =
    let limiting = c.before.before in
    let differing = limiting.before in
    times-lost _ _ _ differing.differ-sign.ensures differing.before.if-magnitude-eq0.false limiting.limit.ensures c.if-limit-magnitude.true

mul-t6 : tie.Need-overflow_mul-result
mul-t6 c =
    let tested = c.before in
    let limiting = tested.before.before in
    let differing = limiting.before in
    record { fits = product_small differing.before.before.args.v _ _ differing.differ-sign.ensures differing.before.if-magnitude-eq0.false limiting.limit.ensures tested.if-limit-magnitude.false }

returns-3 : tie.Need-returns
returns-3 c =
    let tested = c.before in
    let limiting = tested.before.before in
    let differing = limiting.before in
    times-kept-by _ _ _ differing.differ-sign.ensures differing.before.if-magnitude-eq0.false limiting.limit.ensures tested.if-limit-magnitude.false

pub times_spec : {M : Type 1} → statement M
times_spec = tie.close (tie.spec returns (λ c κs. search rules) (λ c κs. search rules) (λ c. search rules) returns-2 mul-t6 returns-3)
