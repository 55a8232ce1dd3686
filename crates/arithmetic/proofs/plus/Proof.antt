-- `arithmetic::plus` meets its contract.
use mathlib.Core.Path.{sym, ◌∙◌}
use borrow.Author.Rules.{rules}
use Rattle.arithmetic.specs.Numbers.{second-larger, first-larger, past_first, past-rest, in-range}
use Rattle.arithmetic.proofs.plus.Statement.{statement}
use Rattle.arithmetic.proofs.plus.Tie as tie

-- ---- the signs differ

returns : tie.Need-returns-then-x-y
returns c =
    let signs = c.before.before in
    let differing = signs.before in
    second-larger _ _ differing.before.both-fits.ensures (sym differing.differ.ensures ∙ signs.if-differ.true) c.before.if-x-y.true c.ranged.ensures

returns-2 : tie.Need-returns-then-differ
returns-2 c =
    let signs = c.before.before in
    let differing = signs.before in
    first-larger _ _ differing.before.both-fits.ensures (sym differing.differ.ensures ∙ signs.if-differ.true) c.before.if-x-y.false c.ranged-then-differ.ensures

-- ---- they agree

returns-3 : tie.Need-returns-then-most-x
returns-3 c =
    let limiting = c.before in
    let signs = limiting.before in
    let differing = signs.before in
    past_first _ _ differing.before.both-fits.ensures (sym differing.differ.ensures ∙ signs.if-differ.false) limiting.limit-most.ensures c.if-most-x.true

returns-4 : tie.Need-returns-then-most-x-2
returns-4 c =
    let first = c.before in
    let limiting = first.before in
    let signs = limiting.before in
    let differing = signs.before in
    past-rest _ _ differing.before.both-fits.ensures (sym differing.differ.ensures ∙ signs.if-differ.false) limiting.limit-most.ensures first.if-most-x.false c.if-most-x-2.true

returns-5 : tie.Need-returns
returns-5 c =
    let first = c.before in
    let limiting = first.before in
    let signs = limiting.before in
    let differing = signs.before in
    in-range _ _ differing.before.both-fits.ensures (sym differing.differ.ensures ∙ signs.if-differ.false) limiting.limit-most.ensures first.if-most-x.false c.if-most-x-2.false

pub plus_spec : {M : Type 1} → statement M
plus_spec =
    tie.close
    (tie.spec (λ c κs. search rules) (λ c κs. search rules) (λ c. search rules) (λ c κs. search rules) returns (λ c κs. search rules) returns-2
    (λ c κs. search rules) returns-3 returns-4 (λ c. search rules) returns-5)
