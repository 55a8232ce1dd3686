use Rattle.std.proofs.Common.{Bool, ◌||◌, ◌∙◌, sym, ap}
use Rattle.terms.specs.View.{numbers_from}
use Rattle.pool.specs.Listing.{among}
use Rattle.pool.proofs.listed.is_out.Goals as goal

pub returns-then-is_constant : goal.returns-then-is_constant
returns-then-is_constant c =
    let a = c.args in
    let found = rw c.from.ensures at c.is_constant.ensures in
    sym (ap (λ (b : Bool). b || among (numbers_from a.order.now 0 a.count) a.slot) (sym found ∙ c.if-is_constant.true))

pub returns : goal.returns
returns c =
    let a = c.args in
    let found = rw c.from.ensures at c.is_constant.ensures in
    c.is_among.ensures ∙ sym (ap (λ (b : Bool). b || among (numbers_from a.order.now 0 a.count) a.slot) (sym found ∙ c.if-is_constant.false))
