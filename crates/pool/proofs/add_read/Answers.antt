-- The refusals in their order, and then the forms.
use Rattle.std.proofs.Common.{sym, ◌∙◌}
use Rattle.pool.specs.Reading.{block_from}
use Rattle.pool.specs.Entry.{add-closed, add-other, gives-forms, below-32}
use Rattle.pool.proofs.add_read.Goals as goal

pub returns-then-not-is_open : goal.returns-then-not-is_open
unfolding block_from
returns-then-not-is_open c =
    let a = c.args in
    add-closed a.number (block_from a.variables a.coefficient.now a.monomial.now a.terms.now a.polynomials) a.pool.now
    (sym c.is_open.ensures ∙ c.if-not-is_open.true)

pub returns-then-not-allows : goal.returns-then-not-allows
unfolding block_from
returns-then-not-allows c =
    let a = c.args in
    add-other a.number (block_from a.variables a.coefficient.now a.monomial.now a.terms.now a.polynomials) a.pool.now
    (sym c.is_open.ensures ∙ c.if-not-is_open.false) (sym c.allows.ensures ∙ c.if-not-allows.true)

pub fill-requires : goal.fill-requires
fill-requires c =
    let h = c.forms_of-count.ensures in
    (c.requires.0, below-32 c.args.number _ (sym c.is_open.ensures ∙ c.if-not-is_open.false), h.room, h.slots, h.most)

pub returns : goal.returns
unfolding block_from
returns c =
    let a = c.args in
    gives-forms a.number _ (block_from a.variables a.coefficient.now a.monomial.now a.terms.now a.polynomials) a.pool.now _ _ _ _ _ _
    c.requires.0 (sym c.is_open.ensures ∙ c.if-not-is_open.false) (sym c.allows.ensures ∙ c.if-not-allows.false)
    c.forms_of-count.ensures c.fill.ensures
