-- Each test of the code is the book's, on the same field.
use Rattle.std.proofs.Common.{◌∙◌, w32}
use mir.ValLaws.{to_z-of_z}
use Rattle.block.proofs.ReadingTerms.{minus-is, magnitude-is, term-short, term-nought, term-rising, term-read}
use Rattle.block.proofs.read_term.Goals as goal

pub returns-then-left-n : goal.returns-then-left-n
returns-then-left-n c = term-short _ _ _ c.left.ensures c.if-left-n.true

pub returns-then-magnitude-eq0 : goal.returns-then-magnitude-eq0
returns-then-magnitude-eq0 c =
    term-nought _ _ _ c.left.ensures c.if-left-n.false (magnitude-is c.left.ensures c.if-left-n.false c.term_fields-fields.ensures)
    c.if-magnitude-eq0.true

pub returns-then-not-falls : goal.returns-then-not-falls
returns-then-not-falls c =
    let fields = c.term_fields-fields.ensures in
    term-rising _ _ _ c.left.ensures c.if-left-n.false (magnitude-is c.left.ensures c.if-left-n.false fields) c.if-magnitude-eq0.false
    fields.exponents c.if-not-falls.ensures

pub returns : goal.returns
returns c =
    let fields = c.term_fields-fields.ensures in
    term-read _ _ _ c.left.ensures c.if-left-n.false (magnitude-is c.left.ensures c.if-left-n.false fields) c.if-magnitude-eq0.false
    fields.exponents c.if-not-falls.ensures (minus-is c.left.ensures c.if-left-n.false fields)
    (to_z-of_z w32 c.coefficient_of.result (record { sfits = c.coefficient_of.type_inv }) ∙ c.coefficient_of.ensures)
    c.requires.0.short
