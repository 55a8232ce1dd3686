-- Each test of the code is the book's, on the same field.
use Rattle.block.proofs.ReadingHead.{block-short, no-edition, other-edition, other_length, no-variables, many-variables, many-polynomials, no-nodes, head_read}
use Rattle.block.proofs.read_head.Goals as goal

pub returns-then-src-lt5 : goal.returns-then-src-lt5
returns-then-src-lt5 c = block-short _ c.if-src-lt5.true

pub returns-then-edition-eq0 : goal.returns-then-edition-eq0
returns-then-edition-eq0 c = no-edition _ c.if-src-lt5.false c.get-edition.ensures c.if-edition-eq0.true

pub returns-then-edition-gt2 : goal.returns-then-edition-gt2
returns-then-edition-gt2 c = other-edition _ c.if-src-lt5.false c.get-edition.ensures c.if-edition-eq0.false c.if-edition-gt2.true

pub returns-then-get-src : goal.returns-then-get-src
returns-then-get-src c =
    other_length _ c.if-src-lt5.false c.get-edition.ensures c.if-edition-eq0.false c.if-edition-gt2.false c.get.ensures c.if-get-src.true

pub returns-then-variables-eq0 : goal.returns-then-variables-eq0
returns-then-variables-eq0 c =
    no-variables _ c.if-src-lt5.false c.get-edition.ensures c.if-edition-eq0.false c.if-edition-gt2.false c.get.ensures c.if-get-src.false
    c.get-variables.ensures c.if-variables-eq0.true

pub returns-then-variables-gt16 : goal.returns-then-variables-gt16
returns-then-variables-gt16 c =
    many-variables _ c.if-src-lt5.false c.get-edition.ensures c.if-edition-eq0.false c.if-edition-gt2.false c.get.ensures c.if-get-src.false
    c.get-variables.ensures c.if-variables-eq0.false c.if-variables-gt16.true

pub returns-then-polynomials-gt64 : goal.returns-then-polynomials-gt64
returns-then-polynomials-gt64 c =
    many-polynomials _ c.if-src-lt5.false c.get-edition.ensures c.if-edition-eq0.false c.if-edition-gt2.false c.get.ensures c.if-get-src.false
    c.get-variables.ensures c.if-variables-eq0.false c.if-variables-gt16.false c.get-polynomials.ensures
    c.if-polynomials-gt64.true

pub returns-then-nodes-eq0 : goal.returns-then-nodes-eq0
returns-then-nodes-eq0 c =
    no-nodes _ c.if-src-lt5.false c.get-edition.ensures c.if-edition-eq0.false c.if-edition-gt2.false c.get.ensures c.if-get-src.false
    c.get-variables.ensures c.if-variables-eq0.false c.if-variables-gt16.false c.get-polynomials.ensures
    c.if-polynomials-gt64.false c.get-nodes.ensures c.if-nodes-eq0.true

pub returns : goal.returns
returns c =
    head_read _ c.if-src-lt5.false c.get-edition.ensures c.if-edition-eq0.false c.if-edition-gt2.false c.get.ensures c.if-get-src.false
    c.get-variables.ensures c.if-variables-eq0.false c.if-variables-gt16.false c.get-polynomials.ensures
    c.if-polynomials-gt64.false c.get-nodes.ensures c.if-nodes-eq0.false
