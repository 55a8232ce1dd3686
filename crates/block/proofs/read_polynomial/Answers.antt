-- Each test of the code is the book's, on the same field.
use Rattle.block.proofs.ReadingTable.{polynomial-short, no_terms, too-many-terms, polynomial-read}
use Rattle.block.proofs.read_polynomial.Goals as goal

pub returns-then-left-lt5 : goal.returns-then-left-lt5
returns-then-left-lt5 c = polynomial-short _ _ c.left.ensures c.if-left-lt5.true

pub returns-then-count-eq0 : goal.returns-then-count-eq0
returns-then-count-eq0 c = no_terms _ _ c.left.ensures c.if-left-lt5.false c.get-count.ensures c.if-count-eq0.true

pub returns-then-count-gt16 : goal.returns-then-count-gt16
returns-then-count-gt16 c = too-many-terms _ _ c.left.ensures c.if-left-lt5.false c.get-count.ensures c.if-count-gt16.true

pub returns : goal.returns
returns c =
    polynomial-read _ _ c.left.ensures c.if-left-lt5.false c.get-count.ensures c.if-count-eq0.false c.if-count-gt16.false
    c.read_terms.ensures
