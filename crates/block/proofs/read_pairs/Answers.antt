-- Each test of the code is the book's, on the same field.
use Rattle.std.proofs.lemmas.Result.{err_from_is_err_and}
use Rattle.block.proofs.ReadingPairs.{many-pairs, pairs-short, pairs-wrong, pairs-read}
use Rattle.block.proofs.read_pairs.Goals as goal

pub returns-then-n-count : goal.returns-then-n-count
returns-then-n-count c = many-pairs _ _ _ c.get-count.ensures c.if-n-count.true

pub returns-then-left-count : goal.returns-then-left-count
returns-then-left-count c =
    pairs-short _ _ _ c.get-count.ensures c.if-n-count.false c.left.ensures c.if-left-count.true c.requires.1

pub returns-in_err-exponents : goal.returns-in_err-exponents
returns-in_err-exponents c =
    let p = err_from_is_err_and c.from_residual.result c.from_residual.ensures.1 in
    rw (p.1, p.2)
    (pairs-wrong _ _ _ c.get-count.ensures c.if-n-count.false c.left.ensures c.if-left-count.false c.tell.ensures c.in_err-exponents.was)

pub returns : goal.returns
returns c =
    pairs-read _ _ _ c.get-count.ensures c.if-n-count.false c.left.ensures c.if-left-count.false c.tell.ensures c.in_ok-exponents.was
    c.requires.0
