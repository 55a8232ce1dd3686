-- Each test of the code is the book's, on the same field.
use Rattle.std.proofs.Common.{◌+◌, ◌∙◌, w32}
use Rattle.std.proofs.lemmas.Result.{err_from_is_err_and}
use lib.ListN.{drop}
use mir.ValLaws.{to_z-of_z}
use Rattle.rules.specs.Bits.{unpack}
use Rattle.bits.proofs.Fields.{value-take-lt}
use Rattle.block.proofs.ReadingPairs.{paired-short, paired-nought, paired-refused, paired-rising, paired-read}
use Rattle.block.proofs.read_paired_term.Goals as goal

pub returns-then-left-lt37 : goal.returns-then-left-lt37
returns-then-left-lt37 c = paired-short _ _ _ c.left.ensures c.if-left-lt37.true

pub returns-then-magnitude-eq0 : goal.returns-then-magnitude-eq0
returns-then-magnitude-eq0 c =
    paired-nought _ _ _ c.left.ensures c.if-left-lt37.false c.get-magnitude.ensures c.if-magnitude-eq0.true

pub returns-in_err-pairs : goal.returns-in_err-pairs
returns-in_err-pairs c =
    let p = err_from_is_err_and c.from_residual.result c.from_residual.ensures.1 in
    rw (p.1, p.2)
    (paired-refused _ _ _ c.left.ensures c.if-left-lt37.false c.get-magnitude.ensures c.if-magnitude-eq0.false c.read_pairs.ensures
    c.in_err-pairs.was)

pub returns-then-not-falls : goal.returns-then-not-falls
returns-then-not-falls c =
    paired-rising _ _ _ c.left.ensures c.if-left-lt37.false c.get-magnitude.ensures c.if-magnitude-eq0.false c.read_pairs.ensures
    c.in_ok-pairs.was c.if-not-falls.ensures

pub coefficient_of-requires : goal.coefficient_of-requires
coefficient_of-requires c = rw c.get-magnitude.ensures (value-take-lt 31 (drop (c.args.place.at + 1) (unpack c.args.src.now)))

pub returns : goal.returns
returns c =
    paired-read _ _ _ c.left.ensures c.if-left-lt37.false c.get-magnitude.ensures c.if-magnitude-eq0.false c.read_pairs.ensures
    c.in_ok-pairs.was c.if-not-falls.ensures c.get.ensures
    (to_z-of_z w32 c.coefficient_of.result (record { sfits = c.coefficient_of.type_inv }) ∙ c.coefficient_of.ensures)
