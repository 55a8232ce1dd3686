-- As the rest of the polynomials is read, so is the whole table.
use Rattle.rules.specs.Block.{edition_of}
use Rattle.block.proofs.ReadingTable.{TableLeft}
use Rattle.block.proofs.read_table.Given as goal

abbrev pub invariant-loop-i : goal.invariant-loop-i
invariant-loop-i l =
    TableLeft (edition_of l.edition) l.src l.n l.m l.fn.place l.fn.coefficient l.fn.monomial l.fn.counts l.i l.next l.coefficient l.monomial l.counts
