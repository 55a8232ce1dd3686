-- As the rest of the terms is read, so are all of them.
use Rattle.rules.specs.Block.{edition_of}
use Rattle.block.proofs.ReadingTerms.{TermsLeft}
use Rattle.block.proofs.read_terms.Given as goal

abbrev pub invariant-loop-i : goal.invariant-loop-i
invariant-loop-i l =
    TermsLeft (edition_of l.edition) l.src l.n l.k l.count l.fn.place l.fn.coefficient l.fn.monomial l.i l.next l.first l.above l.coefficient l.monomial
