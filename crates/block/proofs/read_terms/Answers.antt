use Rattle.std.proofs.Common.{refl, arith}
use Rattle.std.proofs.lemmas.Result.{err_from_is_err_and}
use Rattle.block.proofs.ReadingTerms.{terms-begin, terms-end, terms-stop, terms-go-on}
use Rattle.block.proofs.read_terms.Goals as goal

pub loop-i-init : goal.loop-i-init
loop-i-init c = terms-begin _ _ _ _ c.requires.0

pub returns-in_err-next : goal.returns-in_err-next
returns-in_err-next c =
    let p = err_from_is_err_and c.from_residual.result c.from_residual.ensures.1 in
    rw (p.1, p.2) (terms-stop _ _ _ _ c.loop-i.invariant c.loop-i-test.true c.read_term_in.ensures c.in_err-next.was)

pub loop-i-preserved : goal.loop-i-preserved
loop-i-preserved c =
    terms-go-on _ _ _ _ c.loop-i.invariant c.loop-i-test.true c.read_term_in.ensures c.in_ok-next.was
    (omega (arith, c.loop-i.auto.monomial, c.requires.3)) refl

pub returns : goal.returns
returns c = terms-end _ _ _ _ c.loop-i.invariant c.loop-i-test.false
