-- `after_term` meets its contract.
use borrow.Author.Rules.{rules}
use Rattle.script_polynomial.proofs.Added.{after-end, after-spent, after-other, after_more}
use Rattle.script_polynomial.proofs.sums.after_term.Statement.{statement}
use Rattle.script_polynomial.proofs.sums.after_term.Tie as tie

pub after_term_spec : {M : Type 1} → statement M
after_term_spec =
    tie.close
    (tie.spec (λ c κs. search rules) (λ c. search rules)
    (λ c. λ n. after-end _ _ c.byte_at-byte.ensures n _ _ c.if-byte-eq41.true)
    (λ c. λ n. after-spent _ _ c.byte_at-byte.ensures n _ _ c.if-byte-eq41.false c.if-most-eq0.true)
    (λ c. λ n. after-other _ _ c.byte_at-byte.ensures n _ _ c.if-byte-eq41.false c.if-most-eq0.false
    c.if-byte-ne32.true)
    (λ c. search rules)
    (λ c. λ n. after_more _ _ c.byte_at-byte.ensures n _ _ c.if-most-eq0.false c.if-byte-ne32.false))
