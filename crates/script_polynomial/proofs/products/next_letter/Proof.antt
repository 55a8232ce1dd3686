-- `next_letter` meets its contract: each test of the code is the book's.
use native.Mathlib.Omega.{arith}
use borrow.Author.Rules.{rules}
use Rattle.script_polynomial.proofs.Factors.{letter-low, letter-far, letter-before, letter-spent, letter-over, letter-taken}
use Rattle.script_polynomial.proofs.products.next_letter.Statement.{statement}
use Rattle.script_polynomial.proofs.products.next_letter.Tie as tie

pub next_letter_spec : {M : Type 1} → statement M
next_letter_spec =
    tie.close
    (tie.spec (λ c. letter-low _ _ _ _ _ c.requires.0 c.if-byte-lt97.true) (λ c. search rules)
    (λ c. letter-far _ _ _ _ _ c.requires.0 c.if-n-i.true) (λ c. search rules) (λ c. search rules)
    (λ c. letter-before _ _ _ _ _ c.requires.0 c.if-after-later.true) (λ c. search rules) (λ c. search rules)
    (λ c. letter-spent _ _ _ _ _ c.requires.0 c.requires.2 c.requires.1 c.if-byte-lt97.false c.if-n-i.false c.if-monomial-later-eq15.true)
    (λ c. omega (arith, c.requires.2.below)) (λ c. search rules) (λ c. search rules)
    (λ c. letter-over _ _ _ _ _ c.requires.0 c.requires.2 c.requires.1 c.if-byte-lt97.false c.if-n-i.false
    c.if-limit-monomial.true)
    (λ c. letter-taken _ _ _ _ _ c.requires.0 c.requires.2 c.requires.1 c.if-byte-lt97.false c.if-n-i.false
    c.if-after-later.false c.if-monomial-later-eq15.false c.if-limit-monomial.false))
