-- `writer::write_polynomial` meets its contract.
use native.Mathlib.Omega.{arith}
use borrow.Author.Rules.{rules}
use Rattle.writer.proofs.Writing.{wrote-both, room-first, room-second, polynomial-split}
use Rattle.writer.proofs.write_polynomial.Statement.{statement}
use Rattle.writer.proofs.write_polynomial.Tie as tie

pub write_polynomial_spec : {M : Type 1} → statement M
write_polynomial_spec =
    tie.close
    (tie.spec (λ c. search rules) (λ c. search rules)
    (λ c κs. let s = c.before.before.before.before.before in (omega arith, room-first (polynomial-split _ _ _ _ _ _) s.requires.5))
    (λ c. search rules)
    (λ c κs.
    let count = c.before.before.before in
    let s = count.before.before.before.before.before.before in
    (s.requires.0, s.requires.3, s.requires.4, room-second (polynomial-split _ _ _ _ _ _) s.requires.5 count.write_field-next.ensures count.write_field-next.auto.out))
    (λ c. search rules)
    (λ c. wrote-both (polynomial-split _ _ _ _ _ _) c.before.before.before.before.before.before.write_field-next.ensures
    c.before.before.write_terms.ensures))
