-- `writer::exponents::write_exponents` meets its contract.
use native.Mathlib.Omega.{arith}
use borrow.Author.Rules.{rules}
use Rattle.writer.proofs.Writing.{wrote-both, room-first, room-second}
use Rattle.writer.proofs.WritingExponents.{exponents-field, exponents-split}
use Rattle.writer.proofs.exponents.write_exponents.Statement.{statement}
use Rattle.writer.proofs.exponents.write_exponents.Tie as tie

pub write_exponents_spec : {M : Type 1} → statement M
write_exponents_spec =
    tie.close
    (tie.spec (λ c. search rules)
    (λ c κs.
    let first = c.before in
    let s = first.before.before in
    let a = s.args in
    (omega (arith, s.requires.0), rw (exponents-field a.edition a.n a.monomial first.if-edition-lt2.true) at s.requires.1))
    (λ c. search rules)
    (λ c.
    let field = c.before.before in
    let first = field.before.before in
    let a = first.before.before.args in
    rw (exponents-field a.edition a.n a.monomial first.if-edition-lt2.true) field.write_field.ensures)
    (λ c κs. search rules)
    (λ c κs.
    let second = c.before.before in
    let s = second.before.before in
    let a = s.args in
    (omega arith, room-first (exponents-split a.edition a.n a.monomial second.if-edition-lt2.false (c.pair_count.ensures.0 a.n)) s.requires.1))
    (λ c κs.
    let field = c.before.before.before in
    let count = field.before in
    let second = count.before.before in
    let s = second.before.before in
    let a = s.args in (
      s.requires.0,
      omega arith,
      room-second (exponents-split a.edition a.n a.monomial second.if-edition-lt2.false (count.pair_count.ensures.0 a.n)) s.requires.1
          field.write_field-pairs.ensures field.write_field-pairs.auto.out,
    ))
    (λ c. search rules)
    (λ c.
    let pairs = c.before.before in
    let field = pairs.before.before.before.before in
    let count = field.before in
    let second = count.before.before in
    let a = second.before.before.args in
    wrote-both (exponents-split a.edition a.n a.monomial second.if-edition-lt2.false (count.pair_count.ensures.0 a.n)) field.write_field-pairs.ensures
    pairs.write_pairs.ensures))
