-- `writer::write_atom` meets its contract.
use native.Mathlib.Omega.{arith}
use borrow.Author.Rules.{rules}
use Rattle.writer.proofs.Writing.{wrote-both, room-first, room-second, two_runs, atom-split}
use Rattle.writer.proofs.write_atom.Statement.{statement}
use Rattle.writer.proofs.write_atom.Tie as tie

pub write_atom_spec : {M : Type 1} → statement M
write_atom_spec =
    tie.close
    (tie.spec
    (λ c κs. (omega arith, room-first (atom-split _) c.requires))
    (λ c. search rules)
    (λ c κs.
    let kind = c.before.before.before in
    (omega arith, room-first two_runs (room-second (atom-split _) kind.requires kind.write_field-kind.ensures kind.write_field-kind.auto.out)))
    (λ c. search rules)
    (λ c κs.
    let number = c.before.before.before in
    let kind = number in (
      omega arith,
      room-second two_runs (room-second (atom-split _) kind.requires kind.write_field-kind.ensures kind.write_field-kind.auto.out)
          number.write_field-number.ensures number.write_field-number.auto.out,
    ))
    (λ c. search rules)
    (λ c.
    let set = c in
    let number = set in
    wrote-both (atom-split _) number.write_field-kind.ensures (wrote-both two_runs number.write_field-number.ensures
    set.write_field.ensures)))
