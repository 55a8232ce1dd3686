-- `writer::write_join` meets its contract.
use native.Mathlib.Omega.{arith}
use borrow.Author.Rules.{rules}
use Rattle.writer.proofs.Writing.{wrote-both, room-first, room-second, join-split}
use Rattle.writer.proofs.write_join.Statement.{statement}
use Rattle.writer.proofs.write_join.Tie as tie

pub write_join_spec : {M : Type 1} → statement M
write_join_spec =
    tie.close
    (tie.spec
    (λ c κs. (omega arith, room-first (join-split _ _) c.requires))
    (λ c κs. let kind = c in (
      omega arith,
      room-second (join-split _ _) kind.requires kind.write_field-next.ensures
          kind.write_field-next.auto.out,
    ))
    (λ c. search rules)
    (λ c. wrote-both (join-split _ _) c.write_field-next.ensures c.write_field.ensures))
