-- `writer::write_head` meets its contract.
use native.Mathlib.Omega.{arith}
use borrow.Author.Rules.{rules}
use Rattle.writer.proofs.Writing.{wrote-both, room-first, room-second, two_runs, head-split, room-head}
use Rattle.writer.proofs.write_head.Statement.{statement}
use Rattle.writer.proofs.write_head.Tie as tie

pub write_head_spec : {M : Type 1} → statement M
write_head_spec =
    tie.close
    (tie.spec
    (λ c κs. let a = c.args in (
      omega arith,
      room-first (head-split _ _ _ _ _) (room-head a.edition a.variables a.polynomials a.nodes a.size
          c.requires),
    ))
    (λ c κs.
    let edition = c.before.before.before in
    let s = edition.before.before.before in (
      omega arith,
      room-first two_runs (room-second (head-split s.args.edition s.args.variables s.args.polynomials s.args.nodes s.args.size) (room-head _ _ _ _ _ s.requires)
          edition.write_field-start.ensures edition.write_field-start.auto.out),
    ))
    (λ c κs.
    let first = c.before.before.before in
    let edition = first.before.before.before.before in
    let s = edition.before.before.before in (
      omega arith,
      room-first two_runs (room-second two_runs
          (room-second (head-split s.args.edition s.args.variables s.args.polynomials s.args.nodes s.args.size) (room-head _ _ _ _ _ s.requires)
          edition.write_field-start.ensures edition.write_field-start.auto.out)
          first.write_field-first.ensures first.write_field-first.auto.out),
    ))
    (λ c κs.
    let second = c.before.before.before in
    let first = second.before.before.before.before in
    let edition = first.before.before.before.before in
    let s = edition.before.before.before in (
      omega arith,
      room-first two_runs (room-second two_runs (room-second two_runs
          (room-second (head-split s.args.edition s.args.variables s.args.polynomials s.args.nodes s.args.size) (room-head _ _ _ _ _ s.requires)
          edition.write_field-start.ensures edition.write_field-start.auto.out)
          first.write_field-first.ensures first.write_field-first.auto.out)
          second.write_field-second.ensures second.write_field-second.auto.out),
    ))
    (λ c κs.
    let third = c.before.before.before in
    let second = third.before.before.before.before in
    let first = second.before.before.before.before in
    let edition = first in
    let s = edition in (
      omega arith,
      room-second two_runs (room-second two_runs (room-second two_runs
          (room-second (head-split s.args.edition s.args.variables s.args.polynomials s.args.nodes s.args.size) (room-head _ _ _ _ _ s.requires)
          edition.write_field-start.ensures edition.write_field-start.auto.out)
          first.write_field-first.ensures first.write_field-first.auto.out)
          second.write_field-second.ensures second.write_field-second.auto.out)
          third.write_field-third.ensures third.write_field-third.auto.out,
    ))
    (λ c. search rules)
    (λ c.
    let last = c in
    let third = last in
    let second = third in
    let first = second in
    wrote-both (head-split _ _ _ _ _) first.write_field-start.ensures (wrote-both two_runs first.write_field-first.ensures
    (wrote-both two_runs second.write_field-second.ensures
    (wrote-both two_runs third.write_field-third.ensures last.write_field.ensures)))))
