-- `writer::write_field` meets its contract.
use mathlib.Core.Path.{ap, sym}
use Prim.Native.Nat.{◌+◌}
use native.Mathlib.Omega.{arith}
use borrow.Author.Rules.{rules}
use Rattle.bits.proofs.Fields.{length-field}
use Rattle.writer.proofs.write_field.Statement.{statement}
use Rattle.writer.proofs.write_field.Tie as tie

pub write_field_spec : {M : Type 1} → statement M
write_field_spec =
    tie.close
    (tie.spec (λ c κs. let s = c.before.before in (s.requires.0, omega (arith, s.requires.1.inside, length-field s.args.k s.args.v))) (λ c. search rules)
    (λ c. search rules)
    (λ c.
    let a = c.before.before.before.before.before.args in
    record { stored = c.before.before.put.ensures; behind = ap (λ k. a.at + k) (sym (length-field a.k a.v)) }))
