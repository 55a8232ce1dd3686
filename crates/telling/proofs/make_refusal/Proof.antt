-- `make_refusal` meets its contract.
use native.Mathlib.Omega.{arith}
use borrow.Author.Rules.{rules}
use Rattle.lines.specs.Written.{wrote-both, wrote_as}
use Rattle.lines.specs.Parts.{decimal-long, refusal-long}
use Rattle.telling.specs.Told.{made}
use Rattle.telling.proofs.Lines.{refusal-line}
use Rattle.telling.proofs.make_refusal.Statement.{statement}
use Rattle.telling.proofs.make_refusal.Tie as tie

room-number : tie.Need-put_number-end-requires
room-number c κs = omega (arith, decimal-long c.args.number)

room-newline : tie.Need-put_byte-requires
room-newline c κs =
    let given = c.args in
    omega (arith, decimal-long given.number)

returns : tie.Need-returns
returns c =
    let line = wrote-both c.put_bytes-after.ensures (wrote-both c.put_number-end.ensures c.put_byte.ensures) in
    made (omega (arith, refusal-long c.args.number)) c.requires (wrote_as line (refusal-line c.args.number))

pub make_refusal_spec : {M : Type 1} → statement M
make_refusal_spec = tie.close (tie.spec (λ c κs. search rules) room-number room-newline (λ c. search rules) returns)
