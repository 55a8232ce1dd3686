-- `put_hex` meets its contract: the first pair, and the others each behind a space.
use mathlib.Core.Path.{sym, ap}
use native.Mathlib.Omega.{arith}
use lib.ListN.{length, length-append}
use borrow.Author.Rules.{rules}
use Rattle.lines.specs.Written.{wrote_nothing, wrote-both, wrote_as}
use Rattle.lines.specs.Parts.{hex-long}
use Rattle.lines.proofs.Runs.{hex-none, hex-whole}
use Rattle.lines.proofs.put_hex.Statement.{statement}
use Rattle.lines.proofs.put_hex.Tie as tie

returns : tie.Need-returns-then-block-eq0
returns c = wrote_as wrote_nothing (sym (hex-none c.before.before.before.args.block.now c.if-block-eq0.true))

room-pair : tie.Need-put_pair-rest-requires
room-pair c κs = omega (arith, hex-long c.before.before.before.before.before.args.block.now)

room-rest : tie.Need-put_rest-requires
room-rest c κs =
    let tested = c.before.before.before.before.before.before.before in
    omega (arith, simp length-append at (ap length (hex-whole tested.before.before.before.args.block.now tested.if-block-eq0.false)))

returns-2 : tie.Need-returns
returns-2 c =
    let pair = c.before.before.before.before.before.before.before in
    let tested = pair.before.before.before in
    wrote_as (wrote-both pair.put_pair-rest.ensures c.before.before.put_rest.ensures)
    (hex-whole tested.before.before.before.args.block.now tested.if-block-eq0.false)

pub put_hex_spec : {M : Type 1} → statement M
put_hex_spec =
    tie.close
    (tie.spec returns (λ c. search rules) room-pair (λ c. search rules) (λ c. search rules) (λ c. search rules) room-rest
    (λ c. search rules) returns-2)
