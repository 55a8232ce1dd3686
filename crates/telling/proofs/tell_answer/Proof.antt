-- `tell_answer` meets its contract: the line that was made apart and the hex line are told if they fit.
use mathlib.Core.Path.{sym, ap}
use native.Mathlib.Omega.{arith}
use lib.ListN.{length}
use lib.Seq.{length-take-le}
use borrow.Author.Rules.{rules}
use Rattle.lines.specs.Written.{wrote-both, wrote_as}
use Rattle.lines.specs.Parts.{hex-long, answer-lines, lines_long}
use Rattle.telling.specs.Told.{verdict_in, counts_in, told_none, told-all}
use Rattle.telling.proofs.tell_answer.Statement.{statement}
use Rattle.telling.proofs.tell_answer.Tie as tie

returns : tie.Need-returns-then-text-n
returns c =
    let given = c.args in
    told_none (omega (arith, lines_long (verdict_in given.verdict) given.block.now (counts_in given.counts)))

lends-line : tie.Need-slice_bounds-put_bytes-end
lends-line c =
    let line = c.make_answer-n in
    sym (length-take-le line.result line.new.line line.ensures.inside)

room-line : tie.Need-put_bytes-second-requires
room-line c κs = omega (arith, ap length c.make_answer-n.ensures.is)

room-hex : tie.Need-put_hex-end-requires
room-hex c κs =
    omega (arith, ap length c.make_answer-n.ensures.is, hex-long c.args.block.now)

room-newline : tie.Need-put_byte-requires
room-newline c κs =
    omega (arith, ap length c.make_answer-n.ensures.is, hex-long c.args.block.now)

returns-2 : tie.Need-returns
returns-2 c =
    let given = c.args in
    let verdict = verdict_in given.verdict in
    let counts = counts_in given.counts in
    let first = wrote_as c.put_bytes-second.ensures c.make_answer-n.ensures.is in
    let second = wrote-both c.put_hex-end.ensures c.put_byte.ensures in
    told-all (omega (arith, lines_long verdict given.block.now counts))
    (wrote_as (wrote-both first second) (answer-lines verdict given.block.now counts))

pub tell_answer_spec : {M : Type 1} → statement M
tell_answer_spec =
    tie.close
    (tie.spec (λ c. search rules) (λ c κs. search rules) (λ c κs. search rules) (λ c. omega arith) (λ c. omega arith) returns
    (λ c. omega arith) lends-line room-line room-hex room-newline (λ c. search rules) returns-2)
