-- `make_answer` meets its contract.
use native.Mathlib.Omega.{arith}
use borrow.Author.Rules.{rules}
use Rattle.lines.specs.Written.{wrote-both}
use Rattle.lines.specs.Parts.{word-long, counts-long, answer_line, line-long}
use Rattle.telling.specs.Told.{verdict_in, counts_in, made}
use Rattle.telling.proofs.make_answer.Statement.{statement}
use Rattle.telling.proofs.make_answer.Tie as tie

room-counts : tie.Need-put_counts-end-requires
room-counts c κs = omega (arith, word-long (verdict_in c.args.verdict))

room-newline : tie.Need-put_byte-requires
room-newline c κs =
    let given = c.args in
    omega (arith, word-long (verdict_in given.verdict), counts-long (counts_in given.counts))

returns : tie.Need-returns
unfolding answer_line
returns c =
    made (line-long (verdict_in c.args.verdict) (counts_in c.args.counts)) c.requires
    (wrote-both c.put_word-numbers.ensures (wrote-both c.put_counts-end.ensures c.put_byte.ensures))

pub make_answer_spec : {M : Type 1} → statement M
make_answer_spec = tie.close (tie.spec (λ c κs. search rules) room-counts room-newline (λ c. search rules) returns)
