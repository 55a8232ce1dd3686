-- `put_counts` meets its contract: four numbers, each behind a space.
use native.Mathlib.Omega.{arith}
use borrow.Author.Rules.{rules}
use Rattle.rules.specs.Report.{counts_text}
use Rattle.lines.specs.Written.{wrote-both}
use Rattle.telling.specs.Told.{counts_in}
use Rattle.telling.proofs.Lines.{few}
use Rattle.telling.proofs.put_counts.Statement.{statement}
use Rattle.telling.proofs.put_counts.Tie as tie

room : tie.Need-put_number-second-requires
room c κs =
    let digits = few c.args.counts in
    omega arith

room-2 : tie.Need-put_number-third-requires
room-2 c κs =
    let digits = few c.args.counts in
    omega arith

room-3 : tie.Need-put_number-last-requires
room-3 c κs =
    let digits = few c.args.counts in
    omega arith

room-4 : tie.Need-put_number-requires
room-4 c κs =
    let digits = few c.args.counts in
    omega arith

returns : tie.Need-returns
unfolding counts_text counts_in
returns c =
    wrote-both c.put_number-second.ensures
    (wrote-both c.put_number-third.ensures (wrote-both c.put_number-last.ensures c.put_number.ensures))

pub put_counts_spec : {M : Type 1} → statement M
put_counts_spec = tie.close (tie.spec room room-2 room-3 room-4 (λ c. search rules) returns)
