-- `form_counted` meets its contract: the run is left out by its bound or counted by the common run, and what is known of that holds afterwards.
use borrow.Author.Rules.{rules}
use native.Mathlib.Omega.{arith}
use Rattle.common_run.proofs.Counts.{others-afresh, without-it, known-left}
use Rattle.common_run.proofs.counting.form_counted.Statement.{statement}
use Rattle.common_run.proofs.counting.form_counted.Tie as tie

fresh-rounds-requires : tie.Need-fresh_rounds-rounds-requires
fresh-rounds-requires c κs = let s = c.before.before.before.before.before in (s.requires.0.0, others-afresh s.requires.0.1.0)

returns : tie.Need-returns-then-not-open
returns c =
    let s = c.before.before.before.before.before.before.before in
    let (forms, (remain, known)) = s.requires.0 in
    record { counts = c.before.fresh_rounds-rounds.ensures; known = known-left remain forms known s.requires.1.0 s.requires.1.1 c.left-known.ensures }

by-common-requires : tie.Need-by_common-rounds-requires
by-common-requires c κs =
    let s = c.before.before.before.before.before.before in
    let (forms, (remain, known)) = s.requires.0 in
    ((forms, others-afresh remain), (omega (arith, s.requires.1.0), without-it remain c.remade-made.ensures s.requires.1.0 s.requires.1.1))

returns-2 : tie.Need-returns
returns-2 c =
    let s = c.before.before.before.before.before.before.before.before in
    let (forms, (remain, known)) = s.requires.0 in
    record { counts = c.before.by_common-rounds.ensures; known = known-left remain forms c.before.before.remade-made.ensures s.requires.1.0 s.requires.1.1 c.left-known-2.ensures }

pub form_counted_spec : {M : Type 1} → statement M
form_counted_spec =
    tie.close
    (tie.spec (λ c κs. search rules) fresh-rounds-requires (λ c κs. search rules) returns (λ c κs. search rules) by-common-requires (λ c κs. search rules) returns-2)
