-- `explained` meets its contract: a refusal of the reader, or what `explain` tells of the block that was read.
use borrow.Author.Rules.{rules}
use native.Mathlib.Omega.{arith}
use Rattle.why.specs.Entry.{tells-refusal, found-refused, found-taken}
use Rattle.why.proofs.reading.explained.Statement.{statement}
use Rattle.why.proofs.reading.explained.Tie as tie

read-into-requires : tie.Need-read_into-contents-requires
read-into-requires c κs = record { coefficients = omega arith; monomials = omega arith; counts = omega arith; tokens = omega arith }

explain-requires : tie.Need-explain-requires
explain-requires c κs =
    let chosen = c in
    let reading = chosen in
    let a = reading.args in
    record { bytes = a.input.now; taken = found-taken reading.read_into-contents.ensures chosen.in-Ok.is }

returns : tie.Need-returns-in-Err
returns c =
    let chosen = c in
    let reading = chosen in
    let a = reading.args in
    tells-refusal c.refuse.result (found-refused reading.read_into-contents.ensures a.room chosen.in-Err.is) c.refuse.ensures

returns-2 : tie.Need-returns-in-Ok
returns-2 c =
    let told = c in
    let chosen = told in
    let reading = chosen in
    let a = reading.args in
    told.explain.ensures a.input.now (found-taken reading.read_into-contents.ensures chosen.in-Ok.is)

pub explained_spec : {M : Type 1} → statement M
explained_spec =
    tie.close
    (tie.spec (λ c. search rules) (λ c. search rules) (λ c. search rules) (λ c. search rules) read-into-requires (λ c. search rules)
    (λ c κs. search rules)
    (λ c. search rules) (λ c. search rules) (λ c. search rules) (λ c. search rules) (λ c. search rules) explain-requires returns returns-2)
