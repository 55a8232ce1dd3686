-- `answered` meets its contract: what the reader refuses changes nothing, what it accepts is answered, its places are told and its rounds counted.
use borrow.Author.Rules.{rules}
use native.Mathlib.Omega.{arith}
use lib.ListN.{length}
use Rattle.lift.specs.Entry.{answers-refused, found-refused, found-accepted}
use Rattle.lift.specs.Places.{places-refused, places-accepted}
use Rattle.lift.specs.Rounds.{refused-counts}
use Rattle.lift.proofs.answered.Statement.{statement}
use Rattle.lift.proofs.answered.Tie as tie

read-into-requires : tie.Need-read_into-contents-requires
read-into-requires c κs = record { coefficients = omega arith; monomials = omega arith; counts = omega arith; tokens = omega arith }

answer-to-requires : tie.Need-answer_to-requires
answer-to-requires c κs =
    let a = c.args in (
      record {
        bytes = a.input.now;
        accepted = found-accepted c.read_into-contents.ensures (length a.output.now) c.in-Ok.is c.requires.0
            c.edition-number.ensures;
      },
      c.requires.1,
    )

returns : tie.Need-returns-in-Err
returns c =
    let a = c.args in
    let is = found-refused c.read_into-contents.ensures c.in-Err.is in (
      answers-refused a.input.now a.output.now c.requires.0 is,
      (places-refused a.input.now (length a.output.now) c.requires.0 a.places.now is, refused-counts a.largest is),
    )

returns-2 : tie.Need-returns-in-Ok
returns-2 c =
    let a = c.args in
    let accepted = found-accepted c.read_into-contents.ensures (length a.output.now) c.in-Ok.is c.requires.0
    c.edition-number.ensures in
    let told = c.answer_to.ensures a.input.now accepted in
    (told.0, (places-accepted a.input.now (length a.output.now) c.requires.0 a.places.now accepted.accepted told.1.0, told.1.1))

pub answered_spec : {M : Type 1} → statement M
answered_spec =
    tie.close
    (tie.spec (λ c. search rules) (λ c. search rules) (λ c. search rules) (λ c. search rules) read-into-requires (λ c. search rules) (λ c. search rules)
    (λ c. search rules) (λ c. search rules) (λ c. search rules) (λ c. search rules) (λ c. search rules) answer-to-requires returns (λ c. search rules) (λ c. search rules) returns-2)
