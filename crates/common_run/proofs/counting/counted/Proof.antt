-- `counted` meets its contract, by what the slot holds.
use borrow.Author.Rules.{rules}
use mathlib.Core.Path.{refl, sym, ◌∙◌, ap}
use Rattle.round.specs.Views.{variable_of}
use Rattle.common_run.proofs.Counts.{others-afresh, known-lost}
use Rattle.common_run.proofs.counting.counted.Statement.{statement}
use Rattle.common_run.proofs.counting.counted.Tie as tie

form-counted-requires : tie.Need-form_counted-requires
form-counted-requires c κs =
    let s = c in
    (s.requires, (refl, sym c.which-holds.ensures.0 ∙ ap variable_of c.in-Form.is))

fresh-rounds-requires : tie.Need-fresh_rounds-rounds-requires
fresh-rounds-requires c κs = let s = c in (s.requires.0, others-afresh s.requires.1.0)

returns-2 : tie.Need-returns-in-Variable
returns-2 c =
    let s = c in
    let (forms, (remain, known)) = s.requires in
    record { counts = c.fresh_rounds-rounds.ensures; known = known-lost remain known c.lost-known.ensures }

pub counted_spec : {M : Type 1} → statement M
counted_spec =
    tie.close
    (tie.spec (λ c. search rules) (λ c. search rules) (λ c κs. search rules) (λ c. search rules) form-counted-requires (λ c. search rules) fresh-rounds-requires
    (λ c κs. search rules) (λ c. search rules) returns-2)
