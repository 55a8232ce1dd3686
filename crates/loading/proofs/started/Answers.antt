-- The first bytes of the area are the filled part, and the part begins where the area does.
use Rattle.std.specs.Result.{result_unwrap_or}
use Rattle.std.proofs.Common.{◌≡◌, ℕ, List, ◌∙◌, refl, sym, ap, eqb, length, take, Result, Ok, Err, length-take-le}
use Rattle.loading_laws.specs.Loading.{start_of, started_part}
use Rattle.loading.specs.declared.Refusal.{Refusal}
use Rattle.loading.specs.Refusals.{by_number}
use Rattle.loading.specs.Started.{length_in, part-within, part-first, empty-exactly-on-refusal}
use Rattle.loading.proofs.started.Goals as goal

-- A refusal has no length.
filled : (answer : Result ℕ Refusal) → result_unwrap_or answer 0 ≡ length_in (by_number answer)
filled (Ok size) = refl
filled (Err refusal) = refl

pub slice_bounds-result-end : goal.slice_bounds-result-end
slice_bounds-result-end c =
    let is = c.unwrap_or-size.ensures ∙ filled c.start.result ∙ ap length_in c.start.ensures in
    sym (length-take-le c.unwrap_or-size.result c.args.area.now (rw is (part-within c.args.area.now)))

pub returns : goal.returns
returns c =
    let area = c.args.area.now in
    let is = c.unwrap_or-size.ensures ∙ filled c.start.result ∙ ap length_in c.start.ensures in
    let first : take c.unwrap_or-size.result area ≡ started_part (start_of area) = rw is (part-first area) in
    (first, refl, ap (λ (l : List ℕ). eqb (length l) 0) first ∙ empty-exactly-on-refusal area)
