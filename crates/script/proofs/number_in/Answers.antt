-- In each arm the outcome is the one that the arm names.
use Rattle.std.specs.Prelude.{Result}
use Rattle.std.proofs.Common.{◌≡◌, ℕ, ◌≤◌, ◌∙◌, Ok, sym, ap, subst, arith}
use Rattle.script.specs.declared.Refusal.{Refusal}
use Rattle.script.specs.Refusals.{by_number}
use Rattle.script.specs.Entry.{size_in, number_in}
use Rattle.script.proofs.number_in.Goals as goal

small : {outcome : Result ℕ Refusal} {size : ℕ} → outcome ≡ Ok size → size_in (by_number outcome) ≤ 2024782 → size ≤ 2024782
unfolding size_in
small e h = subst (λ (o : Result ℕ Refusal). size_in (by_number o) ≤ 2024782) e h

pub overflow_cast-result-in-Ok : goal.overflow_cast-result-in-Ok
overflow_cast-result-in-Ok c = omega (arith, small c.in-Ok.is c.requires)

pub overflow_add-result : goal.overflow_add-result
overflow_add-result c = omega (arith, small c.in-Ok.is c.requires)

pub returns-in-Err : goal.returns-in-Err
unfolding number_in
returns-in-Err c = c.number.ensures ∙ sym (ap (λ (o : Result ℕ Refusal). number_in (by_number o)) c.in-Err.is)

pub returns-in-Ok : goal.returns-in-Ok
unfolding number_in
returns-in-Ok c = sym (ap (λ (o : Result ℕ Refusal). number_in (by_number o)) c.in-Ok.is)
