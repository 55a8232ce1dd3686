-- In each arm the outcome is the one that the arm names.
use Rattle.std.specs.Prelude.{Result}
use Rattle.std.proofs.Common.{◌≡◌, ℕ, ◌≤◌, Ok, subst, arith}
use Rattle.why.specs.declared.Refusal.{Refusal}
use Rattle.why.specs.Refusals.{by_number}
use Rattle.why.specs.Exported.{Few}
use Rattle.why.proofs.exported.number_in.Goals as goal

few : {o : Result ℕ Refusal} {count : ℕ} → o ≡ Ok count → Few (by_number o) → count ≤ 255
few e h = subst (λ (o : Result ℕ Refusal). Few (by_number o)) e h

pub overflow_cast-result-in-Ok : goal.overflow_cast-result-in-Ok
overflow_cast-result-in-Ok c = omega (arith, few c.in-Ok.is c.requires)

pub overflow_add-result : goal.overflow_add-result
overflow_add-result c = omega (arith, few c.in-Ok.is c.requires)
