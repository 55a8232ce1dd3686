-- In each arm the answer is the one that the arm names.
use Rattle.std.specs.Prelude.{Result}
use Rattle.std.proofs.Common.{◌<◌, subst}
use Rattle.answer.specs.declared.Answer.{Answer}
use Rattle.answer.specs.declared.Refusal.{Refusal}
use Rattle.answer.specs.Refusals.{by_number}
use Rattle.answer.specs.Answered.{length_in}
use Rattle.lift.proofs.exported.number_in.Goals as goal

pub packed-requires : goal.packed-requires
packed-requires c = subst (λ (a : Result Answer Refusal). length_in (by_number a) < 65536) c.in-Ok.is c.requires
