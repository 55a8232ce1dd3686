-- What `simplify_by` ensures of its answer is what the lines are told of.
use Rattle.std.proofs.Common.{◌≡◌, ℕ, List, sym, subst, length-take-le}
use Rattle.rules.specs.Answer.{refusal}
use Rattle.rules.specs.Report.{report}
use Rattle.telling.specs.Told.{Told}
use Rattle.lift.specs.Lines.{reports-refusal, reports-answer, answer-inside, answer-small}
use Rattle.lift.proofs.report_by.Goals as goal

pub returns-in-Err : goal.returns-in-Err
returns-in-Err c =
    reports-refusal c.simplify_by-answer.ensures.0 c.in-Err.is
    (subst (λ (k : ℕ). Told (report (refusal k)) c.args.text.now c.tell_refusal.new.text c.tell_refusal.result) c.number.ensures c.tell_refusal.ensures)

pub slice_bounds-tell_answer-end : goal.slice_bounds-tell_answer-end
slice_bounds-tell_answer-end c = answer-inside c.simplify_by-answer.ensures.0 c.in-Ok.is

pub slice_bounds-tell_answer-end-in-Ok : goal.slice_bounds-tell_answer-end-in-Ok
slice_bounds-tell_answer-end-in-Ok c =
    sym (length-take-le _ c.simplify_by-answer.new.output (answer-inside c.simplify_by-answer.ensures.0 c.in-Ok.is))

pub tell_answer-requires : goal.tell_answer-requires
tell_answer-requires c = answer-small c.simplify_by-answer.ensures.0 c.in-Ok.is

pub returns-in-Ok : goal.returns-in-Ok
returns-in-Ok c = reports-answer c.simplify_by-answer.ensures.0 c.in-Ok.is c.tell_answer.ensures
