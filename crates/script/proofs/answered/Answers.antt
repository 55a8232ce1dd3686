-- An accepted block is never refused by the simplifier, and the answer's bytes read as the new block.
use Rattle.std.proofs.Common.{ℕ, sym, length-take-le}
use Rattle.std.proofs.lemmas.List.{length-replicate}
use Rattle.script.specs.Entry.{never-refused, answer-inside, tells-answer}
use Rattle.script.proofs.answered.Goals as goal

pub returns-in_err-answer : goal.returns-in_err-answer
returns-in_err-answer c = absurd (never-refused (length-replicate {A = ℕ} 32768 0) c.requires c.simplify.ensures.0 c.in_err-answer.was)

pub slice_bounds-output-end : goal.slice_bounds-output-end
slice_bounds-output-end c = answer-inside (length-replicate {A = ℕ} 32768 0) c.requires c.simplify.ensures.0 c.in_ok-answer.was

pub returns : goal.returns
returns c = tells-answer (length-replicate {A = ℕ} 32768 0) c.requires c.simplify.ensures.0 c.in_ok-answer.was _ c.script_of.ensures

pub slice_bounds-script_of-end : goal.slice_bounds-script_of-end
slice_bounds-script_of-end c =
    sym (length-take-le _ c.simplify.new.output (answer-inside (length-replicate {A = ℕ} 32768 0) c.requires c.simplify.ensures.0 c.in_ok-answer.was))
