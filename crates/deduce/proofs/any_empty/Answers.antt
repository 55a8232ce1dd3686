use Rattle.std.proofs.Common.{◌∙◌, ap, arith, ℕ}
use Rattle.rules.specs.Deduce.{any_empty}
use Rattle.terms.specs.View.{numbers_from}
use Rattle.deduce.proofs.Board.{empty-among}
use Rattle.deduce.proofs.any_empty.Goals as goal

pub returns : goal.returns
returns c =
    c.contains.ensures.value ∙ empty-among c.args.board.sets c.few.result (omega (arith, c.few.ensures))
    ∙ ap (λ (n : ℕ). any_empty (numbers_from c.args.board.sets 0 n)) c.few.ensures
