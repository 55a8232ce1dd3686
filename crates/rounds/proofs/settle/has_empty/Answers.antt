-- The board's sets first, then the atoms'.
use Rattle.std.proofs.Common.{◌≡◌, ◌∙◌, length, sym, ap, arith, rules}
use Rattle.rules.specs.Deduce.{any_empty}
use Rattle.rounds.proofs.Ends.{numbers-take, empty-among, empty-on-board, empty-in-list}
use Rattle.rounds.proofs.settle.has_empty.Goals as goal

pub returns-then-any_empty : goal.returns-then-any_empty
returns-then-any_empty c = λ t. c.if-any_empty.true ∙ sym (empty-on-board t c.args.state (sym c.any_empty.ensures ∙ c.if-any_empty.true))

pub returns-else-any_empty : goal.returns-else-any_empty
returns-else-any_empty c = λ t.
    let st = c.args.state in
    let sixty-four : length st.atoms.set ≡ 64 = search rules in
    let none = sym c.any_empty.ensures ∙ c.if-any_empty.false in
    c.contains.ensures.value ∙ empty-among _ ∙ ap any_empty (numbers-take st.atoms.set c.many.result (omega (arith, sixty-four, c.many.ensures)))
    ∙ rw c.many.ensures (sym (empty-in-list t st none))
