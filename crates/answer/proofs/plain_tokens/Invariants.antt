-- The tokens that are left, changed from the tape as it is, stay what was asked.
use Rattle.std.proofs.Common.{◌≡◌, length}
use Rattle.normal.specs.Stores.{stores}
use Rattle.answer.specs.Tapes.{plain, plain_tokens}
use Rattle.answer.proofs.plain_tokens.Given as goal

abbrev pub invariant-loop-i : goal.invariant-loop-i
invariant-loop-i l =
    record { as_long : length l.token ≡ length l.fn.token; left : stores 0 (λ j. j) (λ j x. plain x) l.token l.i l.count ≡ plain_tokens l.count l.fn.token }
