-- The tokens that are left, changed from the tape as it is, stay what was asked.
use Rattle.std.proofs.Common.{◌≡◌, length}
use Rattle.normal.specs.Stores.{stores}
use Rattle.forms.specs.Tokens.{normal_unless_node, normal_tokens}
use Rattle.forms.proofs.normal_tokens.Given as goal

abbrev pub invariant-loop-i : goal.invariant-loop-i
invariant-loop-i l =
    record {
      as_long : length l.token ≡ length l.fn.token;
      left : stores 0 (λ j. j) (λ j x. normal_unless_node l.number l.turned x) l.token l.i l.count ≡ normal_tokens l.number l.turned l.count l.fn.token;
    }
