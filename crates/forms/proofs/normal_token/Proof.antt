-- `normal_token` meets its contract: the parts of the token, each below its bound.
use borrow.Author.Rules.{rules}
use mathlib.Core.Path.{ap}
use Prim.Native.Nat.{ℕ, ◌+◌, ◌*◌, ◌/◌, ◌%◌, ◌<◌}
use native.Mathlib.Omega.{arith}
use lib.ListN.{get_or}
use Rattle.forms.specs.Tokens.{normal_token}
use Rattle.forms.proofs.normal_token.Statement.{statement}
use Rattle.forms.proofs.normal_token.Tie as tie

-- A number is a byte.
number_small : (c : tie.After-shared_slice_known-4-1)
    → get_or c.args.number.now (c.args.token / 8 % 64) 0 < 256
number_small c = omega (arith, c.shared_slice_known-4-1.given (c.args.token / 8 % 64))

returns : tie.Need-returns
unfolding normal_token
returns c =
    let a = c.args in
    ap (λ (s : ℕ). a.token / 512 * 512 + get_or a.number.now (a.token / 8 % 64) 0 * 8 + s) c.turned_set-set.ensures

pub normal_token_spec : {M : Type 1} → statement M
normal_token_spec =
    tie.close
    (tie.spec (λ c. search rules) (λ c. search rules) (λ c. search rules) (λ c κs. search rules) (λ c. search rules) (λ c. search rules)
    (λ c. omega (arith, number_small c)) (λ c. omega (arith, number_small c)) (λ c. omega (arith, number_small c)) (λ c. search rules)
    (λ c. omega (arith, number_small c.before, c.struct_known-1.given)) returns)
