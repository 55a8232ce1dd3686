-- `arithmetic::sign_in` meets its contract.
use mathlib.Core.Path.{sym, ap, ◌∙◌}
use Prim.Native.Nat.{ℕ, ◌%◌}
use native.Mathlib.Nat.{div-one}
use lib.Dec.{eqb}
use Rattle.rules.specs.Signs.{Sign, has, only}
use Rattle.arithmetic.specs.Numbers.{sign_zero, sign-negative, sign-positive}
use Rattle.arithmetic.proofs.sign_in.Statement.{statement}
use Rattle.arithmetic.proofs.sign_in.Tie as tie

returns : tie.Need-returns-then-number-eq0
unfolding has only
returns c z is = ap (λ (s : Sign). has s c.before.before.args.set) (sym (sign_zero _ z is c.if-number-eq0.true))

returns-2 : tie.Need-returns-then-number
unfolding has only
returns-2 c z is = ap (λ (s : Sign). has s c.before.before.before.args.set) (sym (sign-negative _ z is c.before.if-number-eq0.false c.if-number.true))

returns-3 : tie.Need-returns
unfolding has only
returns-3 c z is = let set = c.before.before.before.args.set in
    ap (λ (n : ℕ). eqb (n % 2) 1) (sym (div-one set)) ∙ ap (λ (s : Sign). has s set) (sym (sign-positive _ z is c.before.if-number-eq0.false c.if-number.false))

pub sign_in_spec : {M : Type 1} → statement M
sign_in_spec = tie.close (tie.spec returns returns-2 returns-3)
