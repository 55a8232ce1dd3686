-- `join` meets its contract, by what a constant makes of the atom.
use borrow.Author.Rules.{rules}
use native.Mathlib.Omega.{arith}
use Rattle.merging.proofs.Joining.{join-open, join-true, join-false}
use Rattle.merging.proofs.join.Statement.{statement}
use Rattle.merging.proofs.join.Tie as tie

is-open : tie.Need-returns-in-Open
is-open c = (
  c.merge_into.ensures.0,
  λ l h. join-open _ c.if_constant-constant.ensures c.in-Open.is
      (c.merge_into.ensures.1 _ l c.requires.0 h),
)

is_true : tie.Need-returns-in-True
is_true c = (omega arith, λ l h. join-true _ c.if_constant-constant.ensures c.in-True.is h)

is_false : tie.Need-returns-in-False
is_false c = (
  omega (arith, c.push.ensures.0),
  λ l h. join-false _ c.if_constant-constant.ensures c.in-False.is _ c.with_set.ensures (c.push.ensures.1 l h),
)

pub join_spec : {M : Type 1} → statement M
join_spec =
    tie.close
    (tie.spec (λ c κs. search rules) (λ c. search rules) (λ c κs. search rules) (λ c. search rules) (λ c. search rules) (λ c κs. search rules)
    (λ c κs. search rules) is-open is_true is_false)
