-- `held` meets its contract, by what the slot holds.
use borrow.Author.Rules.{rules}
use mathlib.Core.Path.{subst, ◌∙◌}
use Prim.Native.Nat.{◌<◌}
use native.Mathlib.Omega.{arith}
use Rattle.round.specs.Views.{Below}
use Rattle.settled.proofs.Said.{held-in-list, held-on-board}
use Rattle.settled.proofs.held.Statement.{statement}
use Rattle.settled.proofs.held.Tie as tie

-- the variable is one of the board's
low : (c : tie.In-Variable) → let s = c in c.in-Variable.i < s.args.state.board.variables
low c = let s = c in subst (λ h. Below s.args.state.board.variables h) c.in-Variable.is s.requires.1.1

returns-2 : tie.Need-returns-in-Variable
returns-2 c t forms = held-on-board t _ _ c.in-Variable.is (omega (arith, low c.before))

pub held_spec : {M : Type 1} → statement M
held_spec =
    tie.close
    (tie.spec (λ c. search rules) (λ c κs. search rules) (λ c. search rules) (λ c. omega (arith, low c))
    (λ c t forms. c.listed.ensures t forms ∙ held-in-list t _ _ c.in-Form.is) returns-2)
