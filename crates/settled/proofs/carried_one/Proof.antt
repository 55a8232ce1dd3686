-- `carried_one` meets its contract, by what the slot holds.
use borrow.Author.Rules.{rules}
use mathlib.Core.Path.{refl, sym, subst, ap}
use Prim.Native.Nat.{◌<◌}
use native.Mathlib.Omega.{arith}
use Rattle.round.specs.Views.{variable_of, Below}
use Rattle.round.specs.Boards.{set_at}
use Rattle.settled.specs.Carried.{carried_set, carried_next}
use Rattle.settled.proofs.carried_one.Statement.{statement}
use Rattle.settled.proofs.carried_one.Tie as tie

-- there is an atom left; the variable is one of the board's
more : (c : tie.In-Form) → c.args.next < 64
more c = c.requires.1.1 (ap variable_of c.in-Form.is)

low : (c : tie.In-Variable) → let s = c in c.in-Variable.i < s.args.board.variables
low c = let s = c in subst (λ h. Below s.args.board.variables h) c.in-Variable.is s.requires.1.0

returns : tie.Need-returns-in-Form
unfolding carried_set carried_next
returns c = rw c.in-Form.is (refl, refl)

returns-2 : tie.Need-returns-in-Variable
unfolding carried_set carried_next
returns-2 c =
    let s = c in
    let l = low c.before in
    rw c.in-Variable.is (sym (set_at s.args.board.sets _ _ (omega (arith, s.requires.0))), refl)

pub carried_one_spec : {M : Type 1} → statement M
carried_one_spec =
    tie.close
    (tie.spec (λ c. search rules) more (λ c. omega (arith, more c.before)) (λ c. search rules) (λ c. omega (arith, low c, c.requires.0))
    returns returns-2)
