-- `terms_of` meets its contract.
use borrow.Author.Rules.{rules}
use mathlib.Core.Path.{◌≡◌}
use Prim.Native.Nat.{◌+◌, ◌*◌}
use native.Mathlib.Omega.{arith}
use lib.ListN.{get_or}
use Rattle.pool.proofs.slots.terms_of.Statement.{statement}
use Rattle.pool.proofs.slots.terms_of.Tie as tie

abbrev place : (c : tie.After-word-count) → c.word-count.result ≡ get_or c.args.pool.now (2 + 34 * c.args.slot + 1) 0
place c =
    let a = c.args in
    let e : 3 + 34 * a.slot ≡ 2 + 34 * a.slot + 1 = omega arith in
    rw e at c.word-count.ensures

returns : tie.Need-returns-then-count-lt16
returns c = omega (arith, place c.before)

returns-2 : tie.Need-returns
returns-2 c = omega (arith, place c.before)

pub terms_of_spec : {M : Type 1} → statement M
terms_of_spec = tie.close (tie.spec (λ c. search rules) (λ c. search rules) (λ c κs. search rules) returns returns-2)
