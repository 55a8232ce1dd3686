-- `SignSet::inside` meets its contract, by what `intersect` ensures.
use borrow.Author.Rules.{rules}
use mathlib.Core.Path.{ap}
use Prim.Native.Nat.{ℕ}
use lib.Dec.{eqb}
use Rattle.rules.specs.Signs.{inside}
use Rattle.signs.proofs.SignSet.inside.Statement.{statement}
use Rattle.signs.proofs.SignSet.inside.Tie as tie

returns : tie.Need-returns
unfolding inside
returns c = ap (λ (n : ℕ). eqb n c.before.before.before.args.self.0) c.before.before.intersect.ensures

pub inside_spec : {M : Type 1} → statement M
inside_spec = tie.close (tie.spec (λ c κs. search rules) returns)
