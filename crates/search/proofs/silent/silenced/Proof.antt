-- `silenced` meets its contract: the full set is stored at i.
use borrow.Author.Rules.{rules}
use mathlib.Core.Path.{◌≡◌}
use native.Mathlib.Omega.{arith}
use lib.ListN.{length}
use Rattle.search.proofs.Silencing.{silenced-at}
use Rattle.search.proofs.silent.silenced.Statement.{statement}
use Rattle.search.proofs.silent.silenced.Tie as tie

returns : tie.Need-returns
returns c =
    let places : length c.args.atoms.set ≡ 64 = search rules in
    silenced-at c.args.atoms c.args.i c.requires (omega (arith, places, c.requires))

pub silenced_spec : {M : Type 1} → statement M
silenced_spec = tie.close (tie.spec (λ c. search rules) returns)
