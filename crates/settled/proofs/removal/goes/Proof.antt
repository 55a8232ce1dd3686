-- `goes` meets its contract: an atom that stays does not go, and any other goes if the others imply it.
use borrow.Author.Rules.{rules}
use mathlib.Core.Path.{sym}
use Rattle.removal_laws.specs.Settled.{run-settles}
use Rattle.settled.proofs.removal.goes.Statement.{statement}
use Rattle.settled.proofs.removal.goes.Tie as tie

stays-requires : tie.Need-stays-requires
stays-requires c κs =
    let s = c.before.before.before.before.before in
    let ((own, from), words) = s.requires.1 in
    (s.requires.0, ((own, run-settles s.args.variables from.given from.settles), words))

returns : tie.Need-returns-then-stays
returns c = rw (sym c.before.stays.ensures, c.if-stays.true)

returns-2 : tie.Need-returns
returns-2 c = rw (sym c.before.before.stays.ensures, c.before.if-stays.false) c.implied.ensures

pub goes_spec : {M : Type 1} → statement M
goes_spec = tie.close (tie.spec stays-requires returns (λ c κs. search rules) returns-2)
