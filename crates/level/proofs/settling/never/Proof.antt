-- `never` meets its contract: the one token that it stores is the head of an OR with no parts.
use mathlib.Core.Path.{refl}
use mathlib.Core.List.{[]}
use lib.ListN.{length-set}
use Rattle.tape.specs.Storing.{stored}
use Rattle.level.proofs.settling.never.Statement.{statement}
use Rattle.level.proofs.settling.never.Tie as tie

returns : tie.Need-returns
returns c list = record {
  ends = refl;
  counts = refl;
  lists = record { is = refl; size = refl };
  lies = stored c.args.ors.now 0 0 c.requires [] (record { is = refl; size = refl });
}

pub never_spec : {M : Type 1} → statement M
never_spec = tie.close (tie.spec (λ c. c.requires) (λ c. length-set c.args.ors.now 0 0) returns)
