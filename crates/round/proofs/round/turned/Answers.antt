use Rattle.std.proofs.Common.{refl}
use Rattle.round.specs.SignedSlots.{list-ready}
use Rattle.round.proofs.round.turned.Goals as goal

pub returns : goal.returns
returns c =
    let ready = c.requires.0.0 in
    record {
      variables = refl;
      sets = c.in-Some.ensures;
      ready = rw c.sign_list.ensures (list-ready _ c.args.atoms _ ready.forms refl ready.places);
    }
