-- A turn that leaves the set is idle; of any other the set is stored and the signs worked out anew.
use Rattle.std.proofs.Common.{refl, sym}
use mathlib.Core.Bool.{false≢true}
use Rattle.round.specs.Views.{lent_table}
use Rattle.round.specs.SignedSlots.{form-slots, list-ready}
use Rattle.ahead.proofs.step.Goals as goal

pub returns-in_default : goal.returns-in_default
returns-in_default c =
    record { variables = refl; sets = c.in_default.ensures; ready = c.requires.0; still = λ e. (e, sym c.in_default.ensures) }

pub sign_list-requires : goal.sign_list-requires
sign_list-requires c =
    let a = c.args in
    let forms = c.requires.0.forms in
    (form-slots {t = lent_table a.coefficient a.monomial a.terms a.passed.board.variables} forms c.requires.0.places, forms.variables)

pub returns : goal.returns
returns c =
    let ready = c.requires.0 in
    record {
      variables = refl;
      sets = c.in-Some.ensures;
      ready = rw c.sign_list.ensures (list-ready _ c.args.atoms _ ready.forms refl ready.places);
      still = λ e. absurd (false≢true e);
    }
