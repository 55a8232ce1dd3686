use Rattle.std.proofs.Common.{◌≡◌, ◌∙◌, sym, ltb, take, rules}
use Rattle.std.specs.List.{count_by}
use Rattle.std.proofs.lemmas.List.{length-take-le}
use Rattle.used.proofs.Slots.{counted, tape-fits}
use Rattle.used.proofs.atoms.Goals as goal

pub slice_bounds-iter-end : goal.slice_bounds-iter-end
slice_bounds-iter-end c = sym (length-take-le c.args.count c.args.token.now (tape-fits c.requires.holds).long)

pub returns : goal.returns
returns c tree holds =
    let e : c.count.result ≡ count_by (λ token. ltb token 16777216) (take c.args.count c.args.token.now) = search rules in
    e ∙ counted tree holds
