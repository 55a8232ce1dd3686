use Rattle.std.proofs.Common.{◌≡◌, length, arith, rules}
use Rattle.round.proofs.Lists.{pushed}
use Rattle.round.proofs.list.push.Goals as goal

pub returns : goal.returns
returns c =
    let a = c.args.atoms in
    let numbers : length a.number ≡ 64 = search rules in
    let sets : length a.set ≡ 64 = search rules in
    pushed a _ _ c.requires (omega (arith, numbers, c.requires)) (omega (arith, sets, c.requires))
