use Rattle.std.proofs.Common.{◌≡◌, ◌+◌, ◌-◌, length, take, drop, arith}
use Rattle.std.proofs.lemmas.List.{length-drop, length-take-le}
use Rattle.used.proofs.Copying.{run-stored}
use Rattle.used.proofs.copy_run.Goals as goal

pub returns : goal.returns
returns g c =
    let a = c.args in
    let at : a.to + a.count - a.to ≡ a.count = omega arith in
    let of : a.from + a.count - a.from ≡ a.count = omega arith in
    let long : length (take a.count (drop a.from a.source.now)) ≡ a.count =
    length-take-le a.count (drop a.from a.source.now) (omega (arith, c.requires.0, length-drop a.from a.source.now)) in
    rw (c.copy_from_slice.ensures.after, at, of) (run-stored a.target.now _ a.to a.count c.requires.1 long)
