use Rattle.std.proofs.Common.{◌≡◌, refl, arith}
use Rattle.steps.proofs.Handing.{fill_end}
use Rattle.steps.proofs.tidying.atoms_in.Goals as goal

pub returns : goal.returns
returns c =
    let inv = c.loop-i.invariant in
    let all : c.loop-i.i ≡ c.args.n = omega arith in
    (inv.counted, λ t l h. rw inv.counted (fill_end refl (omega arith) (rw all at inv.filled) t l h))
