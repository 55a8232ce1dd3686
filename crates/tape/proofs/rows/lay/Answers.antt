use Rattle.std.proofs.Common.{◌+◌, ◌-◌, refl}
use Rattle.tape.specs.Row.{row_of}
use Rattle.tape.specs.Listing.{row-long, part-laid}
use Rattle.tape.proofs.rows.lay.Goals as goal

pub returns : goal.returns
returns c k l m p q h =
    let a = c.args in
    part-laid {row = row_of a.out.now a.n} {other = row_of a.tokens.now k} a.from a.to (a.n + (a.to - a.from) - a.n) c.requires.0 (row-long p) p q h
    (rw c.copy_from_slice.ensures.after) refl
