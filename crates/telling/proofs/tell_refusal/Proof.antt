-- `tell_refusal` meets its contract: the line that was made apart is told if it fits.
use mathlib.Core.Path.{sym, ap}
use native.Mathlib.Omega.{arith}
use lib.ListN.{length}
use lib.Seq.{length-take-le}
use borrow.Author.Rules.{rules}
use Rattle.lines.specs.Written.{wrote_as}
use Rattle.telling.specs.Told.{told_none, told-all}
use Rattle.telling.proofs.tell_refusal.Statement.{statement}
use Rattle.telling.proofs.tell_refusal.Tie as tie

lends-line : tie.Need-slice_bounds-put_bytes-end
lends-line c =
    let line = c.make_refusal-n in
    sym (length-take-le line.result line.new.line line.ensures.inside)

room : tie.Need-put_bytes-requires
room c κs = omega (arith, ap length c.make_refusal-n.ensures.is)

returns : tie.Need-returns
returns c =
    let line = c.make_refusal-n in
    told-all (omega arith) (wrote_as c.put_bytes.ensures line.ensures.is)

pub tell_refusal_spec : {M : Type 1} → statement M
tell_refusal_spec =
    tie.close
    (tie.spec (λ c. search rules) (λ c κs. search rules) (λ c. told_none (omega arith)) (λ c. omega arith) lends-line room
    (λ c. search rules) returns)
