-- A read behind what was filled consumes what it put there, and the two parts are one.
use Rattle.std.proofs.Common.{◌++◌, take, drop, sym, ap, ◌∙◌, subst}
use Rattle.std.specs.Io.KnownBytes.{Consumes}
use Rattle.std.proofs.KnownBytes.{Consumes-trans}
use lib.Seq.{take-add}
use Rattle.frames.proofs.fill.Goals as goal

pub loop-filled-preserved : goal.loop-filled-preserved
loop-filled-preserved g c =
    let from = c.loop-filled.filled in
    let n = c.in_ok-n.n in
    let after = c.more.new.space in
    let read = c.in_ok-n.ensures in
    let joined = ap (λ l. l ++ take n (drop from after)) (sym read.front) ∙ sym (take-add from n after) in
    (read.within, subst (Consumes _ _) joined (Consumes-trans _ _ _ _ _ c.loop-filled.invariant.1 read.bytes))
