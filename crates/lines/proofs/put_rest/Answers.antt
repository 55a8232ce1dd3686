use Rattle.std.proofs.Common.{◌∙◌, refl, ap, arith}
use Rattle.rules.specs.Report.{hex_rest, hex_pair}
use Rattle.lines.specs.Written.{wrote_nothing, wrote_as, wrote-long}
use Rattle.lines.specs.Parts.{rest-long}
use Rattle.lines.proofs.Runs.{rest_more, first-whole}
use Rattle.lines.proofs.put_rest.Goals as goal

pub loop-byte-init : goal.loop-byte-init
unfolding hex_rest
loop-byte-init c = record { behind = omega arith; as_long = refl; stored = wrote_nothing }

pub put_byte-pair-requires : goal.put_byte-pair-requires
put_byte-pair-requires c = omega (arith, rest-long c.args.block.now, c.loop-byte.invariant.behind, c.loop-byte.invariant.as_long)

pub put_pair-next-requires : goal.put_pair-next-requires
put_pair-next-requires c =
    omega (arith, rest-long c.args.block.now, c.loop-byte.invariant.behind, c.loop-byte.invariant.as_long, wrote-long c.put_byte-pair.ensures, c.put_byte-pair.ensures.behind)

pub loop-byte-preserved : goal.loop-byte-preserved
unfolding hex_pair
loop-byte-preserved c =
    let l = c.loop-byte in
    let spaced = c.put_byte-pair.ensures in
    let pair = c.put_pair-next.ensures in
    record {
      behind = omega (arith, l.invariant.behind, spaced.behind, pair.behind);
      as_long = wrote-long pair ∙ wrote-long spaced ∙ l.invariant.as_long;
      stored = rest_more c.args.block.now l.byte-index (omega arith) l.invariant.stored spaced pair;
    }

pub returns : goal.returns
returns c =
    let l = c.loop-byte in
    wrote_as l.invariant.stored (ap hex_rest (first-whole c.args.block.now l.byte-index (omega arith) (omega arith)))
