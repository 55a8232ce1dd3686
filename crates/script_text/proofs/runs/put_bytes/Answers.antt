use Rattle.std.proofs.Common.{◌∙◌, refl, arith}
use Rattle.lines.specs.Written.{wrote_nothing, wrote_as, wrote-both}
use Rattle.lines.proofs.Runs.{first-whole}
use Rattle.script_text.proofs.Texts.{first_more}
use Rattle.script_text.proofs.runs.put_bytes.Goals as goal

pub loop-byte-init : goal.loop-byte-init
loop-byte-init c = record { as_long = refl; behind = omega arith; stored = wrote_nothing }

pub put_byte-next-requires : goal.put_byte-next-requires
put_byte-next-requires c = record { short = omega (arith, c.requires.short, c.loop-byte.invariant.behind) }

pub loop-byte-preserved : goal.loop-byte-preserved
loop-byte-preserved c =
    let l = c.loop-byte in
    record {
      as_long = c.put_byte-next.auto.text ∙ l.invariant.as_long;
      behind = omega (arith, c.put_byte-next.ensures.behind, l.invariant.behind);
      stored = wrote_as (wrote-both l.invariant.stored c.put_byte-next.ensures) (first_more c.args.bytes.now l.byte-index (omega arith));
    }

pub returns : goal.returns
returns c = wrote_as c.loop-byte.invariant.stored (first-whole c.args.bytes.now c.loop-byte.byte-index (omega arith) (omega arith))
