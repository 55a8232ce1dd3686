use Rattle.block.proofs.ReadingHead.{no-first-byte, first-edition, second-edition}
use Rattle.block.proofs.edition.Goals as goal

pub returns-then-src-eq0 : goal.returns-then-src-eq0
returns-then-src-eq0 c = no-first-byte c.args.src.now c.if-src-eq0.true

pub returns-then-get-lt2 : goal.returns-then-get-lt2
returns-then-get-lt2 c = first-edition c.args.src.now c.get.ensures c.if-get-lt2.true

pub returns : goal.returns
returns c = second-edition c.args.src.now c.get.ensures c.if-get-lt2.false
