use Rattle.bits.proofs.Words.{out-of-eight}
use Rattle.bits.proofs.within_eight.Goals as goal

pub returns : goal.returns
returns c =
    out-of-eight c.args.src.now c.args.byte c.args.from c.args.k c.requires.0 c.requires.1 c.requires.2 c.requires.3 c.requires.4
    c.min-first.ensures c.eight.ensures
