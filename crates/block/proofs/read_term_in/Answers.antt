use Rattle.block.proofs.ReadingHead.{in-edition1, in-edition2}
use Rattle.block.proofs.read_term_in.Goals as goal

pub returns-then-edition-lt2 : goal.returns-then-edition-lt2
returns-then-edition-lt2 c = rw (in-edition1 c.args.edition c.if-edition-lt2.true) c.read_term.ensures

pub returns : goal.returns
returns c = rw (in-edition2 c.args.edition c.if-edition-lt2.false) c.read_paired_term.ensures
