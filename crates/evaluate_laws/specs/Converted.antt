-- 02, #109: a converted block is evaluated as the block that it came from, at all readings, refusals included.
use Rattle.std.specs.Prelude.{List, ◌≡◌, ℕ, ℤ}
use Rattle.rules.specs.Block.{Block, Edition, Stream, read, read_block, write_block}
use Rattle.rules.specs.Evaluate.{evaluate_read, evaluate}
use Rattle.block_laws.specs.Blocks.{reads-back, accepted-within}

pub same-evaluation : (edition : Edition) (bytes : List ℕ) (readings : List ℤ) {block : Block} {stream : Stream} → read_block bytes ≡ read block stream
    → evaluate (write_block edition block) readings ≡ evaluate bytes readings
unfolding evaluate evaluate_read
same-evaluation edition bytes readings {block} accepted = rw (accepted, (reads-back edition block (accepted-within bytes accepted)).1)
