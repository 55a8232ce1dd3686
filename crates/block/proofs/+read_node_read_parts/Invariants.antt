-- They end, since a node's children may nest one less. As the children that are left are read, so are all of them.
use Rattle.std.proofs.Common.{◌+◌, ◌*◌}
use Rattle.rules.specs.Block.{read_node}
use Rattle.block.proofs.ReadingTree.{PartsLeft}
use Rattle.block.proofs.+read_node_read_parts.Given as goal

abbrev pub decreases-read_node : goal.decreases-read_node
decreases-read_node l = l.nesting * 2

abbrev pub decreases-read_parts : goal.decreases-read_parts
decreases-read_parts l = l.nesting * 2 + 1

abbrev pub invariant-read_parts-loop : goal.invariant-read_parts-loop
invariant-read_parts-loop l = PartsLeft (read_node l.nesting l.m l.parent) l.src l.count l.children l.fn.place l.fn.token l.counter l.next l.token
