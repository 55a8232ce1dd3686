-- the tokens that the tape has room for get fewer
use Rattle.std.proofs.Common.{◌+◌, ◌-◌, ◌*◌}
use Rattle.script_back.proofs.tree.+read_kids_read_node.Given as goal

abbrev pub decreases-read_kids : goal.decreases-read_kids
decreases-read_kids l = (255 - l.place.tokens) * 2 + 1

abbrev pub decreases-read_node : goal.decreases-read_node
decreases-read_node l = (255 - l.place.tokens) * 2
