use Rattle.std.proofs.Common.{◌-◌}
use Rattle.script_back.proofs.declarations.+read_declarations.Given as goal

-- fewer declarations may come
abbrev pub decreases-read_declarations : goal.decreases-read_declarations
decreases-read_declarations l = 16 - l.i
