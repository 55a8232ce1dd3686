use Rattle.std.proofs.Common.{sym}
use Rattle.interval.specs.Kinds.{strict-one, strict_none}
use Rattle.interval.proofs.vanishing.is_strict.Goals as goal

pub returns-in-1 : goal.returns-in-1
returns-in-1 c = sym (strict-one _ c.in-1.is)

pub returns-in_default : goal.returns-in_default
returns-in_default c = sym (strict_none _ c.in_default.in_default-own.rest.1)
