-- `declared_one` meets its contract.
use Rattle.std.proofs.Common.{refl}
use Rattle.std.proofs.lemmas.Result.{err_from_is_err_and}
use Rattle.rules.specs.Text.{declaration}
use Rattle.script_back.proofs.Forks.{said-stops, said-both, said-inside}
use Rattle.script_back.proofs.declarations.declared_one.Goals as goal

pub returns-in_err-name : goal.returns-in_err-name
unfolding declaration
returns-in_err-name c = let p = err_from_is_err_and c.from_residual.result c.from_residual.ensures.1 in rw (p.1, p.2) (said-stops _ c.in_err-name.ensures refl)

pub named-requires : goal.named-requires
named-requires c = (said-inside c.in_ok-name.ensures refl, c.requires.1)

pub returns : goal.returns
unfolding declaration
returns c = said-both _ c.in_ok-name.ensures refl c.named.ensures
