-- `read_alone` meets its contract.
use Rattle.std.proofs.lemmas.Result.{err_from_is_err_and}
use Rattle.script_polynomial.proofs.Polynomials.{alone-stopped, alone-term, alone-read}
use Rattle.script_polynomial.proofs.sums.read_alone.Goals as goal

pub returns-in_err-found : goal.returns-in_err-found
returns-in_err-found c = let p = err_from_is_err_and c.from_residual.result c.from_residual.ensures.1 in rw (p.1, p.2) (alone-stopped _ _ _ c.highest.ensures.0 c.in_err-found.ensures)

pub spaced-requires : goal.spaced-requires
spaced-requires c = (alone-term _ _ _ c.highest.ensures.0 c.in_ok-found.ensures).reaches.inside

pub returns : goal.returns
returns c = alone-read _ _ _ c.highest.ensures.0 c.in_ok-found.ensures c.requires.3 _ c.spaced.ensures
