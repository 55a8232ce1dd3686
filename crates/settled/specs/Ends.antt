-- A run of rounds that found no contradiction ended in a settled state.
use Rattle.std.specs.Prelude.{◌≡◌, Bool, false, List, ℕ}
use Rattle.std.proofs.Common.{sym, ◌∙◌, ap}
use Rattle.rules.specs.Polynomial.{Atom}
use Rattle.rules.specs.Rounds.{State, run}
use Rattle.removal_laws.specs.Settled.{Settled, run-settles}
use Rattle.rounds.specs.Views.{ending}

pub ends-settled : (n : ℕ) (l : List Atom) {contradicts : Bool} {st : State} → ending contradicts st ≡ run n l → contradicts ≡ false → Settled n st
ends-settled n l {contradicts} {st} is_run e = run-settles n l (sym is_run ∙ ap (λ (b : Bool). ending b st) e)
