-- The state is told of only where the rounds settled in it.
use Rattle.std.proofs.Common.{rules}
use Rattle.settled.specs.Ends.{ends-settled}
use Rattle.rounds_vectors.proofs.tell_rounds.Goals as goal

pub tell_state-requires : goal.tell_state-requires
tell_state-requires g c =
    let ran = c.run_counted-ran.ensures in
    (search rules, (ran.variables, (ran.atoms, ends-settled c.args.held.variables _ ran.outcome c.if-ran.false)))
