-- `no_pair` meets its contract: what is above a settled state has no empty set, and the settled sets are a floor of the pairs.
use borrow.Author.Tests.{not-true}
use Rattle.rounds.specs.Afresh.{afresh-filled}
use Rattle.common_run.proofs.Above.{nothing-found}
use Rattle.common_run.proofs.run.no_pair.Statement.{statement}
use Rattle.common_run.proofs.run.no_pair.Tie as tie

search-board-requires : tie.Need-search_board-searched-requires
search-board-requires c κs =
    let s = c.before.before.before.before.before in
    let (ready, above) = s.requires in
    ((ready, afresh-filled above.afresh), (above.pairs _ above.afresh.boards, above.variables))

returns : tie.Need-returns
returns c e = nothing-found _ _ c.before.search_board-searched.ensures.found (not-true _ e)

pub no_pair_spec : {M : Type 1} → statement M
no_pair_spec = tie.close (tie.spec search-board-requires returns)
