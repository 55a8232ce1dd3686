-- `placardpan_start` meets its contract: what starts is short.
use borrow.Author.Rules.{rules}
use Rattle.loading_laws.specs.Loading.{start_of}
use Rattle.loading.specs.Exported.{short-start, short-found, number-told}
use Rattle.loading.proofs.exported.placardpan_start.Statement.{statement}
use Rattle.loading.proofs.exported.placardpan_start.Tie as tie

number-in-requires : tie.Need-number_in-requires
number-in-requires c κs =
    let a = c.args in
    short-found (start_of a.area.now) c.start.ensures (short-start a.area.now)

returns : tie.Need-returns
returns c =
    let starting = c in
    let a = starting.args in
    number-told (start_of a.area.now) starting.start.ensures c.number_in.ensures

pub placardpan_start_spec : {M : Type 1} → statement M
placardpan_start_spec = tie.close (tie.spec (λ c κs. search rules) number-in-requires returns)
