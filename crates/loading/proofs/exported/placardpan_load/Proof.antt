-- `placardpan_load` meets its contract: what was loaded is short.
use borrow.Author.Rules.{rules}
use Rattle.loading_laws.specs.Loading.{load_answer}
use Rattle.loading.specs.Exported.{short-load, short-found, number-told}
use Rattle.loading.proofs.exported.placardpan_load.Statement.{statement}
use Rattle.loading.proofs.exported.placardpan_load.Tie as tie

number-in-requires : tie.Need-number_in-requires
number-in-requires c κs =
    let loading = c in
    let a = loading.args in
    short-found (load_answer a.block.now a.area.now) loading.load.ensures.0 (short-load a.block.now a.area.now)

returns : tie.Need-returns
returns c =
    let loading = c in
    let a = loading.args in
    (number-told (load_answer a.block.now a.area.now) loading.load.ensures.0 c.number_in.ensures, loading.load.ensures.1)

pub placardpan_load_spec : {M : Type 1} → statement M
placardpan_load_spec = tie.close (tie.spec (λ c κs. search rules) number-in-requires (λ c. search rules) returns)
