-- `placardpan_read_script` meets its contract: a finished block is short.
use borrow.Author.Rules.{rules}
use Rattle.script_back.specs.Back.{short-told, exports-told}
use Rattle.script_back.proofs.exported.placardpan_read_script.Statement.{statement}
use Rattle.script_back.proofs.exported.placardpan_read_script.Tie as tie

pub placardpan_read_script_spec : {M : Type 1} → statement M
placardpan_read_script_spec =
    tie.close
    (tie.spec (λ c κs. search rules) (λ c κs. search rules)
    (λ c κs. short-told c.block_of-outcome.ensures)
    (λ c. search rules)
    (λ c. exports-told c.block_of-outcome.ensures c.number_in.ensures c.position_in.ensures))
