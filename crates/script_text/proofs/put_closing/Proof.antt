-- `put_closing` meets its contract, set by set.
use borrow.Author.Rules.{rules}
use Rattle.lines.specs.Written.{wrote_nothing, wrote_as}
use Rattle.script_text.specs.Runs.{fits-as}
use Rattle.script_text.proofs.Texts.{closing-empty, closing-other, closing-one}
use Rattle.script_text.proofs.put_closing.Statement.{statement}
use Rattle.script_text.proofs.put_closing.Tie as tie

pub put_closing_spec : {M : Type 1} → statement M
put_closing_spec =
    tie.close
    (tie.spec (λ c κs. fits-as (closing-other _ c.in-5.is) c.requires)
    (λ c κs. let m = c.in_default.in_default-own.rest in fits-as (closing-one _ m.0.1 m.1) c.requires)
    (λ c. wrote_as wrote_nothing (closing-empty _ c.in-0.is)) (λ c. search rules)
    (λ c. wrote_as c.put_bytes.ensures (closing-other _ c.in-5.is)) (λ c. search rules)
    (λ c.
    let m = c.in_default.in_default-own.rest in
    wrote_as c.put_bytes-in_default.ensures (closing-one _ m.0.1 m.1)))
