-- `put_opening` meets its contract, set by set.
use borrow.Author.Rules.{rules}
use Rattle.lines.specs.Written.{wrote_nothing, wrote_as}
use Rattle.script_text.specs.Runs.{fits-as}
use Rattle.script_text.proofs.Texts.{opening-empty, opening-above, opening-equal, opening-least, opening-below, opening-other, opening-most}
use Rattle.script_text.proofs.put_opening.Statement.{statement}
use Rattle.script_text.proofs.put_opening.Tie as tie

pub put_opening_spec : {M : Type 1} → statement M
put_opening_spec =
    tie.close
    (tie.spec
    (λ c κs. fits-as (opening-above _ c.in-1.is) c.requires)
    (λ c κs. fits-as (opening-equal _ c.in-2.is) c.requires)
    (λ c κs. fits-as (opening-least _ c.in-3.is) c.requires)
    (λ c κs. fits-as (opening-below _ c.in-4.is) c.requires)
    (λ c κs. fits-as (opening-other _ c.in-5.is) c.requires)
    (λ c κs. let m = c.in_default.in_default-own.rest in fits-as (opening-most _ m.0.0.0.0.0.1 m.0.0.0.0.1 m.0.0.0.1 m.0.0.1 m.0.1 m.1)
    c.requires)
    (λ c. wrote_as wrote_nothing (opening-empty _ c.in-0.is))
    (λ c. search rules) (λ c. wrote_as c.put_bytes.ensures (opening-above _ c.in-1.is))
    (λ c. search rules) (λ c. wrote_as c.put_bytes-in-2.ensures (opening-equal _ c.in-2.is))
    (λ c. search rules) (λ c. wrote_as c.put_bytes-in-3.ensures (opening-least _ c.in-3.is))
    (λ c. search rules) (λ c. wrote_as c.put_bytes-in-4.ensures (opening-below _ c.in-4.is))
    (λ c. search rules) (λ c. wrote_as c.put_bytes-in-5.ensures (opening-other _ c.in-5.is))
    (λ c. search rules)
    (λ c.
    let m = c.in_default.in_default-own.rest in
    wrote_as c.put_bytes-in_default.ensures (opening-most _ m.0.0.0.0.0.1 m.0.0.0.0.1 m.0.0.0.1 m.0.0.1 m.0.1 m.1)))
