-- `verdict_of` meets its contract.
use Rattle.answer.proofs.Verdicts.{is-always, is-unsatisfiable, is-atom, is-formula}
use Rattle.answer.proofs.verdict_of.Statement.{statement}
use Rattle.answer.proofs.verdict_of.Tie as tie

pub verdict_of_spec : {M : Type 1} → statement M
verdict_of_spec =
    tie.close
    (tie.spec
    (λ c. is-always c.before.before.args.root c.before.before.args.tokens c.before.if-tokens-eq1.true c.if-root-eq1.true)
    (λ c. is-unsatisfiable c.before.before.before.args.root c.before.before.before.args.tokens c.before.before.if-tokens-eq1.true c.if-root-eq2.true)
    (λ c. is-atom c.before.before.before.args.root c.before.before.before.args.tokens c.before.before.if-tokens-eq1.true c.before.if-root-eq1.false c.if-root-eq2.false)
    (λ c. is-formula c.before.args.root c.before.args.tokens c.if-tokens-eq1.false))
