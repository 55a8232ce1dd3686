-- `put_word` meets its contract: one fixed byte string for each verdict.
use borrow.Author.Rules.{rules}
use Rattle.lines.specs.Written.{wrote_as}
use Rattle.telling.proofs.Lines.{word-formula, word-always, word-unsatisfiable}
use Rattle.telling.proofs.put_word.Statement.{statement}
use Rattle.telling.proofs.put_word.Tie as tie

returns : tie.Need-returns-in-Formula
returns c =
    wrote_as c.put_bytes.ensures (word-formula c.args.verdict c.in-Formula.is)

returns-2 : tie.Need-returns-in-Always
returns-2 c =
    wrote_as c.put_bytes-in-Always.ensures (word-always c.args.verdict c.in-Always.is)

returns-3 : tie.Need-returns-in-Unsatisfiable
returns-3 c =
    wrote_as c.put_bytes-in-Unsatisfiable.ensures (word-unsatisfiable c.args.verdict c.in-Unsatisfiable.is)

pub put_word_spec : {M : Type 1} → statement M
put_word_spec =
    tie.close
    (tie.spec (λ c. search rules) (λ c κs. search rules) (λ c. search rules) (λ c κs. search rules)
    (λ c. search rules) (λ c κs. search rules) (λ c. search rules) returns (λ c. search rules) returns-2
    (λ c. search rules) returns-3)
