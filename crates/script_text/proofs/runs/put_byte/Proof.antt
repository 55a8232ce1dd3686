-- `put_byte` meets its contract: past the text's end nothing is stored.
use borrow.Author.Rules.{rules}
use Rattle.script_text.proofs.Texts.{byte_past}
use Rattle.script_text.proofs.runs.put_byte.Statement.{statement}
use Rattle.script_text.proofs.runs.put_byte.Tie as tie

pub put_byte_spec : {M : Type 1} → statement M
put_byte_spec =
    tie.close
    (tie.spec (λ c. search rules) (λ c. byte_past c.args.byte c.if-text-at.true) (λ c. search rules) (λ c. search rules) (λ c. search rules)
    (λ c. search rules))
