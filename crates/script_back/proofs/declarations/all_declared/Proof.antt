-- `all_declared` meets its contract, test by test.
use borrow.Author.Rules.{rules}
use Rattle.script_back.proofs.Forks.{all-sixteen, none_yet, by-second}
use Rattle.script_back.proofs.declarations.all_declared.Statement.{statement}
use Rattle.script_back.proofs.declarations.all_declared.Tie as tie

pub all_declared_spec : {M : Type 1} → statement M
all_declared_spec =
    tie.close
    (tie.spec
    (λ c. let a = c.args in all-sixteen a.text.now a.at a.i c.if-i-eq16.true)
    (λ c. let a = c.args in none_yet a.text.now a.at a.i c.if-i-eq0.true)
    (λ c. search rules) (λ c κs. search rules)
    (λ c.
    let a = c.args in
    by-second a.text.now a.at a.i c.if-i-eq16.false c.if-i-eq0.false c.byte_at.ensures))
