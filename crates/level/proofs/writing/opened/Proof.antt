use mathlib.Core.Path.{refl}
use mathlib.Core.List.{[]}
use borrow.Author.Rules.{rules}
use native.Mathlib.Omega.{arith}
use borrow.Author.Tests.{eq-eqb, ne_eqb}
use Rattle.tape.specs.Storing.{stored}
use Rattle.level.proofs.writing.opened.Statement.{statement}
use Rattle.level.proofs.writing.opened.Tie as tie

one : tie.Need-returns-then-parts-eq1
one c = (rw (eq-eqb _ _ c.if-parts-eq1.true) (record { is = refl; size = refl }), omega arith)

more : tie.Need-returns
more c = (rw (ne_eqb _ _ c.if-parts-eq1.false) (stored c.before.args.out.now 0 _ c.before.requires.1 [] (record { is = refl; size = refl })), omega arith)

pub opened_spec : {M : Type 1} → statement M
opened_spec = tie.close (tie.spec one (λ c. search rules) (λ c. search rules) (λ c. search rules) more)
