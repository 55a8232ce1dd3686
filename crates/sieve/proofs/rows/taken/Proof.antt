-- `taken` meets its contract: the first term has the monomial, or it has not, or there is none.
use borrow.Author.Rules.{rules}
use mathlib.Core.Path.{refl}
use native.Mathlib.Omega.{arith}
use mir.Syntax.{w32}
use mir.ValLaws.{to_z-of_z}
use Rattle.sieve.specs.Rows.{own, other}
use Rattle.sieve.proofs.rows.taken.Statement.{statement}
use Rattle.sieve.proofs.rows.taken.Tie as tie

returns : tie.Need-returns-then-its-top
returns c = own (omega arith) c.before.before.if-its-top.true (to_z-of_z w32 _ (record { sfits = c.before.c-1.given })) refl refl

returns-2 : tie.Need-returns-then-i-to
returns-2 c = other (λ l e. c.if-its-top.false e) refl refl refl

returns-3 : tie.Need-returns
returns-3 c = other (λ l e. omega (arith, l, c.if-i-to.false)) refl refl refl

pub taken_spec : {M : Type 1} → statement M
taken_spec =
    tie.close
    (tie.spec (λ c. search rules) (λ c. search rules) (λ c. search rules) (λ c. search rules) (λ c. search rules) (λ c. search rules)
    returns returns-2 returns-3)
