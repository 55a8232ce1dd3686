-- `pairs_matter` meets its contract, by what the slot holds and by how many the others are.
use borrow.Author.Rules.{rules}
use native.Mathlib.Omega.{arith}
use Rattle.settled.proofs.NoPairs.{idle-variable, idle-listed, may-matter}
use Rattle.settled.proofs.pairs_matter.Statement.{statement}
use Rattle.settled.proofs.pairs_matter.Tie as tie

returns : tie.Need-returns-then-others-end
returns c =
    let s = c in
    let which = c.which-holds in
    idle-listed s.requires.0 s.args.state s.args.number which.ensures.0 c.in-Form.is s.requires.1.1
    (omega (arith, c.if-others-end.true, c.many-end.ensures))

returns-2 : tie.Need-returns-in-Variable
returns-2 c =
    let s = c in
    idle-variable s.requires.0 s.args.state s.args.number c.which-holds.ensures.0 c.in-Variable.is

returns-3 : tie.Need-returns-else-others-end
returns-3 c = may-matter _ _

pub pairs_matter_spec : {M : Type 1} → statement M
pairs_matter_spec =
    tie.close
    (tie.spec (λ c κs. search rules) (λ c κs. search rules) (λ c. search rules) (λ c. search rules) returns returns-2 returns-3)
