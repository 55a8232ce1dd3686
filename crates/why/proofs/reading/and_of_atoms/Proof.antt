-- `and_of_atoms` meets its contract.
use mathlib.Core.Path.{ap, ◌∙◌}
use Prim.Native.Nat.{ℕ}
use lib.ListN.{take, drop}
use borrow.Author.Rules.{rules}
use Rattle.why.specs.Flat.{all_atoms}
use Rattle.why.proofs.Tokens.{or-root, other-root}
use Rattle.why.proofs.reading.and_of_atoms.Statement.{statement}
use Rattle.why.proofs.reading.and_of_atoms.Tie as tie

returns : tie.Need-returns-then-root-eq2
returns c = let a = c.before.before.args in or-root a.root (take a.count a.token.now) c.if-root-eq2.true

returns-2 : tie.Need-returns
returns-2 c =
    let a = c.before.before.before.before.args in
    let l = take a.count a.token.now in
    c.all_atoms.ensures ∙ ap (λ (k : ℕ). all_atoms (drop k l)) c.before.behind_root.ensures
    ∙ other-root a.root l c.before.before.if-root-eq2.false

pub and_of_atoms_spec : {M : Type 1} → statement M
and_of_atoms_spec = tie.close (tie.spec returns (λ c κs. search rules) (λ c κs. search rules) returns-2)
