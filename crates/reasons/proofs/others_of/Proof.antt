-- `others_of` meets its contract: a part of one row, and the rest of the other.
use borrow.Author.Rules.{rules}
use native.Mathlib.Omega.{arith}
use Rattle.reasons.proofs.Tokens.{others-listed}
use Rattle.reasons.proofs.others_of.Statement.{statement}
use Rattle.reasons.proofs.others_of.Tie as tie

returns : tie.Need-returns
returns c k l hk hl =
    let s = c.before.before.before.before in
    others-listed k l s.args.kept s.args.from s.args.list.count hl.size
    (c.append.ensures.1 _ l (c.before.part-before.ensures.1 _ k hk (omega (arith, hk.size, s.requires.0))) hl (omega (arith, hl.size)))

pub others_of_spec : {M : Type 1} → statement M
others_of_spec = tie.close (tie.spec (λ c. search rules) (λ c κs. search rules) (λ c κs. search rules) returns)
