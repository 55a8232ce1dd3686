-- `bits::four` meets its contract.
use borrow.Author.Rules.{rules}
use Rattle.bits.proofs.Words.{four_bytes}
use Rattle.bits.proofs.four.Statement.{statement}
use Rattle.bits.proofs.four.Tie as tie

returns : tie.Need-returns
returns c =
    let third = c.before.before in
    let second = third.before.before in
    let first = second.before.before in
    let s = first.before.before.before in
    four_bytes s.args.src.now s.args.i s.requires first.wide-first.ensures.0 first.wide-first.ensures.1 second.wide-second.ensures.0 second.wide-second.ensures.1
    third.wide-third.ensures.0 third.wide-third.ensures.1 c.wide-last.ensures.0 c.wide-last.ensures.1

pub four_spec : {M : Type 1} → statement M
four_spec =
    tie.close
    (tie.spec (λ c. search rules) (λ c κs. search rules) (λ c. search rules) (λ c. search rules) (λ c κs. search rules) (λ c. search rules) (λ c. search rules)
    (λ c κs. search rules) (λ c. search rules) (λ c. search rules) (λ c κs. search rules) (λ c. search rules) (λ c. search rules) (λ c. search rules)
    (λ c. search rules) (λ c. search rules) (λ c. search rules) returns)
