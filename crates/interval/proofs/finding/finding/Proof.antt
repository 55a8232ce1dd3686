-- `finding` meets its contract, by q's set: what is found from the t that it allows.
use borrow.Author.Rules.{rules}
use Rattle.rules.specs.Signs.{kind}
use Rattle.deduction_laws.specs.Vanishing.{only_allowed}
use Rattle.interval.specs.Ends.{interval_of}
use Rattle.interval.proofs.Allowed.{allowed-positive, allowed-negative, allowed-none}
use Rattle.interval.proofs.finding.finding.Statement.{statement}
use Rattle.interval.proofs.finding.finding.Tie as tie

returns : tie.Need-returns-in-1
returns c =
    let s = c in
    let a = s.args in
    let k = allowed-positive a.set (interval_of a.l) (interval_of a.u) s.in-1.is in
    rw (c.found_in_both.ensures, c.cut_not_negative.ensures, c.cut_not_negative-in-1.ensures, k.0, k.1)

returns-2 : tie.Need-returns-in-4
returns-2 c =
    let s = c in
    let a = s.args in
    let k = allowed-negative a.set (interval_of a.l) (interval_of a.u) s.in-4.is in
    rw (c.found_in_both-in-4.ensures, c.cut_not_negative-in-4.ensures, c.cut_not_negative-in-4-2.ensures, k.0, k.1)

returns-3 : tie.Need-returns-in-2
unfolding only_allowed kind
returns-3 c = rw (c.found_in_both-in-2.ensures, c.in-2.is)

returns-4 : tie.Need-returns-in_default
returns-4 c = let m = c.in_default.in_default-own.rest in allowed-none _ _ _ _ m.0.0.1 m.0.1 m.1

pub finding_spec : {M : Type 1} → statement M
finding_spec =
    tie.close
    (tie.spec (λ c κs. search rules) (λ c κs. search rules) (λ c κs. search rules) (λ c κs. search rules) (λ c κs. search rules) (λ c κs. search rules)
    (λ c κs. search rules) returns returns-2 returns-3 returns-4)
