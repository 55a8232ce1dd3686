-- `and_then` meets its contract: for L and for U a value of the wanted sign that passes, and one at which the finding is strict.
use borrow.Author.Rules.{rules}
use Rattle.rules.specs.Plain.{wanted_u}
use Rattle.plain.proofs.tests.and_then.Statement.{statement}
use Rattle.plain.proofs.tests.and_then.Tie as tie

returns : tie.Need-returns
unfolding wanted_u
returns c =
    let third = c.before.before in
    let first = third.before.before.before in
    let u = first.before in
    let l = u.before.before.before in
    let strict = l.before.before in
    let wants = strict.before.before.before in
    record {
      l = rw (first.either.ensures, l.both-l.ensures, l.before.inside.ensures, wants.wanted-wants.ensures);
      above = rw (third.before.either-2.ensures, third.before.before.both.ensures, l.both-l.ensures, l.before.inside.ensures, wants.wanted-wants.ensures, strict.strictly-strict.ensures, strict.before.before.is_strict.ensures);
      u = rw (third.either-3.ensures, u.both-u.ensures, u.before.inside-2.ensures, u.before.before.mirror.ensures, wants.wanted-wants.ensures);
      below = rw (c.either-4.ensures, c.before.both-2.ensures, u.both-u.ensures, u.before.inside-2.ensures, u.before.before.mirror.ensures, wants.wanted-wants.ensures, strict.strictly-strict.ensures, strict.before.before.is_strict.ensures);
    }

pub and_then_spec : {M : Type 1} → statement M
and_then_spec =
    tie.close
    (tie.spec (λ c κs. search rules) (λ c κs. search rules) (λ c κs. search rules) (λ c κs. search rules) (λ c κs. search rules) (λ c κs. search rules) (λ c κs. search rules)
    (λ c κs. search rules) (λ c κs. search rules) (λ c κs. search rules) (λ c κs. search rules) (λ c κs. search rules) (λ c κs. search rules) (λ c κs. search rules) returns)
