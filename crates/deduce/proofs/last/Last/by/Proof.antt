-- `Last::by` meets its contract: what L asks for, and what U asks for, each from its set.
use borrow.Author.Rules.{rules}
use mathlib.Core.Path.{refl}
use Rattle.deduce.proofs.SignSets.{asked-mirrored}
use Rattle.deduce.proofs.last.Last.by.Statement.{statement}
use Rattle.deduce.proofs.last.Last.by.Tie as tie

returns : tie.Need-returns
returns c = record {
  t = refl;
  l = rw (c.before.before.before.before.both-l.ensures, c.before.before.before.before.before.inside.ensures, c.before.before.before.before.before.before.asked-asks.ensures);
  u = rw (c.before.both-u.ensures, c.before.before.inside-2.ensures, c.before.before.before.mirror.ensures, c.before.before.before.before.before.before.asked-asks.ensures, asked-mirrored);
  strict = c.strict_with-strict.ensures;
}

pub by_spec : {M : Type 1} → statement M
by_spec =
    tie.close
    (tie.spec (λ c κs. search rules) (λ c κs. search rules) (λ c κs. search rules) (λ c κs. search rules) (λ c κs. search rules) (λ c κs. search rules) (λ c κs. search rules) returns)
