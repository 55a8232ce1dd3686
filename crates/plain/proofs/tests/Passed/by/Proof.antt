-- `Passed::by` meets its contract: what L asks for, and what U asks for, each from its set.
use borrow.Author.Rules.{rules}
use mathlib.Core.Path.{◌≡◌, sym, ◌∙◌}
use Rattle.rules.specs.Signs.{kind}
use Rattle.rules.specs.Plain.{asks_l, asks_u}
use Rattle.deduction_laws.specs.FractionSets.{L}
use Rattle.plain_laws.specs.Same.{asks-as}
use Rattle.plain.proofs.tests.Passed.by.Statement.{statement}
use Rattle.plain.proofs.tests.Passed.by.Tie as tie

asks : (c : tie.After-asked-asks) → c.asked-asks.result.0 ≡ asks_l (kind c.before.args.s)
asks c = c.asked-asks.ensures ∙ sym (asks-as L (kind c.before.args.s))

returns : tie.Need-returns
unfolding asks_u
returns c =
    let d = c.before.before.before.before.before.before in
    record {
      l = rw (c.before.before.before.before.both-l.ensures, c.before.before.before.before.before.inside.ensures, asks d);
      u = rw (c.before.both-u.ensures, c.before.before.inside-2.ensures, c.before.before.before.mirror.ensures, asks d);
      strict = c.strict_with-strict.ensures;
    }

pub by_spec : {M : Type 1} → statement M
by_spec =
    tie.close
    (tie.spec (λ c κs. search rules) (λ c κs. search rules) (λ c κs. search rules) (λ c κs. search rules) (λ c κs. search rules) (λ c κs. search rules) (λ c κs. search rules) returns)
