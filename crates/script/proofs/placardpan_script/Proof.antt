-- `placardpan_script` meets its contract: the number and the text are those of what `script` tells.
use mathlib.Core.Path.{sym, ap, subst, ◌∙◌}
use Prim.Native.Nat.{ℕ, ◌≤◌}
use borrow.Author.Rules.{rules}
use Rattle.std.specs.Prelude.{Result}
use Rattle.script.specs.Entry.{size_in, number_in, outcome-small, number-told}
use Rattle.script.proofs.placardpan_script.Statement.{statement}
use Rattle.script.proofs.placardpan_script.Tie as tie

small : tie.Need-number_in-requires
small c κs = subst (λ (o : Result ℕ ℕ). size_in o ≤ 2024782) (sym c.script-outcome.ensures.returns) (outcome-small _ _)

returns : tie.Need-returns
returns c =
    record {
      returns = c.number_in.ensures ∙ ap number_in c.script-outcome.ensures.returns ∙ number-told _;
      text = c.script-outcome.ensures.text;
    }

pub placardpan_script_spec : {M : Type 1} → statement M
placardpan_script_spec = tie.close (tie.spec (λ c κs. search rules) small (λ c. search rules) returns)
