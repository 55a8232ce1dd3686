-- `packed` meets its contract: in each arm the verdict is the one that the arm names.
use borrow.Author.Rules.{rules}
use mathlib.Core.Path.{sym, ap}
use Rattle.answer.specs.declared.Verdict.{Verdict}
use Rattle.lift.specs.Exported.{packed_of}
use Rattle.lift.proofs.exported.packed.Statement.{statement}
use Rattle.lift.proofs.exported.packed.Tie as tie

returns : tie.Need-returns-in-Formula
returns c = sym (ap (λ (v : Verdict). packed_of v c.args.size) c.in-Formula.is)

returns-2 : tie.Need-returns-in-Always
returns-2 c = sym (ap (λ (v : Verdict). packed_of v c.args.size) c.in-Always.is)

returns-3 : tie.Need-returns-in-Unsatisfiable
returns-3 c = sym (ap (λ (v : Verdict). packed_of v c.args.size) c.in-Unsatisfiable.is)

pub packed_spec : {M : Type 1} → statement M
packed_spec =
    tie.close
    (tie.spec (λ c. search rules) (λ c. search rules) (λ c. search rules) (λ c. search rules) (λ c. search rules) (λ c. search rules)
    (λ c. search rules) (λ c. search rules) (λ c. search rules) returns returns-2 returns-3)
