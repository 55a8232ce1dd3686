use borrow.Author.Tests.{eq-eqb}
use mathlib.Core.Logic.{inl, inr}
use Rattle.std.proofs.Common.{◌≡◌, ℕ, List, ℤ, sym, ◌∙◌}
use Rattle.rules.specs.Deduce.{deduce, unless_empty}
use Rattle.rules.specs.Signs.{SignSet}
use Rattle.deduce.specs.declared.Run.{Run}
use Rattle.deduce.specs.Merge.{nothing, Found}
use Rattle.deduce.specs.Runs.{Deduced}
use Rattle.deduce.proofs.Board.{deduce-found, deduce-none}
use Rattle.deduce.proofs.Rows.{finding-gathered}
use Rattle.deduce.proofs.LoneTerms.{lone-found}
use Rattle.deduce.proofs.deduce_from.Goals as goal
use Rattle.deduce.proofs.deduce_from.Goals.{then-k-eq5-via-then-k-eq5, then-k-eq5-via-else-k-eq5+then-k-ge7}

-- what is found, where the set is not empty
deduced : {cs : List ℤ} {ms : List ℕ} {ss : List SignSet} {p q : Run} {set r : SignSet}
    → (set ≡ 0 → ⊥) → Found cs ms ss p q set nothing r → Deduced cs ms ss p q set r
deduced e f = record { on = λ s t h. f.found s t ∙ finding-gathered _ _ ∙ deduce-found _ _ _ _ e h }

pub returns-then-k-eq0 : goal.returns-then-k-eq0
unfolding deduce unless_empty
returns-then-k-eq0 c = record { on = λ s t h. simp (eq-eqb _ _ c.if-k-eq0.true) }

pub returns-then-k-eq5 : goal.returns-then-k-eq5
returns-then-k-eq5 c =
    elim c.then-k-eq5.branch [
      | then-k-eq5-via-then-k-eq5 w ↦ record { on = λ s t h. deduce-none _ _ _ _ (inl w.if-k-eq5.true) h }
      | then-k-eq5-via-else-k-eq5+then-k-ge7 w ↦ record { on = λ s t h. deduce-none _ _ _ _ (inr w.if-k-ge7.true) h }
    ]

pub returns-then-stands_alone : goal.returns-then-stands_alone
returns-then-stands_alone c = deduced c.if-k-eq0.false (lone-found (sym c.stands_alone.ensures ∙ c.if-stands_alone.true))

pub returns : goal.returns
returns c = deduced c.if-k-eq0.false c.found.ensures
