-- The verdict by the tests that the code makes.
use mathlib.Core.Path.{◌≡◌, refl}
use Prim.Native.Nat.{ℕ, zero, suc}
use borrow.Author.Tests.{eq-eqb, ne_eqb}
use Rattle.answer.specs.declared.Verdict.TheVariants.{Formula, Always, Unsatisfiable}
use Rattle.answer.specs.Answered.{of_only_node, verdict_from}

pub is-always : (root tokens : ℕ) → tokens ≡ 1 → root ≡ 1 → Always ≡ verdict_from root tokens
unfolding verdict_from of_only_node
is-always root tokens only kind = rw (eq-eqb tokens 1 only, kind)

pub is-unsatisfiable : (root tokens : ℕ) → tokens ≡ 1 → root ≡ 2 → Unsatisfiable ≡ verdict_from root tokens
unfolding verdict_from of_only_node
is-unsatisfiable root tokens only kind = rw (eq-eqb tokens 1 only, kind)

neither : (root : ℕ) → (root ≡ 1 → ⊥) → (root ≡ 2 → ⊥) → Formula ≡ verdict_from root 1
unfolding verdict_from of_only_node
neither zero no_and no_or = refl
neither (suc zero) no_and no_or = absurd (no_and refl)
neither (suc (suc zero)) no_and no_or = absurd (no_or refl)
neither (suc (suc (suc root))) no_and no_or = refl

pub is-atom : (root tokens : ℕ) → tokens ≡ 1 → (root ≡ 1 → ⊥) → (root ≡ 2 → ⊥) → Formula ≡ verdict_from root tokens
is-atom root tokens only no_and no_or = rw only (neither root no_and no_or)

pub is-formula : (root tokens : ℕ) → (tokens ≡ 1 → ⊥) → Formula ≡ verdict_from root tokens
unfolding verdict_from of_only_node
is-formula root tokens more = rw (ne_eqb tokens 1 more)
