-- Whether some set of a board is empty.
-- And what is left of the deduction where none is: the finding, or nothing.
use mathlib.Core.Path.{◌≡◌, refl, ap, ◌∙◌}
use mathlib.Core.Bool.{true, false, ◌||◌}
use mathlib.Core.List.{List, ◌∷◌}
use mathlib.Core.Logic.{◌⊎◌, inl, inr}
use Prim.Native.Nat.{ℕ, zero, suc, ◌+◌, ◌≤◌}
use native.Mathlib.Omega.{arith}
use borrow.Author.Tests.{ne_eqb}
use lib.Dec.{eqb}
use lib.ListN.{length, get_or, take, drop}
use Rattle.std.specs.List.{list_any}
use Rattle.std.proofs.Math.Seq.{drop-cons}
use Rattle.std.proofs.lemmas.List.Recursion.{same_from_clauses}
use Rattle.sign_laws.specs.Booleans.{or-true}
use Rattle.rules.specs.Signs.{SignSet, kind}
use Rattle.rules.specs.Polynomial.{Board, Polynomial}
use Rattle.rules.specs.Deduce.{rows, finding_of, any_empty, unless_empty, deduce}
use Rattle.terms.specs.View.{numbers_from}
use Rattle.deduce.proofs.Nothing.{says_nothing}

-- the n sets from place i on
sets-from : (sets : List SignSet) (i n : ℕ) → i + n ≤ length sets → take n (drop i sets) ≡ numbers_from sets i n
unfolding numbers_from
sets-from sets i zero h = refl
sets-from sets i (suc n) h = rw (drop-cons sets i 0 (omega arith)) (ap (λ (l : List SignSet). get_or sets i 0 ∷ l) (sets-from sets (suc i) n (omega arith)))

-- whether one of the first n is empty
pub empty-among : (sets : List SignSet) (n : ℕ) → n ≤ length sets → list_any (λ s. eqb s 0) (take n sets) ≡ any_empty (numbers_from sets 0 n)
unfolding any_empty
empty-among sets n h =
    same_from_clauses (list_any (λ s. eqb s 0)) any_empty (λ s b. eqb s 0 || b) refl (λ s ss. refl) (λ s ss. refl) (take n sets)
    ∙ ap any_empty (sets-from sets 0 n (omega arith))

-- with an empty set it is empty
pub deduce-empty : (board : Board) (p q : Polynomial) (s : SignSet) → any_empty board ≡ true → 0 ≡ deduce board p (record { polynomial = q; set = s })
unfolding deduce unless_empty
deduce-empty board p q s h = simp (h, or-true (eqb s 0))

-- with no empty set it is the finding
pub deduce-found : (board : Board) (p q : Polynomial) (s : SignSet) → (s ≡ 0 → ⊥) → any_empty board ≡ false
    → finding_of (kind s) (rows board p q) ≡ deduce board p (record { polynomial = q; set = s })
unfolding deduce unless_empty
deduce-found board p q s e h = simp (ne_eqb _ _ e, h)

-- with ≠ and the full set, which say nothing
pub deduce-none : (board : Board) (p q : Polynomial) (s : SignSet) → (s ≡ 5) ⊎ (7 ≤ s) → any_empty board ≡ false → 7 ≡ deduce board p (record { polynomial = q; set = s })
deduce-none board p q s k h = says_nothing s (rows board p q) k ∙ deduce-found board p q s (filled s k) h
  where
    filled : (s : ℕ) → (s ≡ 5) ⊎ (7 ≤ s) → s ≡ 0 → ⊥
    filled s (inl e) z = omega arith
    filled s (inr l) z = omega arith
