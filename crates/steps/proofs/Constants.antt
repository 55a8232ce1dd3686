-- Step 2, constants: what a form with no term, with one term and with more makes of its atom.
use mathlib.Core.Path.{◌≡◌, refl, sym, ◌∙◌, ap}
use mathlib.Core.Bool.{Bool, true, false}
use mathlib.Core.List.{List}
use mathlib.Core.Option.{none, some}
use Prim.Native.Nat.{ℕ, ◌+◌, ◌*◌, ◌/◌, ◌%◌, ◌<◌, ◌≤◌}
use native.Mathlib.Omega.{arith}
use borrow.Author.Tests.{eq-eqb, ne_eqb}
use lib.Dec.{eqb}
use lib.IntN.{ℤ, pos}
use lib.ListN.{get_or}
use Rattle.rules.specs.Signs.{Sign, negative, nought, positive, SignSet, only, has, bit, inside, sign_of, open_signs}
use Rattle.rules.specs.Polynomial.{only_if, constant}
use Rattle.rules.specs.Level.{Placed, normal_placed, Tidied, merge_constant, merge_normal}
use Rattle.table.specs.Table.{Table, form_at, Forms}
use Rattle.table.specs.Constants.{many-terms, no_terms, one-term}
use Rattle.std.specs.Prelude.{None, Some}
use Rattle.tape.specs.Token.{slot, atom_of}
use Rattle.steps.specs.Tidied.{after_truth, TruthIs}

-- a sign lies in a set exactly if the set of that sign alone lies inside
inside-only : (s : Sign) (a : SignSet) → inside (only s) a ≡ has s a
unfolding open_signs
inside-only negative a = four (eqb (a / 4 % 2) 1)
  where
    four : (b : Bool) → eqb (bit b * 4 + 0 * 2 + 0) 4 ≡ b
    four true = refl
    four false = refl
inside-only nought a = two (eqb (a / 2 % 2) 1)
  where
    two : (b : Bool) → eqb (0 * 4 + bit b * 2 + 0) 2 ≡ b
    two true = refl
    two false = refl
inside-only positive a = one (eqb (a / 1 % 2) 1)
  where
    one : (b : Bool) → eqb (0 * 4 + 0 * 2 + bit b) 1 ≡ b
    one true = refl
    one false = refl

-- ---- what it makes of the atom

decided : (b : Bool) (l : List Placed) (more : List Placed → Tidied) (merged : Tidied) → merge_constant b l more ≡ after_truth (Some b) merged (more l)
unfolding merge_constant after_truth
decided true l more merged = refl
decided false l more merged = refl

module _ {t : Table} (forms : Forms t) (x : ℕ) where
  -- an atom of the table is its own normal form
  is-open : constant (form_at t (slot x)) ≡ none → TruthIs t x None
  unfolding atom_of normal_placed merge_normal after_truth
  is-open e = record { is = λ l more. rw (forms.own (slot x) (x % 8) (omega arith), e) }

  is-decided : (c : ℤ) (b : Bool) → constant (form_at t (slot x)) ≡ some c → b ≡ inside (only (sign_of c)) (x % 8) → TruthIs t x (Some b)
  unfolding atom_of normal_placed merge_normal
  is-decided c b e d = record {
    is = λ l more. rw (forms.own (slot x) (x % 8) (omega arith), e, d ∙ inside-only (sign_of c) (x % 8)) (decided (has (sign_of c) (x % 8)) l more _);
  }

  -- ---- by the count of terms, and by the one term's monomial
  pub truth-many : (k : ℕ) → k ≡ slot x → 1 < get_or t.terms k 0 → TruthIs t x None
  unfolding form_at
  truth-many k e h = is-open (many-terms t.coefficient t.monomial (16 * slot x) _ (rw e at h))

  pub truth-none : (k : ℕ) → k ≡ slot x → (b : Bool) → get_or t.terms k 0 ≡ 0 → b ≡ inside 2 (x % 8) → TruthIs t x (Some b)
  unfolding form_at sign_of only
  truth-none k e b h d = is-decided (pos 0) b (no_terms t.coefficient t.monomial (16 * slot x) _ (rw e at h)) d

  module _ (k : ℕ) (e : k ≡ slot x) (h : get_or t.terms k 0 ≤ 1) (n : get_or t.terms k 0 ≡ 0 → ⊥) where
    the_term : constant (form_at t (slot x)) ≡ only_if (eqb (get_or t.monomial (16 * k) 0) 0) (get_or t.coefficient (16 * k) (pos 0))
    unfolding form_at
    the_term = let z : get_or t.terms k 0 ≡ 1 = omega arith in rw (sym e) (one-term t.coefficient t.monomial (16 * k) _ z)

    pub truth-one : (b : Bool) → get_or t.monomial (16 * k) 0 ≡ 0 → b ≡ inside (only (sign_of (get_or t.coefficient (16 * k) (pos 0)))) (x % 8) → TruthIs t x (Some b)
    unfolding only_if
    truth-one b z d = is-decided _ b (the_term ∙ ap (λ (y : Bool). only_if y (get_or t.coefficient (16 * k) (pos 0))) (eq-eqb _ _ z)) d

    pub truth-variable : (get_or t.monomial (16 * k) 0 ≡ 0 → ⊥) → TruthIs t x None
    unfolding only_if
    truth-variable z = is-open (the_term ∙ ap (λ (y : Bool). only_if y (get_or t.coefficient (16 * k) (pos 0))) (ne_eqb _ _ z))
