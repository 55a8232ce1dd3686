-- Step 2: to bring atoms to normal form, merge those of one polynomial and drop the true ones keeps the truth of the list;
-- a list that is broken does not hold.
use Rattle.std.specs.Prelude.{◌≡◌, Bool, ◌&&◌, ℕ, eqb, ℤ}
use Rattle.std.proofs.Math.Path.{refl, sym, ap}
use Rattle.std.proofs.Common.{◌∙◌, eqb-true}
use Rattle.std.proofs.Math.Bool.{true, false}
use mathlib.Core.List.{List, [], ◌∷◌}
use Rattle.std.proofs.Math.Option.{Option, none, some}
use Rattle.rules.specs.Signs.{Sign, empty, full, sign_of, has, intersect}
use Rattle.rules.specs.Polynomial.{Polynomial, same, constant}
use Rattle.rules.specs.Level.{Placed, plain, with_set, Tidied, broken, tidied, merged_if, merge_into, merge_constant, merge_normal, normal_placed, merge, kept_if, without_full, after_merging, tidy}
use Rattle.rules.specs.Meaning.{atom_holds}
use Rattle.sign_laws.specs.Booleans.{and_assoc, and-swap, and-true, and-false}
use Rattle.sign_laws.specs.Sets.{has-intersect}
use Rattle.level_laws.specs.Same.{same-equal}
use Rattle.level_laws.specs.Holding.{every, placed_holds, list_holds, empty-fails, full-holds}
use Rattle.level_laws.specs.Respects.{Respects}

-- What a tidied list says; "the node is false" where it is broken.
unfoldable pub tidied_holds : (Polynomial → Sign) → Tidied → Bool
tidied_holds sign broken = false
tidied_holds sign (tidied l) = list_holds sign l

module _ (sign : Polynomial → Sign) where
  -- ---- One atom for each polynomial.

  -- Two atoms of one polynomial hold exactly if the atom with the intersected set does.
  merged-holds : (a first : Placed) → a.polynomial ≡ first.polynomial
      → placed_holds sign (with_set first (intersect first.set a.set)) ≡ placed_holds sign first && placed_holds sign a
  unfolding atom_holds
  merged-holds a first e = rw e (has-intersect (sign first.polynomial) first.set a.set)

  merge_into-keeps : (a : Placed) (l : List Placed) → list_holds sign (merge_into a l) ≡ placed_holds sign a && list_holds sign l
  unfolding merge_into merged_if every
  merge_into-keeps a [] = refl
  merge_into-keeps a (first ∷ later) = by-test (same a.polynomial first.polynomial) refl (merge_into-keeps a later)
    where
      by-test : (b : Bool) → same a.polynomial first.polynomial ≡ b → list_holds sign (merge_into a later) ≡ placed_holds sign a && list_holds sign later
          → list_holds sign (merged_if b a first later (merge_into a later)) ≡ placed_holds sign a && (placed_holds sign first && list_holds sign later)
      by-test true w h = ap (λ (x : Bool). x && list_holds sign later) (merged-holds a first (same-equal a.polynomial first.polynomial w))
          ∙ sym (and_assoc (placed_holds sign first) (placed_holds sign a) (list_holds sign later))
          ∙ and-swap (placed_holds sign first) (placed_holds sign a) (list_holds sign later)
      by-test false w h = rw h (and-swap (placed_holds sign first) (placed_holds sign a) (list_holds sign later))

  -- ---- Full and empty sets.

  kept_if-keeps : (is_empty is_full : Bool) (a : Placed) (rest : Tidied) → (is_empty ≡ true → placed_holds sign a ≡ false) → (is_full ≡ true → placed_holds sign a ≡ true)
      → tidied_holds sign (kept_if is_empty is_full a rest) ≡ placed_holds sign a && tidied_holds sign rest
  unfolding kept_if tidied_holds every
  kept_if-keeps true is_full a rest f g = rw (f refl)
  kept_if-keeps false true a rest f g = rw (g refl)
  kept_if-keeps false false a broken f g = sym (and-false (placed_holds sign a))
  kept_if-keeps false false a (tidied l) f g = refl

  without_full-keeps : (l : List Placed) → tidied_holds sign (without_full l) ≡ list_holds sign l
  unfolding without_full tidied_holds every
  without_full-keeps [] = refl
  without_full-keeps (a ∷ l) =
      kept_if-keeps (eqb a.set empty) (eqb a.set full) a (without_full l)
      (λ e. empty-fails sign (plain a) (eqb-true a.set empty e)) (λ e. full-holds sign (plain a) (eqb-true a.set full e))
      ∙ ap (λ (x : Bool). placed_holds sign a && x) (without_full-keeps l)

  after_merging-keeps : (result : Tidied) → tidied_holds sign (after_merging result) ≡ tidied_holds sign result
  unfolding after_merging tidied_holds
  after_merging-keeps broken = refl
  after_merging-keeps (tidied l) = without_full-keeps l

module _ {sign : Polynomial → Sign} {n : ℕ} (ok : Respects sign n) where
  -- ---- The whole step.

  merge_constant-keeps : (b : Bool) (l later : List Placed) → tidied_holds sign (merge l later) ≡ list_holds sign l && list_holds sign later
      → tidied_holds sign (merge_constant b l (λ (m : List Placed). merge m later)) ≡ list_holds sign l && (b && list_holds sign later)
  unfolding merge_constant tidied_holds
  merge_constant-keeps true l later h = h
  merge_constant-keeps false l later h = sym (and-false (list_holds sign l))

  merge_normal-keeps : (a : Placed) (l later : List Placed) → ((m : List Placed) → tidied_holds sign (merge m later) ≡ list_holds sign m && list_holds sign later)
      → (o : Option ℤ) → constant a.polynomial ≡ o
      → tidied_holds sign (merge_normal o a l (λ (m : List Placed). merge m later)) ≡ list_holds sign l && (placed_holds sign a && list_holds sign later)
  unfolding merge_normal atom_holds
  merge_normal-keeps a l later h none w = h (merge_into a l)
      ∙ (rw (merge_into-keeps sign a l) (sym (and_assoc (placed_holds sign a) (list_holds sign l) (list_holds sign later))
      ∙ and-swap (placed_holds sign a) (list_holds sign l) (list_holds sign later)))
  merge_normal-keeps a l later h (some c) w = rw (ok.by_constant a.polynomial c w) (merge_constant-keeps (has (sign_of c) a.set) l later (h l))

  merge_keeps : (l later : List Placed) → tidied_holds sign (merge l later) ≡ list_holds sign l && list_holds sign later
  unfolding merge normal_placed tidied_holds every
  merge_keeps l [] = sym (and-true (list_holds sign l))
  merge_keeps l (a ∷ later) = merge_normal-keeps (normal_placed a) l later (λ m. merge_keeps m later) (constant (normal_placed a).polynomial) refl
      ∙ ap (λ (x : Bool). list_holds sign l && (x && list_holds sign later)) (ok.by_normal (plain a))

  -- Step 2 keeps the truth of a list.
  pub tidy-keeps : (l : List Placed) → tidied_holds sign (tidy l) ≡ list_holds sign l
  unfolding tidy every
  tidy-keeps l = after_merging-keeps sign (merge [] l) ∙ merge_keeps [] l
