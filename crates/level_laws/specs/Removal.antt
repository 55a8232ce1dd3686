-- Step 5: to remove an atom that the other remaining atoms imply changes nothing.
-- The fresh rounds run on the others with their carried sets, so what they say is right wherever those hold.
use Rattle.std.specs.Prelude.{◌≡◌, Bool, ◌&&◌, ℕ}
use Rattle.std.proofs.Math.Path.{refl, sym}
use Rattle.std.proofs.Common.{◌∙◌}
use Rattle.std.proofs.Math.Bool.{true, false}
use mathlib.Core.List.{List, [], ◌∷◌, ◌++◌}
use Rattle.rules.specs.Signs.{Sign}
use Rattle.rules.specs.Polynomial.{Polynomial, Atom}
use Rattle.rules.specs.Rounds.{run, says}
use Rattle.rules.specs.Level.{Placed, plain, plains, kept_unless, implied, remove_implied}
use Rattle.rules.specs.Meaning.{atom_holds}
use Rattle.sign_laws.specs.Booleans.{and_assoc, and-true, and-false}
use Rattle.sign_laws.specs.Sets.{in-inside}
use Rattle.level_laws.specs.Holding.{every, every_append, atoms_hold, placed_holds, list_holds, in-atom, plains-hold}
use Rattle.level_laws.specs.Respects.{Respects}
use Rattle.level_laws.specs.Rounds.{says-right}

-- An atom that holds where the others do may be left out.
leave-out : (kept this later : Bool) → (kept && later ≡ true → this ≡ true) → kept && later ≡ kept && (this && later)
leave-out true this true h = rw (h refl)
leave-out true this false h = sym (and-false this)
leave-out false this later h = refl

module _ {sign : Polynomial → Sign} {n : ℕ} (ok : Respects sign n) where
  -- An implied atom holds where the others do.
  implied-holds : (others : List Atom) (a : Atom) → implied n others a ≡ true → atoms_hold sign others ≡ true → atom_holds sign a ≡ true
  unfolding implied
  implied-holds others a e h = in-atom sign a (in-inside (says n (run n others) a.polynomial) a.set e (says-right ok others a.polynomial h))

  kept_unless-keeps : (b : Bool) (kept : List Placed) (a : Placed) (later : List Placed) → implied n (plains (kept ++ later)) (plain a) ≡ b
      → list_holds sign (kept_unless b a kept) && list_holds sign later ≡ list_holds sign kept && (placed_holds sign a && list_holds sign later)
  unfolding kept_unless every
  kept_unless-keeps true kept a later w = leave-out (list_holds sign kept) (placed_holds sign a) (list_holds sign later)
      (λ h. implied-holds (plains (kept ++ later)) (plain a) w (plains-hold sign (kept ++ later) ∙ every_append (placed_holds sign) kept later ∙ h))
  kept_unless-keeps false kept a later w = rw (every_append (placed_holds sign) kept (a ∷ []), and-true (placed_holds sign a))
      (sym (and_assoc (list_holds sign kept) (placed_holds sign a) (list_holds sign later)))

  -- Step 5 keeps the truth of the atoms, those that were kept so far and those to come.
  pub removal-keeps : (kept l : List Placed) → list_holds sign (remove_implied n kept l) ≡ list_holds sign kept && list_holds sign l
  unfolding remove_implied every
  removal-keeps kept [] = sym (and-true (list_holds sign kept))
  removal-keeps kept (a ∷ later) = removal-keeps (kept_unless (implied n (plains (kept ++ later)) (plain a)) a kept) later
      ∙ kept_unless-keeps (implied n (plains (kept ++ later)) (plain a)) kept a later refl
