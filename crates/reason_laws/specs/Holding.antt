-- The named atoms imply the removed one, and exclude each other where the whole is false: at every choice of fractions,
-- and wherever else the rules respect the signs of the polynomials.
use Rattle.std.specs.Prelude.{◌≡◌, ℕ, eqb}
use Rattle.std.proofs.Math.Path.{refl}
use Rattle.std.proofs.Math.Bool.{true, false}
use Rattle.std.proofs.lemmas.Bool.{false≢true}
use mathlib.Core.List.{List, [], ◌∷◌}
use Rattle.std.proofs.Common.{eqb-true}
use Rattle.rules.specs.Signs.{Sign, empty}
use Rattle.rules.specs.Polynomial.{Polynomial, Atom}
use Rattle.rules.specs.Deduce.{any_empty}
use Rattle.rules.specs.Rounds.{sets_of, Outcome, contradiction, settled, run, says}
use Rattle.rules.specs.Level.{Placed, plains, implied}
use Rattle.rules.specs.Meaning.{atom_holds, Choice, sign_over}
use Rattle.sign_laws.specs.Booleans.{and-false, or_cases}
use Rattle.sign_laws.specs.Sets.{in-inside}
use Rattle.level_laws.specs.Holding.{every, atoms_hold, in-atom, empty-fails}
use Rattle.level_laws.specs.Respects.{Respects}
use Rattle.level_laws.specs.Rounds.{contradiction-false, says-right}
use Rattle.laws.specs.Fractions.{respected-over}
use Rattle.rules.specs.Reasons.{has_contradiction, fails}
use Rattle.reason_laws.specs.Named.{JustImplies, JustFails}

module _ {sign : Polynomial → Sign} {n : ℕ} (ok : Respects sign n) where
  -- What the named atoms imply holds where they do.
  pub named-imply : {named : List Placed} {a : Atom} → JustImplies n named a → atoms_hold sign (plains named) ≡ true → atom_holds sign a ≡ true
  unfolding implied
  named-imply {named} {a} j h =
      in-atom sign a (in-inside (says n (run n (plains named)) a.polynomial) a.set j.suffices (says-right ok (plains named)
      a.polynomial h))

  empty-false : (l : List Atom) → any_empty (sets_of l) ≡ true → atoms_hold sign l ≡ false
  unfolding any_empty sets_of every
  empty-false [] e = absurd (false≢true e)
  empty-false (a ∷ l) e = or_cases (eqb a.set empty) (any_empty (sets_of l)) e
      (λ z. rw (empty-fails sign a (eqb-true a.set empty z))) (λ z. rw (empty-false l z) (and-false (atom_holds sign a)))

  found-false : (l : List Atom) → has_contradiction (run n l) ≡ true → atoms_hold sign l ≡ false
  unfolding has_contradiction
  found-false l = by-outcome (run n l) refl
    where
      by-outcome : (o : Outcome) → run n l ≡ o → has_contradiction o ≡ true → atoms_hold sign l ≡ false
      by-outcome contradiction e k = contradiction-false ok l e
      by-outcome (settled st) e k = absurd (false≢true k)

  -- The named atoms of a false whole never hold together.
  pub named-exclude : {named : List Placed} → JustFails n named → atoms_hold sign (plains named) ≡ false
  unfolding fails
  named-exclude {named} j =
      let l = plains named in
      or_cases (any_empty (sets_of l)) (has_contradiction (run n l)) j.suffices (empty-false l) (found-false l)

-- At every choice of fractions for the n variables (#101), so at every choice of whole numbers, which are the fractions over 1.
module _ {n : ℕ} (choice : Choice n) where
  abbrev pub at : Polynomial → Sign
  at = sign_over choice.numerators choice.denominator

  pub imply-over : {named : List Placed} {a : Atom} → JustImplies n named a → atoms_hold at (plains named) ≡ true → atom_holds at a ≡ true
  imply-over j h = named-imply (respected-over choice) j h

  pub exclude-over : {named : List Placed} → JustFails n named → atoms_hold at (plains named) ≡ false
  exclude-over j = named-exclude (respected-over choice) j
