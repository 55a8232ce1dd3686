-- What the laws of a level ask of a way to give each polynomial a sign, and nothing more: the deductions, the signs by terms, the normal form
-- and the constants respect it. The signs at whole numbers are such a way.
use Rattle.std.specs.Prelude.{◌≡◌, true, ℕ, ℤ, length, get_or, List}
use Rattle.std.proofs.Math.Option.{some}
use Rattle.rules.specs.Signs.{Sign, SignSet, sign_of, full}
use Rattle.rules.specs.Polynomial.{Polynomial, Atom, Board, by_terms, normal, constant, variable}
use Rattle.rules.specs.Deduce.{deduce}
use Rattle.rules.specs.TwoAtoms.{tries}
use Rattle.rules.specs.Meaning.{atom_holds}
use Rattle.sign_laws.specs.Lists.{Every}
use Rattle.sign_laws.specs.Sets.{◌In◌}

-- The board has the n variables' sets, and each variable's sign is in its set. (Past the board's end every sign is in the full set.)
pub record Fits (sign : Polynomial → Sign) (n : ℕ) (board : Board) : Type 0 where
  pub long : length board ≡ n
  pub each : (i : ℕ) → sign (variable n i) In get_or board i full

-- A board that fits gives only deductions, findings of pairs and signs by terms that have the polynomial's sign; a normal form holds where its atom does.
pub record Respects (sign : Polynomial → Sign) (n : ℕ) : Type 0 where
  pub by_deduction : (board : Board) (p : Polynomial) (q : Atom) → Fits sign n board → atom_holds sign q ≡ true → sign p In deduce board p q
  pub by_pairs : (board : Board) (p : Polynomial) {l : List Atom} → Fits sign n board → Every (λ (q : Atom). atom_holds sign q ≡ true) l
      → Every (λ (f : SignSet). sign p In f) (tries board p l)
  pub by-terms : (board : Board) (p : Polynomial) → Fits sign n board → sign p In by_terms board p
  pub by_normal : (a : Atom) → atom_holds sign (normal a) ≡ atom_holds sign a
  pub by_constant : (p : Polynomial) (c : ℤ) → constant p ≡ some c → sign p ≡ sign_of c
