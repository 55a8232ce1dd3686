-- Demand 3, as definitions: "for each choice of numerators and one common denominator above 0" (request #101, of which whole numbers are a case) the
-- answer holds exactly when the original holds, and "the answer never has more atoms, more polynomials or more bytes than the block it came from".
-- The laws are in crate laws.
use Rattle.std.specs.Prelude.{◌≡◌, Bool, true, false, List, [], ℕ, ◌<◌, ◌≤◌, ℤ, length, get_or}
use Rattle.std.proofs.Math.Option.{Option, none, some}
use Rattle.rules.specs.Polynomial.{Polynomial, Atom, normal}
use Rattle.rules.specs.Formula.{Node, in_order, alone}
use Rattle.rules.specs.Block.{Block, Reading, refused, read, read_block}
use Rattle.rules.specs.Answer.{Answer, refusal, answered, formula, always, unsatisfiable, formula_of, new_block, new_places}
use Rattle.rules.specs.Meaning.{Choice, holds_at, holds_over}

-- Whether what was read holds, by some way to tell of a formula whether it does; none if it was refused.
unfoldable pub read_holds : (Node Atom → Bool) → Reading Block → Option Bool
read_holds truth (refused number) = none
read_holds truth (read block stream) = some (truth (formula_of block))

-- "Old and new formula agree there too": at each choice of fractions the answer's bytes read back as a block that holds exactly when the given block
-- holds; "UNSATISFIABLE" is answered only if no choice satisfies the original, "ALWAYS" only if all do. A refusal answers nothing; bytes that are
-- refused are never answered otherwise.
unfoldable pub SameLifts : Reading Block → Answer → Type 0
SameLifts given (refusal number) = Unit {0}
SameLifts (refused number) (answered verdict bytes counts) = ⊥
SameLifts (read given stream) (answered verdict bytes counts) =
    (choice : Choice given.variables) →
    (read_holds (holds_over choice) (read_block bytes) ≡ some (holds_over choice (formula_of given)))
    × (verdict ≡ always → holds_over choice (formula_of given) ≡ true)
    × (verdict ≡ unsatisfiable → holds_over choice (formula_of given) ≡ false)

-- "The whole-number statement becomes the case of denominator 1": the same at each choice of whole numbers.
unfoldable pub SameWholeLifts : Reading Block → Answer → Type 0
SameWholeLifts given (refusal number) = Unit {0}
SameWholeLifts (refused number) (answered verdict bytes counts) = ⊥
SameWholeLifts (read given stream) (answered verdict bytes counts) =
    (readings : List ℤ) → length readings ≡ given.variables →
    (read_holds (holds_at readings) (read_block bytes) ≡ some (holds_at readings (formula_of given)))
    × (verdict ≡ always → holds_at readings (formula_of given) ≡ true)
    × (verdict ≡ unsatisfiable → holds_at readings (formula_of given) ≡ false)

-- The counts are those of the two blocks (`counts_of` in Answer), polynomials in the forms that the given tree uses; the bytes are the whole block's.
unfoldable pub NeverLonger : List ℕ → Answer → Type 0
NeverLonger given (refusal number) = Unit {0}
NeverLonger given (answered verdict bytes counts) =
    (counts.atoms-out ≤ counts.atoms-in) × (counts.polynomials-out ≤ counts.polynomials-in) × (length bytes ≤ length given)

-- ---- 02, #105: "The list of places in the answer has no repeats, and each names an input atom of the same normal polynomial."

-- The atoms of a block's formula in reading order, and the normal form of the polynomial of the one at a place. (Past the end: no polynomial.)
unfoldable pub atoms_of : Block → List Atom
atoms_of block = in_order (alone (formula_of block))

abbrev pub no_atom : Atom
no_atom = record { polynomial = []; set = 0 }

unfoldable pub form_at_place : List Atom → ℕ → Polynomial
form_at_place l k = (normal (get_or l k no_atom)).polynomial

-- As many places as atoms out; no repeats; the place at i is that of an input atom whose polynomial has the normal form of the answer's atom at i.
pub record PlacesName (given new : List Atom) (places : List ℕ) : Type 0 where
  pub many : length places ≡ length new
  pub no_repeats : (i j : ℕ) → i < j → j < length places → get_or places i 0 ≡ get_or places j 0 → ⊥
  pub of_input : (i : ℕ) → i < length places → get_or places i 0 < length given
  pub same-form : (i : ℕ) → i < length places → form_at_place given (get_or places i 0) ≡ (get_or new i no_atom).polynomial

unfoldable pub PlacesTell : Reading Block → Type 0
PlacesTell (refused number) = Unit {0}
PlacesTell (read given stream) = PlacesName (atoms_of given) (atoms_of (new_block given)) (new_places given)
