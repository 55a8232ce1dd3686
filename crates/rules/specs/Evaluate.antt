-- Request #102, "Condition evaluator for the cab unit": a block run on live readings, "permit or deny".
-- "Arithmetic is in 64 signed bits": the products and running sums of a polynomial are listed as whole numbers without a limit, and "the evaluation is
-- refused exactly if a product or running sum in that order leaves 64 bits".
use Rattle.std.specs.Prelude.{Bool, true, false, ◌&&◌, List, [], ◌∷◌, ℕ, zero, suc, ◌-◌, ◌^◌, eqb, ℤ, pos, negsuc, ◌+ℤ◌, ◌*ℤ◌, length}
use Rattle.std.proofs.Math.Option.{Option, none, some}
use Rattle.std.specs.Int.Signed.{le_z}
use Rattle.rules.specs.Polynomial.{Term, Polynomial, Atom, exponent}
use Rattle.rules.specs.Formula.{Parts, end, atom, and, or, Node, alone}
use Rattle.rules.specs.Block.{Block, Reading, refused, read, read_block}
use Rattle.rules.specs.Answer.{formula_of}
use Rattle.rules.specs.Meaning.{holds_at}

-- ---- The products and running sums of a polynomial.

-- "multiplied by each reading, variable by variable, as often as the exponent says": each product, and what follows the last of them.
unfoldable pub power_steps : ℤ → ℕ → ℤ → (ℤ → List ℤ) → List ℤ
power_steps x zero z after = after z
power_steps x (suc e) z after = (z *ℤ x) ∷ power_steps x e (z *ℤ x) after

unfoldable pub term_steps : List ℤ → ℕ → ℤ → (ℤ → List ℤ) → List ℤ
term_steps [] m z after = after z
term_steps (x ∷ readings) m z after = power_steps x (exponent m (length readings)) z (λ (y : ℤ). term_steps readings m y after)

-- "Terms are taken in block order. A term starts from its coefficient", and is added to the sum of those before it.
unfoldable pub sum_steps : List ℤ → Polynomial → ℤ → List ℤ
sum_steps readings [] total = []
sum_steps readings (t ∷ ts) total = term_steps readings t.monomial t.coefficient (λ (z : ℤ). (total +ℤ z) ∷ sum_steps readings ts (total +ℤ z))

-- All of them, in order.
unfoldable pub steps : List ℤ → Polynomial → List ℤ
steps readings p = sum_steps readings p (pos 0)

-- ---- What fits.

unfoldable pub all_fit : (ℤ → Bool) → List ℤ → Bool
all_fit fits [] = true
all_fit fits (z ∷ zs) = fits z && all_fit fits zs

-- "All children are evaluated, also after the result is known": every atom's polynomial, whatever its set.
unfoldable pub parts_fit : (ℤ → Bool) → List ℤ → Parts Atom → Bool
parts_fit fits readings end = true
parts_fit fits readings (atom a rest) = all_fit fits (steps readings a.polynomial) && parts_fit fits readings rest
parts_fit fits readings (and kids rest) = parts_fit fits readings kids && parts_fit fits readings rest
parts_fit fits readings (or kids rest) = parts_fit fits readings kids && parts_fit fits readings rest

-- From -(low + 1) to high; "64 signed bits" are -2^63 to 2^63 - 1.
unfoldable pub within : ℕ → ℕ → ℤ → Bool
within low high z = le_z (negsuc low) z && le_z z (pos high)

unfoldable pub fits64 : ℤ → Bool
fits64 = within (2 ^ 63 - 1) (2 ^ 63 - 1)

-- ---- The answer.

unfoldable pub some_if : Bool → Bool → Option Bool
some_if true b = some b
some_if false b = none

-- Whether the formula holds at the readings, if all products and sums of its polynomials fit.
unfoldable pub evaluate_by : (ℤ → Bool) → List ℤ → Node Atom → Option Bool
evaluate_by fits readings tree = some_if (parts_fit fits readings (alone tree)) (holds_at readings tree)

-- "answers permit or deny", or a refusal with its number
pub data Evaluation : Type 0 where
  permit deny : Evaluation
  refused_by : ℕ → Evaluation

-- "then 17 overflow"
unfoldable pub permit_if : Option Bool → Evaluation
permit_if none = refused_by 17
permit_if (some true) = permit
permit_if (some false) = deny

-- "then 16 if the number of readings is not n"
unfoldable pub if_many : Bool → Evaluation → Evaluation
if_many true evaluation = evaluation
if_many false evaluation = refused_by 16

-- "the base's 2 to 15 keep their order, then 16 .., then 17"
unfoldable pub evaluate_read : List ℤ → Reading Block → Evaluation
evaluate_read readings (refused number) = refused_by number
evaluate_read readings (read block stream) = if_many (eqb (length readings) block.variables) (permit_if (evaluate_by fits64 readings (formula_of block)))

-- "it takes a block and n readings of 32 signed bits"
unfoldable pub evaluate : List ℕ → List ℤ → Evaluation
evaluate bytes readings = evaluate_read readings (read_block bytes)

-- For C: below 256 the refusal, 256 deny, 257 permit.
unfoldable pub evaluation_number : Evaluation → ℕ
evaluation_number permit = 257
evaluation_number deny = 256
evaluation_number (refused_by number) = number

-- To unfold this is to unfold every definition of this file.
unfoldable pub open_evaluate : Unit {0}
unfolding power_steps term_steps sum_steps steps all_fit parts_fit within fits64 some_if evaluate_by permit_if if_many evaluate_read evaluate evaluation_number
open_evaluate = tt
