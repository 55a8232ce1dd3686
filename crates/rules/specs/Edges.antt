-- Request #102 at the edges of 64 bits: conditions of one variable x and of two, x and y, run on readings there.
-- Each is a step that the evaluator must not leave out, or must not take otherwise.
use Rattle.std.specs.Prelude.{◌≡◌, refl, List, [], ◌∷◌, map, ℕ, ℤ, pos, negsuc}
use Rattle.std.proofs.Math.Option.{Option, none, some}
use Rattle.std.proofs.Math.IntN.{pow, one}
use Rattle.rules.specs.Signs.{Kind, >0, ≥0, <0, ∅, named, open_signs}
use Rattle.rules.specs.Polynomial.{Term, Polynomial, Atom, open_polynomial}
use Rattle.rules.specs.Formula.{Parts, end, atom, Node, leaf, all_of, any_of, open_formula}
use Rattle.rules.specs.Bits.{open_bits}
use Rattle.rules.specs.Block.{open_block}
use Rattle.rules.specs.Answer.{open_answer}
use Rattle.rules.specs.Meaning.{monomial_at, value_by, sign_at, atom_holds, all_hold, some_hold, holds, holds_at}
use Rattle.rules.specs.Evaluate.{Evaluation, refused_by, permit, deny, fits64, evaluate_by, permit_if, evaluate, open_evaluate}

abbrev term : ℤ → ℕ → Term
term c m = record { coefficient = c; monomial = m }

abbrev only : Polynomial → Kind → Atom
only p k = record { polynomial = p; set = named k }

-- 2^21, whose cube is 2^63; and the largest reading, 2^31 - 1, with the smallest, -2^31.
abbrev 2^21 : ℤ
2^21 = pos 2097152

abbrev most : ℤ
most = pos 2147483647

abbrev least : ℤ
least = negsuc 2147483647

-- x³ and -x³ of the one variable x; x³ y and y of the two
abbrev x³ : Polynomial
x³ = term (pos 1) 0x3 ∷ []

abbrev -x³ : Polynomial
-x³ = term (negsuc 0) 0x3 ∷ []

abbrev x³y : Polynomial
x³y = term (pos 1) 0x31 ∷ []

abbrev y : Polynomial
y = term (pos 1) 0x01 ∷ []

pub record Run : Type 0 where
  pub readings : List ℤ
  pub tree : Node Atom
  pub gives : Evaluation

unfoldable pub runs : List Run
runs =
    -- -x³ < 0 at 2^21 meets -2^63, which fits: it permits; x³ > 0, the same condition in its normal form, meets 2^63 and is refused
    record { readings = 2^21 ∷ []; tree = leaf (only -x³ <0); gives = permit } ∷
    record { readings = 2^21 ∷ []; tree = leaf (only x³ >0); gives = refused_by 17 } ∷
    -- "A term starts from its coefficient": -1 times 2^21 three times never is 2^63; the power alone would be
    record { readings = 2^21 ∷ []; tree = leaf (only -x³ >0); gives = deny } ∷
    -- a later factor 0 mends nothing
    record { readings = most ∷ pos 0 ∷ []; tree = leaf (only x³y ≥0); gives = refused_by 17 } ∷
    -- every atom is evaluated, also after the result is known, also where its set is empty
    record { readings = most ∷ pos 1 ∷ []; tree = any_of (atom (only y >0) (atom (only x³y >0) end)); gives = refused_by 17 } ∷
    record { readings = most ∷ pos 1 ∷ []; tree = all_of (atom (only y <0) (atom (only x³y ∅) end)); gives = refused_by 17 } ∷
    -- running sums: -2^62 - 2^31 and -2^62 - 2^62 fit, one more -1 does not, nor does 2^62 + 2^62
    record { readings = least ∷ []; tree = leaf (only (term (negsuc 0) 0x2 ∷ term (pos 1) 0x1 ∷ []) <0); gives = permit } ∷
    record { readings = least ∷ least ∷ []; tree = leaf (only (term (negsuc 0) 0x20 ∷ term (negsuc 0) 0x02 ∷ []) <0); gives = permit } ∷
    record {
      readings = least ∷ least ∷ [];
      tree = leaf (only (term (negsuc 0) 0x20 ∷ term (negsuc 0) 0x02 ∷ term (negsuc 0) 0x00 ∷ []) <0);
      gives = refused_by 17;
    } ∷
    record { readings = least ∷ least ∷ []; tree = leaf (only (term (pos 1) 0x20 ∷ term (pos 1) 0x02 ∷ []) >0); gives = refused_by 17 } ∷
    -- "An AND with no children is true, an OR with none is false."
    record { readings = pos 0 ∷ []; tree = all_of end; gives = permit } ∷
    record { readings = pos 0 ∷ []; tree = any_of end; gives = deny } ∷
    []

-- "the base's 2 to 15 keep their order, then 16 if the number of readings is not n": bytes that the reader refuses, and a block of one variable (an AND with
-- no children), with two readings and with one.
abbrev pub too_short : List ℕ
too_short = 0x10 ∷ []

abbrev pub always : List ℕ
always = 0x10 ∷ 0x80 ∷ 0x01 ∷ 0x00 ∷ 0x07 ∷ 0x40 ∷ 0x00 ∷ []
