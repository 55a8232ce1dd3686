-- The words of a form on a board, as the code has them, and the test of the words of p, q1 and q2 with factors of either sign.
-- `MayCut` says what is known where no words pass: the tries of such a pair leave the set as it is.
use Rattle.std.specs.Prelude.{◌≡◌, Bool, false, not, ◌&&◌, ◌||◌, List, ℕ, ◌%◌, eqb, leb, ℤ}
use Rattle.std.specs.Int.Bits.{bit_or}
use Rattle.rules.specs.Signs.{SignSet, Kind, negative, positive, sign_of}
use Rattle.rules.specs.Polynomial.{Polynomial, Board}
use Rattle.rules.specs.TwoAtoms.{non_positive, non_negative}
use Rattle.deduction_laws.specs.FractionSets.{Side, L, U}
use Rattle.terms.specs.Signed.{Signed}
use Rattle.deduce.specs.Runs.{polynomial_of}
use Rattle.deduce.specs.declared.Run.{Run}
use Rattle.two_atoms.specs.declared.pair.Pair.{Pair}
use Rattle.two_atoms.specs.Tries.{CutByPair}
use Rattle.masks.specs.declared.Mask.{Mask}
use Rattle.masks.specs.Weights.{weigh, word}

-- r are the words of a term
pub record Weighed (c : ℤ) (m : ℕ) (s : SignSet) (r : Mask) : Type 0 where
  pub negative : r.negative ≡ weigh negative (sign_of c) m s
  pub positive : r.positive ≡ weigh positive (sign_of c) m s

-- r are the words of a polynomial
pub record MaskOn (board : Board) (p : Polynomial) (r : Mask) : Type 0 where
  pub negative : r.negative ≡ word negative board p
  pub positive : r.positive ≡ word positive board p

-- r are the words of the polynomial at a run of places, on each board whose signs these are
pub record MaskOf (cs : List ℤ) (ms : List ℕ) (ss : List SignSet) (run : Run) (r : Mask) : Type 0 where
  pub on : {board : Board} → Signed board ms ss run.from run.to → MaskOn board (polynomial_of cs ms run) r

-- the words of two forms together, and those of a form times a number below 0
abbrev pub joined : Mask → Mask → Mask
joined a b = record { negative = bit_or a.negative b.negative; positive = bit_or a.positive b.positive }

abbrev pub swapped : Mask → Mask
swapped a = record { negative = a.positive; positive = a.negative }

-- ---- the test ≥

-- each negative part may meet a positive one
abbrev pub covered : Mask → Bool
covered a = eqb (bit_or a.negative a.positive) a.positive

-- the words of u·q for the u of either sign for which it is never positive, by q's set: whether some pass a test
unfoldable pub some_way : Kind → (Mask → Bool) → Mask → Bool
some_way k test q = (non_positive k && test q) || (non_negative k && test (swapped q))

unfoldable pub some_second : Mask → Mask → Kind → Bool
some_second a q2 k2 = some_way k2 (λ (b : Mask). covered (joined a b)) q2

unfoldable pub some_both : Mask → Mask → Kind → Mask → Kind → Bool
some_both p q1 k1 q2 k2 = some_way k1 (λ (a : Mask). some_second (joined p a) q2 k2) q1

-- the mirrored test of p is the test ≥ of p times a number below 0, with factors of the other sign
abbrev pub facing : Side → Mask → Mask
facing L a = a
facing U a = swapped a

-- whether a finding of the test ≥ (≤) can change a set
abbrev pub cuts : Side → SignSet → Bool
cuts L s = leb 2 s
cuts U s = not (eqb (s % 4) 0)

-- ---- the tries of a pair

-- the three forms of a pair
pub record MasksOf (cs : List ℤ) (ms : List ℕ) (ss : List SignSet) (x : Pair) (a b c : Mask) : Type 0 where
  pub p : MaskOf cs ms ss x.p a
  pub q1 : MaskOf cs ms ss x.q1 b
  pub q2 : MaskOf cs ms ss x.q2 c

-- where r is false the tries of a pair with these words and sets leave the set as it is
pub record MayCut (p q1 q2 : Mask) (set1 set2 set : SignSet) (r : Bool) : Type 0 where
  pub leaves : r ≡ false → {cs : List ℤ} {ms : List ℕ} {ss : List SignSet} {x : Pair} → MasksOf cs ms ss x p q1 q2 → x.set1 ≡ set1 → x.set2 ≡ set2
      → (all : Bool) → CutByPair cs ms ss x all set set
