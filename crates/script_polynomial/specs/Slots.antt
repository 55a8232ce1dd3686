-- The slots of the known polynomials: how a term is compared, and the texts of those in them.
use Rattle.std.specs.Prelude.{Bool, ◌&&◌, List, [], ◌∷◌, ◌++◌, ℕ, zero, suc, ◌+◌, ◌-◌, ◌*◌, ◌<◌, ◌≤◌, eqb, ℤ, pos, length, get_or}
use Rattle.rules.specs.Polynomial.{Polynomial, same_number}
use Rattle.rules.specs.Limits.{PolynomialWithin}
use Rattle.forms.specs.Slots.{slot_of}
use Rattle.rules.specs.Text.{bytes, polynomial_text}
use Rattle.script_polynomial.specs.Agreement.{common}
use Rattle.script_polynomial.specs.Terms.{Room}

-- Whether term i of one pair of arrays is the one at a place of another.
abbrev pub same_at : List ℤ → List ℕ → List ℤ → List ℕ → ℕ → ℕ → Bool
same_at cs ms vs ps place i = eqb (get_or ps i 0) (get_or ms place 0) && same_number (get_or vs i (pos 0)) (get_or cs place (pos 0))

-- The larger of two numbers.
abbrev pub larger : ℕ → ℕ → ℕ
larger a b = a + (b - a)

-- "the position is the longest agreement with any of the 64": the length of the longest common beginning of a text and any of these.
unfoldable pub agreement : List (List ℕ) → List ℕ → ℕ
agreement [] t = 0
agreement (s ∷ texts) t = let later = agreement texts t in larger (common s t) later

-- The text of a polynomial with its space.
abbrev pub spaced_text : ℕ → Polynomial → List ℕ
spaced_text n p = polynomial_text n p ++ bytes " "

-- That of the one in a slot, and of those in k slots from i on.
abbrev pub text_at : ℕ → List ℤ → List ℕ → List ℕ → ℕ → List ℕ
text_at n cs ms ts i = spaced_text n (slot_of cs ms ts i)

unfoldable pub texts_from : ℕ → List ℤ → List ℕ → List ℕ → ℕ → ℕ → List (List ℕ)
texts_from n cs ms ts i zero = []
texts_from n cs ms ts i (suc k) = text_at n cs ms ts i ∷ texts_from n cs ms ts (suc i) k

-- A slot holds a polynomial within the limits.
pub record SlotWithin (cs : List ℤ) (ms ts : List ℕ) (n slot : ℕ) : Type 0 where
  pub variables : n ≤ 16
  pub counts : slot < length ts
  pub room : Room cs ms (16 * slot) (get_or ts slot 0)
  pub within : PolynomialWithin n (slot_of cs ms ts slot)
