-- #112: "Simplify a block and write the answer as a script in the integer logic QF_NIA: one declaration for each variable, then one assertion of the
-- tree." The text of a formula with n variables, and which formulas have one.
use Rattle.std.specs.Prelude.{Bool, true, false, List, [], ◌∷◌, ◌++◌, ◌≡◌, ℕ, zero, suc, ◌+◌, ◌-◌, ◌*◌, ◌/◌, ◌<◌, ◌≤◌, ltb, ℤ, pos, negsuc}
use Prim.Native.Char.{code}
use Prim.Native.String.{String}
use Rattle.rules.specs.Signs.{SignSet}
use Rattle.rules.specs.Polynomial.{Term, Polynomial, Atom, exponent}
use Rattle.rules.specs.Formula.{Parts, end, atom, and, or, Node, leaf, all_of, any_of, alone, is_end, children}
use Rattle.rules.specs.Block.{Block}
use Rattle.rules.specs.Limits.{BlockWithin}
use Rattle.rules.specs.Answer.{formula_of, block_of}
use Rattle.rules.specs.Report.{digit}

-- The bytes of a quoted text.
abbrev pub bytes : String → List ℕ
bytes String.[] = []
bytes (String.◌∷◌ c s) = code c ∷ bytes s

-- A number in decimal digits, at most so many and one.
unfoldable pub if_so : Bool → List ℕ → List ℕ → List ℕ
if_so true few many = few
if_so false few many = many

unfoldable pub digits_within : ℕ → ℕ → List ℕ
digits_within zero x = digit x ∷ []
digits_within (suc k) x = let many = digits_within k (x / 10) ++ (digit x ∷ []) in if_so (ltb x 10) (digit x ∷ []) many

-- 2147483647 has ten digits.
unfoldable pub digits : ℕ → List ℕ
digits x = digits_within 9 x

-- "negative numbers use the unary minus of that language"
unfoldable pub number_text : ℤ → List ℕ
number_text (pos x) = digits x
number_text (negsuc x) = bytes "(- " ++ (digits (suc x) ++ bytes ")")

-- The variables are a, b, c and so on.
unfoldable pub letter : ℕ → ℕ
letter i = 97 + i

-- "Powers become repeated products": each variable as often as its exponent says, a space before it.
unfoldable pub power : ℕ → ℕ → List ℕ
power i zero = []
power i (suc e) = bytes " " ++ (letter i ∷ power i e)

-- The variables from i on, of which there are so many.
unfoldable pub factors : ℕ → ℕ → ℕ → List ℕ
factors i zero m = []
factors i (suc k) m = power i (exponent m k) ++ factors (suc i) k m

-- The constant term is its number alone; "the coefficient is always written, also 1".
unfoldable pub term_text : ℕ → Term → List ℕ
term_text n t = if_so (ltb 0 t.monomial) (bytes "(* " ++ (number_text t.coefficient ++ (factors 0 n t.monomial ++ bytes ")"))) (number_text t.coefficient)

-- The terms of a sum, each behind a space.
unfoldable pub summands : ℕ → Polynomial → List ℕ
summands n [] = []
summands n (t ∷ ts) = bytes " " ++ (term_text n t ++ summands n ts)

unfoldable pub polynomial_text : ℕ → Polynomial → List ℕ
polynomial_text n [] = []
polynomial_text n (t ∷ []) = term_text n t
polynomial_text n (t ∷ u ∷ us) = bytes "(+" ++ (summands n (t ∷ u ∷ us) ++ bytes ")")

-- "≠ is the negation of an equality": what stands before, and behind a space after, the polynomial of an atom with this set.
unfoldable pub opening : SignSet → List ℕ
opening zero = []
opening (suc zero) = bytes "(> "
opening (suc (suc zero)) = bytes "(= "
opening (suc (suc (suc zero))) = bytes "(>= "
opening (suc (suc (suc (suc zero)))) = bytes "(< "
opening (suc (suc (suc (suc (suc zero))))) = bytes "(not (= "
opening (suc (suc (suc (suc (suc (suc s)))))) = bytes "(<= "

unfoldable pub closing : SignSet → List ℕ
closing zero = []
closing (suc zero) = bytes "0)"
closing (suc (suc zero)) = bytes "0)"
closing (suc (suc (suc zero))) = bytes "0)"
closing (suc (suc (suc (suc zero)))) = bytes "0)"
closing (suc (suc (suc (suc (suc zero))))) = bytes "0))"
closing (suc (suc (suc (suc (suc (suc s)))))) = bytes "0)"

-- The parts of an AND or an OR, each behind a space.
unfoldable pub parts_text : ℕ → Parts Atom → List ℕ
parts_text n end = []
parts_text n (atom a rest) = bytes " " ++ (opening a.set ++ (polynomial_text n a.polynomial ++ (bytes " " ++ (closing a.set ++ parts_text n rest))))
parts_text n (and kids rest) = bytes " (and" ++ (parts_text n kids ++ (bytes ")" ++ parts_text n rest))
parts_text n (or kids rest) = bytes " (or" ++ (parts_text n kids ++ (bytes ")" ++ parts_text n rest))

unfoldable pub node_text : ℕ → Node Atom → List ℕ
node_text n (leaf a) = opening a.set ++ (polynomial_text n a.polynomial ++ (bytes " " ++ closing a.set))
node_text n (all_of kids) = bytes "(and" ++ (parts_text n kids ++ bytes ")")
node_text n (any_of kids) = bytes "(or" ++ (parts_text n kids ++ bytes ")")

-- "ALWAYS and UNSATISFIABLE are true and false"
unfoldable pub root_text : ℕ → Node Atom → List ℕ
root_text n (leaf a) = node_text n (leaf a)
root_text n (all_of kids) = if_so (is_end kids) (bytes "true") (node_text n (all_of kids))
root_text n (any_of kids) = if_so (is_end kids) (bytes "false") (node_text n (any_of kids))

-- "one declaration for each variable": those from i on, of which there are so many.
unfoldable pub declaration : ℕ → List ℕ
declaration i = bytes "(declare-fun " ++ (letter i ∷ bytes " () Int)\n")

unfoldable pub declarations : ℕ → ℕ → List ℕ
declarations i zero = []
declarations i (suc k) = declaration i ++ declarations (suc i) k

unfoldable pub formula_text : ℕ → Node Atom → List ℕ
formula_text n tree = bytes "(set-logic QF_NIA)\n" ++ (declarations 0 n ++ (bytes "(assert " ++ (root_text n tree ++ bytes ")\n")))

unfoldable pub script_of : Block → List ℕ
script_of block = formula_text block.variables (formula_of block)

-- ---- Which blocks have a script.

-- "with no set empty or full and no AND or OR of fewer than two children"
unfoldable pub PlainParts : Parts Atom → Type 0
PlainParts end = Unit {0}
PlainParts (atom a rest) = (0 < a.set) × (a.set < 7) × PlainParts rest
PlainParts (and kids rest) = (2 ≤ children kids) × PlainParts kids × PlainParts rest
PlainParts (or kids rest) = (2 ≤ children kids) × PlainParts kids × PlainParts rest

-- "save true and false at the root"
pub data PlainTree : Node Atom → Type 0 where
  plain_true : PlainTree (all_of end)
  plain_false : PlainTree (any_of end)
  plain_tree : {tree : Node Atom} → PlainParts (alone tree) → PlainTree tree

-- "the script of any accepted block that lists only used polynomials, each once, by first use": its table is the one that its formula makes.
pub record Plain (block : Block) : Type 0 where
  pub accepted : BlockWithin block
  pub listed : block_of block.variables (formula_of block) ≡ block
  pub plain : PlainTree (formula_of block)

-- To unfold this is to unfold every definition of this file.
unfoldable pub open_text : Unit {0}
unfolding if_so digits_within digits number_text letter power factors term_text summands polynomial_text opening closing parts_text node_text root_text declaration declarations formula_text script_of
open_text = tt
