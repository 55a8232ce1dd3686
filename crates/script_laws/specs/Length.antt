-- How long a script is at most: 2,024,782 bytes. Of the monomials of a polynomial one at most has every exponent at 15, since they fall.
use Rattle.std.specs.Prelude.{Bool, true, false, ◌≡◌, refl, ℕ, zero, suc, ◌+◌, ◌-◌, ◌*◌, ◌/◌, ◌%◌, ◌^◌, ◌<◌, ◌≤◌, ltb, ℤ, pos, negsuc}
use mathlib.Core.List.{List, [], ◌∷◌, ◌++◌}
use Rattle.std.proofs.Common.{sym, ap, subst, subst₂, ◌∙◌, mul_comm, pow-suc, mod-lt, mod-eq_of_lt}
use Rattle.std.proofs.Math.Decide.{dec_lt}
use Rattle.std.proofs.Math.Nat.{pow-zero, one-le-pow}
use native.Mathlib.Omega.{arith}
use Rattle.std.proofs.Math.Arith.{mod-mul}
use Rattle.std.proofs.Math.ListN.{length, length-append}
use Rattle.rules.specs.Polynomial.{Term, Polynomial, Atom, exponent}
use Rattle.rules.specs.Formula.{Parts, end, atom, and, or, Node, leaf, all_of, any_of, each_atom, each_atom_of, is_end, alone, nodes, open_formula}
use Rattle.rules.specs.Block.{NumberedAtom, Block}
use Rattle.rules.specs.Limits.{TermWithin, TermsWithin, no_terms, terms, PolynomialWithin, PartsWithin, BlockWithin}
use Rattle.rules.specs.Answer.{looked_up, formula_of}
use Rattle.sign_laws.specs.Lists.{Every}
use Rattle.ending_laws.specs.Nestings.{alone-each}
use Rattle.ending_laws.specs.Shapes.{nodes-each}
use Rattle.script_laws.specs.PlainBlocks.{every-loaded, table-every}
use Rattle.script_laws.specs.Products.{beyond-sixteen}
use Rattle.rules.specs.Text.{bytes, if_so, digits_within, digits, number_text, power, factors, term_text, summands, polynomial_text, opening, closing}
use Rattle.rules.specs.Text.{parts_text, node_text, root_text, declaration, declarations, formula_text, script_of, open_text}

-- ---- Numbers and products.

length-if : (b : Bool) (few many : List ℕ) {most : ℕ} → length few ≤ most → length many ≤ most → length (if_so b few many) ≤ most
unfolding if_so
length-if true few many h k = h
length-if false few many h k = k

length_digits : (k x : ℕ) → length (digits_within k x) ≤ suc k
unfolding digits_within
length_digits zero x = omega arith
length_digits (suc k) x =
    length-if (ltb x 10) _ _ (omega arith) (rw (length-append (digits_within k (x / 10)) _) (omega (arith, length_digits k (x / 10))))

length-number : (c : ℤ) → length (number_text c) ≤ 14
unfolding number_text digits
length-number (pos x) = omega (arith, length_digits 9 x)
length-number (negsuc x) = rw (length-append (digits_within 9 (suc x)) _) (omega (arith, length_digits 9 (suc x)))

length-power : (i e : ℕ) → length (power i e) ≡ 2 * e
unfolding power
length-power i zero = refl
length-power i (suc e) = omega (arith, length-power i e)

length-factors : (i k m : ℕ) → length (factors i k m) ≤ 30 * k
unfolding factors exponent
length-factors i zero m = omega arith
length-factors i (suc k) m = rw (length-append (power i (exponent m k)) (factors (suc i) k m), length-power i (exponent m k))
    (omega (arith, length-factors (suc i) k m))

sixteens : (k : ℕ) → 0 < 16 ^ k
sixteens k = one-le-pow k 16 (omega arith)

split : (m k : ℕ) → m % 16 ^ suc k ≡ exponent m k * 16 ^ k + m % 16 ^ k
unfolding exponent
split m k = ap (λ (c : ℕ). m % c) (pow-suc 16 k ∙ mul_comm (16 ^ k) 16) ∙ mod-mul m (omega arith) (sixteens k)

-- A number that is not the highest of so many digits has a digit below 15.
below-highest : (e r w : ℕ) → e ≡ 15 → suc (e * w + r) < 16 * w → suc r < w
below-highest e r w is h = let h₁ : suc (15 * w + r) < 16 * w = rw is at h in omega (arith, h₁)

exponent_small : (m k : ℕ) → exponent m k < 16
unfolding exponent
exponent_small m k = mod-lt (m / 16 ^ k) (omega arith)

one_fewer : (i k m : ℕ) → suc (m % 16 ^ k) < 16 ^ k → 2 + length (factors i k m) ≤ 30 * k
unfolding factors
one_fewer i zero m h = absurd (omega (arith, rw (pow-zero 16) at h))
one_fewer i (suc k) m h =
    rw (length-append (power i (exponent m k)) (factors (suc i) k m), length-power i (exponent m k))
    (by-digit (dec_lt (exponent m k) 15) (one_fewer (suc i) k m))
  where
    further : exponent m k ≡ 15 → suc (m % 16 ^ k) < 16 ^ k
    further e = below-highest (exponent m k) (m % 16 ^ k) (16 ^ k) e (subst₂ (λ (a b : ℕ). suc a < b) (split m k) (pow-suc 16 k ∙ mul_comm (16 ^ k) 16) h)

    by-digit : Dec (exponent m k < 15) → (suc (m % 16 ^ k) < 16 ^ k → 2 + length (factors (suc i) k m) ≤ 30 * k)
        → 2 + (2 * exponent m k + length (factors (suc i) k m)) ≤ 30 * suc k
    by-digit (yes low) later = omega (arith, low, length-factors (suc i) k m)
    by-digit (no high) later = omega (arith, exponent_small m k, later (further (omega (arith, high, exponent_small m k))))

-- ---- Terms and polynomials of at most 16 variables.

module _ (n : ℕ) (few : n ≤ 16) where
  -- A term whose product has so many bytes.
  term-by : (t : Term) {most : ℕ} → length (factors 0 n t.monomial) ≤ most → length (term_text n t) ≤ 18 + most
  unfolding term_text
  term-by t h = length-if (ltb 0 t.monomial) _ _
      (rw (length-append (number_text t.coefficient) _, length-append (factors 0 n t.monomial) _) (omega (arith, h, length-number t.coefficient)))
      (omega (arith, length-number t.coefficient))

  length-term : (t : Term) → length (term_text n t) ≤ 498
  length-term t = omega (arith, term-by t (length-factors 0 n t.monomial), few)

  -- Below the highest monomial.
  length-lower : (t : Term) → suc t.monomial < 2 ^ (4 * n) → length (term_text n t) ≤ 496
  length-lower t h =
      let h₁ : suc t.monomial < 16 ^ n = rw (beyond-sixteen n) at h in
      let here : t.monomial % 16 ^ n ≡ t.monomial = mod-eq_of_lt (omega (arith, h₁)) in
      omega (arith, few, term-by t {most = 478} (omega (arith, few, one_fewer 0 n t.monomial (rw here h₁))))

  length-summands : (p : Polynomial) {above : ℕ} → above < 2 ^ (4 * n) → TermsWithin above p → length (summands n p) ≤ 497 * length p
  unfolding summands
  length-summands [] low no_terms = omega arith
  length-summands (t ∷ ts) low (terms h hs) = rw (length-append (term_text n t) (summands n ts))
      (omega (arith, length-lower t (omega (arith, h.falls, low)), length-summands ts (omega (arith, h.falls, low)) hs))

  pub length-polynomial : (p : Polynomial) → PolynomialWithin n p → length (polynomial_text n p) ≤ 7957
  unfolding polynomial_text summands
  length-polynomial [] h = omega arith
  length-polynomial (t ∷ []) h = omega (arith, length-term t)
  length-polynomial (t ∷ u ∷ us) h = with-first h.each
    where
      with-first : TermsWithin (2 ^ (4 * n)) (t ∷ u ∷ us) → length (polynomial_text n (t ∷ u ∷ us)) ≤ 7957
      with-first (terms k ks) = rw (length-append (term_text n t ++ summands n (u ∷ us)) _, length-append (term_text n t) (summands n (u ∷ us)))
          (omega (arith, length-term t, h.at-most, length-summands (u ∷ us) k.falls ks))

-- ---- The tree.

-- Each atom's polynomial is within the limits.
unfoldable pub EachWithin : ℕ → Parts Atom → Type 0
EachWithin n end = Unit {0}
EachWithin n (atom a rest) = PolynomialWithin n a.polynomial × EachWithin n rest
EachWithin n (and kids rest) = EachWithin n kids × EachWithin n rest
EachWithin n (or kids rest) = EachWithin n kids × EachWithin n rest

looked-within : {n : ℕ} {table : List Polynomial} → Every (PolynomialWithin n) table → (d parent : ℕ) (parts : Parts NumberedAtom) → PartsWithin d (length table) parent parts
    → EachWithin n (each_atom (looked_up table) parts)
unfolding EachWithin PartsWithin each_atom looked_up
looked-within table d parent end h = tt
looked-within table d parent (atom a rest) h = (every-loaded a.number h.0 table, looked-within table d parent rest h.2)
looked-within table d parent (and kids rest) h = (looked-within table (d - 1) 1 kids h.2, looked-within table d parent rest h.3)
looked-within table d parent (or kids rest) h = (looked-within table (d - 1) 2 kids h.2, looked-within table d parent rest h.3)

length-opening : (s : ℕ) → length (opening s) ≤ 8
unfolding opening
length-opening zero = omega arith
length-opening (suc zero) = omega arith
length-opening (suc (suc zero)) = omega arith
length-opening (suc (suc (suc zero))) = omega arith
length-opening (suc (suc (suc (suc zero)))) = omega arith
length-opening (suc (suc (suc (suc (suc zero))))) = omega arith
length-opening (suc (suc (suc (suc (suc (suc s)))))) = omega arith

length-closing : (s : ℕ) → length (closing s) ≤ 3
unfolding closing
length-closing zero = omega arith
length-closing (suc zero) = omega arith
length-closing (suc (suc zero)) = omega arith
length-closing (suc (suc (suc zero))) = omega arith
length-closing (suc (suc (suc (suc zero)))) = omega arith
length-closing (suc (suc (suc (suc (suc zero))))) = omega arith
length-closing (suc (suc (suc (suc (suc (suc s)))))) = omega arith

module _ (n : ℕ) (few : n ≤ 16) where
  length-parts : (parts : Parts Atom) → EachWithin n parts → length (parts_text n parts) ≤ 7970 * nodes parts
  unfolding parts_text nodes EachWithin
  length-parts end h = omega arith
  length-parts (atom a rest) h =
      rw (length-append (opening a.set) _, length-append (polynomial_text n a.polynomial) _, length-append (closing a.set) (parts_text n rest))
      (omega (arith, length-opening a.set, length-closing a.set, length-polynomial n few a.polynomial h.0, length-parts rest h.1))
  length-parts (and kids rest) h =
      rw (length-append (parts_text n kids) _) (omega (arith, length-parts kids h.0, length-parts rest h.1))
  length-parts (or kids rest) h =
      rw (length-append (parts_text n kids) _) (omega (arith, length-parts kids h.0, length-parts rest h.1))

  -- An AND or an OR with one node to itself.
  length-join : (beginning : List ℕ) (kids : Parts Atom) → length beginning ≤ 4 → EachWithin n kids → 1 + nodes kids + 0 ≤ 255
      → length (beginning ++ (parts_text n kids ++ (41 ∷ []))) ≤ 2024385
  length-join beginning kids short h most =
      rw (length-append beginning (parts_text n kids ++ (41 ∷ [])), length-append (parts_text n kids) (41 ∷ [])) (omega (arith, short, most, length-parts kids h))

  length-root : (tree : Node Atom) → EachWithin n (alone tree) → nodes (alone tree) ≤ 255 → length (root_text n tree) ≤ 2024385
  unfolding root_text node_text EachWithin open_formula
  length-root (leaf a) h most =
      rw (length-append (opening a.set) _, length-append (polynomial_text n a.polynomial) _)
      (omega (arith, length-opening a.set, length-closing a.set, length-polynomial n few a.polynomial h.0))
  length-root (all_of kids) h most = length-if (is_end kids) _ _ (omega arith) (length-join (bytes "(and") kids (omega arith) h.0 most)
  length-root (any_of kids) h most = length-if (is_end kids) _ _ (omega arith) (length-join (bytes "(or") kids (omega arith) h.0 most)

length-declarations : (i k : ℕ) → length (declarations i k) ≡ 23 * k
unfolding declarations declaration
length-declarations i zero = refl
length-declarations i (suc k) = omega (arith, length-declarations (suc i) k)

-- The script of a block within the limits, plain or not.
pub script-length : (block : Block) → BlockWithin block → length (script_of block) ≤ 2024782
unfolding script_of formula_text formula_of
script-length block within =
    let n = block.variables in
    let seen = looked_up block.table in
    let whole = alone-each seen block.tree in
    let each = subst (EachWithin n) whole (looked-within (table-every within.table) 6 0 (alone block.tree) within.tree) in
    let most : nodes (alone (each_atom_of seen block.tree)) ≤ 255 = omega (arith, within.nodes, ap nodes whole, nodes-each seen (alone block.tree)) in
    let root = length-root n within.variables (each_atom_of seen block.tree) each most in
    rw (length-append (declarations 0 n) _, length-append (root_text n (each_atom_of seen block.tree)) _, length-declarations 0 n)
    (omega (arith, root, within.variables))
