-- The texts by their runs, as the code writes them: numbers digit by digit, powers letter by letter, polynomials term by term.
use mathlib.Core.Path.{◌≡◌, refl, sym, ap, ◌∙◌}
use mathlib.Core.List.{List, [], ◌∷◌, ◌++◌}
use Prim.Native.Nat.{ℕ, zero, suc, ◌+◌, ◌-◌, ◌*◌, ◌/◌, ◌%◌, ◌^◌, ◌<◌, ◌≤◌}
use native.Mathlib.Numerals.{add-one}
use native.Mathlib.Omega.{arith}
use borrow.Author.Tests.{lt-ltb, le-ltb, eq-eqb, ne_eqb}
use lib.Dec.{eqb, ltb}
use lib.IntN.{ℤ, pos, negsuc, nat_abs}
use lib.ListN.{length, get_or, set, take}
use lib.Seq.{set_out, take-suc}
use Rattle.rules.specs.Polynomial.{Polynomial, Atom, exponent}
use Rattle.rules.specs.Formula.{leaf}
use Rattle.rules.specs.Block.{minus_bit}
use Rattle.rules.specs.Report.{digit}
use Rattle.terms.specs.View.{term_at, terms_from}
use Rattle.terms.specs.Exponents.{exponent-shifted}
use Rattle.lines.specs.Written.{Wrote, wrote_nothing}
use Rattle.rules.specs.Text.{bytes, if_so, digits_within, digits, number_text, letter, power, factors, term_text, summands, polynomial_text}
use Rattle.rules.specs.Text.{opening, closing, node_text, declaration, declarations}
use Rattle.script_text.specs.Runs.{Split}
use Rattle.script_text.specs.Tree.{join_text, none_text}

-- ---- One byte.

pub byte_past : {text : List ℕ} {at : ℕ} (byte : ℕ) → length text ≤ at → Wrote text text at (byte ∷ []) (at + 1)
byte_past {text} {at} byte h = record { stored = sym (set_out text at byte h); behind = refl }

pub byte-stored : {text : List ℕ} {at byte : ℕ} → Wrote text (set text at byte) at (byte ∷ []) (at + 1)
byte-stored = record { stored = refl; behind = refl }

-- A byte more of a run.
pub first_more : (run : List ℕ) (i : ℕ) → i < length run → take i run ++ (get_or run i 0 ∷ []) ≡ take (i + 1) run
first_more run i h = rw (add-one, take-suc run i 0 h)

-- ---- Numbers.

module _ (most x : ℕ) where
  pub digits-first : most ≡ 0 → digit x ∷ [] ≡ digits_within most x
  unfolding digits_within
  digits-first e = rw e refl

  pub digits_low : (most ≡ 0 → ⊥) → x < 10 → digit x ∷ [] ≡ digits_within most x
  unfolding digits_within if_so
  digits_low some low = by most some
    where
      by : (k : ℕ) → (k ≡ 0 → ⊥) → digit x ∷ [] ≡ digits_within k x
      by zero none = absurd (none refl)
      by (suc k) none = rw (lt-ltb x 10 low) refl

  pub digits-high : (most ≡ 0 → ⊥) → 10 ≤ x → Split (digits_within most x) (digits_within (most - 1) (x / 10)) (digit x ∷ [])
  unfolding digits_within if_so
  digits-high some high = by most some
    where
      by : (k : ℕ) → (k ≡ 0 → ⊥) → Split (digits_within k x) (digits_within (k - 1) (x / 10)) (digit x ∷ [])
      by zero none = absurd (none refl)
      by (suc k) none = let e : suc k - 1 ≡ k = omega arith in record { whole_is = rw (e, le-ltb x 10 high) refl }

plain-number : (c : ℤ) → minus_bit c ≡ 0 → digits_within 9 (nat_abs c) ≡ number_text c
unfolding number_text digits minus_bit
plain-number (pos x) e = refl
plain-number (negsuc x) e = absurd (omega (arith, e))

minus-number : (c : ℤ) → (minus_bit c ≡ 0 → ⊥) → bytes "(- " ++ (digits_within 9 (nat_abs c) ++ bytes ")") ≡ number_text c
unfolding number_text digits minus_bit
minus-number (pos x) h = absurd (h refl)
minus-number (negsuc x) h = refl

-- A number by its minus bit and its magnitude.
module _ (c : ℤ) {minus magnitude : ℕ} (sign : minus ≡ minus_bit c) (size : magnitude ≡ nat_abs c) where
  pub number-plain : minus ≡ 0 → digits_within 9 magnitude ≡ number_text c
  number-plain e = rw size (plain-number c (sym sign ∙ e))

  pub number-minus : (minus ≡ 0 → ⊥) → Split (number_text c) (bytes "(- ") (digits_within 9 magnitude ++ bytes ")")
  number-minus h = record { whole_is = rw size (minus-number c (λ e. h (sign ∙ e))) }

-- ---- Powers.

module _ (i : ℕ) where
  pub power-none : (e : ℕ) → e ≡ 0 → {text : List ℕ} {at : ℕ} → Wrote text text at (power i e) at
  unfolding power
  power-none e z = rw z wrote_nothing

  pub power-more : (e : ℕ) → (e ≡ 0 → ⊥) → Split (power i e) (bytes " ") ((97 + i) ∷ power i (e - 1))
  unfolding power letter
  power-more zero none = absurd (none refl)
  power-more (suc e) none = let k : suc e - 1 ≡ e = omega arith in record { whole_is = rw k refl }

pub factors-none : (i k m : ℕ) → k ≡ 0 → {text : List ℕ} {at : ℕ} → Wrote text text at (factors i k m) at
unfolding factors
factors-none i k m z = rw z wrote_nothing

pub factors-more : (i k m : ℕ) → (k ≡ 0 → ⊥) → Split (factors i k m) (power i (m / 2 ^ (4 * (k - 1)) % 16)) (factors (i + 1) (k - 1) m)
unfolding factors
factors-more i zero m none = absurd (none refl)
factors-more i (suc k) m none = let e : suc k - 1 ≡ k = omega arith in record { whole_is = rw (e, exponent-shifted m k, add-one) refl }

-- ---- Terms and polynomials.

module _ (n : ℕ) {value : ℤ} (c : ℤ) (m : ℕ) (same : value ≡ c) where
  pub term-constant : m ≡ 0 → number_text value ≡ term_text n (record { coefficient = c; monomial = m })
  unfolding term_text if_so
  term-constant z = rw (same, z) refl

  pub term-product : (m ≡ 0 → ⊥) → Split (term_text n (record { coefficient = c; monomial = m })) (bytes "(* ") (number_text value ++ (factors 0 n m ++ bytes ")"))
  unfolding term_text if_so
  term-product some = record { whole_is = rw (same, lt-ltb 0 m (omega (arith, some))) refl }

module _ (n : ℕ) (cs : List ℤ) (ms : List ℕ) (k count : ℕ) where
  pub summands-none : count ≡ 0 → {text : List ℕ} {at : ℕ} → Wrote text text at (summands n (terms_from cs ms k count)) at
  unfolding summands terms_from
  summands-none z = rw z wrote_nothing

  pub summands-more : (count ≡ 0 → ⊥) → {value : ℤ} → value ≡ get_or cs k (pos 0) → Split (summands n (terms_from cs ms k count)) (bytes " ")
      (term_text n (record { coefficient = value; monomial = get_or ms k 0 }) ++ summands n (terms_from cs ms (k + 1) (count - 1)))
  unfolding summands terms_from
  summands-more some same = record { whole_is = rw same (by count some) }
    where
      by : (j : ℕ) → (j ≡ 0 → ⊥) → bytes " " ++ (term_text n (term_at cs ms k) ++ summands n (terms_from cs ms (k + 1) (j - 1))) ≡ summands n (terms_from cs ms k j)
      by zero none = absurd (none refl)
      by (suc j) none = let e : suc j - 1 ≡ j = omega arith in rw (e, add-one) refl

  pub polynomial-none : count ≡ 0 → {text : List ℕ} {at : ℕ} → Wrote text text at (polynomial_text n (terms_from cs ms k count)) at
  unfolding polynomial_text terms_from
  polynomial-none z = rw z wrote_nothing

  pub polynomial-one : count ≡ 1 → {value : ℤ} → value ≡ get_or cs k (pos 0)
      → term_text n (record { coefficient = value; monomial = get_or ms k 0 }) ≡ polynomial_text n (terms_from cs ms k count)
  unfolding polynomial_text terms_from
  polynomial-one one same = rw (one, same) refl

  pub polynomial-many : (count ≡ 0 → ⊥) → (count ≡ 1 → ⊥) → Split (polynomial_text n (terms_from cs ms k count)) (bytes "(+") (summands n (terms_from cs ms k count) ++ bytes ")")
  unfolding polynomial_text terms_from
  polynomial-many some more = record { whole_is = by count some more }
    where
      by : (j : ℕ) → (j ≡ 0 → ⊥) → (j ≡ 1 → ⊥) → bytes "(+" ++ (summands n (terms_from cs ms k j) ++ bytes ")") ≡ polynomial_text n (terms_from cs ms k j)
      by zero none one = absurd (none refl)
      by (suc zero) none one = absurd (one refl)
      by (suc (suc j)) none one = refl

-- ---- Declarations.

module _ (i k : ℕ) where
  pub declarations-none : k ≡ 0 → {text : List ℕ} {at : ℕ} → Wrote text text at (declarations i k) at
  unfolding declarations
  declarations-none z = rw z wrote_nothing

  pub declarations-more : (k ≡ 0 → ⊥)
      → Split (declarations i k) (bytes "(declare-fun ") (((97 + i) ∷ []) ++ (bytes " () Int)\n" ++ declarations (i + 1) (k - 1)))
  unfolding declarations declaration letter
  declarations-more some = record { whole_is = by k some }
    where
      by : (j : ℕ) → (j ≡ 0 → ⊥) → bytes "(declare-fun " ++ ((97 + i) ∷ (bytes " () Int)\n" ++ declarations (i + 1) (j - 1))) ≡ declarations i j
      by zero none = absurd (none refl)
      by (suc j) none = let e : suc j - 1 ≡ j = omega arith in rw (e, add-one) refl

-- ---- Atoms and joins.

-- What stands before a polynomial, by the set,
module _ (s : ℕ) where
  pub opening-empty : s ≡ 0 → [] ≡ opening s
  unfolding opening
  opening-empty e = rw e refl

  pub opening-above : s ≡ 1 → bytes "(> " ≡ opening s
  unfolding opening
  opening-above e = rw e refl

  pub opening-equal : s ≡ 2 → bytes "(= " ≡ opening s
  unfolding opening
  opening-equal e = rw e refl

  pub opening-least : s ≡ 3 → bytes "(>= " ≡ opening s
  unfolding opening
  opening-least e = rw e refl

  pub opening-below : s ≡ 4 → bytes "(< " ≡ opening s
  unfolding opening
  opening-below e = rw e refl

  pub opening-other : s ≡ 5 → bytes "(not (= " ≡ opening s
  unfolding opening
  opening-other e = rw e refl

pub opening-most : (s : ℕ) → (s ≡ 0 → ⊥) → (s ≡ 1 → ⊥) → (s ≡ 2 → ⊥) → (s ≡ 3 → ⊥) → (s ≡ 4 → ⊥) → (s ≡ 5 → ⊥) → bytes "(<= " ≡ opening s
unfolding opening
opening-most zero a b c d e f = absurd (a refl)
opening-most (suc zero) a b c d e f = absurd (b refl)
opening-most (suc (suc zero)) a b c d e f = absurd (c refl)
opening-most (suc (suc (suc zero))) a b c d e f = absurd (d refl)
opening-most (suc (suc (suc (suc zero)))) a b c d e f = absurd (e refl)
opening-most (suc (suc (suc (suc (suc zero))))) a b c d e f = absurd (f refl)
opening-most (suc (suc (suc (suc (suc (suc s)))))) a b c d e f = refl

-- and behind it.
pub closing-empty : (s : ℕ) → s ≡ 0 → [] ≡ closing s
unfolding closing
closing-empty s e = rw e refl

pub closing-other : (s : ℕ) → s ≡ 5 → bytes "0))" ≡ closing s
unfolding closing
closing-other s e = rw e refl

pub closing-one : (s : ℕ) → (s ≡ 0 → ⊥) → (s ≡ 5 → ⊥) → bytes "0)" ≡ closing s
unfolding closing
closing-one zero a b = absurd (a refl)
closing-one (suc zero) a b = refl
closing-one (suc (suc zero)) a b = refl
closing-one (suc (suc (suc zero))) a b = refl
closing-one (suc (suc (suc (suc zero)))) a b = refl
closing-one (suc (suc (suc (suc (suc zero))))) a b = absurd (b refl)
closing-one (suc (suc (suc (suc (suc (suc s)))))) a b = refl

-- An atom.
pub atom-split : (n : ℕ) (a : Atom) → Split (node_text n (leaf a)) (opening a.set) (polynomial_text n a.polynomial ++ (bytes " " ++ closing a.set))
unfolding node_text
atom-split n a = record { whole_is = refl }

-- What an AND or an OR begins with, and one of none, by the kind.
module _ (kind : ℕ) where
  pub join-and : kind ≡ 1 → bytes "(and" ≡ join_text kind
  unfolding join_text if_so
  join-and e = rw (eq-eqb kind 1 e) refl

  pub join-or : (kind ≡ 1 → ⊥) → bytes "(or" ≡ join_text kind
  unfolding join_text if_so
  join-or h = rw (ne_eqb kind 1 h) refl

  pub none-and : kind ≡ 1 → bytes "true" ≡ none_text kind
  unfolding none_text if_so
  none-and e = rw (eq-eqb kind 1 e) refl

  pub none_or : (kind ≡ 1 → ⊥) → bytes "false" ≡ none_text kind
  unfolding none_text if_so
  none_or h = rw (ne_eqb kind 1 h) refl
