-- Counting the forms that a tape uses, over the slots of its order: which of them are constants, one slot after the other, and all.
use mathlib.Core.Path.{◌≡◌, refl, sym, ap, ◌∙◌}
use mathlib.Core.Bool.{Bool, true, false, false≢true, true≢false}
use mathlib.Core.List.{List, [], map}
use mathlib.Core.Option.{Option, none, some}
use Prim.Native.Nat.{ℕ, ◌+◌, ◌*◌, ◌-◌, ◌<◌, ◌≤◌}
use native.Mathlib.Omega.{arith}
use lib.Dec.{eqb}
use lib.IntN.{ℤ, pos}
use lib.ListN.{length, get_or, take, replicate, length-replicate}
use Rattle.rules.specs.Polynomial.{Polynomial, only_if, constant}
use Rattle.rules.specs.Formula.{Node, alone, each_atom_of}
use Rattle.rules.specs.Block.{NumberedAtom}
use Rattle.rules.specs.Answer.{used, unless_constant, without_constants}
use Rattle.terms.specs.View.{numbers_from, numbers-cons, numbers-nil}
use Rattle.table.specs.Table.{Table, form_at, Forms}
use Rattle.table.specs.Constants.{many-terms, no_terms, one-term}
use Rattle.used.specs.Tape.{lent, in_slot, forms_in, Holds}
use Rattle.used.specs.FirstUse.{order_of, Ordered, is_some}
use Rattle.used.proofs.Collected.{order-listed, table_is}

-- ---- A constant, by the count of terms.

some-if : (b : Bool) (c : ℤ) → is_some (only_if b c) ≡ b
unfolding is_some only_if
some-if true c = refl
some-if false c = refl

module _ (n : ℕ) (cs : List ℤ) (ms ts : List ℕ) (slot : ℕ) where
  pub of-many : 1 < get_or ts slot 0 → false ≡ is_some (constant (form_at (lent n cs ms ts) slot))
  unfolding form_at is_some
  of-many h = sym (ap is_some (many-terms cs ms (16 * slot) (get_or ts slot 0) h))

  pub of_none : get_or ts slot 0 ≡ 0 → true ≡ is_some (constant (form_at (lent n cs ms ts) slot))
  unfolding form_at is_some
  of_none h = sym (ap is_some (no_terms cs ms (16 * slot) (get_or ts slot 0) h))

  pub of_one : get_or ts slot 0 ≤ 1 → (get_or ts slot 0 ≡ 0 → ⊥) → eqb (get_or ms (16 * slot) 0) 0 ≡ is_some (constant (form_at (lent n cs ms ts) slot))
  unfolding form_at
  of_one h k =
      let one : get_or ts slot 0 ≡ 1 = omega arith in
      sym (ap is_some (one-term cs ms (16 * slot) (get_or ts slot 0) one) ∙ some-if (eqb (get_or ms (16 * slot) 0) 0) (get_or cs (16 * slot) (pos 0)))

-- ---- The walk over the order.

-- Of the forms in the first slots of the order, i of them, so many are no constants.
pub record Counting (ms ts order : List ℕ) (used found i : ℕ) : Type 0 where
  pub within : i ≤ used
  pub few : found ≤ i
  pub rest : (n : ℕ) (cs : List ℤ) → found + length (without_constants (map (form_at (lent n cs ms ts)) (numbers_from order i (used - i))))
      ≡ length (without_constants (forms_in (lent n cs ms ts) order used))

pub counting-starts : (ms ts order : List ℕ) (used : ℕ) → Counting ms ts order used 0 0
counting-starts ms ts order used = record {
  within = omega arith;
  few = omega arith;
  rest = λ n cs. let all : used - 0 ≡ used = omega arith in rw all (omega arith);
}

unless-some : (o : Option ℤ) (p : Polynomial) (l : List Polynomial) → is_some o ≡ true → length (unless_constant o p l) ≡ length l
unfolding is_some unless_constant
unless-some none p l e = absurd (false≢true e)
unless-some (some c) p l e = refl

unless-none : (o : Option ℤ) (p : Polynomial) (l : List Polynomial) → is_some o ≡ false → length (unless_constant o p l) ≡ length l + 1
unfolding is_some unless_constant
unless-none none p l e = omega arith
unless-none (some c) p l e = absurd (true≢false e)

module _ {ms ts order : List ℕ} {used found i : ℕ} (h : i < used) (sofar : Counting ms ts order used found i) where
  abbrev next : ℕ → List ℤ → Polynomial
  next n cs = form_at (lent n cs ms ts) (get_or order i 0)

  abbrev later : ℕ → List ℤ → List Polynomial
  later n cs = without_constants (map (form_at (lent n cs ms ts)) (numbers_from order (i + 1) (used - (i + 1))))

  left : (n : ℕ) (cs : List ℤ) → without_constants (map (form_at (lent n cs ms ts)) (numbers_from order i (used - i)))
      ≡ unless_constant (constant (next n cs)) (next n cs) (later n cs)
  unfolding without_constants
  left n cs = ap (λ (slots : List ℕ). without_constants (map (form_at (lent n cs ms ts)) slots)) (numbers-cons order i used h)

  -- A constant is none,
  pub counting-constant : ((n : ℕ) (cs : List ℤ) → true ≡ is_some (constant (next n cs))) → Counting ms ts order used found (i + 1)
  counting-constant e = record {
    within = omega arith;
    few = omega (arith, sofar.few);
    rest = λ n cs. omega (arith, sofar.rest n cs, ap length (left n cs), unless-some (constant (next n cs)) (next n cs) (later n cs) (sym (e n cs)));
  }

  -- another form is one.
  pub counting-form : ((n : ℕ) (cs : List ℤ) → false ≡ is_some (constant (next n cs))) → Counting ms ts order used (found + 1) (i + 1)
  counting-form e = record {
    within = omega arith;
    few = omega (arith, sofar.few);
    rest = λ n cs. omega (arith, sofar.rest n cs, ap length (left n cs), unless-none (constant (next n cs)) (next n cs) (later n cs) (sym (e n cs)));
  }

-- All of them counted are those of the whole order.
pub counted : {ms ts order : List ℕ} {used found i : ℕ} → Counting ms ts order used found i → used ≤ i
    → (n : ℕ) (cs : List ℤ) → found ≡ length (without_constants (forms_in (lent n cs ms ts) order used))
unfolding without_constants
counted {ms} {ts} {order} {used} {found} {i} sofar h n cs =
    let none_left : without_constants (map (form_at (lent n cs ms ts)) (numbers_from order i (used - i))) ≡ []
    = ap (λ (slots : List ℕ). without_constants (map (form_at (lent n cs ms ts)) slots)) (numbers-nil order i used h) in
    omega (arith, sofar.rest n cs, ap length none_left)

-- ---- The whole tape.

-- The forms in the slots of the order are those that the tree uses.
pub counts-used : {table : Table} (forms : Forms table) {token : List ℕ} {count : ℕ} {tree : Node NumberedAtom} (h : Holds token count tree)
    {order number : List ℕ} {polynomials : ℕ} (o : Ordered (order_of (take count token)) (replicate 64 0) order number polynomials)
    → forms_in table order polynomials ≡ used [] (alone (each_atom_of (in_slot table) tree))
counts-used {table} forms h o = ap (map (form_at table)) (order-listed (length-replicate {A = ℕ} 64 0) o) ∙ sym (table_is forms h o)
