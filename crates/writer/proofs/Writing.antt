-- Laws of `Wrote`, what a step of the writer says: a step after another, and the term, the polynomial and the table by their steps.
use mathlib.Core.Path.{◌≡◌, refl, sym, ap, ◌∙◌}
use mathlib.Core.Bool.{Bool}
use mathlib.Core.List.{List, [], ◌++◌}
use Prim.Native.Nat.{ℕ, zero, suc, ◌+◌, ◌-◌, ◌*◌, ◌/◌, ◌%◌, ◌≤◌}
use native.Mathlib.Nat.{add-zero}
use native.Mathlib.Numerals.{add-one}
use native.Mathlib.Omega.{arith}
use lib.IntN.{ℤ, pos, nat_abs}
use lib.ListN.{length, get_or, length-append}
use Rattle.rules.specs.Bits.{field, unpack}
use Rattle.rules.specs.Polynomial.{Term}
use Rattle.rules.specs.Block.{Edition, minus_bit, write_exponents, write_term, write_terms, write_polynomial, write_table}
use Rattle.bits.proofs.Fields.{length-field}
use Rattle.bits.proofs.Stores.{sets-append}
use Rattle.writer.specs.Written.{terms_at, table_at, atom_bits, join_bits, head_bits, Room, Wrote}

-- ---- a step after another

-- Nothing.
pub wrote_nothing : {out : List ℕ} {at : ℕ} → Wrote out out at [] at
wrote_nothing {out} {at} = record { stored = refl; behind = sym (add-zero at) }

-- Bits in two runs, the second behind the first.
pub record Split (whole xs ys : List Bool) : Type 0 where
  pub whole_is : whole ≡ xs ++ ys

module _ {whole xs ys : List Bool} (split : Split whole xs ys) where
  pub wrote-both : {before between after : List ℕ} {at middle next : ℕ} → Wrote before between at xs middle → Wrote between after middle ys next
      → Wrote before after at whole next
  wrote-both {before} {between} {after} {at} {middle} {next} a b =
      rw split.whole_is
      (record {
        stored = rw (sets-append (unpack before) at xs ys, ← a.behind, ← a.stored) b.stored;
        behind = rw (length-append xs ys) (omega (arith, a.behind, b.behind));
      })

  lengths : length whole ≡ length xs + length ys
  lengths = ap length split.whole_is ∙ length-append xs ys

  -- Room for both is room for the first, and for the second behind it.
  pub room-first : {size at : ℕ} → Room size at whole → Room size at xs
  room-first r = record { inside = omega (arith, r.inside, lengths); short = omega (arith, r.short, lengths) }

  pub room-second : {before between : List ℕ} {size size' at middle : ℕ} → Room size at whole → Wrote before between at xs middle → size' ≡ size
      → Room size' middle ys
  room-second r a e = record { inside = omega (arith, r.inside, lengths, a.behind); short = omega (arith, r.short, lengths, a.behind) }

pub two_runs : {xs ys : List Bool} → Split (xs ++ ys) xs ys
two_runs = record { whole_is = refl }

-- ---- a term, an atom, an AND or OR: field by field

pub term-split : (edition : Edition) (n : ℕ) (t : Term) {minus magnitude : ℕ} → minus ≡ minus_bit t.coefficient → magnitude ≡ nat_abs t.coefficient
    → Split (write_term edition n t) (field 1 minus) (field 31 magnitude ++ write_exponents edition n t.monomial)
unfolding write_term
term-split edition n t e f = record { whole_is = rw (← e, ← f) }

pub atom-split : (token : ℕ) → Split (atom_bits token) (field 2 0) (field 6 (token / 8) ++ field 3 (token % 8))
unfolding atom_bits
atom-split token = record { whole_is = refl }

pub join-split : (kind children : ℕ) → Split (join_bits kind children) (field 2 kind) (field 8 children)
unfolding join_bits
join-split kind children = record { whole_is = refl }

pub head-split : (edition variables polynomials nodes size : ℕ)
    → Split (head_bits edition variables polynomials nodes size) (field 4 edition) (field 5 variables ++ (field 7 polynomials ++ (field 8 nodes ++ field 16 size)))
unfolding head_bits
head-split edition variables polynomials nodes size = record { whole_is = refl }

pub length-head : (edition variables polynomials nodes size : ℕ) → length (head_bits edition variables polynomials nodes size) ≡ 40
unfolding head_bits
length-head edition variables polynomials nodes size = simp (length-append, length-field)

pub room-head : (edition variables polynomials nodes size : ℕ) {bytes : ℕ} → 5 ≤ bytes → Room bytes 0 (head_bits edition variables polynomials nodes size)
room-head edition variables polynomials nodes size h =
    let l = length-head edition variables polynomials nodes size in
    record { inside = rw l (omega arith); short = rw l (omega arith) }

-- ---- the terms, a polynomial, the table: each is one and the others

terms-next : (edition : Edition) (n : ℕ) (cs : List ℤ) (ms : List ℕ) (k count : ℕ) → (count ≡ 0 → ⊥) → write_terms edition n (terms_at cs ms k count)
    ≡ write_term edition n (record { coefficient = get_or cs k (pos 0); monomial = get_or ms k 0 }) ++ write_terms edition n (terms_at cs ms (k + 1) (count - 1))
unfolding write_terms terms_at
terms-next edition n cs ms k zero h = absurd (h refl)
terms-next edition n cs ms k (suc count) h = let e : suc count - 1 ≡ count = omega arith in rw (e, add-one)

module _ (edition : Edition) (n : ℕ) (cs : List ℤ) (ms : List ℕ) (k count : ℕ) where
  pub terms-none : count ≡ 0 → {out : List ℕ} {at : ℕ} → Wrote out out at (write_terms edition n (terms_at cs ms k count)) at
  unfolding write_terms terms_at
  terms-none z = rw z wrote_nothing

  pub terms-split : (count ≡ 0 → ⊥) → {value : ℤ} → value ≡ get_or cs k (pos 0)
      → Split (write_terms edition n (terms_at cs ms k count)) (write_term edition n (record { coefficient = value; monomial = get_or ms k 0 })) (write_terms edition n (terms_at cs ms (k + 1)
      (count - 1)))
  terms-split h e = record { whole_is = rw e (terms-next edition n cs ms k count h) }

pub length-terms_at : (cs : List ℤ) (ms : List ℕ) (k count : ℕ) → length (terms_at cs ms k count) ≡ count
unfolding terms_at
length-terms_at cs ms k zero = refl
length-terms_at cs ms k (suc count) = ap suc (length-terms_at cs ms (suc k) count)

pub polynomial-split : (edition : Edition) (n : ℕ) (cs : List ℤ) (ms : List ℕ) (k count : ℕ)
    → Split (write_polynomial edition n (terms_at cs ms k count)) (field 5 count) (write_terms edition n (terms_at cs ms k count))
unfolding write_polynomial
polynomial-split edition n cs ms k count = record { whole_is = rw (length-terms_at cs ms k count) }

module _ (edition : Edition) (n : ℕ) (cs : List ℤ) (ms counts : List ℕ) (i m : ℕ) where
  pub table_none : i ≡ m → {out : List ℕ} {at : ℕ} → Wrote out out at (write_table edition n (table_at cs ms counts i (m - i))) at
  unfolding write_table table_at
  table_none e = let z : m - i ≡ 0 = omega arith in rw z wrote_nothing

  pub table-split : i ≤ m → (i ≡ m → ⊥) → Split (write_table edition n (table_at cs ms counts i (m - i)))
      (write_polynomial edition n (terms_at cs ms (16 * i) (get_or counts i 0))) (write_table edition n (table_at cs ms counts (i + 1) (m - (i + 1))))
  unfolding write_table table_at
  table-split l h = let e : m - i ≡ suc (m - (i + 1)) = omega arith in record { whole_is = rw (e, add-one) }
