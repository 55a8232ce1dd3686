-- A term of p that stands alone: whether the merge meets its monomial in q, place by place, and that nothing is found where it does not.
-- The term's row has b = 0 then, so that it is the coefficient that would have to be 0.
use mathlib.Core.Path.{◌≡◌, sym}
use mathlib.Core.Bool.{Bool, true, false, not, ◌&&◌, ◌||◌, false≢true, true≢false, or-true}
use mathlib.Core.List.{List, [], ◌∷◌}
use mathlib.Core.Logic.{⊎_elim}
use Prim.Native.Nat.{ℕ, zero, suc, ◌+◌, ◌-◌, ◌<◌, ◌≤◌}
use native.Mathlib.Nat.{le_refl, eq-or-lt_of_le}
use native.Mathlib.Omega.{arith}
use borrow.Author.Tests.{eqb-true, eq-eqb, ne_eqb, lt-ltb, le-ltb}
use lib.Dec.{eqb, ltb, leb-zero}
use lib.IntN.{ℤ, pos, negsuc}
use lib.ListN.{get_or}
use Rattle.sign_laws.specs.Booleans.{and_first, and_second, not-true}
use Rattle.rules.specs.Signs.{SignSet, Kind, ∅, >0, =0, ≥0, <0, ≠0, ≤0, any, kind}
use Rattle.rules.specs.Polynomial.{Term, Board, monomial_sign}
use Rattle.rules.specs.Deduce.{Interval, cut_not_negative, cut_not_positive, cut_l, cut_u, Row, row, rows_of_q, of_three, rows_from, rows, is_zero, has_t}
use Rattle.terms.specs.View.{numbers_from, numbers-cons, numbers-nil, term_at, terms_from}
use Rattle.deduce.specs.declared.Run.{Run}
use Rattle.deduce.specs.Merge.{Gathered, gather_row, gather, found_from, Found}
use Rattle.deduce.specs.Last.{asks_zero}
use Rattle.deduce.specs.Alone.{met, monomials_of, stands_alone}
use Rattle.deduce.proofs.Nothing.{finding-nothing}

-- ---- whether it is met, from place i on, up to n

module _ (m : ℕ) (ms : List ℕ) (i n : ℕ) where
  pub met-here : i < n → get_or ms i 0 ≤ m → eqb m (get_or ms i 0) ≡ met m (numbers_from ms i (n - i))
  unfolding met
  met-here h l = rw (numbers-cons ms i n h) (⊎_elim
      (λ (e : get_or ms i 0 ≡ m). simp (eq-eqb m (get_or ms i 0) (sym e)))
      (λ (k : get_or ms i 0 < m). simp (ne_eqb m (get_or ms i 0) (λ e. omega arith), lt-ltb _ _ k))
      (eq-or-lt_of_le l))

  pub met-later : i < n → m < get_or ms i 0 → met m (numbers_from ms i (n - i)) ≡ met m (numbers_from ms (i + 1) (n - (i + 1)))
  unfolding met
  met-later h l =
      let k : m ≤ get_or ms i 0 = omega arith in
      rw (numbers-cons ms i n h) (simp (ne_eqb m (get_or ms i 0) (λ e. omega arith), le-ltb _ _ k))

  pub met-nowhere : n ≤ i → met m (numbers_from ms i (n - i)) ≡ false
  unfolding met
  met-nowhere h = rw (numbers-nil ms i n h)

-- ---- nothing is found

-- its row leaves no t
no-t : (a : ℤ) (r : Interval) → is_zero a ≡ false → has_t (cut_not_negative a (pos 0) (cut_not_positive a (pos 0) r)) ≡ false
unfolding is_zero cut_not_negative cut_not_positive has_t
no-t (pos zero) r e = absurd (true≢false e)
no-t (pos (suc n)) r e = simp (leb-zero n, or-true r.void)
no-t (negsuc n) r e = simp (leb-zero n, or-true (r.void || false))

row-leaves-none : (k : Kind) (a : ℤ) (g : Gathered) → asks_zero k ≡ true → is_zero a ≡ false
    → (has_t (gather_row k a (pos 0) g).l ≡ false) × (has_t (gather_row k a (pos 0) g).u ≡ false)
unfolding asks_zero gather_row cut_l cut_u
row-leaves-none ∅ a g e f = absurd (false≢true e)
row-leaves-none >0 a g e f = absurd (false≢true e)
row-leaves-none =0 a g e f = absurd (false≢true e)
row-leaves-none ≥0 a g e f = absurd (false≢true e)
row-leaves-none <0 a g e f = absurd (false≢true e)
row-leaves-none ≠0 a g e f = (no-t a g.l f, no-t a g.u f)
row-leaves-none ≤0 a g e f = absurd (false≢true e)
row-leaves-none any a g e f = (no-t a g.l f, no-t a g.u f)

module _ (k : Kind) (board : Board) (cs : List ℤ) (ms : List ℕ) (t : Term)
    (asks : asks_zero (kind (monomial_sign board t.monomial)) ≡ true) (filled : is_zero t.coefficient ≡ false) where
  -- whatever rows come before it and after it
  with_row : (g : Gathered) (xs : List Row) → 7 ≡ found_from k (gather g (row board t.coefficient (pos 0) t.monomial ∷ xs))
  unfolding row gather
  with_row g xs =
      let s = kind (monomial_sign board t.monomial) in
      let none = row-leaves-none s t.coefficient g asks filled in
      finding-nothing k (gather_row s t.coefficient (pos 0) g) xs none.0 none.1

  -- by the two tests of the merge: the first monomial of q is the term's, is below it, or is above it
  by_tests : (same below later : Bool) (g : Gathered) (both mine its : List Row) → same || (not below && later) ≡ false
      → 7 ≡ found_from k (gather g mine) → (later ≡ false → 7 ≡ found_from k (gather g its))
      → 7 ≡ found_from k (gather g (of_three same below both mine its))
  unfolding of_three
  by_tests true below later g both mine its e m i = absurd (true≢false e)
  by_tests false true later g both mine its e m i = m
  by_tests false false later g both mine its e m i = i e

  -- the term alone and the n terms of q from place j on
  alone-from : (j n : ℕ) (g : Gathered) → met t.monomial (numbers_from ms j n) ≡ false
      → 7 ≡ found_from k (gather g (rows board (t ∷ []) (terms_from cs ms j n)))
  unfolding met numbers_from terms_from rows rows_from row gather
  alone-from j zero g e = with_row g (rows_of_q board [])
  alone-from j (suc n) g e =
      let u = term_at cs ms j in
      let us = terms_from cs ms (suc j) n in
      by_tests (eqb t.monomial u.monomial) (ltb u.monomial t.monomial) (met t.monomial (numbers_from ms (suc j) n)) g
      (row board t.coefficient u.coefficient t.monomial ∷ rows_of_q board us)
      (row board t.coefficient (pos 0) t.monomial ∷ rows_of_q board (u ∷ us))
      (row board (pos 0) u.coefficient u.monomial ∷ rows board (t ∷ []) us) e (with_row g (rows_of_q board (u ∷ us)))
      (λ later. alone-from (suc j) n (gather_row (kind (monomial_sign board u.monomial)) (pos 0) u.coefficient g) later)

-- p is such a term
pub lone-found : {cs : List ℤ} {ms : List ℕ} {ss : List SignSet} {p q : Run} {set : SignSet} {g : Gathered}
    → stands_alone cs ms ss p q ≡ true → Found cs ms ss p q set g 7
unfolding stands_alone terms_from
lone-found {cs} {ms} {ss} {p} {q} {set} {g} e =
    let i = p.from in
    let one : Bool = eqb (p.to - i) 1 in
    let asks : Bool = asks_zero (kind (get_or ss i 0)) in
    let filled : Bool = not (is_zero (get_or cs i (pos 0))) in
    let apart : Bool = not (met (get_or ms i 0) (monomials_of ms q)) in
    let is_one : p.to - i ≡ 1 = eqb-true (p.to - i) 1 (and_first one (asks && (filled && apart)) e) in
    let later : asks && (filled && apart) ≡ true = and_second one (asks && (filled && apart)) e in
    let last : filled && apart ≡ true = and_second asks (filled && apart) later in
    let is-asked : asks_zero (kind (get_or ss i 0)) ≡ true = and_first asks (filled && apart) later in
    let is-filled = not-true (is_zero (get_or cs i (pos 0))) (and_first filled apart last) in
    let is-apart = not-true (met (get_or ms i 0) (monomials_of ms q)) (and_second filled apart last) in
    record {
      found = λ {board} s t.
          rw is_one (alone-from (kind set) board cs ms (term_at cs ms i) (rw (s.at i (le_refl i) (omega (arith, is_one))) at is-asked)
          is-filled q.from (q.to - q.from) g is-apart);
    }
