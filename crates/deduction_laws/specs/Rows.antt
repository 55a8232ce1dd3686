-- The rows of two polynomials p and q: "for all monomials of p or q let a, b be their coefficients (0 if absent), s the monomial's sign set".
-- Whatever the monomials' values are, the rows add up to p and q, and each s fits its monomial's value.
use Rattle.std.specs.Prelude.{◌≡◌, refl, Bool, true, false, ℕ, zero, suc, ◌≤◌, ◌<◌, eqb, ltb, ℤ, pos, ◌+ℤ◌, ◌*ℤ◌}
use Rattle.std.proofs.Common.{ap, ◌∙◌, eqb-true, ltb-true, ltb-false}
use mathlib.Core.List.{List, [], ◌∷◌}
use native.Mathlib.Omega.{arith}
use Rattle.std.proofs.lemmas.Bool.{eqb-false}
use Rattle.whole.specs.Solver.{#, con, ◌:+◌, ◌:*◌, solve}
use Rattle.rules.specs.Signs.{SignSet, kind, named}
use Rattle.rules.specs.Polynomial.{Term, Polynomial, Board, monomial_sign}
use Rattle.rules.specs.Deduce.{Row, row, rows_of_q, of_three, rows_from, rows}
use Rattle.rules.specs.Meaning.{value_by}
use Rattle.sign_laws.specs.Lists.{Every, every_none, every}
use Rattle.sign_laws.specs.Whole.{◌∈◌, ∈-full}

-- ---- One induction for all that holds of the rows.

-- m is above the first monomial of a polynomial, if that has one.
pub data Tops (m : ℕ) : Polynomial → Type 0 where
  tops_none : Tops m []
  tops : {u : Term} {us : Polynomial} → u.monomial < m → Tops m (u ∷ us)

of-three : (P : List Row → Type 0) (first second : Bool) (x y z : List Row)
    → (first ≡ true → P x) → (second ≡ true → P y) → (first ≡ false → second ≡ false → P z) → P (of_three first second x y z)
unfolding of_three
of-three P true second x y z f g h = f refl
of-three P false true x y z f g h = g refl
of-three P false false x y z f g h = h refl refl

-- What holds of no rows, and is kept by a row of p's term, of q's term and of a term of each, holds of the rows of p and q.
pub record Kept (board : Board) (P : Polynomial → Polynomial → List Row → Type 0) : Type 0 where
  pub none : P [] [] []
  pub mine : (t : Term) (p q : Polynomial) (xs : List Row) → Tops t.monomial q → P p q xs
      → P (t ∷ p) q (row board t.coefficient (pos 0) t.monomial ∷ xs)
  pub its : (u : Term) (p q : Polynomial) (xs : List Row) → Tops u.monomial p → P p q xs
      → P p (u ∷ q) (row board (pos 0) u.coefficient u.monomial ∷ xs)
  pub both : (t u : Term) (p q : Polynomial) (xs : List Row) → t.monomial ≡ u.monomial → P p q xs
      → P (t ∷ p) (u ∷ q) (row board t.coefficient u.coefficient t.monomial ∷ xs)

module _ (board : Board) (P : Polynomial → Polynomial → List Row → Type 0) (kept : Kept board P) where
  of-q : (q : Polynomial) → P [] q (rows_of_q board q)
  unfolding rows_of_q
  of-q [] = kept.none
  of-q (u ∷ us) = kept.its u [] us (rows_of_q board us) tops_none (of-q us)

  of-term : (t : Term) (p : Polynomial) (more : Polynomial → List Row) → ((q : Polynomial) → P p q (more q)) → (q : Polynomial) → P (t ∷ p) q (rows_from board t more q)
  unfolding rows_from
  of-term t p more h [] = kept.mine t p [] (more []) tops_none (h [])
  of-term t p more h (u ∷ us) = of-three (P (t ∷ p) (u ∷ us)) (eqb t.monomial u.monomial) (ltb u.monomial t.monomial) _ _ _
      (λ e. kept.both t u p us (more us) (eqb-true t.monomial u.monomial e) (h us))
      (λ e. kept.mine t p (u ∷ us) (more (u ∷ us)) (tops (ltb-true u.monomial t.monomial e)) (h (u ∷ us)))
      (λ e f. kept.its u (t ∷ p) us (rows_from board t more us)
      (tops (above t.monomial u.monomial (eqb-false t.monomial u.monomial e) (ltb-false u.monomial t.monomial f))) (of-term t p more h us))
    where
      above : (m n : ℕ) → (m ≡ n → ⊥) → m ≤ n → m < n
      above m n d l = omega arith

  -- What is kept holds of the rows of p and q.
  pub of-rows : (p q : Polynomial) → P p q (rows board p q)
  unfolding rows
  of-rows [] q = of-q q
  of-rows (t ∷ ts) q = of-term t ts (λ rest. rows board ts rest) (of-rows ts) q

-- ---- The rows add up to p and q.

-- A column of the rows, each coefficient times its monomial's value, added up.
unfoldable pub total : (Row → ℤ) → (ℕ → ℤ) → List Row → ℤ
total column v [] = pos 0
total column v (x ∷ xs) = column x *ℤ v x.monomial +ℤ total column v xs

no_part : (x y : ℤ) → pos 0 *ℤ x +ℤ y ≡ y
no_part x y = solve (x ∷ y ∷ []) (con (pos 0) :* # 0 :+ # 1) (# 1) tt

more : {y z : ℤ} (x : ℤ) → y ≡ z → x +ℤ y ≡ x +ℤ z
more x e = ap (λ y. x +ℤ y) e

-- The column a is p.
pub total_a : (v : ℕ → ℤ) (board : Board) (p q : Polynomial) → total (λ x. x.a) v (rows board p q) ≡ value_by v p
unfolding total value_by row
total_a v board p q = of-rows board (λ p q xs. total (λ x. x.a) v xs ≡ value_by v p) (record {
  none = refl;
  mine = λ t p q xs m e. more (t.coefficient *ℤ v t.monomial) e;
  its = λ u p q xs m e. no_part (v u.monomial) (total (λ x. x.a) v xs) ∙ e;
  both = λ t u p q xs m e. more (t.coefficient *ℤ v t.monomial) e;
}) p q

-- The column b is q.
pub total_b : (v : ℕ → ℤ) (board : Board) (p q : Polynomial) → total (λ x. x.b) v (rows board p q) ≡ value_by v q
unfolding total value_by row
total_b v board p q = of-rows board (λ p q xs. total (λ x. x.b) v xs ≡ value_by v q) (record {
  none = refl;
  mine = λ t p q xs m e. no_part (v t.monomial) (total (λ x. x.b) v xs) ∙ e;
  its = λ u p q xs m e. more (u.coefficient *ℤ v u.monomial) e;
  both = λ t u p q xs m e. ap (λ (n : ℕ). u.coefficient *ℤ v n +ℤ total (λ x. x.b) v xs) m ∙ more (u.coefficient *ℤ v u.monomial) e;
}) p q

-- ---- Each s fits its monomial's value.

-- A set's kind names the set; numbers past the eight sets are read as the full set.
pub in-named : {z : ℤ} (s : SignSet) → z ∈ s → z ∈ named (kind s)
unfolding named kind
in-named zero h = h
in-named (suc zero) h = h
in-named (suc (suc zero)) h = h
in-named (suc (suc (suc zero))) h = h
in-named (suc (suc (suc (suc zero)))) h = h
in-named (suc (suc (suc (suc (suc zero))))) h = h
in-named (suc (suc (suc (suc (suc (suc zero)))))) h = h
in-named (suc (suc (suc (suc (suc (suc (suc zero))))))) h = h
in-named {z} (suc (suc (suc (suc (suc (suc (suc (suc s)))))))) h = ∈-full z

-- The monomial's value has a sign of s.
abbrev pub Fitting : (ℕ → ℤ) → Row → Type 0
Fitting v x = v x.monomial ∈ named x.s

-- If the monomials' values fit the board, they fit all rows.
pub rows_fit : (v : ℕ → ℤ) (board : Board) → ((m : ℕ) → v m ∈ monomial_sign board m) → (p q : Polynomial) → Every (Fitting v) (rows board p q)
unfolding row
rows_fit v board fits = of-rows board (λ p q xs. Every (Fitting v) xs) (record {
  none = every_none;
  mine = λ t p q xs m h. every (in-named (monomial_sign board t.monomial) (fits t.monomial)) h;
  its = λ u p q xs m h. every (in-named (monomial_sign board u.monomial) (fits u.monomial)) h;
  both = λ t u p q xs m h. every (in-named (monomial_sign board t.monomial) (fits t.monomial)) h;
})
