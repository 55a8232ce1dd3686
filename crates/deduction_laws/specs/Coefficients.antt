-- The rows of p and q are "all monomials of p or q" with "their coefficients (0 if absent)", each once, if the monomials of p and of q fall strictly.
-- One law: the rows of any monomial are none if it is in neither polynomial, and else one, with its two coefficients.
use Rattle.std.specs.Prelude.{◌≡◌, refl, Bool, cond, List, [], ◌∷◌, ℕ, ◌<◌, eqb, ℤ}
use Rattle.std.proofs.Common.{sym, ◌∙◌, subst, lt_trans, arith, eqb-true, ne_eqb}
use Rattle.std.proofs.Math.Path.{ap, ap₂}
use Rattle.std.proofs.Math.Bool.{true, false}
use Rattle.std.proofs.Math.Option.{Option, none, some}
use Rattle.std.proofs.Math.IntN.{pos}
use Rattle.rules.specs.Polynomial.{Term, Polynomial, Board}
use Rattle.rules.specs.Deduce.{Row, row, rows}
use Rattle.deduction_laws.specs.Rows.{Tops, tops_none, tops, of-rows}

-- ---- The words.

-- "fall strictly from term to term"
pub data Falls : Polynomial → Type 0 where
  falls_none : Falls []
  falls : {t : Term} {ts : Polynomial} → Tops t.monomial ts → Falls ts → Falls (t ∷ ts)

-- The coefficient of a monomial, if it is there.
unfoldable pub coefficient_of : ℕ → Polynomial → Option ℤ
coefficient_of m [] = none
coefficient_of m (t ∷ ts) = cond (eqb t.monomial m) (some t.coefficient) (coefficient_of m ts)

-- The coefficients a and b in the rows of a monomial.
unfoldable pub rows_of : ℕ → List Row → List (ℤ × ℤ)
rows_of m [] = []
rows_of m (x ∷ xs) = cond (eqb x.monomial m) ((x.a, x.b) ∷ rows_of m xs) (rows_of m xs)

-- One row if the monomial is in p or in q, none if it is in neither.
unfoldable pub as_rows : Option ℤ → Option ℤ → List (ℤ × ℤ)
as_rows none none = []
as_rows none (some b) = (pos 0, b) ∷ []
as_rows (some a) none = (a, pos 0) ∷ []
as_rows (some a) (some b) = (a, b) ∷ []

-- ---- What falls below m has no m.

lowered : {m n : ℕ} {p : Polynomial} → n < m → Tops n p → Tops m p
lowered l tops_none = tops_none
lowered {m} {n} l (tops {u = u} k) = tops (lt_trans k l)

absent : {m : ℕ} {p : Polynomial} → Falls p → Tops m p → coefficient_of m p ≡ none
unfolding coefficient_of
absent falls_none tops_none = refl
absent {m} (falls {t = u} {ts = us} k f) (tops l) =
    ap (λ (b : Bool). cond b (some u.coefficient) (coefficient_of m us)) (ne_eqb u.monomial m (λ e. omega (arith, l))) ∙ absent f (lowered l k)

-- ---- One more row: the rows of a monomial before and after, by the test that the row is one of them.

abbrev Clear : Option ℤ → Option ℤ → Type 0
Clear x y = (x ≡ none) × (y ≡ none)

module _ (rs : List (ℤ × ℤ)) (x y : Option ℤ) (same : rs ≡ as_rows x y) where
  first : (r : ℤ × ℤ) → Clear x y → r ∷ rs ≡ r ∷ []
  unfolding as_rows
  first r (e, f) = ap (λ rs. r ∷ rs) (same ∙ ap₂ as_rows e f)

  more-of-p : (b : Bool) (a : ℤ) → (b ≡ true → Clear x y) → cond b ((a, pos 0) ∷ rs) rs ≡ as_rows (cond b (some a) x) y
  unfolding as_rows
  more-of-p true a clear = first (a, pos 0) (clear refl) ∙ ap (as_rows (some a)) (sym (clear refl).1)
  more-of-p false a clear = same

  more-of-q : (b : Bool) (a : ℤ) → (b ≡ true → Clear x y) → cond b ((pos 0, a) ∷ rs) rs ≡ as_rows x (cond b (some a) y)
  unfolding as_rows
  more-of-q true a clear = first (pos 0, a) (clear refl) ∙ ap (λ x. as_rows x (some a)) (sym (clear refl).0)
  more-of-q false a clear = same

  more_of_both : (b : Bool) (a c : ℤ) → (b ≡ true → Clear x y) → cond b ((a, c) ∷ rs) rs ≡ as_rows (cond b (some a) x) (cond b (some c) y)
  unfolding as_rows
  more_of_both true a c clear = first (a, c) (clear refl)
  more_of_both false a c clear = same

-- ---- The law.

tail-falls : {t : Term} {ts : Polynomial} → Falls (t ∷ ts) → Tops t.monomial ts × Falls ts
tail-falls (falls k f) = (k, f)

clear : {n : ℕ} {p q : Polynomial} (m : ℕ) → Tops n p → Falls p → Tops n q → Falls q → eqb n m ≡ true → Clear (coefficient_of m p) (coefficient_of m q)
clear {n} {p} {q} m k f l g e = subst (λ (m : ℕ). Clear (coefficient_of m p) (coefficient_of m q)) (eqb-true n m e) (absent f k, absent g l)

-- The rows of a monomial of p or q are one row with its coefficients, 0 if absent; there are none of any other monomial.
pub rows-of : (board : Board) (p q : Polynomial) → Falls p → Falls q → (m : ℕ) → rows_of m (rows board p q) ≡ as_rows (coefficient_of m p) (coefficient_of m q)
unfolding rows_of coefficient_of as_rows row
rows-of board = of-rows board (λ p q xs. Falls p → Falls q → (m : ℕ) → rows_of m xs ≡ as_rows (coefficient_of m p) (coefficient_of m q)) (record {
  none = λ f g m. refl;
  mine = λ t p q xs l h f g m. let (k, fs) = tail-falls f in
      more-of-p (rows_of m xs) (coefficient_of m p) (coefficient_of m q) (h fs g m) (eqb t.monomial m) t.coefficient (clear m k fs l g);
  its = λ u p q xs l h f g m. let (k, gs) = tail-falls g in
      more-of-q (rows_of m xs) (coefficient_of m p) (coefficient_of m q) (h f gs m) (eqb u.monomial m) u.coefficient (clear m l f k gs);
  both = λ t u p q xs l h f g m. let (j, fs) = tail-falls f in let (k, gs) = tail-falls g in
      more_of_both (rows_of m xs) (coefficient_of m p) (coefficient_of m q) (h fs gs m) (eqb t.monomial m) t.coefficient u.coefficient
      (clear m j fs (subst (λ (n : ℕ). Tops n q) (sym l) k) gs)
      ∙ ap (λ (n : ℕ). as_rows (cond (eqb t.monomial m) (some t.coefficient) (coefficient_of m p)) (cond (eqb n m) (some u.coefficient) (coefficient_of m q))) l;
})
