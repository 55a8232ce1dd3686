-- "Deducing p from q" is right: what is found of p holds, for any values of the monomials whose signs fit the board.
-- A t of L gives p + tq ≥ 0, and p + tq > 0 if some monomial is strict there; so p is found from the signs of t and q.
use Rattle.std.specs.Prelude.{◌≡◌, Bool, ◌&&◌, List, [], ◌∷◌, ℕ, ℤ, pos, neg_ℤ, ◌+ℤ◌, ◌*ℤ◌}
use Rattle.std.proofs.Math.Path.{refl}
use Rattle.std.proofs.Common.{sym, ap, ap₂, ◌∙◌}
use Rattle.std.proofs.Math.Bool.{true, false}
use Rattle.std.proofs.lemmas.Bool.{false≢true}
use Rattle.whole.specs.Solver.{#, con, ◌:+◌, ◌:*◌, neg, solve}
use Rattle.rules.specs.Signs.{nought, SignSet, Kind, ∅, >0, =0, ≥0, <0, ≠0, ≤0, any, kind, named, sum, product, mirror, intersect, inside, open_signs}
use Rattle.rules.specs.Polynomial.{Polynomial, Atom, Board, monomial_sign}
use Rattle.rules.specs.Deduce.{Fraction, denominator, Row, rows, is_strict, has_t, found, found_in, finding_of, any_empty, unless_empty, deduce}
use Rattle.rules.specs.Meaning.{value_by}
use Rattle.sign_laws.specs.Lists.{Every, every_none, every}
use Rattle.sign_laws.specs.Sets.{not_empty}
use Rattle.sign_laws.specs.Whole.{◌∈◌, ∈-sum, ∈-product, ∈-negation, ∈-intersect, ∈-full, by_sign, by_equal, without-factor, wider}
use Rattle.deduction_laws.specs.Fractions.{combined, denominator-positive}
use Rattle.deduction_laws.specs.Ends.{Strength, weakly, strictly, signs, stronger}
use Rattle.deduction_laws.specs.FractionSets.{Side, L, U, asked, Holds, one_row, allowed, StrictAt, this_row, later_row, Strict, by_q, by_row, interval}
use Rattle.deduction_laws.specs.Exact.{strict-kind, strict_test, weakly-found, strictly-found}
use Rattle.deduction_laws.specs.Rows.{total, total_a, total_b, Fitting, rows_fit, in-named}

-- For U the signs of L are exchanged.
abbrev pub turned : Side → SignSet → SignSet
turned L s = s
turned U s = mirror s

-- ---- One row: a monomial's part of p + tq.

row-part : (a b v c d : ℤ) → a *ℤ v *ℤ d +ℤ c *ℤ (b *ℤ v) ≡ (a *ℤ d +ℤ c *ℤ b) *ℤ v
row-part a b v c d = solve (a ∷ b ∷ v ∷ c ∷ d ∷ []) (# 0 :* # 2 :* # 4 :+ # 3 :* (# 1 :* # 2)) ((# 0 :* # 4 :+ # 3 :* # 1) :* # 2) tt

asked-fits : (side : Side) (k : Kind) → inside (product (named (asked side k)) (named k)) (turned side 3) ≡ true
unfolding open_signs
asked-fits L ∅ = refl
asked-fits L >0 = refl
asked-fits L =0 = refl
asked-fits L ≥0 = refl
asked-fits L <0 = refl
asked-fits L ≠0 = refl
asked-fits L ≤0 = refl
asked-fits L any = refl
asked-fits U ∅ = refl
asked-fits U >0 = refl
asked-fits U =0 = refl
asked-fits U ≥0 = refl
asked-fits U <0 = refl
asked-fits U ≠0 = refl
asked-fits U ≤0 = refl
asked-fits U any = refl

-- What is asked of a t makes the part ≥ 0 (for U: ≤ 0).
weak-row : (side : Side) (t : Fraction) (x : Row) (v : ℤ) → v ∈ named x.s → combined t x.a x.b ∈ named (asked side x.s)
    → combined t (x.a *ℤ v) (x.b *ℤ v) ∈ turned side 3
weak-row side t x v f h = by_equal (row-part x.a x.b v t.numerator (denominator t)) (wider (∈-product h f) (asked-fits side x.s))

-- For a monomial with set > or <, and a + tb other than 0, it makes the part > 0 (for U: < 0).
strict-fits : (side : Side) (k : Kind) → is_strict k ≡ true → inside (product (intersect (named (asked side k)) 5) (named k)) (turned side 1) ≡ true
unfolding open_signs is_strict
strict-fits side k e = strict-kind (λ k. inside (product (intersect (named (asked side k)) 5) (named k)) (turned side 1) ≡ true) k e (above side) (below side)
  where
    above : (side : Side) → inside (product (intersect (named (asked side >0)) 5) (named >0)) (turned side 1) ≡ true
    above L = refl
    above U = refl

    below : (side : Side) → inside (product (intersect (named (asked side <0)) 5) (named <0)) (turned side 1) ≡ true
    below L = refl
    below U = refl

strong-row : (side : Side) (t : Fraction) (x : Row) (v : ℤ) → is_strict x.s ≡ true → combined t x.a x.b ∈ 5 → v ∈ named x.s
    → combined t x.a x.b ∈ named (asked side x.s) → combined t (x.a *ℤ v) (x.b *ℤ v) ∈ turned side 1
strong-row side t x v e n f h =
    by_equal (row-part x.a x.b v t.numerator (denominator t)) (wider (∈-product (∈-intersect h n) f) (strict-fits side x.s e))

-- ---- All rows: p + tq.

sums : (a b p q c d : ℤ) → (a +ℤ p) *ℤ d +ℤ c *ℤ (b +ℤ q) ≡ (a *ℤ d +ℤ c *ℤ b) +ℤ (p *ℤ d +ℤ c *ℤ q)
sums a b p q c d = solve (a ∷ b ∷ p ∷ q ∷ c ∷ d ∷ []) ((# 0 :+ # 2) :* # 5 :+ # 4 :* (# 1 :+ # 3)) (# 0 :* # 5 :+ # 4 :* # 1 :+ (# 2 :* # 5 :+ # 4 :* # 3)) tt

nothing : (c d : ℤ) → pos 0 *ℤ d +ℤ c *ℤ pos 0 ≡ pos 0
nothing c d = solve (c ∷ d ∷ []) (con (pos 0) :* # 1 :+ # 0 :* con (pos 0)) (con (pos 0)) tt

zero_in : (side : Side) → pos 0 ∈ turned side 3
unfolding open_signs
zero_in L = by_sign nought refl refl
zero_in U = by_sign nought refl refl

-- A sum has the greater strength of its parts.
pub sum-in : (side : Side) (i j : Strength) → inside (sum (turned side (signs i)) (turned side (signs j))) (turned side (signs (stronger i j))) ≡ true
unfolding open_signs
sum-in L weakly weakly = refl
sum-in L weakly strictly = refl
sum-in L strictly weakly = refl
sum-in L strictly strictly = refl
sum-in U weakly weakly = refl
sum-in U weakly strictly = refl
sum-in U strictly weakly = refl
sum-in U strictly strictly = refl

module _ (v : ℕ → ℤ) where
  -- p + tq by the rows.
  combined_rows : Fraction → List Row → ℤ
  combined_rows t xs = combined t (total (λ x. x.a) v xs) (total (λ x. x.b) v xs)

  combined_row : Fraction → Row → ℤ
  combined_row t x = combined t (x.a *ℤ v x.monomial) (x.b *ℤ v x.monomial)

  added : (side : Side) (i j : Strength) (t : Fraction) (x : Row) (xs : List Row)
      → combined_row t x ∈ turned side (signs i) → combined_rows t xs ∈ turned side (signs j) → combined_rows t (x ∷ xs) ∈ turned side (signs (stronger i j))
  unfolding combined_rows combined_row total
  added side i j t x xs h k = by_equal
      (sums (x.a *ℤ v x.monomial) (x.b *ℤ v x.monomial) (total (λ x. x.a) v xs) (total (λ x. x.b) v xs) t.numerator (denominator t))
      (wider (∈-sum h k) (sum-in side i j))

  -- A t of L makes it ≥ 0, a t of U ≤ 0.
  weak : (side : Side) (t : Fraction) {xs : List Row} → Every (Fitting v) xs → Holds side xs t → combined_rows t xs ∈ turned side 3
  unfolding combined_rows combined_row total
  weak side t every_none i = by_equal (nothing t.numerator (denominator t)) (zero_in side)
  weak side t (every {a = x} {l = xs} f fs) (one_row h i) = added side weakly weakly t x xs (weak-row side t x (v x.monomial) f h) (weak side t fs i)

  -- And > 0 (for U: < 0), if some monomial is strict there.
  strong : (side : Side) (t : Fraction) {xs : List Row} → Every (Fitting v) xs → Holds side xs t → StrictAt xs t → combined_rows t xs ∈ turned side 1
  unfolding combined_rows combined_row total
  strong side t every_none _ x6 = elim x6 [ ]
  strong side t (every {a = x} {l = xs} f fs) (one_row h i) (this_row e n) =
      added side strictly weakly t x xs (strong-row side t x (v x.monomial) e n f h) (weak side t fs i)
  strong side t (every {a = x} {l = xs} f fs) (one_row h i) (later_row s) =
      added side weakly strictly t x xs (weak-row side t x (v x.monomial) f h) (strong side t fs i s)

-- ---- p, from the signs of p + tq, of t and of q.

given_back : (x y : ℤ) → x ≡ x +ℤ y +ℤ neg_ℤ y
given_back x y = solve (x ∷ y ∷ []) (# 0) (# 0 :+ # 1 :+ neg (# 1)) tt

-- p is (p + tq) less tq.
find : {g k w : SignSet} (t : Fraction) (p q : ℤ) → combined t p q ∈ g → t.numerator ∈ k → q ∈ w → p ∈ sum g (mirror (product k w))
find t p q hg hk hw = without-factor (denominator-positive t) (by_equal (given_back (p *ℤ denominator t) (t.numerator *ℤ q)) (∈-sum hg (∈-negation (∈-product hk hw))))

-- On this side a p + tq of strength i, a t with the signs k and a q of the kind w give a p of strength o.
abbrev Gives : Side → Strength → SignSet → Kind → Strength → Type 0
Gives side i k w o = inside (sum (turned side (signs i)) (mirror (product k (named w)))) (turned side (signs o)) ≡ true

-- A t of an allowed sign keeps the strength of p + tq.
keeps : (side : Side) (i : Strength) (w : Kind) → Gives side i (named (allowed side w)) w i
unfolding open_signs
keeps L weakly ∅ = refl
keeps L weakly >0 = refl
keeps L weakly =0 = refl
keeps L weakly ≥0 = refl
keeps L weakly <0 = refl
keeps L weakly ≠0 = refl
keeps L weakly ≤0 = refl
keeps L weakly any = refl
keeps L strictly ∅ = refl
keeps L strictly >0 = refl
keeps L strictly =0 = refl
keeps L strictly ≥0 = refl
keeps L strictly <0 = refl
keeps L strictly ≠0 = refl
keeps L strictly ≤0 = refl
keeps L strictly any = refl
keeps U weakly ∅ = refl
keeps U weakly >0 = refl
keeps U weakly =0 = refl
keeps U weakly ≥0 = refl
keeps U weakly <0 = refl
keeps U weakly ≠0 = refl
keeps U weakly ≤0 = refl
keeps U weakly any = refl
keeps U strictly ∅ = refl
keeps U strictly >0 = refl
keeps U strictly =0 = refl
keeps U strictly ≥0 = refl
keeps U strictly <0 = refl
keeps U strictly ≠0 = refl
keeps U strictly ≤0 = refl
keeps U strictly any = refl

-- One that is not 0 makes it strict, if q is above or below 0.
strengthens : (side : Side) (w : Kind) → is_strict w ≡ true → Gives side weakly (intersect (named (allowed side w)) 5) w strictly
unfolding open_signs is_strict
strengthens side w e = strict-kind (λ w. Gives side weakly (intersect (named (allowed side w)) 5) w strictly) w e (above side) (below side)
  where
    above : (side : Side) → Gives side weakly (intersect (named (allowed side >0)) 5) >0 strictly
    above L = refl
    above U = refl

    below : (side : Side) → Gives side weakly (intersect (named (allowed side <0)) 5) <0 strictly
    below L = refl
    below U = refl

-- ---- The finding.

module _ (v : ℕ → ℤ) (board : Board) (fits : (m : ℕ) → v m ∈ monomial_sign board m) (p q : Polynomial) (w : Kind) (hq : value_by v q ∈ named w) where
  by-t : (i o : Strength) (side : Side) {k : SignSet} → Gives side i k w o → (t : Fraction)
      → combined_rows v t (rows board p q) ∈ turned side (signs i) → t.numerator ∈ k → value_by v p ∈ turned side (signs o)
  unfolding combined_rows
  by-t i o side check t h hk = wider (find t (value_by v p) (value_by v q) (by_equal (sym (ap₂ (combined t) (total_a v board p q) (total_b v board p q))) h) hk hq) check

  module _ (side : Side) (t : Fraction) (h : Holds side (rows board p q) t) (s : t.numerator ∈ named (allowed side w)) where
    at-t : combined_rows v t (rows board p q) ∈ turned side 3
    at-t = weak v side t (rows_fit v board fits p q) h

    weak-t : value_by v p ∈ turned side 3
    weak-t = by-t weakly weakly side (keeps side weakly w) t at-t s

    strict-t : Strict w (rows board p q) t → value_by v p ∈ turned side 1
    strict-t (by_q e n) = by-t weakly strictly side (strengthens side w e) t at-t (∈-intersect s n)
    strict-t (by_row r) = by-t strictly strictly side (keeps side strictly w) t (strong v side t (rows_fit v board fits p q) h r) s

  found-in : (side : Side) (a b : Bool) → (a ≡ true → value_by v p ∈ turned side 1) → (b ≡ true → value_by v p ∈ turned side 3) → value_by v p ∈ turned side (found a b)
  unfolding found open_signs
  found-in side true b f g = f refl
  found-in side false true f g = g refl
  found-in L false false f g = ∈-full (value_by v p)
  found-in U false false f g = ∈-full (value_by v p)

  on-side : (side : Side) → value_by v p ∈ turned side (found_in w (interval side w (rows board p q)) (rows board p q))
  unfolding found_in
  on-side side = let xs = rows board p q in let r = interval side w xs in found-in side (strict_test r w xs) (has_t r)
      (λ e. let s = (strictly-found side w xs).0 e in strict-t side s.t s.held s.sign s.strict)
      (λ e. let s = (weakly-found side w xs).0 e in weak-t side s.t s.held s.sign)

  -- What is found of p by q's set holds.
  pub finding-sound : value_by v p ∈ finding_of w (rows board p q)
  unfolding finding_of
  finding-sound = ∈-intersect (on-side L) (on-side U)

-- If q's sign is in q's set, then p's sign is in what is deduced of p; no set of the board may be empty.
pub deduce-sound : (v : ℕ → ℤ) (board : Board) → ((m : ℕ) → v m ∈ monomial_sign board m) → any_empty board ≡ false
    → (p : Polynomial) (q : Atom) → value_by v q.polynomial ∈ q.set → value_by v p ∈ deduce board p q
unfolding deduce unless_empty
deduce-sound v board fits filled p q h =
    rw (not_empty q.set h.sign, filled) (finding-sound v board fits p q.polynomial (kind q.set) (in-named q.set h))
