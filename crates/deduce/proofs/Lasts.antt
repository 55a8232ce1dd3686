-- One t that is left: what the rows leave of it, and whether they are strict there, goes by the sign of a + tb there.
-- Where it is 0 that is the sign of a, so that it goes by the coefficients of p alone.
use mathlib.Core.Path.{◌≡◌, refl, sym, ap, ap₂, ◌∙◌}
use mathlib.Core.Bool.{Bool, true, false, not, ◌&&◌, ◌||◌, false≢true, true≢false, and-true, and-false, or-false}
use mathlib.Core.List.{List, [], ◌∷◌}
use Prim.Native.Nat.{zero, suc, ◌+◌, ◌*◌}
use lib.Dec.{eqb}
use lib.IntN.{ℤ, pos, negsuc, neg_ℤ}
use Rattle.sign_laws.specs.Booleans.{and_first, and_second, neither, not-true}
use Rattle.sign_laws.specs.Whole.{◌∈◌}
use Rattle.rules.specs.Signs.{Sign, negative, nought, positive, sign_of, SignSet, only, has, Kind, =0, kind, named, inside, bit, set_of, mirror, intersect, open_signs}
use Rattle.rules.specs.Polynomial.{Term, Polynomial, Board, monomial_sign}
use Rattle.rules.specs.Deduce.{Fraction, at, Row, row, rows_of_q, rows_from, rows, is_strict, is_zero, has_t}
use Rattle.deduction_laws.specs.Fractions.{combined, gap, sign-at}
use Rattle.deduction_laws.specs.FractionSets.{L, U, asked}
use Rattle.deduction_laws.specs.Intervals.{Inside, interval-from}
use Rattle.deduction_laws.specs.Exact.{has_at}
use Rattle.deduction_laws.specs.Found.{Same, same_rows}
use Rattle.deduction_laws.specs.Vanishing.{vanish_row, strict_where, strict-row, same-strict-rows, zero-by-sign, strict-at-one, strict-said, same-finding}
use Rattle.deduction_laws.specs.Points.{inside-point, point-row, Root, root-rising, root-falling, root-row, sign-at-zero, asked-nought}
use Rattle.deduction_laws.specs.Rows.{of-rows}
use Rattle.interval.specs.declared.interval.End.{End as KeptEnd}
use Rattle.interval.specs.Ends.{end_at, end_of, interval_of, vanishing_of}
use Rattle.interval.specs.Coefficients.{zero-sign}
use Rattle.deduce.specs.declared.merge.Cuts.{Cuts}
use Rattle.deduce.specs.declared.last.Last.{Last}
use Rattle.deduce.specs.Merge.{Gathered, gathered_of, gather_row, gather, found_from}
use Rattle.deduce.specs.Last.{asks_zero, last_of, AtLast, Kept}
use Rattle.deduce.proofs.SignSets.{asks-zero}
use Rattle.deduce.proofs.Rows.{gathered}
use Rattle.deduce.proofs.Nothing.{finding-nothing}

is-nought : (a : ℤ) → is_zero a ≡ true → a ≡ pos 0
unfolding is_zero
is-nought (pos zero) e = refl
is-nought (pos (suc n)) e = absurd (false≢true e)
is-nought (negsuc n) e = absurd (false≢true e)

-- ---- the same t, at which they are strict alike

-- h gives the finding that g gives, whatever rows come after
pub record Alike (g h : Gathered) : Type 0 where
  pub l : Same g.l h.l
  pub u : Same g.u h.u
  pub l_strict : (t : Fraction) → Inside h.l t → strict_where g.vanishing t ≡ strict_where h.vanishing t
  pub u_strict : (t : Fraction) → Inside h.u t → strict_where g.vanishing t ≡ strict_where h.vanishing t

pub alike : {g h : Gathered} → Alike g h → (k : Kind) (xs : List Row) → found_from k (gather g xs) ≡ found_from k (gather h xs)
alike {g} {h} s k xs = rw (gathered xs g, gathered xs h) (ap₂ (λ (s t : SignSet). intersect s (mirror t))
    (same-finding L k _ _ (same_rows L xs s.l) (λ t i. same-strict-rows g.vanishing h.vanishing t xs (s.l_strict t ((interval-from L h.l xs t).0 i).1)))
    (same-finding U k _ _ (same_rows U xs s.u) (λ t i. same-strict-rows g.vanishing h.vanishing t xs (s.u_strict t ((interval-from U h.u xs t).0 i).1))))

-- ---- one row

one_bit : (b : Bool) → (eqb (bit b * 4 + 0 * 2 + 0) 4 ≡ b) × (eqb (0 * 4 + bit b * 2 + 0) 2 ≡ b) × (eqb (0 * 4 + 0 * 2 + bit b) 1 ≡ b)
unfolding bit
one_bit true = (refl, refl, refl)
one_bit false = (refl, refl, refl)

inside_one : (x : Sign) (a : SignSet) → inside (only x) a ≡ has x a
unfolding inside intersect set_of has only bit
inside_one negative a = (one_bit (has negative a)).0
inside_one nought a = (one_bit (has nought a)).1
inside_one positive a = (one_bit (has positive a)).2

-- whether some row is strict at the last t, with one more
row-strict : (x : Bool) (k : Kind) (a b : ℤ) (f t : Fraction) → gap f t ∈ 2
    → strict_where (vanish_row k a b (record { a = pos 0; b = pos 0; never = x })) t ≡ (x || (is_strict k && not (eqb (only (sign_of (combined f a b))) 2)))
row-strict x k a b f t g =
    strict-row k a b (record { a = pos 0; b = pos 0; never = x }) t
    ∙ ap₂ (λ (y z : Bool). y || (is_strict k && not z)) (strict-said x t) (zero-by-sign _ _ (sign-at f t a b g) ∙ sym (zero-sign (combined f a b)))

-- what a row leaves of the last t
pub last_row : {x r : Last} {k : Kind} {value : SignSet} (a b : ℤ) (f : Fraction) → end_of x.t ≡ at f → value ≡ only (sign_of (combined f a b))
    → Kept x value k r → Alike (gather_row k a b (last_of x)) (last_of r)
unfolding gather_row
last_row {x} {r} {k} a b f e v kept =
    rw (kept.t, e, kept.l, kept.u, kept.strict, v, inside_one _ (named (asked L k)), inside_one _ (named (asked U k))) (record {
      l = point-row L k a b x.l f;
      u = point-row U k a b x.u f;
      l_strict = λ t i. row-strict x.strict k a b f t ((inside-point (x.l && has (sign_of (combined f a b)) (named (asked L k))) f t).0 i).1 ∙ sym (strict-said _ t);
      u_strict = λ t i. row-strict x.strict k a b f t ((inside-point (x.u && has (sign_of (combined f a b)) (named (asked U k))) f t).0 i).1 ∙ sym (strict-said _ t);
    })

-- nothing where the row asks for a + tb = 0 and it has another sign
not-nought : (s : Sign) → not (eqb (only s) 2) ≡ true → has s (named =0) ≡ false
unfolding open_signs
not-nought negative e = refl
not-nought nought e = absurd (false≢true e)
not-nought positive e = refl

abbrev pub gone : Last → Last
gone x = record { t = x.t; l = false; u = false; strict = x.strict }

pub ruled_out : {x : Last} {k : Kind} {value : SignSet} (s : Sign) → value ≡ only s → not (eqb value 2) && asks_zero k ≡ true → Kept x value k (gone x)
ruled_out {x} {k} {value} s v e =
    let asks = asks-zero k (and_second (not (eqb value 2)) (asks_zero k) e) in
    let other = not-nought s (and_first (not (eqb (only s) 2)) (asks_zero k) (rw v at e)) in
    record {
      t = refl;
      l = rw (v, asks.0, inside_one, other) (sym (and-false x.l));
      u = rw (v, asks.1.0, inside_one, other) (sym (and-false x.u));
      strict = rw asks.1.1 (sym (or-false x.strict));
    }

-- neither L nor U has it
pub last-gone : (k : Kind) (x : Last) (xs : List Row) → not (x.l || x.u) ≡ true → 7 ≡ found_from k (gather (last_of x) xs)
unfolding has_t
last-gone k x xs e =
    let none = (neither x.l x.u).0 (not-true (x.l || x.u) e) in
    finding-nothing k (last_of x) xs (rw none.0) (rw none.1)

-- ---- where the last t is 0

-- what a row with the coefficient a in p leaves of it
abbrev after : Last → ℤ → Kind → Last
after x a k = record {
  t = x.t;
  l = x.l && inside (only (sign_of a)) (named (asked L k));
  u = x.u && inside (only (sign_of a)) (named (asked U k));
  strict = x.strict || (is_strict k && not (eqb (only (sign_of a)) 2));
}

after_kept : (x : Last) (a : ℤ) (k : Kind) → Kept x (only (sign_of a)) k (after x a k)
after_kept x a k = record { t = refl; l = refl; u = refl; strict = refl }

-- a row of q alone leaves all
nought-kept : (x : Last) (k : Kind) → Kept x (only (sign_of (pos 0))) k x
unfolding sign_of only
nought-kept x k = record {
  t = refl;
  l = rw (inside_one nought (named (asked L k)), asked-nought L k) (sym (and-true x.l));
  u = rw (inside_one nought (named (asked U k)), asked-nought U k) (sym (and-true x.u));
  strict = rw (and-false (is_strict k)) (sym (or-false x.strict));
}

module _ (k : Kind) (f : Fraction) (z : f.numerator ≡ pos 0) (board : Board) where
  term-row : {x r : Last} {s : Kind} (a b : ℤ) → end_of x.t ≡ at f → Kept x (only (sign_of a)) s r → Alike (gather_row s a b (last_of x)) (last_of r)
  term-row a b e kept = last_row a b f e (ap only (sym (sign-at-zero f a b z))) kept

  -- what is found goes by p
  by-p : (p q : Polynomial) (x : Last) → end_of x.t ≡ at f → found_from k (gather (last_of x) (rows board p q)) ≡ found_from k (gather (last_of x) (rows board p []))
  unfolding rows rows_of_q rows_from row gather
  by-p = of-rows board (λ p q xs. (x : Last) → end_of x.t ≡ at f → found_from k (gather (last_of x) xs) ≡ found_from k (gather (last_of x) (rows board p []))) (record {
    none = λ x e. refl;
    mine = λ u p q xs m later x e. let s = kind (monomial_sign board u.monomial) in
        let kept = after_kept x u.coefficient s in
        alike (term-row u.coefficient (pos 0) e kept) k xs ∙ later (after x u.coefficient s) e
        ∙ sym (alike (term-row u.coefficient (pos 0) e kept) k (rows board p []));
    its = λ u p q xs m later x e. alike (term-row (pos 0) u.coefficient e (nought-kept x (kind (monomial_sign board u.monomial)))) k xs ∙ later x e;
    both = λ u w p q xs m later x e. let s = kind (monomial_sign board u.monomial) in
        let kept = after_kept x u.coefficient s in
        alike (term-row u.coefficient w.coefficient e kept) k xs ∙ later (after x u.coefficient s) e
        ∙ sym (alike (term-row u.coefficient (pos 0) e kept) k (rows board p []));
  })

  -- one term of p
  pub zero_row : {x r : Last} (c : Term) (p q : Polynomial) → end_of x.t ≡ at f → Kept x (only (sign_of c.coefficient)) (kind (monomial_sign board c.monomial)) r
      → found_from k (gather (last_of r) (rows board p q)) ≡ found_from k (gather (last_of x) (rows board (c ∷ p) q))
  unfolding rows rows_from row gather
  zero_row {x} {r} c p q e kept =
      by-p p q r (ap end_of kept.t ∙ e)
      ∙ sym (alike (term-row c.coefficient (pos 0) e kept) k (rows board p [])) ∙ sym (by-p (c ∷ p) q x e)

  -- no term of p
  pub zero-end : (x : Last) (q : Polynomial) → end_of x.t ≡ at f → found_from k (gather (last_of x) (rows board [] q)) ≡ found_from k (last_of x)
  unfolding rows rows_of_q gather
  zero-end x q e = by-p [] q x e

-- ---- the row that leaves one t

-- -a/b: it is there where b is not 0, and it is 0 where a is
pub record RootOf (a b : ℤ) : Type 0 where
  pub fraction : Fraction
  pub is : end_at a b ≡ at fraction
  pub root : Root fraction a b
  pub nought : is_zero a ≡ true → fraction.numerator ≡ pos 0

pub root-of : (a b : ℤ) → is_zero b ≡ false → RootOf a b
unfolding is_zero
root-of a (pos zero) e = absurd (true≢false e)
root-of a (pos (suc n)) e = record { fraction = record { numerator = neg_ℤ a; less = n }; is = refl; root = root-rising a n; nought = λ z. ap neg_ℤ (is-nought a z) }
root-of a (negsuc n) e = record { fraction = record { numerator = a; less = n }; is = refl; root = root-falling a n; nought = is-nought a }

-- it is all that is left of L and U, if they had it
pub root-left : {c : Cuts} {e : KeptEnd} {r : Last} {a b : ℤ} (k : Kind) (f : Fraction) → end_of e ≡ at f → Root f a b → asks_zero k ≡ true → AtLast c e r
    → Alike (gather_row k a b (gathered_of c)) (last_of r)
unfolding gather_row
root-left {c} {a = a} {b = b} k f e root asks last =
    let zero = asks-zero k asks in
    rw (last.t, last.l f e, last.u f e, last.strict f e, e) (record {
      l = root-row L k a b (interval_of c.l) f zero.0 root;
      u = root-row U k a b (interval_of c.u) f zero.1.0 root;
      l_strict = λ t i. still zero.1.1 t ((inside-point (has_at f (interval_of c.l)) f t).0 i).1;
      u_strict = λ t i. still zero.1.1 t ((inside-point (has_at f (interval_of c.u)) f t).0 i).1;
    })
  where
    -- the row is not strict itself
    still : is_strict k ≡ false → (t : Fraction) → gap f t ∈ 2
        → strict_where (vanish_row k a b (vanishing_of c.vanishing)) t ≡ strict_where (record { a = pos 0; b = pos 0; never = strict_where (vanishing_of c.vanishing) f }) t
    still s t g =
        strict-row k a b (vanishing_of c.vanishing) t
        ∙ rw s (or-false _) ∙ strict-at-one (vanishing_of c.vanishing) f t g ∙ sym (strict-said _ t)
