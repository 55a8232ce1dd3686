-- A row that bars a test keeps the set by terms from lying inside what the test asks for, so that the try cuts nothing by it.
use mathlib.Core.Path.{◌≡◌, refl, sym, ap, ap₂, subst, ◌∙◌}
use mathlib.Core.Bool.{Bool, true, false, not, ◌&&◌, true≢false, false≢true}
use mathlib.Core.List.{List, [], ◌∷◌}
use Prim.Native.Nat.{ℕ, ◌+◌, ◌<◌, ◌≤◌}
use native.Mathlib.Omega.{arith}
use lib.IntN.{ℤ, neg_ℤ, ◌+ℤ◌, ◌-ℤ◌, ◌*ℤ◌}
use lib.Signed.{non_neg}
use Rattle.rules.specs.Signs.{Sign, negative, nought, positive, SignSet, sign_of, Kind, named, kind, has, mirror_of_sign, inside, open_signs}
use Rattle.rules.specs.Polynomial.{Polynomial, Board, monomial_sign, by_terms}
use Rattle.rules.specs.TwoAtoms.{plus_times, never_positive, never_negative, try, factors, with_each}
use Rattle.whole.specs.Solver.{solve, #, neg, ◌:+◌, ◌:-◌, ◌:*◌}
use Rattle.sign_laws.specs.Booleans.{and_intro, never_true}
use Rattle.sign_laws.specs.Lists.{Every, every_none, every_append}
use Rattle.sign_laws.specs.Sets.{◌In◌, PartOf}
use Rattle.sign_laws.specs.Whole.{◌∈◌, by_equal}
use Rattle.deduction_laws.specs.FractionSets.{Side, L, U, asked}
use Rattle.deduction_laws.specs.Deduction.{turned}
use Rattle.removal_laws.specs.Terms.{by_terms-small}
use Rattle.removal_laws.specs.Kinds.{only-if, by-check, each-kind, name-part}
use Rattle.removal_laws.specs.AskedTerms.{coefficient_at, try-asks}
use Rattle.deduce.specs.Runs.{polynomial_of}
use Rattle.masks.specs.Masks.{cuts}
use Rattle.masks.specs.Weights.{against}
use Rattle.masks.specs.Passes.{allowed, finding, none_found, found-own, own_alone, full-part, tried-leaves, cut-in}
use Rattle.two_atoms.specs.declared.pair.Pair.{Pair}
use Rattle.two_atoms.specs.Tries.{factor_at, SignedOn}
use Rattle.sieve.specs.Rows.{Rows, RowOf, Filled}
use Rattle.sieve.specs.Tries.{bars, half_of, first_of, from_of, PassedPair}
use Rattle.sieve.specs.Sieve.{AnyLeft}

-- ---- a row that bars a test

bars-wider : (x z : Sign) {s t : SignSet} → PartOf s t → bars x z s ≡ true → bars x z t ≡ true
unfolding bars
bars-wider negative z p e = (p.each (mirror_of_sign z) (record { is = e })).is
bars-wider nought z p e = e
bars-wider positive z p e = (p.each z (record { is = e })).is

not-asked : (side : Side) (x : Sign) (k : Kind) → bars x (against side) (named k) ≡ true → has x (named (asked side k)) ≡ true → ⊥
unfolding bars open_signs
not-asked side x k h e = false≢true
    (sym (ap not e) ∙ by-check (bars x (against side) (named k)) (not (has x (named (asked side k)))) (check side x) h)
  where
    test : Side → Sign → Kind → Bool
    test side x k = only-if (bars x (against side) (named k)) (not (has x (named (asked side k))))

    check : (side : Side) (x : Sign) → test side x k ≡ true
    check L negative = each-kind (test L negative) refl k
    check L nought = each-kind (test L nought) refl k
    check L positive = each-kind (test L positive) refl k
    check U negative = each-kind (test U negative) refl k
    check U nought = each-kind (test U nought) refl k
    check U positive = each-kind (test U positive) refl k

turned-product : (a b c u w : ℤ) → a +ℤ u *ℤ b -ℤ w *ℤ c ≡ a +ℤ u *ℤ b +ℤ neg_ℤ w *ℤ c
turned-product a b c u w =
    solve (a ∷ b ∷ c ∷ u ∷ w ∷ []) (# 0 :+ # 3 :* # 1 :- # 4 :* # 2) (# 0 :+ # 3 :* # 1 :+ neg (# 4) :* # 2) tt

module _ (side : Side) {board : Board} {cs : List ℤ} {ms : List ℕ} {ss : List SignSet} {x : Pair} (signed : SignedOn board ms ss x) where
  row-bars : {a b c : ℤ} {s : SignSet} → RowOf cs ms ss x a b c s → (u w : ℤ) → bars (sign_of (a +ℤ u *ℤ b -ℤ w *ℤ c)) (against side) s ≡ true
      → inside (by_terms board
      (plus_times (plus_times (polynomial_of cs ms x.p) u (polynomial_of cs ms x.q1)) (neg_ℤ w) (polynomial_of cs ms x.q2)))
      (turned side 3) ≡ false
  row-bars {a} {b} {c} {s} h u w e = never_true _ (λ d. not-asked side z (kind t) wide (asks d).sign.is)
    where
      z : Sign
      z = sign_of (a +ℤ u *ℤ b -ℤ w *ℤ c)

      t : SignSet
      t = monomial_sign board h.monomial

      wide : bars z (against side) (named (kind t)) ≡ true
      wide = bars-wider z (against side) (name-part t) (bars-wider z (against side) (h.sign signed) e)

      same : a +ℤ u *ℤ b -ℤ w *ℤ c ≡ coefficient_at h.monomial (polynomial_of cs ms x.p)
          +ℤ u *ℤ coefficient_at h.monomial (polynomial_of cs ms x.q1) +ℤ neg_ℤ w *ℤ coefficient_at h.monomial (polynomial_of cs ms x.q2)
      same = turned-product a b c u w ∙ sym (ap₂ (λ (q r : ℤ). q +ℤ neg_ℤ w *ℤ r) (ap₂ (λ (q r : ℤ). q +ℤ u *ℤ r) h.p h.q1) h.q2)

      asks : inside (by_terms board
          (plus_times (plus_times (polynomial_of cs ms x.p) u (polynomial_of cs ms x.q1)) (neg_ℤ w) (polynomial_of cs ms x.q2)))
          (turned side 3) ≡ true → a +ℤ u *ℤ b -ℤ w *ℤ c ∈ named (asked side (kind t))
      asks d = by_equal same
          (try-asks side signed.filled (polynomial_of cs ms x.p) (polynomial_of cs ms x.q1) (polynomial_of cs ms x.q2) u (neg_ℤ w) d
          h.monomial)

-- ---- the factors by their signs

half_is : (side : Side) (above : Bool) (u : ℤ) (k : Kind) → non_neg u ≡ above → allowed side u k ≡ half_of side above k
unfolding allowed never_positive never_negative half_of
half_is L true u k e = rw e
half_is L false u k e = rw e
half_is U true u k e = rw e
half_is U false u k e = rw e

module _ {s : SignSet} (f : ℤ → List SignSet) where
  with-first : ((above : Bool) (i : ℕ) → first_of above ≤ i → i < first_of above + 4 → non_neg (factor_at i) ≡ above → Every (PartOf s) (f (factor_at i)))
      → Every (PartOf s) (with_each f factors)
  unfolding with_each factors factor_at
  with-first each = every_append (each false 0 (omega arith) (omega arith) refl) (every_append (each false 1 (omega arith) (omega arith) refl)
      (every_append (each false 2 (omega arith) (omega arith) refl) (every_append (each false 3 (omega arith) (omega arith) refl)
      (every_append (each true 4 (omega arith) (omega arith) refl) (every_append (each true 5 (omega arith) (omega arith) refl)
      (every_append (each true 6 (omega arith) (omega arith) refl) (every_append (each true 7 (omega arith) (omega arith) refl) every_none)))))))

  with_second : ((above : Bool) (j : ℕ) → from_of above ≤ j → j < from_of above + 4 → non_neg (neg_ℤ (factor_at j)) ≡ above
      → Every (PartOf s) (f (neg_ℤ (factor_at j))))
      → Every (PartOf s) (with_each f factors)
  unfolding with_each factors factor_at
  with_second each = every_append (each false 7 (omega arith) (omega arith) refl) (every_append (each false 6 (omega arith) (omega arith) refl)
      (every_append (each false 5 (omega arith) (omega arith) refl) (every_append (each false 4 (omega arith) (omega arith) refl)
      (every_append (each true 3 (omega arith) (omega arith) refl) (every_append (each true 2 (omega arith) (omega arith) refl)
      (every_append (each true 1 (omega arith) (omega arith) refl) (every_append (each true 0 (omega arith) (omega arith) refl) every_none)))))))

-- ---- all tries

module _ (board : Board) (p q1 q2 : Polynomial) (set1 set2 s : SignSet) (low : s < 8)
    (none : (above1 above2 : Bool) (side : Side) → cuts side s && (half_of side above1 (kind set1) && half_of side above2 (kind set2)) ≡ true
    → (i : ℕ) → first_of above1 ≤ i → i < first_of above1 + 4 → (j : ℕ) → from_of above2 ≤ j → j < from_of above2 + 4
    → inside (by_terms board (plus_times (plus_times p (factor_at i) q1) (neg_ℤ (factor_at j)) q2)) (turned side 3) ≡ false) where
  module _ (above1 : Bool) (i : ℕ) (fi : first_of above1 ≤ i) (li : i < first_of above1 + 4) (ei : non_neg (factor_at i) ≡ above1)
      (above2 : Bool) (j : ℕ) (fj : from_of above2 ≤ j) (lj : j < from_of above2 + 4) (ej : non_neg (neg_ℤ (factor_at j)) ≡ above2) where
    side-leaves : (side : Side) → allowed side (factor_at i) (kind set1) && allowed side (neg_ℤ (factor_at j)) (kind set2) ≡ true → (strict : Bool)
        → PartOf s (finding side (by_terms board (plus_times (plus_times p (factor_at i) q1) (neg_ℤ (factor_at j)) q2)) strict)
    side-leaves side e strict = by (cuts side s) refl
      where
        t : SignSet
        t = by_terms board (plus_times (plus_times p (factor_at i) q1) (neg_ℤ (factor_at j)) q2)

        allows : half_of side above1 (kind set1) && half_of side above2 (kind set2) ≡ true
        allows = sym (ap₂ ◌&&◌ (half_is side above1 (factor_at i) (kind set1) ei) (half_is side above2 (neg_ℤ (factor_at j)) (kind set2) ej)) ∙ e

        by : (d : Bool) → cuts side s ≡ d → PartOf s (finding side t strict)
        by true d = rw (none_found side t strict (by_terms-small board _) (none above1 above2 side (and_intro d allows) i fi li j fj lj)) (full-part s)
        by false d = record {
          each = λ x k. subst (λ (y : Sign). y In finding side t strict) (sym (own_alone side s low d x k)) (found-own side t strict);
        }

    try-leaves : Every (PartOf s)
        (try board p (record { polynomial = q1; set = set1 }) (record { polynomial = q2; set = set2 }) (factor_at i) (neg_ℤ (factor_at j)))
    unfolding try allowed
    try-leaves = tried-leaves s _ _ _ _ (λ e. side-leaves L e _) (λ e. side-leaves U e _)

  all-leave : Every (PartOf s)
      (with_each (λ (u : ℤ). with_each
      (try board p (record { polynomial = q1; set = set1 }) (record { polynomial = q2; set = set2 }) u) factors) factors)
  all-leave = with-first _ (λ above1 i fi li ei. with_second _ (λ above2 j fj lj ej. try-leaves above1 i fi li ei above2 j fj lj ej))

-- each try that the sets allow and that can cut the set is barred by a row of the pair
pub none_left : {cs : List ℤ} {ms : List ℕ} {ss : List SignSet} {x : Pair} {r : Rows} {n : ℕ} {set : SignSet} {answer : Bool} → set < 8
    → Filled cs ms ss x r n → PassedPair r n x.set1 x.set2 set answer → AnyLeft cs ms ss x set answer
none_left {cs} {ms} {x = x} {set = set} low filled passed = record {
  leaves = λ e all. record {
    on = λ {board} signed. cut-in all set low
        (all-leave board (polynomial_of cs ms x.p) (polynomial_of cs ms x.q1) (polynomial_of cs ms x.q2) x.set1 x.set2 set low
        (λ above1 above2 side g i a b j c d. let k = passed.caught e above1 above2 side g i a b j c d in
        row-bars side signed (filled.each k.at k.low) (factor_at i) (factor_at j) k.barred));
  };
}

pub some_left : {cs : List ℤ} {ms : List ℕ} {ss : List SignSet} {x : Pair} {set : SignSet} → AnyLeft cs ms ss x set true
some_left = record { leaves = λ e. absurd (true≢false e) }
