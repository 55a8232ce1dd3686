-- If no words of factors of either sign pass, no try cuts: the test ≥, and the mirrored one.
-- Law `none-cut`; what it rests on is `passing` (Weights).
use Rattle.std.specs.Prelude.{◌≡◌, refl, Bool, true, false, ◌&&◌, ◌||◌, List, ◌++◌, ℕ, zero, suc, ◌<◌, ℤ, pos, negsuc}
use Rattle.std.proofs.Math.Path.{sym}
use Rattle.std.proofs.Common.{ap, ap₂, ◌∙◌, subst, true≢false, arith, eq-eqb, leb-false}
use Rattle.std.specs.Int.Bits.{bit_or}
use Rattle.rules.specs.Signs.{Sign, negative, positive, SignSet, full, Kind, kind, mirror, mirror_of_sign, inside}
use Rattle.rules.specs.Signs.{open_signs}
use Rattle.rules.specs.Polynomial.{Polynomial, Board, by_terms}
use Rattle.rules.specs.Deduce.{found}
use Rattle.rules.specs.TwoAtoms.{plus_times, non_positive, non_negative, never_positive, never_negative, pair_found, pair_mirrored, tried, try, factors}
use Rattle.rules.specs.TwoAtoms.{with_each, cut_by_all}
use Rattle.sign_laws.specs.Booleans.{and_intro, and_first, and_second, or-first, or-second, never_true, never_both}
use Rattle.sign_laws.specs.Lists.{Every, every_none, every, every_append}
use Rattle.sign_laws.specs.Sets.{◌In◌, PartOf, parts-equal, intersect-below, intersect-first, in-full, in-intersect, in-mirror, in-empty}
use Rattle.sign_laws.specs.Sets.{only_one}
use Rattle.deduction_laws.specs.FractionSets.{Side, L, U}
use Rattle.deduction_laws.specs.Deduction.{turned}
use Rattle.ending_laws.specs.Searches.{parts-cut-none}
use Rattle.removal_laws.specs.Terms.{Signed, by_terms-small}
use Rattle.two_atoms.specs.Cuts.{or_same, cut_in}
use Rattle.masks.specs.declared.Mask.{Mask}
use Rattle.masks.specs.Words.{◌Among◌}
use Rattle.masks.specs.Weights.{word, against, times, word_sum, word-times, passing}
use Rattle.masks.specs.Masks.{MaskOn, joined, swapped, covered, some_way, some_second, some_both, facing, cuts, MayCut}

-- ---- the words as a test sees them

-- the first word has the parts against the test, the second those for it
record Faced (side : Side) (board : Board) (p : Polynomial) (a : Mask) : Type 0 where
  pub bad : a.negative ≡ word (against side) board p
  pub good : a.positive ≡ word (mirror_of_sign (against side)) board p

-- p's own, for the test ≥ and for the mirrored one
own-faced : (side : Side) {board : Board} {p : Polynomial} {a : Mask} → MaskOn board p a → Faced side board p (facing side a)
unfolding mirror_of_sign
own-faced L h = record { bad = h.negative; good = h.positive }
own-faced U h = record { bad = h.positive; good = h.negative }

joined-faced : {side : Side} {board : Board} {p q : Polynomial} {a b : Mask} → Faced side board p a → Faced side board q b
    → Faced side board (p ++ q) (joined a b)
joined-faced {side} {board} {p} {q} h k = record {
  bad = ap₂ bit_or h.bad k.bad ∙ sym (word_sum (against side) board p q);
  good = ap₂ bit_or h.good k.good ∙ sym (word_sum (mirror_of_sign (against side)) board p q);
}

-- a factor is above or below 0
data Factor : ℤ → Type 0 where
  above : (n : ℕ) → Factor (pos (suc n))
  below : (n : ℕ) → Factor (negsuc n)

-- a factor that a test allows, by q's set
unfoldable pub allowed : Side → ℤ → Kind → Bool
allowed L u k = never_positive u k
allowed U u k = never_negative u k

-- u·q: its words are q's or those swapped
module _ {board : Board} {q : Polynomial} {a : Mask} (h : MaskOn board q a) (k : Kind) (test : Mask → Bool) where
  some-way : (side : Side) {u : ℤ} → Factor u → allowed side u k ≡ true → ((b : Mask) → Faced side board (times u q) b → test b ≡ true)
      → some_way k test a ≡ true
  unfolding allowed never_positive never_negative some_way open_signs
  some-way L (above n) e pass = or-first (non_negative k && test (swapped a)) (and_intro e (pass a
      (record {
        bad = h.negative ∙ sym (word-times negative board (pos (suc n)) q);
        good = h.positive ∙ sym (word-times positive board (pos (suc n)) q);
      })))
  some-way L (below n) e pass = or-second (non_positive k && test a) (and_intro e (pass (swapped a)
      (record {
        bad = h.positive ∙ sym (word-times negative board (negsuc n) q);
        good = h.negative ∙ sym (word-times positive board (negsuc n) q);
      })))
  some-way U (above n) e pass = or-second (non_positive k && test a) (and_intro e (pass (swapped a)
      (record {
        bad = h.positive ∙ sym (word-times positive board (pos (suc n)) q);
        good = h.negative ∙ sym (word-times negative board (pos (suc n)) q);
      })))
  some-way U (below n) e pass = or-first (non_negative k && test (swapped a)) (and_intro e (pass a
      (record {
        bad = h.negative ∙ sym (word-times positive board (negsuc n) q);
        good = h.positive ∙ sym (word-times negative board (negsuc n) q);
      })))

faced-covered : {side : Side} {board : Board} {p : Polynomial} {a : Mask} → Faced side board p a
    → word (against side) board p Among word (mirror_of_sign (against side)) board p → covered a ≡ true
faced-covered {a = a} h k = eq-eqb (bit_or a.negative a.positive) a.positive (ap₂ bit_or h.bad h.good ∙ k.is ∙ sym h.good)

-- ---- one try

module _ {board : Board} (signed : Every Signed board) {p q1 q2 : Polynomial} {a b c : Mask} (h : MaskOn board p a) (h1 : MaskOn board q1 b)
    (h2 : MaskOn board q2 c) (k1 k2 : Kind) where
  -- a test that passes has words that pass
  both-pass : (side : Side) {u v : ℤ} → Factor u → Factor v → allowed side u k1 ≡ true → allowed side v k2 ≡ true
      → inside (by_terms board (plus_times (plus_times p u q1) v q2)) (turned side 3) ≡ true → some_both (facing side a) b k1 c k2 ≡ true
  unfolding some_both some_second
  both-pass side {u} {v} f g e1 e2 e =
      some-way h1 k1 (λ (x : Mask). some_second (joined (facing side a) x) c k2) side f e1
      (λ x hx. some-way h2 k2 (λ (y : Mask). covered (joined (joined (facing side a) x) y)) side g e2
      (λ y hy. faced-covered (joined-faced (joined-faced (own-faced side h) hx) hy) (passing side signed p q1 q2 u v e)))

  none_inside : (side : Side) {u v : ℤ} → Factor u → Factor v → allowed side u k1 ≡ true → allowed side v k2 ≡ true
      → some_both (facing side a) b k1 c k2 ≡ false → inside (by_terms board (plus_times (plus_times p u q1) v q2)) (turned side 3) ≡ false
  none_inside side f g e1 e2 e = never_true _ (λ d. never_both (both-pass side f g e1 e2 d) e)

-- ---- what a try leaves

pub full-part : (s : SignSet) → PartOf s full
full-part s = record { each = λ x h. in-full x }

not_found : (t : SignSet) (strict : Bool) → inside t 3 ≡ false → pair_found t strict ≡ 7
unfolding pair_found found
not_found t strict e = rw e

-- the mirrored test, by the set itself
inside-mirror : (t : SignSet) → t < 8 → inside (mirror t) 3 ≡ true → inside t (mirror 3) ≡ true
unfolding open_signs
inside-mirror zero h e = refl
inside-mirror (suc zero) h e = e
inside-mirror (suc (suc zero)) h e = refl
inside-mirror (suc (suc (suc zero))) h e = e
inside-mirror (suc (suc (suc (suc zero)))) h e = refl
inside-mirror (suc (suc (suc (suc (suc zero))))) h e = e
inside-mirror (suc (suc (suc (suc (suc (suc zero)))))) h e = refl
inside-mirror (suc (suc (suc (suc (suc (suc (suc zero))))))) h e = e
inside-mirror (suc (suc (suc (suc (suc (suc (suc (suc t)))))))) h e = absurd (omega arith)

not-mirrored : (t : SignSet) (strict : Bool) → t < 8 → inside t (mirror 3) ≡ false → pair_mirrored t strict ≡ 7
unfolding pair_mirrored open_signs
not-mirrored t strict h e = ap mirror (not_found (mirror t) strict (never_true (inside (mirror t) 3) (λ d. never_both (inside-mirror t h d) e)))

-- what is found by a test
unfoldable pub finding : Side → SignSet → Bool → SignSet
finding L t strict = pair_found t strict
finding U t strict = pair_mirrored t strict

pub none_found : (side : Side) (t : SignSet) (strict : Bool) → t < 8 → inside t (turned side 3) ≡ false → finding side t strict ≡ 7
unfolding finding
none_found L t strict h e = not_found t strict e
none_found U t strict h e = not-mirrored t strict h e

-- it has the sign that the test is for
found-positive : (t : SignSet) (strict : Bool) → positive In pair_found t strict
unfolding pair_found found open_signs
found-positive t strict = by (inside t 3 && (inside t 1 || strict)) (inside t 3)
  where
    by : (a b : Bool) → positive In found a b
    by true b = record { is = refl }
    by false true = record { is = refl }
    by false false = record { is = refl }

pub found-own : (side : Side) (t : SignSet) (strict : Bool) → mirror_of_sign (against side) In finding side t strict
unfolding finding pair_mirrored mirror_of_sign
found-own L t strict = found-positive t strict
found-own U t strict = in-mirror (found-positive (mirror t) strict)

-- a set that has no other sign is not cut by it
pub own_alone : (side : Side) (s : SignSet) → s < 8 → cuts side s ≡ false → (x : Sign) → x In s → x ≡ mirror_of_sign (against side)
unfolding open_signs
own_alone L zero h e x k = in-empty k
own_alone L (suc zero) h e x k = only_one k
own_alone L (suc (suc s)) h e x k = absurd (omega (arith, leb-false 2 (suc (suc s)) e))
own_alone U zero h e x k = in-empty k
own_alone U (suc zero) h e x k = absurd (true≢false e)
own_alone U (suc (suc zero)) h e x k = absurd (true≢false e)
own_alone U (suc (suc (suc zero))) h e x k = absurd (true≢false e)
own_alone U (suc (suc (suc (suc zero)))) h e x k = only_one k
own_alone U (suc (suc (suc (suc (suc zero))))) h e x k = absurd (true≢false e)
own_alone U (suc (suc (suc (suc (suc (suc zero)))))) h e x k = absurd (true≢false e)
own_alone U (suc (suc (suc (suc (suc (suc (suc zero))))))) h e x k = absurd (true≢false e)
own_alone U (suc (suc (suc (suc (suc (suc (suc (suc s)))))))) h e x k = absurd (omega arith)

-- the findings of both tests, if they allow both
pub tried-leaves : (s t : SignSet) (strict a b : Bool) → (a ≡ true → PartOf s (finding L t strict)) → (b ≡ true → PartOf s (finding U t strict))
    → Every (PartOf s) (tried a b t strict)
unfolding tried finding
tried-leaves s t strict true true f g = every (record { each = λ x h. in-intersect ((f refl).each x h) ((g refl).each x h) }) every_none
tried-leaves s t strict true false f g = every (f refl) every_none
tried-leaves s t strict false true f g = every (g refl) every_none
tried-leaves s t strict false false f g = every_none

-- all factors
with-each : {s : SignSet} (f : ℤ → List SignSet) → ((u : ℤ) → Factor u → Every (PartOf s) (f u)) → Every (PartOf s) (with_each f factors)
unfolding with_each factors
with-each f each = every_append (each (negsuc 3) (below 3)) (every_append (each (negsuc 2) (below 2)) (every_append (each (negsuc 1) (below 1))
    (every_append (each (negsuc 0) (below 0)) (every_append (each (pos 1) (above 0)) (every_append (each (pos 2) (above 1))
    (every_append (each (pos 3) (above 2)) (every_append (each (pos 4) (above 3)) every_none)))))))

module _ {board : Board} (signed : Every Signed board) {p q1 q2 : Polynomial} {a b c : Mask} (h : MaskOn board p a) (h1 : MaskOn board q1 b)
    (h2 : MaskOn board q2 c)
    (set1 set2 s : SignSet) (low : s < 8) (none : (side : Side) → cuts side s && some_both (facing side a) b (kind set1) c (kind set2) ≡ false) where
  side-leaves : (side : Side) {u v : ℤ} → Factor u → Factor v → allowed side u (kind set1) && allowed side v (kind set2) ≡ true → (strict : Bool)
      → PartOf s (finding side (by_terms board (plus_times (plus_times p u q1) v q2)) strict)
  side-leaves side {u} {v} f g e strict = by (cuts side s) refl (none side)
    where
      t : SignSet
      t = by_terms board (plus_times (plus_times p u q1) v q2)

      by : (d : Bool) → cuts side s ≡ d → d && some_both (facing side a) b (kind set1) c (kind set2) ≡ false → PartOf s (finding side t strict)
      by true d n = rw (none_found side t strict (by_terms-small board _) (none_inside signed h h1 h2 (kind set1) (kind set2) side f g
          (and_first (allowed side u (kind set1)) (allowed side v (kind set2)) e)
          (and_second (allowed side u (kind set1)) (allowed side v (kind set2)) e) n)) (full-part s)
      by false d n = record {
        each = λ x k. subst (λ (y : Sign). y In finding side t strict) (sym (own_alone side s low d x k)) (found-own side t strict);
      }

  try-leaves : {u v : ℤ} → Factor u → Factor v
      → Every (PartOf s) (try board p (record { polynomial = q1; set = set1 }) (record { polynomial = q2; set = set2 }) u v)
  unfolding try allowed
  try-leaves f g = tried-leaves s _ _ _ _ (λ e. side-leaves L f g e _) (λ e. side-leaves U f g e _)

  all-leave : Every (PartOf s)
      (with_each (λ (u : ℤ). with_each
      (try board p (record { polynomial = q1; set = set1 }) (record { polynomial = q2; set = set2 }) u) factors) factors)
  all-leave = with-each _ (λ u f. with-each _ (λ v g. try-leaves f g))

-- ---- all tries of a pair

cut-by-all : (s : SignSet) → s < 8 → {fs : List SignSet} → Every (PartOf s) fs → cut_by_all s fs ≡ s
unfolding cut_by_all
cut-by-all s low every_none = refl
cut-by-all s low (every {a = f} {l = fs} h hs) =
    ap (λ (t : SignSet). cut_by_all t fs)
    (parts-equal (intersect-below s f) low (intersect-first s f) (record { each = λ x k. in-intersect k (h.each x k) }))
    ∙ cut-by-all s low hs

pub cut-in : (all : Bool) (s : SignSet) → s < 8 → {fs : List SignSet} → Every (PartOf s) fs → s ≡ cut_in all s fs
unfolding cut_in or_same
cut-in true s low h = sym (cut-by-all s low h)
cut-in false s low h = sym (ap (or_same s) (parts-cut-none s low h))

-- no test has words that pass
pub none-cut : {p q1 q2 : Mask} {set1 set2 s : SignSet} → s < 8
    → ((side : Side) → cuts side s && some_both (facing side p) q1 (kind set1) q2 (kind set2) ≡ false)
    → MayCut p q1 q2 set1 set2 s false
none-cut {p} {q1} {q2} {set1} {set2} {s} low none = record {
  leaves = λ e {cs} {ms} {ss} {x} h e1 e2 all. record {
    on = λ {board} signed. cut-in all s low (all-leave signed.filled (h.p.on signed.p) (h.q1.on signed.q1) (h.q2.on signed.q2)
        x.set1 x.set2 s low (rw (e1, e2) none));
  };
}

-- some may
pub some-cut : {p q1 q2 : Mask} {set1 set2 s : SignSet} → MayCut p q1 q2 set1 set2 s true
some-cut = record { leaves = λ e. absurd (true≢false e) }

-- the two tests of the code
pub neither-cuts : {p q1 q2 : Mask} {set1 set2 s : SignSet} {x y : Bool} → s < 8 → x ≡ cuts L s && some_both p q1 (kind set1) q2 (kind set2)
    → x ≡ false
    → y ≡ cuts U s && some_both (swapped p) q1 (kind set1) q2 (kind set2) → MayCut p q1 q2 set1 set2 s y
neither-cuts {y = true} low e f g = some-cut
neither-cuts {p} {q1} {q2} {set1} {set2} {s} {y = false} low e f g = none-cut low by
  where
    by : (side : Side) → cuts side s && some_both (facing side p) q1 (kind set1) q2 (kind set2) ≡ false
    by L = sym e ∙ f
    by U = sym g

-- ---- the code's tests, one after the other

pub first_holds : {x r : Bool} (y : Bool) → r ≡ x → r ≡ true → true ≡ x || y
first_holds y e f = sym (or-first y (sym e ∙ f))

pub second-tells : {x y r s : Bool} → r ≡ x → r ≡ false → s ≡ y → s ≡ x || y
second-tells e f g = rw (← e, f) g

pub first-allows : {x y r s : Bool} → r ≡ x → r ≡ true → s ≡ y → s ≡ x && y
first-allows e f g = rw (← e, f) g

pub first-refuses : {x r : Bool} (y : Bool) → r ≡ x → r ≡ false → false ≡ x && y
first-refuses y e f = rw (← e, f)
