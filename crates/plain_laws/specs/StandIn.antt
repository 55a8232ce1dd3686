-- Each t has a stand-in among the values that are tested: one that lies as t does to every listed fraction.
-- The listed fractions rise, so t is one of them, or between two neighbours, or below or above them all.
use Rattle.std.specs.Prelude.{◌≡◌, refl, List, [], ◌∷◌}
use Rattle.std.proofs.Common.{sym, ◌∙◌, subst}
use mathlib.Core.List.Memᴰ.{head as here}
use mathlib.Core.List.Memᴰ.{tail as later}
use mathlib.Core.List.{Memᴰ as Member}
use Rattle.rules.specs.Signs.{Sign, negative, nought, positive, sign_of, open_signs}
use Rattle.rules.specs.Deduce.{Fraction}
use Rattle.rules.specs.Plain.{between, one_less, one_more, up_from, filled}
use Rattle.sign_laws.specs.Sets.{only_one}
use Rattle.sign_laws.specs.Whole.{◌∈◌, ∈-negation, by_sign, by_equal, clash, wider, is_positive}
use Rattle.deduction_laws.specs.Fractions.{gap, gap-turned, gap-through, no_gap, one-back, one-more, one-less, gap-to-between, gap-from-between}

-- ---- Three ways to lie.

pub data Order (t u : Fraction) : Type 0 where
  before : gap t u ∈ 1 → Order t u
  level : gap t u ∈ 2 → Order t u
  behind : gap u t ∈ 1 → Order t u

pub order : (t u : Fraction) → Order t u
unfolding open_signs
order t u = by (sign_of (gap t u)) refl
  where
    by : (s : Sign) → sign_of (gap t u) ≡ s → Order t u
    by negative e = behind (by_equal (gap-turned t u) (∈-negation (by_sign {x = gap t u} {a = 4} negative e refl)))
    by nought e = level (by_sign {x = gap t u} nought e refl)
    by positive e = before (by_sign {x = gap t u} positive e refl)

pub weak : (t u : Fraction) → gap t u ∈ 1 → gap t u ∈ 3
unfolding open_signs
weak t u h = wider h refl

pub weak-level : (t u : Fraction) → gap t u ∈ 2 → gap t u ∈ 3
unfolding open_signs
weak-level t u h = wider h refl

pub lt-lt : (t u w : Fraction) → gap t u ∈ 1 → gap u w ∈ 1 → gap t w ∈ 1
unfolding open_signs
lt-lt t u w h k = gap-through t u w h k

pub lt-le : (t u w : Fraction) → gap t u ∈ 1 → gap u w ∈ 3 → gap t w ∈ 1
unfolding open_signs
lt-le t u w h k = gap-through t u w h k

pub le-lt : (t u w : Fraction) → gap t u ∈ 3 → gap u w ∈ 1 → gap t w ∈ 1
unfolding open_signs
le-lt t u w h k = gap-through t u w h k

level-level : (t u w : Fraction) → gap t u ∈ 2 → gap u w ∈ 2 → gap t w ∈ 2
unfolding open_signs
level-level t u w h k = gap-through t u w h k

pub not-both : {X : Type 0} (t u : Fraction) → gap t u ∈ 3 → gap u t ∈ 1 → X
unfolding open_signs
not-both t u h k = clash h (by_equal (gap-turned u t) (∈-negation k)) refl

-- ---- Lying alike to every fraction of a list.

pub record Twin (M : List Fraction) (t u : Fraction) : Type 0 where
  pub alike : (r : Fraction) → Member r M → sign_of (gap r t) ≡ sign_of (gap r u)

negative-gap : (r t : Fraction) → gap t r ∈ 1 → sign_of (gap r t) ≡ negative
unfolding open_signs
negative-gap r t h = only_one {y = negative} (by_equal {a = 4} (gap-turned t r) (∈-negation h)).sign

pub both_below : (r t u : Fraction) → gap t r ∈ 1 → gap u r ∈ 1 → sign_of (gap r t) ≡ sign_of (gap r u)
both_below r t u h k = negative-gap r t h ∙ sym (negative-gap r u k)

pub both-above : (r t u : Fraction) → gap r t ∈ 1 → gap r u ∈ 1 → sign_of (gap r t) ≡ sign_of (gap r u)
both-above r t u h k = is_positive h ∙ sym (is_positive k)

pub level-alike : (r t u : Fraction) → gap t u ∈ 2 → sign_of (gap r t) ≡ sign_of (gap r u)
unfolding open_signs
level-alike r t u h = by (order r t)
  where
    by : Order r t → sign_of (gap r t) ≡ sign_of (gap r u)
    by (before l) = both-above r t u l (lt-le r t u l (weak-level t u h))
    by (level l) = only_one {y = nought} l.sign ∙ sym (only_one {y = nought} (level-level r t u l h).sign)
    by (behind l) = both_below r t u l (le-lt u t r (weak-level u t (one-back t u h)) l)

split : {P : Fraction → Type 0} {g : Fraction} {gs : List Fraction} → P g → ((r : Fraction) → Member r gs → P r) → (r : Fraction) → Member r (g ∷ gs) → P r
split {P} h k r (here e) = subst P (sym e) h
split h k r (later m) = k r m

-- ---- The fractions rise.

-- from t on
pub data Rises : Fraction → List Fraction → Type 0 where
  last : {t : Fraction} → Rises t []
  next : {t u : Fraction} {us : List Fraction} → gap t u ∈ 1 → Rises u us → Rises t (u ∷ us)

pub all_above : {t : Fraction} {us : List Fraction} → Rises t us → (r : Fraction) → Member r us → gap t r ∈ 1
all_above last r m = elim m [ ]
all_above {t} (next {u = u} h k) r m = split {P = λ r. gap t r ∈ 1} h (λ r m. lt-lt t u r h (all_above k r m)) r m

-- ---- Stand-ins.

-- of a t at or above x, from x on
record From (x : Fraction) (us : List Fraction) (t : Fraction) : Type 0 where
  value : Fraction
  listed : Member value (up_from x us)
  above : gap x value ∈ 3
  twin : Twin (x ∷ us) t value

level-from : (x : Fraction) (us : List Fraction) (t : Fraction) → Member x (up_from x us) → gap x x ∈ 3 → gap x t ∈ 2 → From x us t
level-from x us t m i h = record { value = x; listed = m; above = i; twin = record { alike = λ r n. level-alike r t x (one-back x t h) } }

no_less : (x : Fraction) → gap x x ∈ 3
unfolding open_signs
no_less x = by_equal (no_gap x) (by_sign nought refl refl)

from-x : (x : Fraction) (us : List Fraction) → Rises x us → (t : Fraction) → gap x t ∈ 3 → From x us t
unfolding up_from
from-x x [] last t h = by (order x t)
  where
    by : Order x t → From x [] t
    by (level e) = level-from x [] t (here refl) (no_less x) e
    by (behind e) = not-both x t h e
    by (before e) = record {
      value = one_more x;
      listed = later (here refl);
      above = weak x (one_more x) (one-more x);
      twin = record { alike = split {P = λ r. sign_of (gap r t) ≡ sign_of (gap r (one_more x))} (both-above x t (one_more x) e (one-more x)) (λ r m. elim m [ ]) };
    }
from-x x (u ∷ us) (next g k) t h = by (λ l. from-x u us k t l) (order x t)
  where
    up : gap x (between x u) ∈ 1
    up = by_equal (gap-to-between x u) g

    down : gap (between x u) u ∈ 1
    down = by_equal (gap-from-between x u) g

    further : gap x t ∈ 1 → From u us t → From x (u ∷ us) t
    further e f = let v = f.value in let over = lt-le x u v g f.above in record {
      value = v;
      listed = later (later f.listed);
      above = weak x v over;
      twin = record { alike = split {P = λ r. sign_of (gap r t) ≡ sign_of (gap r v)} (both-above x t v e over) f.twin.alike };
    }

    past : (gap u t ∈ 3 → From u us t) → gap x t ∈ 1 → Order t u → From x (u ∷ us) t
    past more e (before l) = record {
      value = between x u;
      listed = later (here refl);
      above = weak x (between x u) up;
      twin = record {
        alike = split {P = λ r. sign_of (gap r t) ≡ sign_of (gap r (between x u))} (both-above x t (between x u) e up)
            (split {P = λ r. sign_of (gap r t) ≡ sign_of (gap r (between x u))} (both_below u t (between x u) l down)
            (λ r m. both_below r t (between x u) (lt-lt t u r l (all_above k r m)) (lt-lt (between x u) u r down (all_above k r m))));
      };
    }
    past more e (level l) = further e (more (weak-level u t (one-back t u l)))
    past more e (behind l) = further e (more (weak u t l))

    by : (gap u t ∈ 3 → From u us t) → Order x t → From x (u ∷ us) t
    by more (level e) = level-from x (u ∷ us) t (here refl) (no_less x) e
    by more (behind e) = not-both x t h e
    by more (before e) = past more e (order t u)

-- A value that is tested and lies as t does.
pub record StandIn (M : List Fraction) (t : Fraction) : Type 0 where
  pub value : Fraction
  pub listed : Member value (filled M)
  pub twin : Twin M t value

-- Each t has one.
pub stand-in : (x : Fraction) (us : List Fraction) → Rises x us → (t : Fraction) → StandIn (x ∷ us) t
unfolding filled
stand-in x us k t = by (order x t)
  where
    at-or-above : gap x t ∈ 3 → StandIn (x ∷ us) t
    at-or-above h = let f = from-x x us k t h in record { value = f.value; listed = later f.listed; twin = f.twin }

    by : Order x t → StandIn (x ∷ us) t
    by (before h) = at-or-above (weak x t h)
    by (level h) = at-or-above (weak-level x t h)
    by (behind h) = record {
      value = one_less x;
      listed = here refl;
      twin = record {
        alike = split {P = λ r. sign_of (gap r t) ≡ sign_of (gap r (one_less x))} (both_below x t (one_less x) h (one-less x))
            (λ r m. both_below r t (one_less x) (lt-lt t x r h (all_above k r m)) (lt-lt (one_less x) x r (one-less x) (all_above k r m)));
      };
    }
