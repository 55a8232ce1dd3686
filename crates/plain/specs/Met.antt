-- The values in the order in which the code meets them: each -a/b and 0, behind each the one between it and its neighbour above, or the greatest plus 1;
-- last the least less 1. Equal fractions are met again, with the same value behind them, which changes nothing; so nothing is stored.
use Rattle.std.specs.Prelude.{◌≡◌, refl, Bool, true, false, not, ◌⊎◌, List, [], ◌∷◌, zero, suc, ℤ, pos, negsuc}
use Rattle.std.proofs.Common.{sym, ap, ◌∙◌, subst, true≢false, inl, inr, ⊎_elim}
use Rattle.std.proofs.lemmas.Bool.{false≢true}
use mathlib.Core.List.Memᴰ.{head as here}
use mathlib.Core.List.Memᴰ.{tail as later}
use mathlib.Core.List.{Memᴰ as Member}
use Rattle.rules.specs.Signs.{nought, sign_of, open_signs}
use Rattle.rules.specs.Deduce.{Fraction, End, free, at, Row, at_most, end_at_most, end_below, at_zero}
use Rattle.rules.specs.Plain.{zero_fraction, between, one_less, one_more}
use Rattle.sign_laws.specs.Whole.{◌∈◌, by_sign, by_equal}
use Rattle.deduction_laws.specs.Fractions.{combined, gap, no_gap, gap-through, gap-from-zero, at-most, not-at-most, one-back, one-more, one-less, gap-to-between, gap-from-between}
use Rattle.deduction_laws.specs.Intervals.{rising, falling}
use Rattle.plain_laws.specs.StandIn.{Order, before, level, behind, order, Twin, level-alike, lt-lt, lt-le, le-lt, not-both, weak, weak-level, both_below, both-above}
use Rattle.plain_laws.specs.Listed.{flat-sign, turned-sign}
use Rattle.plain_laws.specs.Same.{Alike, Enough}
use Rattle.interval.specs.Ends.{end_at, one_of, lower_end}

-- ---- What is met.

-- An end e joins: the nearer of those above f.
unfoldable pub nearer : End → End → End → End
nearer f near free = near
nearer f near (at g) = one_of (end_below f (at g)) (lower_end near (at g)) near

unfoldable pub nearest : End → End → List Row → End
nearest f near [] = near
nearest f near (x ∷ xs) = nearest f (nearer f near (end_at x.a x.b)) xs

-- The neighbour above f among 0 and the fractions of the rows; of a free f it is the least of all.
unfoldable pub neighbour : End → List Row → End
neighbour f xs = nearest f (nearer f free at_zero) xs

unfoldable pub beside : Fraction → End → Fraction
beside f free = one_more f
beside f (at g) = between f g

unfoldable pub under : End → Fraction
under free = zero_fraction
under (at g) = one_less g

unfoldable pub met_end : List Row → End → List Fraction → List Fraction
met_end all free rest = rest
met_end all (at f) rest = f ∷ beside f (neighbour (at f) all) ∷ rest

unfoldable pub met_from : List Row → List Row → List Fraction
met_from all [] = met_end all at_zero (under (neighbour free all) ∷ [])
met_from all (x ∷ xs) = met_end all (end_at x.a x.b) (met_from all xs)

-- ---- The fractions, as a list.

unfoldable pub with_end : End → List Fraction → List Fraction
with_end free us = us
with_end (at g) us = g ∷ us

unfoldable pub marks : List Row → List Fraction
marks [] = zero_fraction ∷ []
marks (x ∷ xs) = with_end (end_at x.a x.b) (marks xs)

later-twin : {g : Fraction} {M : List Fraction} {t u : Fraction} → Twin (g ∷ M) t u → Twin M t u
later-twin h = record { alike = λ r m. h.alike r (later m) }

root-twin : (a b : ℤ) (M : List Fraction) (t u : Fraction) → Twin (with_end (end_at a b) M) t u → (sign_of (combined t a b) ≡ sign_of (combined u a b)) × Twin M t u
unfolding with_end
root-twin a (pos zero) M t u h = (flat-sign a t ∙ sym (flat-sign a u), h)
root-twin a (pos (suc b)) M t u h = (ap sign_of (rising a b t) ∙ h.alike _ (here refl) ∙ ap sign_of (sym (rising a b u)), later-twin h)
root-twin a (negsuc b) M t u h = (
  ap sign_of (falling a b t) ∙ turned-sign (record { numerator = a; less = b }) t u (h.alike _ (here refl)) ∙ ap sign_of (sym (falling a b u)),
  later-twin h,
)

row-twin : (xs : List Row) (t u : Fraction) → Twin (marks xs) t u → (x : Row) → Member x xs → sign_of (combined t x.a x.b) ≡ sign_of (combined u x.a x.b)
unfolding marks
row-twin [] t u h x x4 = elim x4 [ ]
row-twin (y ∷ ys) t u h x (here e) = subst (λ (x : Row). sign_of (combined t x.a x.b) ≡ sign_of (combined u x.a x.b)) (sym e)
    (root-twin y.a y.b (marks ys) t u h).0
row-twin (y ∷ ys) t u h x (later m) = row-twin ys t u (root-twin y.a y.b (marks ys) t u h).1 x m

end-keeps : (e : End) {r : Fraction} {M : List Fraction} → Member r M → Member r (with_end e M)
unfolding with_end
end-keeps free m = m
end-keeps (at g) m = later m

zero-mark : (xs : List Row) → Member zero_fraction (marks xs)
unfolding marks
zero-mark [] = here refl
zero-mark (x ∷ xs) = end-keeps (end_at x.a x.b) (zero-mark xs)

alike : (xs : List Row) (t u : Fraction) → Twin (marks xs) t u → Alike xs t u
alike xs t u w = record {
  signs = row-twin xs t u w;
  own = ap sign_of (sym (gap-from-zero t)) ∙ w.alike zero_fraction (zero-mark xs) ∙ ap sign_of (gap-from-zero u);
}

-- ---- Where a t lies: below all, or at or above one of them and below all that are above that one.

pub record Under (M : List Fraction) (u : Fraction) : Type 0 where
  pub all : (r : Fraction) → Member r M → gap u r ∈ 1

pub record Beside (M : List Fraction) (f u : Fraction) : Type 0 where
  pub above : gap f u ∈ 1
  pub near : (r : Fraction) → Member r M → gap f r ∈ 1 → gap u r ∈ 1

under-twin : {M : List Fraction} {t u : Fraction} → Under M t → Under M u → Twin M t u
under-twin {M} {t} {u} h k = record { alike = λ r m. both_below r t u (h.all r m) (k.all r m) }

beside-twin : {M : List Fraction} {f t u : Fraction} → Beside M f t → Beside M f u → Twin M t u
beside-twin {M} {f} {t} {u} h k = record { alike = λ r m. by r m (order f r) }
  where
    by : (r : Fraction) → Member r M → Order f r → sign_of (gap r t) ≡ sign_of (gap r u)
    by r m (before l) = both_below r t u (h.near r m l) (k.near r m l)
    by r m (level l) = both-above r t u (le-lt r f t (weak-level r f (one-back f r l)) h.above) (le-lt r f u (weak-level r f (one-back f r l)) k.above)
    by r m (behind l) = both-above r t u (lt-lt r f t l h.above) (lt-lt r f u l k.above)

data Position (M : List Fraction) (t : Fraction) : Type 0 where
  lowest : Under M t → Position M t
  over : (f : Fraction) → Member f M → gap f t ∈ 3 → ((r : Fraction) → Member r M → gap f r ∈ 1 → gap t r ∈ 1) → Position M t

split : {P : Fraction → Type 0} {g : Fraction} {gs : List Fraction} → P g → ((r : Fraction) → Member r gs → P r) → (r : Fraction) → Member r (g ∷ gs) → P r
split {P} h k r (here e) = subst P (sym e) h
split h k r (later m) = k r m

le-le : (t u w : Fraction) → gap t u ∈ 3 → gap u w ∈ 3 → gap t w ∈ 3
unfolding open_signs
le-le t u w h k = gap-through t u w h k

itself : (g : Fraction) → gap g g ∈ 3
unfolding open_signs
itself g = by_equal (no_gap g) (by_sign nought refl refl)

module _ (t g : Fraction) (gs : List Fraction) where
  at_g : gap g t ∈ 3 → ((r : Fraction) → Member r gs → gap g r ∈ 1 → gap t r ∈ 1) → Position (g ∷ gs) t
  at_g h near = over g (here refl) h (split {P = λ r. gap g r ∈ 1 → gap t r ∈ 1} (λ l. not-both g g (itself g) l) near)

  still-at : (f : Fraction) → Member f gs → gap f t ∈ 3 → ((r : Fraction) → Member r gs → gap f r ∈ 1 → gap t r ∈ 1) → (gap f g ∈ 1 → gap t g ∈ 1)
      → Position (g ∷ gs) t
  still-at f m h near l = over f (later m) h (split {P = λ r. gap f r ∈ 1 → gap t r ∈ 1} l near)

  higher-of : (f : Fraction) → Member f gs → gap f t ∈ 3 → ((r : Fraction) → Member r gs → gap f r ∈ 1 → gap t r ∈ 1) → gap g t ∈ 3 → Order f g
      → Position (g ∷ gs) t
  higher-of f m h near k (before l) = at_g k (λ r n j. near r n (lt-lt f g r l j))
  higher-of f m h near k (level l) = still-at f m h near (λ j. not-both g f (weak-level g f (one-back f g l)) j)
  higher-of f m h near k (behind l) = still-at f m h near (λ j. not-both g f (weak g f l) j)

  added : Position gs t → Order g t → Position (g ∷ gs) t
  added (lowest u) (before k) = at_g (weak g t k) (λ r m l. u.all r m)
  added (lowest u) (level k) = at_g (weak-level g t k) (λ r m l. u.all r m)
  added (lowest u) (behind k) = lowest (record { all = split {P = λ r. gap t r ∈ 1} k u.all })
  added (over f m h near) (before k) = higher-of f m h near (weak g t k) (order f g)
  added (over f m h near) (level k) = higher-of f m h near (weak-level g t k) (order f g)
  added (over f m h near) (behind k) = still-at f m h near (λ l. k)

position : (M : List Fraction) (t : Fraction) → Position M t
position [] t = lowest (record { all = λ r m. elim m [ ] })
position (g ∷ gs) t = added t g gs (position gs t) (order g t)

-- ---- The neighbour above.

-- r is above f
data Above : End → Fraction → Type 0 where
  any : {r : Fraction} → Above free r
  past : {f r : Fraction} → gap f r ∈ 1 → Above (at f) r

above_of : {f r : Fraction} → Above (at f) r → gap f r ∈ 1
above_of (past h) = h

is-above : (f : End) (g : Fraction) → end_below f (at g) ≡ true → Above f g
unfolding end_below
is-above free g e = any
is-above (at f) g e = past ((not-at-most f g).0 (down (at_most g f) e))
  where
    down : (b : Bool) → not b ≡ true → b ≡ false
    down true e = absurd (false≢true e)
    down false e = refl

is-not-above : {X : Type 0} (f : End) (g : Fraction) → end_below f (at g) ≡ false → Above f g → X
unfolding end_below
is-not-above free g e h = absurd (true≢false e)
is-not-above (at f) g e h = not-both g f ((at-most g f).0 (up (at_most g f) e)) (above_of h)
  where
    up : (b : Bool) → not b ≡ false → b ≡ true
    up true e = refl
    up false e = absurd (true≢false e)

data Next (In : Fraction → Type 0) (f : End) : End → Type 0 where
  none : ((r : Fraction) → In r → Above f r → ⊥) → Next In f free
  one : {g : Fraction} → Above f g → ((r : Fraction) → In r → Above f r → gap g r ∈ 3) → Next In f (at g)

fewer : {In Out : Fraction → Type 0} {f e : End} → ((r : Fraction) → Out r → In r) → Next In f e → Next Out f e
fewer h (none k) = none (λ r o a. k r (h r o) a)
fewer h (one b k) = one b (λ r o a. k r (h r o) a)

joined : {In : Fraction → Type 0} {f near : End} → Next In f near → (e : End) → Next (λ r. In r ⊎ (e ≡ at r)) f (nearer f near e)
unfolding nearer lower_end end_at_most
joined {In} {f} {near} n free = fewer (λ r o. ⊎_elim (λ h. h) (λ e. absurd (no_end e)) o) n
  where
    no_end : {r : Fraction} → free ≡ at r → ⊥
    no_end e = subst (λ (x : End). elim x as (λ _. Type 0) [ free ↦ Unit {0} | at r ↦ ⊥ ]) e tt
joined {In} {f} {near} n (at g) = by (end_below f (at g)) refl near n
  where
    same : {r : Fraction} → at g ≡ at r → g ≡ r
    same e = ap (λ (x : End). elim x as (λ _. Fraction) [ free ↦ g | at r ↦ r ]) e

    two : (u : Fraction) → Above f g → Above f u → ((r : Fraction) → In r → Above f r → gap u r ∈ 3) → (b : Bool) → at_most g u ≡ b
        → Next (λ r. In r ⊎ (at g ≡ at r)) f (one_of b (at g) (at u))
    two u a b near true e = one a (λ r o h. ⊎_elim (λ i. le-le g u r ((at-most g u).0 e) (near r i h)) (λ s. subst (λ (r : Fraction). gap g r ∈ 3) (same s) (itself g)) o)
    two u a b near false e = one b (λ r o h. ⊎_elim (λ i. near r i h) (λ s. subst (λ (r : Fraction). gap u r ∈ 3) (same s) (weak u g ((not-at-most u g).0 e))) o)

    by : (b : Bool) → end_below f (at g) ≡ b → (near : End) → Next In f near → Next (λ r. In r ⊎ (at g ≡ at r)) f (one_of b (lower_end near (at g)) near)
    by false e near (none k) = none (λ r o a. ⊎_elim (λ i. k r i a) (λ s. is-not-above f g e (subst (Above f) (sym (same s)) a)) o)
    by false e near (one b k) = one b (λ r o a. ⊎_elim (λ i. k r i a) (λ s. is-not-above f g e (subst (Above f) (sym (same s)) a)) o)
    by true e free (none k) = one (is-above f g e)
        (λ r o a. ⊎_elim (λ i. absurd (k r i a)) (λ s. subst (λ (r : Fraction). gap g r ∈ 3) (same s) (itself g)) o)
    by true e (at u) (one b k) = two u (is-above f g e) b k (at_most g u) refl

-- the fractions of rows
pub data RootOf (r : Fraction) : List Row → Type 0 where
  this : {x : Row} {xs : List Row} → end_at x.a x.b ≡ at r → RootOf r (x ∷ xs)
  other : {x : Row} {xs : List Row} → RootOf r xs → RootOf r (x ∷ xs)

all-joined : {In : Fraction → Type 0} {f : End} (xs : List Row) {near : End} → Next In f near → Next (λ r. In r ⊎ RootOf r xs) f (nearest f near xs)
unfolding nearest
all-joined [] n = fewer (λ r o. ⊎_elim (λ i. i) (λ h. elim h [ ]) o) n
all-joined {In} {f} (x ∷ xs) n = fewer (λ r o. ⊎_elim (λ i. inl (inl i)) (λ h. by r h) o) (all-joined {In = λ r. In r ⊎ (end_at x.a x.b ≡ at r)} xs (joined n (end_at x.a x.b)))
  where
    by : (r : Fraction) → RootOf r (x ∷ xs) → (In r ⊎ (end_at x.a x.b ≡ at r)) ⊎ RootOf r xs
    by r (this e) = inl (inr e)
    by r (other h) = inr h

mark_of : (xs : List Row) (r : Fraction) → Member r (marks xs) → (at_zero ≡ at r) ⊎ RootOf r xs
unfolding marks at_zero with_end
mark_of [] r (here e) = inl (ap at (sym e))
mark_of [] r (later m) = elim m [ ]
mark_of (x ∷ xs) r m = by (end_at x.a x.b) refl m (mark_of xs r)
  where
    deeper : (at_zero ≡ at r) ⊎ RootOf r xs → (at_zero ≡ at r) ⊎ RootOf r (x ∷ xs)
    deeper o = ⊎_elim (λ z. inl z) (λ h. inr (other h)) o

    by : (e : End) → end_at x.a x.b ≡ e → Member r (with_end e (marks xs)) → (Member r (marks xs) → (at_zero ≡ at r) ⊎ RootOf r xs) → (at_zero ≡ at r) ⊎ RootOf r (x ∷ xs)
    by free e m more = deeper (more m)
    by (at g) e (here k) more = inr (this (e ∙ ap at (sym k)))
    by (at g) e (later m) more = deeper (more m)

neighbour-is : (f : End) (xs : List Row) → Next (λ r. Member r (marks xs)) f (neighbour f xs)
unfolding neighbour
neighbour-is f xs = fewer (λ r m. ⊎_elim (λ z. inl (inr z)) (λ h. inr h) (mark_of xs r m)) (all-joined xs (joined {In = λ r. ⊥} (none (λ r i a. i)) at_zero))

beside-is : (f : Fraction) (xs : List Row) → Beside (marks xs) f (beside f (neighbour (at f) xs))
unfolding beside
beside-is f xs = by (neighbour (at f) xs) (neighbour-is (at f) xs)
  where
    by : (n : End) → Next (λ r. Member r (marks xs)) (at f) n → Beside (marks xs) f (beside f n)
    by free (none h) = record { above = one-more f; near = λ r m l. absurd (h r m (past l)) }
    by (at g) (one a near) = record {
      above = by_equal (gap-to-between f g) (above_of a);
      near = λ r m l. lt-le (between f g) g r (by_equal (gap-from-between f g) (above_of a)) (near r m (past l));
    }

under-is : (xs : List Row) → Under (marks xs) (under (neighbour free xs))
unfolding under
under-is xs = by (neighbour free xs) (neighbour-is free xs)
  where
    by : (n : End) → Next (λ r. Member r (marks xs)) free n → Under (marks xs) (under n)
    by free (none h) = record { all = λ r m. absurd (h r m any) }
    by (at g) (one a near) = record { all = λ r m. lt-le (one_less g) g r (one-less g) (near r m any) }

-- ---- Each t is alike to a value that is met.

record Meets (all : List Row) (f : Fraction) (vs : List Fraction) : Type 0 where
  itself : Member f vs
  behind-it : Member (beside f (neighbour (at f) all)) vs

later-meets : {all : List Row} {f : Fraction} (e : End) {vs : List Fraction} → Meets all f vs → Meets all f (met_end all e vs)
unfolding met_end
later-meets free h = h
later-meets (at g) h = record { itself = later (later h.itself); behind-it = later (later h.behind-it) }

met-mark : (all xs : List Row) (f : Fraction) → Member f (marks xs) → Meets all f (met_from all xs)
unfolding met_from met_end marks at_zero with_end
met-mark all [] f (here e) = subst (λ (g : Fraction). Meets all g (met_from all [])) (sym e) (record { itself = here refl; behind-it = later (here refl) })
met-mark all [] f (later m) = elim m [ ]
met-mark all (x ∷ xs) f m = by (end_at x.a x.b) m (λ n. met-mark all xs f n)
  where
    by : (e : End) → Member f (with_end e (marks xs)) → (Member f (marks xs) → Meets all f (met_from all xs)) → Meets all f (met_end all e (met_from all xs))
    by free m more = more m
    by (at g) (here k) more = subst (λ (h : Fraction). Meets all h (met_end all (at g) (met_from all xs))) (sym k) (record { itself = here refl; behind-it = later (here refl) })
    by (at g) (later m) more = later-meets (at g) (more m)

met-under : (all xs : List Row) → Member (under (neighbour free all)) (met_from all xs)
unfolding met_from met_end at_zero
met-under all [] = later (later (here refl))
met-under all (x ∷ xs) = by (end_at x.a x.b) (met-under all xs)
  where
    by : (e : End) → Member (under (neighbour free all)) (met_from all xs) → Member (under (neighbour free all)) (met_end all e (met_from all xs))
    by free m = m
    by (at g) m = later (later m)

-- So they are enough.
pub met-enough : (xs : List Row) → Enough xs (met_from xs xs)
met-enough xs = record { for = λ t. by t (position (marks xs) t) }
  where
    found : (t u : Fraction) → Member u (met_from xs xs) → Twin (marks xs) t u → (u : Fraction) × Member u (met_from xs xs) × Alike xs t u
    found t u m w = (u, m, alike xs t u w)

    by : (t : Fraction) → Position (marks xs) t → (u : Fraction) × Member u (met_from xs xs) × Alike xs t u
    by t (lowest u) = found t (under (neighbour free xs)) (met-under xs xs) (under-twin u (under-is xs))
    by t (over f m h near) = at-or-past (order f t)
      where
        at-or-past : Order f t → (u : Fraction) × Member u (met_from xs xs) × Alike xs t u
        at-or-past (before k) = found t (beside f (neighbour (at f) xs)) (met-mark xs xs f m).behind-it (beside-twin (record { above = k; near = near }) (beside-is f xs))
        at-or-past (level k) = found t f (met-mark xs xs f m).itself (record { alike = λ r n. level-alike r t f (one-back f t k) })
        at-or-past (behind k) = not-both f t h k
