-- The neighbour above a fraction, one more fraction at a time: the code's ends as the book's, how large they are, and that there is a least.
use mathlib.Core.Path.{◌≡◌, refl, sym, ap, ◌∙◌, subst}
use mathlib.Core.Bool.{Bool, true, false}
use mathlib.Core.List.{List, ◌∷◌}
use Prim.Native.Nat.{zero, suc}
use lib.IntN.{ℤ, pos, negsuc}
use Rattle.rules.specs.Deduce.{Fraction, End, free, at, Row, at_zero, end_at_most, end_below}
use Rattle.plain_laws.specs.Bounds.{largest, Small, magnitude-negated}
use Rattle.interval.specs.declared.interval.End.{End as KeptEnd}
use Rattle.interval.specs.Ends.{end_at, end_of, There, one_of, lower_end}
use Rattle.plain.specs.Met.{nearer, nearest}
use Rattle.plain.specs.Values.{SmallEnd, SmallPair}
use Rattle.plain.proofs.Numbers.{at_same, no_end}

-- ---- how large

pair-in : (a b : ℤ) → SmallPair a b → (t : Fraction) → end_at a b ≡ at t → Small largest t
pair-in a (pos zero) s t e = no_end e
pair-in a (pos (suc n)) s t e = subst (Small largest) (at_same e) (record { numerator = rw (magnitude-negated a) s.first; denominator = s.second })
pair-in a (negsuc n) s t e = subst (Small largest) (at_same e) (record { numerator = s.first; denominator = s.second })

-- the fraction of two coefficients
pub pair_small : {a b : ℤ} → SmallPair a b → SmallEnd (record { a = a; b = b })
pair_small {a} {b} s = record { small = pair-in a b s }

-- one of two ends
pub one-small : {e n r : KeptEnd} (b : Bool) → SmallEnd e → SmallEnd n → end_of r ≡ one_of b (end_of e) (end_of n) → SmallEnd r
one-small true s t h = record { small = λ f k. s.small f (sym h ∙ k) }
one-small false s t h = record { small = λ f k. t.small f (sym h ∙ k) }

-- ---- the nearer one

pub near_none : (f n : End) {e : End} → e ≡ free → n ≡ nearer f n e
unfolding nearer
near_none f n h = subst (λ (e : End). n ≡ nearer f n e) (sym h) refl

near_by : (f n : End) (g : Fraction) (b : Bool) → end_below f (at g) ≡ b → one_of b (lower_end n (at g)) n ≡ nearer f n (at g)
unfolding nearer
near_by f n g b h = ap (λ (b : Bool). one_of b (lower_end n (at g)) n) (sym h)

pub near-there : (f n : End) {e : End} (g : Fraction) → e ≡ at g → (b : Bool) → end_below f e ≡ b → one_of b (lower_end n e) n ≡ nearer f n e
near-there f n {e} g h b k = subst (λ (e : End). end_below f e ≡ b → one_of b (lower_end n e) n ≡ nearer f n e) (sym h) (λ l. near_by f n g b l) k

-- one row of the walk
pub nearest-row : (f n : End) {m : End} (x : Row) (left : List Row) {r : End} → m ≡ nearer f n (end_at x.a x.b) → nearest f n (x ∷ left) ≡ r → nearest f m left ≡ r
unfolding nearest
nearest-row f n x left e h = ap (λ (m : End). nearest f m left) e ∙ h

-- ---- the least

record At (e : End) : Type 0 where
  fraction : Fraction
  is : e ≡ at fraction

two_at : (b : Bool) {x y : End} → At x → At y → At (one_of b x y)
two_at true h k = h
two_at false h k = k

still-at : (f e : End) {n : End} → At n → At (nearer f n e)
unfolding nearer lower_end
still-at f free h = h
still-at f (at g) {n} h = two_at (end_below f (at g)) (two_at (end_at_most (at g) n) (record { fraction = g; is = refl }) h) h

-- what was there stays there
pub still-there : (f e : End) {n r : KeptEnd} → There n → end_of r ≡ nearer f (end_of n) e → There r
still-there f e h k = let a = still-at f e (record { fraction = h.fraction; is = h.is }) in record { fraction = a.fraction; is = k ∙ a.is }

-- and 0 is there
pub zero-there : {f : End} {r : KeptEnd} → f ≡ free → end_of r ≡ nearer f free at_zero → There r
unfolding nearer end_below lower_end end_at_most at_zero
zero-there h k = record { fraction = record { numerator = pos 0; less = 0 }; is = rw h at k }
