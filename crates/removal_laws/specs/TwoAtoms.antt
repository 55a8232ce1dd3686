-- Two atoms at once (02, #111) find less of p on a wider board, from atoms with wider sets, and from fewer atoms.
-- The findings of fewer atoms are among those of all, in order, each the same or wider: `tries-wider`.
use Rattle.std.specs.Prelude.{◌≡◌, refl, Bool, ◌&&◌, ◌||◌, List, [], ◌∷◌, ◌++◌, ◌<◌, eqb, ℤ}
use Rattle.std.proofs.Common.{ap, subst₂}
use Rattle.std.proofs.Math.Path.{subst}
use Rattle.std.proofs.Math.Bool.{true, false, cond}
use Rattle.std.proofs.lemmas.Bool.{false≢true}
use Rattle.std.specs.Int.Signed.{non_neg}
use Rattle.rules.specs.Signs.{SignSet, empty, kind, named, mirror, intersect, inside}
use Rattle.rules.specs.Polynomial.{Polynomial, Atom, Board, by_terms}
use Rattle.rules.specs.Deduce.{is_strict}
use Rattle.rules.specs.TwoAtoms.{plus_times, non_positive, non_negative, never_positive, never_negative, pair_found, pair_mirrored, tried, try, factors, with_each, tries_with}
use Rattle.rules.specs.TwoAtoms.{tries, cut_by_all}
use Rattle.sign_laws.specs.Booleans.{and_intro, and_first, and_second, or-second, or-keeps}
use Rattle.sign_laws.specs.Lists.{Every, every_none, every}
use Rattle.sign_laws.specs.Sets.{PartOf, part-trans, intersect-first, intersect-second, mirror-below}
use Rattle.removal_laws.specs.Wider.{Wider, WiderAtom}
use Rattle.removal_laws.specs.Terms.{small_signed, by_terms-wider, by_terms-small}
use Rattle.removal_laws.specs.Kinds.{Within, stays-strict, stays-non_positive, stays-non_negative, kind-within, kind-signed}
use Rattle.removal_laws.specs.Bullets.{mirror-wider, found_wider}
use Rattle.removal_laws.specs.Fewer.{intersect-wider, inside-wider, Fewer, no_atoms, left_out, kept}

-- Some of the findings, in order, each itself or wider.
pub data Weaker : List SignSet → List SignSet → Type 0 where
  none_found : Weaker [] []
  not_found : {f : SignSet} {fs gs : List SignSet} → Weaker fs gs → Weaker (f ∷ fs) gs
  less_found : {f g : SignSet} {fs gs : List SignSet} → PartOf f g → Weaker fs gs → Weaker (f ∷ fs) (g ∷ gs)

-- ---- The tests of one try.

-- Each passes on narrower sets if it passes on wider ones.
found-less : {s z : SignSet} (st su : Bool) → s < 8 → PartOf s z → (su ≡ true → st ≡ true) → PartOf (pair_found s st) (pair_found z su)
unfolding pair_found
found-less {s} {z} st su h p strict = found_wider (inside s 3 && (inside s 1 || st)) (inside s 3) (inside z 3 && (inside z 1 || su)) (inside z 3)
    (λ e. and_intro (weak (and_first (inside z 3) _ e)) (or-keeps (inside z 1) su (inside s 1) st (inside-wider 1 h p) strict (and_second (inside z 3) _ e)))
    (λ e. or-second (inside s 3 && (inside s 1 || st)) (weak e))
  where
    weak : inside z 3 ≡ true → inside s 3 ≡ true
    weak = inside-wider 3 h p

mirrored-less : {s z : SignSet} (st su : Bool) → s < 8 → PartOf s z → (su ≡ true → st ≡ true) → PartOf (pair_mirrored s st) (pair_mirrored z su)
unfolding pair_mirrored
mirrored-less {s} st su h p strict = mirror-wider (found-less st su (mirror-below s) (mirror-wider p) strict)

never : {X : Type 0} → (true ≡ true → false ≡ true) → X
never h = absurd (false≢true (h refl))

tried-less : (a b x y : Bool) {s z : SignSet} (st su : Bool) → (x ≡ true → a ≡ true) → (y ≡ true → b ≡ true) → s < 8 → PartOf s z → (su ≡ true → st ≡ true)
    → Weaker (tried a b s st) (tried x y z su)
unfolding tried
tried-less false false false false st su f g h p e = none_found
tried-less false false false true st su f g h p e = never g
tried-less false false true y st su f g h p e = never f
tried-less false true false false st su f g h p e = not_found none_found
tried-less false true false true st su f g h p e = less_found (mirrored-less st su h p e) none_found
tried-less false true true y st su f g h p e = never f
tried-less true false false false st su f g h p e = not_found none_found
tried-less true false false true st su f g h p e = never g
tried-less true false true false st su f g h p e = less_found (found-less st su h p e) none_found
tried-less true false true true st su f g h p e = never g
tried-less true true false false st su f g h p e = not_found none_found
tried-less true true false true st su f g h p e = less_found (part-trans (intersect-second _ _) (mirrored-less st su h p e)) none_found
tried-less true true true false st su f g h p e = less_found (part-trans (intersect-first _ _) (found-less st su h p e)) none_found
tried-less true true true true st su f g h p e = less_found (intersect-wider (found-less st su h p e) (mirrored-less st su h p e)) none_found

-- ---- One try.

-- A set that is one of the eight and not the empty one.
pub record Filled (a : Atom) : Type 0 where
  pub low : a.set < 8
  pub has_sign : eqb a.set empty ≡ false

module _ {a b : Atom} (w : WiderAtom a b) (h : Filled a) where
  within : Within (kind a.set) (kind b.set)
  within = kind-within h.low w.set

  named-filled : eqb (named (kind a.set)) empty ≡ false
  named-filled = kind-signed a.set (small_signed a.set h.low h.has_sign)

  strict-less : is_strict (kind b.set) ≡ true → is_strict (kind a.set) ≡ true
  strict-less = stays-strict (kind a.set) (kind b.set) within named-filled

  -- A factor that makes the wider one never positive makes the narrower one so.
  positive-less : (u : ℤ) → never_positive u (kind b.set) ≡ true → never_positive u (kind a.set) ≡ true
  unfolding never_positive
  positive-less u = by (non_neg u)
    where
      by : (c : Bool) → cond c (non_positive (kind b.set)) (non_negative (kind b.set)) ≡ true → cond c (non_positive (kind a.set)) (non_negative (kind a.set)) ≡ true
      by true = stays-non_positive (kind a.set) (kind b.set) within named-filled
      by false = stays-non_negative (kind a.set) (kind b.set) within named-filled

  negative-less : (u : ℤ) → never_negative u (kind b.set) ≡ true → never_negative u (kind a.set) ≡ true
  unfolding never_negative
  negative-less u = by (non_neg u)
    where
      by : (c : Bool) → cond c (non_negative (kind b.set)) (non_positive (kind b.set)) ≡ true → cond c (non_negative (kind a.set)) (non_positive (kind a.set)) ≡ true
      by true = stays-non_negative (kind a.set) (kind b.set) within named-filled
      by false = stays-non_positive (kind a.set) (kind b.set) within named-filled

and_keeps : (a b x y : Bool) → (a ≡ true → x ≡ true) → (b ≡ true → y ≡ true) → a && b ≡ true → x && y ≡ true
and_keeps a b x y f g e = and_intro (f (and_first a b e)) (g (and_second a b e))

module _ {board wide : Board} (w : Wider board wide) (p : Polynomial) where
  -- One try finds less on the wider board, from atoms with wider sets.
  pub try-wider : {q1 r1 q2 r2 : Atom} → WiderAtom q1 r1 → WiderAtom q2 r2 → Filled q1 → Filled q2 → (u v : ℤ)
      → Weaker (try board p q1 q2 u v) (try wide p r1 r2 u v)
  unfolding try
  try-wider {q1} {r1} {q2} {r2} w1 w2 h1 h2 u v =
      let total = plus_times (plus_times p u q1.polynomial) v q2.polynomial in
      let j1 = kind q1.set in
      let j2 = kind q2.set in
      let k1 = kind r1.set in
      let k2 = kind r2.set in
      subst (λ (s : SignSet). Weaker (try board p q1 q2 u v)
      (tried (never_positive u k1 && never_positive v k2) (never_negative u k1 && never_negative v k2) s (is_strict k1 || is_strict k2)))
      (ap (by_terms wide) (subst₂ (λ (x y : Polynomial). total ≡ plus_times (plus_times p u x) v y) w1.polynomial w2.polynomial refl))
      (tried-less (never_positive u j1 && never_positive v j2) (never_negative u j1 && never_negative v j2)
      (never_positive u k1 && never_positive v k2) (never_negative u k1 && never_negative v k2) (is_strict j1 || is_strict j2) (is_strict k1 || is_strict k2)
      (and_keeps (never_positive u k1) (never_positive v k2) (never_positive u j1) (never_positive v j2) (positive-less w1 h1 u) (positive-less w2 h2 v))
      (and_keeps (never_negative u k1) (never_negative v k2) (never_negative u j1) (never_negative v j2) (negative-less w1 h1 u) (negative-less w2 h2 v))
      (by_terms-small board total) (by_terms-wider w total)
      (or-keeps (is_strict k1) (is_strict k2) (is_strict j1) (is_strict j2) (strict-less w1 h1) (strict-less w2 h2)))

-- ---- All tries.

weaker-append : {a b c d : List SignSet} → Weaker a b → Weaker c d → Weaker (a ++ c) (b ++ d)
weaker-append none_found k = k
weaker-append (not_found h) k = not_found (weaker-append h k)
weaker-append (less_found p h) k = less_found p (weaker-append h k)

weaker-behind : (l : List SignSet) {fs gs : List SignSet} → Weaker fs gs → Weaker (l ++ fs) gs
weaker-behind [] h = h
weaker-behind (f ∷ l) h = not_found (weaker-behind l h)

with-each : (f g : ℤ → List SignSet) → ((v : ℤ) → Weaker (f v) (g v)) → (l : List ℤ) → Weaker (with_each f l) (with_each g l)
unfolding with_each
with-each f g h [] = none_found
with-each f g h (v ∷ l) = weaker-append (h v) (with-each f g h l)

module _ {board wide : Board} (w : Wider board wide) (p : Polynomial) where
  tries-with : {q1 r1 : Atom} → WiderAtom q1 r1 → Filled q1 → {l m : List Atom} → Fewer l m → Every Filled l
      → Weaker (tries_with board p q1 l) (tries_with wide p r1 m)
  unfolding tries_with
  tries-with w1 h no_atoms every_none = none_found
  tries-with {q1} w1 h (left_out {a = q2} f) (every k ks) = weaker-behind (with_each (λ (u : ℤ). with_each (try board p q1 q2 u) factors) factors) (tries-with w1 h f ks)
  tries-with {q1} {r1} w1 h (kept {a = q2} {b = r2} w2 f) (every k ks) =
      weaker-append (with-each (λ (u : ℤ). with_each (try board p q1 q2 u) factors) (λ (u : ℤ). with_each (try wide p r1 r2 u) factors)
      (λ u. with-each (try board p q1 q2 u) (try wide p r1 r2 u) (λ v. try-wider w p w1 w2 h k u v) factors) factors) (tries-with w1 h f ks)

  -- Fewer atoms with wider sets find less on a wider board.
  pub tries-wider : {l m : List Atom} → Fewer l m → Every Filled l → Weaker (tries board p l) (tries wide p m)
  unfolding tries
  tries-wider no_atoms every_none = none_found
  tries-wider (left_out {a = q1} {atoms = l} f) (every h hs) = weaker-behind (tries_with board p q1 l) (tries-wider f hs)
  tries-wider (kept v f) (every h hs) = weaker-append (tries-with v h f hs) (tries-wider f hs)

-- ---- What is left of a set.

-- A set that no finding cuts is not cut by weaker ones.
pub weaker-every : {s : SignSet} {fs gs : List SignSet} → Weaker fs gs → Every (PartOf s) fs → Every (PartOf s) gs
weaker-every none_found every_none = every_none
weaker-every (not_found h) (every k ks) = weaker-every h ks
weaker-every (less_found p h) (every k ks) = every (part-trans k p) (weaker-every h ks)

-- Weaker findings leave a wider set of a wider one.
pub cut-wider : {fs gs : List SignSet} → Weaker fs gs → {s t : SignSet} → PartOf s t → PartOf (cut_by_all s fs) (cut_by_all t gs)
unfolding cut_by_all
cut-wider none_found p = p
cut-wider (not_found {f} h) {s} p = cut-wider h (part-trans (intersect-first s f) p)
cut-wider (less_found q h) p = cut-wider h (intersect-wider p q)
