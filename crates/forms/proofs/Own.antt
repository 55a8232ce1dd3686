-- Forms that are their own normal form, with every set: the normal form of any polynomial, and a filler.
-- And what tells them apart: a filler's coefficient is 0.
use mathlib.Core.Path.{◌≡◌, refl, sym, ap, ◌∙◌}
use mathlib.Core.Bool.{Bool, true, false}
use mathlib.Core.List.{[], ◌∷◌}
use Prim.Native.Nat.{ℕ, ◌+◌, ◌<◌}
use native.Mathlib.Omega.{arith}
use lib.IntN.{pos, nat_abs}
use Rattle.rules.specs.Signs.{SignSet, mirror, open_signs}
use Rattle.rules.specs.Polynomial.{Term, Polynomial, Atom, divided, first_is_negative, turned, normal, open_polynomial}
use Rattle.rules.specs.Limits.{TermsWithin, PolynomialWithin, terms}
use Rattle.normal_laws.specs.Twice.{normal-twice}
use Rattle.normal_laws.specs.Shape.{normal-alike}

-- ---- Normal forms.

turned_by : (b : Bool) (q f : Polynomial) (s t : SignSet) → (mirror t ≡ t → ⊥) → turned b q t ≡ record { polynomial = f; set = t } → turned b q s
    ≡ record { polynomial = f; set = s }
unfolding turned
turned_by true q f s t apart e = absurd (apart (ap (λ (a : Atom). a.set) e))
turned_by false q f s t apart e = ap (λ (a : Atom). record { polynomial = a.polynomial; set = s }) e

set-turns : (b : Bool) (q : Polynomial) → mirror (turned b q 1).set ≡ (turned b q 1).set → ⊥
unfolding turned open_signs
set-turns true q e = omega (arith, e)
set-turns false q e = omega (arith, e)

-- The normal form of a polynomial is its own, with every set.
pub normal-own : (a : Atom) (s : SignSet) → normal (record { polynomial = (normal a).polynomial; set = s }) ≡ record { polynomial = (normal a).polynomial; set = s }
unfolding normal
normal-own a s =
    let positive : Atom = record { polynomial = a.polynomial; set = 1 } in
    let form = (normal positive).polynomial in
    let own : normal (record { polynomial = form; set = s }) ≡ record { polynomial = form; set = s }
    = turned_by (first_is_negative (divided form)) (divided form) form s (normal positive).set
    (set-turns (first_is_negative (divided a.polynomial)) (divided a.polynomial)) (normal-twice positive) in
    let alike : (normal positive).polynomial ≡ (normal a).polynomial = normal-alike positive ∙ sym (normal-alike a) in
    rw alike at own

-- ---- Fillers.

-- The filler of slot i.
abbrev pub filler : ℕ → Polynomial
filler i = record { coefficient = pos 0; monomial = i + 1 } ∷ []

-- A filler is its own normal form, with every set.
pub filler-own : (i : ℕ) (s : SignSet) → normal (record { polynomial = filler i; set = s }) ≡ record { polynomial = filler i; set = s }
unfolding open_polynomial
filler-own i s = refl

first_monomial : Polynomial → ℕ
first_monomial [] = 0
first_monomial (t ∷ ts) = t.monomial

-- Fillers of different slots differ.
pub fillers-apart : (i j : ℕ) → filler i ≡ filler j → i ≡ j
unfolding first_monomial
fillers-apart i j e = let monomials : i + 1 ≡ j + 1 = ap first_monomial e in omega arith

first-not-zero : {above : ℕ} (t : Term) (ts : Polynomial) → TermsWithin above (t ∷ ts) → 0 < nat_abs t.coefficient
first-not-zero t ts (terms h hs) = h.not_zero

-- No form within the limits of a block is a filler.
pub filler-outside : {n : ℕ} (i : ℕ) → PolynomialWithin n (filler i) → ⊥
filler-outside i within = omega (arith, first-not-zero (record { coefficient = pos 0; monomial = i + 1 }) [] within.each)
