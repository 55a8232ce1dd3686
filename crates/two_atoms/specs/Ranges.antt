-- For one u, the indices of the factors v with which a test can pass: what is left out of a range of them cuts nothing.
use Rattle.std.specs.Prelude.{◌≡◌, Bool, true, false, cond, ◌&&◌, List, ℕ, ◌-◌, ◌<◌, ◌≤◌, ltb, ℤ, ◌-ℤ◌, ◌*ℤ◌}
use Rattle.rules.specs.Signs.{Sign, negative, positive, SignSet, sign_of, only, kind, product, inside}
use Rattle.rules.specs.Polynomial.{Board, by_terms}
use Rattle.rules.specs.TwoAtoms.{never_positive, never_negative, pair_found, pair_mirrored, cut_by_all}
use Rattle.sign_laws.specs.Sets.{◌In◌, PartOf}
use Rattle.two_atoms.specs.declared.pair.Pair.{Pair}
use Rattle.two_atoms.specs.declared.range.Range.{Range}
use Rattle.two_atoms.specs.Totals.{total_from}
use Rattle.two_atoms.specs.Tries.{factor_at, SignedOn, try_of}

-- the set that a test asks for: ≥, or ≤ if it is the mirrored one
unfoldable pub asked_in : Bool → SignSet
asked_in false = 3
asked_in true = 6

-- the numbers that it bars
unfoldable pub barred : Bool → Sign
barred false = negative
barred true = positive

-- what a monomial with the coefficient x + v·b adds to the set by terms, v being the factor at an index
abbrev pub added_at : ℤ → ℤ → SignSet → ℕ → SignSet
added_at x b s i = product (only (sign_of (x -ℤ factor_at (7 - i) *ℤ b))) s

-- from index `from` up to r it does not lie inside the set that is asked for
pub record Raised (x b : ℤ) (s asked : SignSet) (from to r : ℕ) : Type 0 where
  pub ordered : from ≤ r
  pub within : r ≤ to
  pub fails : (i : ℕ) → from ≤ i → i < r → inside (added_at x b s i) asked ≡ false

-- and from index r up to `to`
pub record Lowered (x b : ℤ) (s asked : SignSet) (from to r : ℕ) : Type 0 where
  pub ordered : from ≤ r
  pub within : r ≤ to
  pub fails : (i : ℕ) → r ≤ i → i < to → inside (added_at x b s i) asked ≡ false

-- an index outside a range
pub data Outside (from to i : ℕ) : Type 0 where
  under : i < from → Outside from to i
  over : to ≤ i → Outside from to i

-- the set by terms of p + u·q1 + v·q2, v being the factor at an index
abbrev pub total_at : Board → List ℤ → List ℕ → Pair → ℤ → ℕ → SignSet
total_at board cs ms x u i = by_terms board (total_from cs ms x.p.from x.p.to x.q1.from x.q1.to x.q2.from x.q2.to u
    (factor_at (7 - i)))

-- a range of indices below 8
pub record Indices (r : Range) : Type 0 where
  pub ordered : r.from ≤ r.to
  pub low : r.to ≤ 8

-- r is what is left of a range: at each other index of it the set by terms has numbers that the test bars
pub record Narrowed (cs : List ℤ) (ms : List ℕ) (ss : List SignSet) (x : Pair) (u : ℤ) (mirrored : Bool) (range r : Range) : Type 0 where
  pub fails : {board : Board} → SignedOn board ms ss x → (i : ℕ) → range.from ≤ i → i < range.to → Outside r.from r.to i
      → barred mirrored In total_at board cs ms x u i

-- the factors allow the test, by the sets of q1 and q2
unfoldable pub allows : Bool → ℤ → ℤ → SignSet → SignSet → Bool
allows false u v set1 set2 = never_positive u (kind set1) && never_positive v (kind set2)
allows true u v set1 set2 = never_negative u (kind set1) && never_negative v (kind set2)

-- the half of the indices with v < 0, and the one with v > 0
unfoldable pub half : Bool → Bool → ℕ → Bool
half low high i = cond (ltb i 4) low high

pub record Halves (low high : Bool) (r : Range) : Type 0 where
  pub indices : Indices r
  pub never : (i : ℕ) → i < 8 → Outside r.from r.to i → half low high i ≡ false

-- at each other index they do not
pub record Allowed (set1 set2 : SignSet) (u : ℤ) (mirrored : Bool) (r : Range) : Type 0 where
  pub indices : Indices r
  pub never : (i : ℕ) → i < 8 → Outside r.from r.to i → allows mirrored u (factor_at i) set1 set2 ≡ false

-- the set that no finding of a test cuts, nor its parts: >, or < if it is the mirrored one
unfoldable pub uncut_in : Bool → SignSet
uncut_in false = 1
uncut_in true = 4

-- the finding of one test
unfoldable pub found_in : Bool → SignSet → Bool → SignSet
found_in false total strict = pair_found total strict
found_in true total strict = pair_mirrored total strict

-- at each other index what the test finds does not cut s
pub record Spares (cs : List ℤ) (ms : List ℕ) (ss : List SignSet) (x : Pair) (u : ℤ) (mirrored : Bool) (s : SignSet) (r : Range) : Type 0 where
  pub low : (i : ℕ) → i < 8 → Outside r.from r.to i → s < 8
  pub on : {board : Board} → SignedOn board ms ss x → (i : ℕ) → i < 8 → Outside r.from r.to i
      → allows mirrored u (factor_at i) x.set1 x.set2 ≡ true
      → (strict : Bool) → PartOf s (found_in mirrored (total_at board cs ms x u i) strict)

-- s is a part of the set that the tries began with
pub record CutFrom (start s : SignSet) : Type 0 where
  pub part : PartOf s start
  pub low : start < 8 → s < 8

-- r is what the try with u and the v at an index leaves of s, if what is outside the ranges spares the set that the tries began with
pub record CutAt (cs : List ℤ) (ms : List ℕ) (ss : List SignSet) (x : Pair) (u : ℤ) (i : ℕ) (below above : Range) (s r : SignSet) : Type 0 where
  pub on : {board : Board} → SignedOn board ms ss x → {start : SignSet} → Spares cs ms ss x u false start below → Spares cs ms ss x u true start above
      → CutFrom start s
      → r ≡ cut_by_all s (try_of board cs ms x u (factor_at i))
