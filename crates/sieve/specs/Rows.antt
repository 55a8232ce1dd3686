-- The monomials of three forms together, each with its coefficients: what a row stands for, and how the code comes to it.
use Rattle.std.specs.Prelude.{◌≡◌, List, ℕ, ◌+◌, ◌<◌, ◌≤◌, ℤ, pos, length, get_or}
use Rattle.rules.specs.Signs.{SignSet}
use Rattle.rules.specs.Polynomial.{Board, monomial_sign}
use Rattle.sign_laws.specs.Sets.{PartOf}
use Rattle.removal_laws.specs.AskedTerms.{coefficient_at}
use Rattle.deduce.specs.Runs.{polynomial_of}
use Rattle.two_atoms.specs.declared.pair.Pair.{Pair}
use Rattle.two_atoms.specs.Tries.{SignedOn}
use Rattle.sieve.specs.declared.rows.Share.{Share}
use Rattle.sieve.specs.declared.rows.Row.{Row}

-- the monomials at the places from..to fall
pub record Falls (ms : List ℕ) (from to : ℕ) : Type 0 where
  pub each : (i : ℕ) → from ≤ i → i + 1 < to → get_or ms (i + 1) 0 < get_or ms i 0

-- those of the three forms of a pair do
pub record FallsOf (ms : List ℕ) (x : Pair) : Type 0 where
  pub p : Falls ms x.p.from x.p.to
  pub q1 : Falls ms x.q1.from x.q1.to
  pub q2 : Falls ms x.q2.from x.q2.to

-- ---- one step of the merge

-- the first monomial of those at i..to, 0 if there is none
pub record HeadOf (ms : List ℕ) (i to r : ℕ) : Type 0 where
  pub there : i < to → r ≡ get_or ms i 0
  pub none : to ≤ i → r ≡ 0

-- the larger of two numbers
pub record Larger (x y r : ℕ) : Type 0 where
  pub first : x ≤ r
  pub second : y ≤ r
  pub below : (b : ℕ) → x < b → y < b → r < b

pub record Sized (to : ℕ) (cs : List ℤ) (ms : List ℕ) (ss : List SignSet) : Type 0 where
  pub coefficients : to ≤ length cs
  pub monomials : to ≤ length ms
  pub signs : to ≤ length ss

-- the first of the terms at i..to is taken if it has the monomial
pub data TakenAt (cs : List ℤ) (ms : List ℕ) (ss : List SignSet) (i to top : ℕ) (r : Share) : Type 0 where
  own : i < to → get_or ms i 0 ≡ top → r.c ≡ get_or cs i (pos 0) → r.s ≡ get_or ss i 0 → r.i ≡ i + 1 → TakenAt cs ms ss i to top r
  other : (i < to → get_or ms i 0 ≡ top → ⊥) → r.c ≡ pos 0 → r.s ≡ 0 → r.i ≡ i → TakenAt cs ms ss i to top r

-- r is one of three
pub data OneOf (x y z r : ℕ) : Type 0 where
  first : r ≡ x → OneOf x y z r
  second : r ≡ y → OneOf x y z r
  third : r ≡ z → OneOf x y z r

-- the row of the greatest monomial left
pub record NextRow (cs : List ℤ) (ms : List ℕ) (ss : List SignSet) (x : Pair) (i j k : ℕ) (r : Row) : Type 0 where
  pub top : ℕ
  pub below : (b : ℕ) → (i < x.p.to → get_or ms i 0 < b) → (j < x.q1.to → get_or ms j 0 < b) → (k < x.q2.to → get_or ms k 0 < b) → top < b
  pub above1 : i < x.p.to → get_or ms i 0 ≤ top
  pub above2 : j < x.q1.to → get_or ms j 0 ≤ top
  pub above3 : k < x.q2.to → get_or ms k 0 ≤ top
  pub s1 : SignSet
  pub s2 : SignSet
  pub s3 : SignSet
  pub p : TakenAt cs ms ss i x.p.to top (record { c = r.a; s = s1; i = r.i })
  pub q1 : TakenAt cs ms ss j x.q1.to top (record { c = r.b; s = s2; i = r.j })
  pub q2 : TakenAt cs ms ss k x.q2.to top (record { c = r.c; s = s3; i = r.k })
  pub sign : OneOf s1 s2 s3 r.s

-- ---- the rows

-- the coefficients of the monomials in p, q1 and q2, and signs that they can have
pub record Rows : Type 0 where
  pub first : List ℤ
  pub second : List ℤ
  pub third : List ℤ
  pub signs : List SignSet

abbrev pub rows : List ℤ → List ℤ → List ℤ → List SignSet → Rows
rows a b c s = record { first = a; second = b; third = c; signs = s }

-- a, b and c are the coefficients of some monomial in the three forms, and on each board s is a part of its set
pub record RowOf (cs : List ℤ) (ms : List ℕ) (ss : List SignSet) (x : Pair) (a b c : ℤ) (s : SignSet) : Type 0 where
  pub monomial : ℕ
  pub p : coefficient_at monomial (polynomial_of cs ms x.p) ≡ a
  pub q1 : coefficient_at monomial (polynomial_of cs ms x.q1) ≡ b
  pub q2 : coefficient_at monomial (polynomial_of cs ms x.q2) ≡ c
  pub sign : {board : Board} → SignedOn board ms ss x → PartOf s (monomial_sign board monomial)

abbrev pub RowAt : List ℤ → List ℕ → List SignSet → Pair → Rows → ℕ → Type 0
RowAt cs ms ss x r i = RowOf cs ms ss x (get_or r.first i (pos 0)) (get_or r.second i (pos 0)) (get_or r.third i (pos 0)) (get_or r.signs i 0)

-- n rows are there, and each is one
pub record Filled (cs : List ℤ) (ms : List ℕ) (ss : List SignSet) (x : Pair) (r : Rows) (n : ℕ) : Type 0 where
  pub firsts : n ≤ length r.first
  pub seconds : n ≤ length r.second
  pub thirds : n ≤ length r.third
  pub signs : n ≤ length r.signs
  pub each : (i : ℕ) → i < n → RowAt cs ms ss x r i
