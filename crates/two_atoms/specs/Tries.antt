-- One try of p and two atoms, as runs of places of the lent slices: what it leaves of a set.
use Rattle.std.specs.Prelude.{◌≡◌, Bool, List, ℕ, ℤ, pos, neg_ℤ, get_or}
use Rattle.rules.specs.Signs.{SignSet}
use Rattle.rules.specs.Polynomial.{Board}
use Rattle.rules.specs.TwoAtoms.{try, factors, with_each, cut_by_all}
use Rattle.sign_laws.specs.Lists.{Every}
use Rattle.removal_laws.specs.Terms.{Signed as HasSign}
use Rattle.terms.specs.Signed.{Signed}
use Rattle.deduce.specs.Runs.{polynomial_of, atom_of}
use Rattle.two_atoms.specs.declared.pair.Pair.{Pair}
use Rattle.two_atoms.specs.Sums.{Places}
use Rattle.two_atoms.specs.Cuts.{cut_in}

-- the factor at an index
unfoldable pub factor_at : ℕ → ℤ
factor_at i = get_or factors i (pos 4)

-- the runs of p and of both atoms are places of the three slices
pub record PlacesOf (cs : List ℤ) (ms : List ℕ) (ss : List SignSet) (x : Pair) : Type 0 where
  pub p : Places cs ms ss x.p.from x.p.to
  pub q1 : Places cs ms ss x.q1.from x.q1.to
  pub q2 : Places cs ms ss x.q2.from x.q2.to

-- no set of the board is empty, and the signs of the three runs are its
pub record SignedOn (board : Board) (ms : List ℕ) (ss : List SignSet) (x : Pair) : Type 0 where
  pub p : Signed board ms ss x.p.from x.p.to
  pub q1 : Signed board ms ss x.q1.from x.q1.to
  pub q2 : Signed board ms ss x.q2.from x.q2.to
  pub filled : Every HasSign board

-- the book's tries of p and the two atoms
abbrev pub try_of : Board → List ℤ → List ℕ → Pair → ℤ → ℤ → List SignSet
try_of board cs ms x u v = try board (polynomial_of cs ms x.p) (atom_of cs ms x.q1 x.set1) (atom_of cs ms x.q2 x.set2) u v

-- r is what the try with u and v leaves of s, v being -w
pub record CutByTry (cs : List ℤ) (ms : List ℕ) (ss : List SignSet) (x : Pair) (u v w : ℤ) (s r : SignSet) : Type 0 where
  pub on : {board : Board} → SignedOn board ms ss x → neg_ℤ w ≡ v → r ≡ cut_by_all s (try_of board cs ms x u v)

-- with one u and all v: r is what is left of s, cut by all findings or by the first that changes it
pub record CutByV (cs : List ℤ) (ms : List ℕ) (ss : List SignSet) (x : Pair) (u : ℤ) (all : Bool) (s r : SignSet) : Type 0 where
  pub on : {board : Board} → SignedOn board ms ss x → r ≡ cut_in all s (with_each (try_of board cs ms x u) factors)

-- "u, then v": r is what the tries of the pair leave of s
pub record CutByPair (cs : List ℤ) (ms : List ℕ) (ss : List SignSet) (x : Pair) (all : Bool) (s r : SignSet) : Type 0 where
  pub on : {board : Board} → SignedOn board ms ss x → r ≡ cut_in all s (with_each (λ (u : ℤ). with_each (try_of board cs ms x u) factors) factors)
