-- A run of places of the lent slices, as the book's polynomial, and as the polynomial of an atom.
-- This is what the contracts of `deduce` and `deduce_from` and their callers speak of.
use Rattle.std.specs.Prelude.{◌≡◌, false, List, ℕ, ◌≤◌, ℤ, length}
use Rattle.rules.specs.Signs.{SignSet}
use Rattle.rules.specs.Polynomial.{Polynomial, Atom, Board}
use Rattle.rules.specs.Deduce.{any_empty, deduce}
use Rattle.terms.specs.View.{terms_of}
use Rattle.terms.specs.Signed.{Signed, Held}
use Rattle.deduce.specs.declared.Run.{Run}

abbrev pub polynomial_of : List ℤ → List ℕ → Run → Polynomial
polynomial_of cs ms run = terms_of cs ms run.from run.to

abbrev pub atom_of : List ℤ → List ℕ → Run → SignSet → Atom
atom_of cs ms run s = record { polynomial = polynomial_of cs ms run; set = s }

-- the run is a polynomial with the board's signs
abbrev pub HeldAt : Board → List ℤ → List ℕ → List SignSet → Run → Type 0
HeldAt board cs ms ss run = Held board cs ms ss run.from run.to

-- the run's places are places of the three slices
pub record Within (cs : List ℤ) (ms : List ℕ) (ss : List SignSet) (run : Run) : Type 0 where
  pub ordered : run.from ≤ run.to
  pub coefficients : run.to ≤ length cs
  pub monomials : run.to ≤ length ms
  pub signs : run.to ≤ length ss

-- with the board's signs at them or not
pub within : {board : Board} {cs : List ℤ} {ms : List ℕ} {ss : List SignSet} {run : Run} → HeldAt board cs ms ss run → Within cs ms ss run
within h = record { ordered = h.ordered; coefficients = h.coefficients; monomials = h.monomials; signs = h.signs }

-- r is what the atom of q with this set says of p, on each board that has no empty set and whose signs these are
pub record Deduced (cs : List ℤ) (ms : List ℕ) (ss : List SignSet) (p q : Run) (set r : SignSet) : Type 0 where
  pub on : {board : Board} → Signed board ms ss p.from p.to → Signed board ms ss q.from q.to → any_empty board ≡ false
      → r ≡ deduce board (polynomial_of cs ms p) (atom_of cs ms q set)
