-- The polynomials of a list do not go by its sets.
use mathlib.Core.Path.{◌≡◌, refl}
use mathlib.Core.List.{List}
use Prim.Native.Nat.{ℕ, zero, suc}
use Rattle.rules.specs.Signs.{SignSet}
use Rattle.table.specs.Table.{Table, atoms_from}
use Rattle.rounds.specs.Run.{polynomials_of}

pub same-polynomials : (t : Table) (numbers : List ℕ) (before after : List SignSet) (i k : ℕ)
    → polynomials_of (atoms_from t numbers after i k) ≡ polynomials_of (atoms_from t numbers before i k)
unfolding atoms_from
same-polynomials t numbers before after i zero = refl
same-polynomials t numbers before after i (suc k) = rw (same-polynomials t numbers before after (suc i) k)
