-- The sets of tokens have three bits, and so a token can hold each set that its atom carries after the rounds.
use mathlib.Core.List.{List, [], ◌∷◌}
use Prim.Native.Nat.{ℕ}
use native.Mathlib.Omega.{arith}
use Rattle.rules.specs.Level.{plain, plains}
use Rattle.sign_laws.specs.Lists.{every_none, every}
use Rattle.length_laws.specs.RoundsKeep.{AllSmall}
use Rattle.table.specs.Table.{Table}
use Rattle.tape.specs.Token.{atom_of, atoms_in}

pub tokens-small : (t : Table) (l : List ℕ) → AllSmall (plains (atoms_in t l))
unfolding atom_of
tokens-small t [] = every_none
tokens-small t (x ∷ l) = every {a = plain (atom_of t x)} (record { bits = omega arith }) (tokens-small t l)
