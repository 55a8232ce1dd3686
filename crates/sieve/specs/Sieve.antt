-- What the answer says of a pair of atoms: where it is false, none of their tries cuts the set.
use Rattle.std.specs.Prelude.{◌≡◌, Bool, false, List, ℕ, ℤ}
use Rattle.rules.specs.Signs.{SignSet}
use Rattle.two_atoms.specs.declared.pair.Pair.{Pair}
use Rattle.two_atoms.specs.Tries.{CutByPair}

pub record AnyLeft (cs : List ℤ) (ms : List ℕ) (ss : List SignSet) (x : Pair) (set : SignSet) (r : Bool) : Type 0 where
  pub leaves : r ≡ false → (all : Bool) → CutByPair cs ms ss x all set set
