-- The tokens of a tree: how many there are, and that an atom's token has its set.
use Rattle.std.specs.Prelude.{◌≡◌, refl, ℕ, ◌+◌, ◌*◌, ◌%◌, ◌<◌, length}
use Rattle.std.proofs.Common.{arith, length-append}
use Rattle.rules.specs.Formula.{Parts, end, atom, and, or, nodes}
use Rattle.rules.specs.Block.{NumberedAtom}
use Rattle.block.specs.Held.{tokens}

-- A tree has a token for each node.
pub length-tokens : (parts : Parts NumberedAtom) → length (tokens parts) ≡ nodes parts
unfolding tokens nodes
length-tokens end = refl
length-tokens (atom a rest) = omega (arith, length-tokens rest)
length-tokens (and kids rest) = rw (length-append (tokens kids) (tokens rest)) (omega (arith, length-tokens kids, length-tokens rest))
length-tokens (or kids rest) = rw (length-append (tokens kids) (tokens rest)) (omega (arith, length-tokens kids, length-tokens rest))

-- What is left of an atom's token by eights is its set.
pub set_back : (number set : ℕ) → set < 8 → (number * 8 + set) % 8 ≡ set
set_back number set h = omega arith
