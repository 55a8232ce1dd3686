-- Boards and atoms of which one is wider than the other: each set of the one is a part of the other's.
-- What is deduced on the wider ones is wider: `deduce-wider` in Deduced.antt.
use Rattle.std.specs.Prelude.{◌≡◌, List, [], ◌∷◌}
use Rattle.rules.specs.Signs.{SignSet}
use Rattle.rules.specs.Polynomial.{Atom, Board}
use Rattle.sign_laws.specs.Sets.{PartOf}

-- As many sets, each a part of the wider board's.
pub data Wider : Board → Board → Type 0 where
  no_sets : Wider [] []
  sets : {s t : SignSet} {board wide : Board} → PartOf s t → Wider board wide → Wider (s ∷ board) (t ∷ wide)

-- The same polynomial, with a wider set.
pub record WiderAtom (a wide : Atom) : Type 0 where
  pub polynomial : a.polynomial ≡ wide.polynomial
  pub set : PartOf a.set wide.set
