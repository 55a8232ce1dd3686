-- Two walks over OR children in a row, and what they have found together: code goes from the left, the book from the right.
use Rattle.std.specs.Prelude.{◌≡◌, refl, [], ◌∷◌, ◌++◌}
use Rattle.std.proofs.Common.{ap, ap₂, append_assoc, append-nil}
use Rattle.rules.specs.Level.{Entry, fails, joins, stays, Walk, falls, still, moved, add}
use Rattle.tape.specs.Walked.{afterwards}

unfoldable pub further : Walk → Walk → Walk
further falls later = falls
further (still ors) falls = falls
further (still ors) (still more) = still (ors ++ more)
further (still ors) (moved m more) = moved m (ors ++ more)
further (moved l ors) falls = falls
further (moved l ors) (still more) = moved l (ors ++ more)
further (moved l ors) (moved m more) = moved (l ++ m) (ors ++ more)

pub further-start : (later : Walk) → further (still []) later ≡ later
unfolding further
further-start falls = refl
further-start (still more) = refl
further-start (moved m more) = refl

pub further-end : (walk : Walk) → further walk (still []) ≡ walk
unfolding further
further-end falls = refl
further-end (still ors) = ap still (append-nil ors)
further-end (moved l ors) = ap (moved l) (append-nil ors)

-- a child after a walk, or before the later one: code goes from the left, the book from the right
pub further-child : (walk : Walk) (entry : Entry) (later : Walk) → further (afterwards walk entry) later ≡ further walk (add entry later)
unfolding further afterwards add
further-child falls entry later = refl
further-child (still ors) fails later = refl
further-child (still ors) (joins l more) falls = refl
further-child (still ors) (joins l more) (still rest) = ap (moved l) (append_assoc ors more rest)
further-child (still ors) (joins l more) (moved m rest) = ap (moved (l ++ m)) (append_assoc ors more rest)
further-child (still ors) (stays kids) falls = refl
further-child (still ors) (stays kids) (still rest) = ap still (append_assoc ors (kids ∷ []) rest)
further-child (still ors) (stays kids) (moved m rest) = ap (moved m) (append_assoc ors (kids ∷ []) rest)
further-child (moved n ors) fails later = refl
further-child (moved n ors) (joins l more) falls = refl
further-child (moved n ors) (joins l more) (still rest) = ap (moved (n ++ l)) (append_assoc ors more rest)
further-child (moved n ors) (joins l more) (moved m rest) = ap₂ moved (append_assoc n l m) (append_assoc ors more rest)
further-child (moved n ors) (stays kids) falls = refl
further-child (moved n ors) (stays kids) (still rest) = ap (moved n) (append_assoc ors (kids ∷ []) rest)
further-child (moved n ors) (stays kids) (moved m rest) = ap (moved (n ++ m)) (append_assoc ors (kids ∷ []) rest)
