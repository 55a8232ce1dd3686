-- Some of the atoms of a list, in order, each with its own set: what step 5 runs fresh rounds on.
-- 01, "A level", step 5: "what the other remaining atoms (rounds run afresh on them alone) say of it".
use Rattle.std.specs.Prelude.{◌≡◌, Bool, true, false, List, [], ◌∷◌, ◌++◌, ℕ}
use Rattle.std.proofs.Common.{append_assoc}
use Rattle.std.proofs.Math.Option.{Option, none, some}
use Rattle.rules.specs.Polynomial.{Atom, which}
use Rattle.rules.specs.Rounds.{unless_variable, non_variable}
use Rattle.rules.specs.Level.{kept_unless}
use Rattle.removal_laws.specs.Fewer.{Fewer, no_atoms, left_out, kept as also, itself}

-- Some of the atoms, in order, each with its own set.
pub data Some : List Atom → List Atom → Type 0 where
  none_there : Some [] []
  not_there : {a : Atom} {all these : List Atom} → Some all these → Some (a ∷ all) these
  there : {a : Atom} {all these : List Atom} → Some all these → Some (a ∷ all) (a ∷ these)

-- They are fewer.
pub some-fewer : {l m : List Atom} → Some l m → Fewer l m
some-fewer none_there = no_atoms
some-fewer (not_there f) = left_out (some-fewer f)
some-fewer (there {a} f) = also (itself a) (some-fewer f)

-- All atoms.
pub all_there : (l : List Atom) → Some l l
all_there [] = none_there
all_there (a ∷ l) = there (all_there l)

-- Some of some.
pub some-both : {k l m : List Atom} → Some k l → Some l m → Some k m
some-both none_there none_there = none_there
some-both (not_there f) g = not_there (some-both f g)
some-both (there f) (not_there g) = not_there (some-both f g)
some-both (there f) (there g) = there (some-both f g)

-- Some of two lists, one behind the other.
pub some-append : {l k m j : List Atom} → Some l m → Some k j → Some (l ++ k) (m ++ j)
some-append none_there g = g
some-append (not_there f) g = not_there (some-append f g)
some-append (there f) g = there (some-append f g)

-- On the way through the list of step 5: the atoms kept so far and those to come, without the one at hand.
pub some-without : (kept : List Atom) (a : Atom) (later : List Atom) {all : List Atom} → Some all (kept ++ (a ∷ later)) → Some all (kept ++ later)
some-without kept a later f = some-both f (some-append (all_there kept) (not_there (all_there later)))

-- And after it, whether it stays or not.
pub some_next : (out : Bool) (kept : List Atom) (a : Atom) (later : List Atom) {all : List Atom} → Some all (kept ++ (a ∷ later))
    → Some all (kept_unless out a kept ++ later)
unfolding kept_unless
some_next true kept a later f = some-without kept a later f
some_next false kept a later f =
    let same : (kept ++ (a ∷ [])) ++ later ≡ kept ++ (a ∷ later) = append_assoc kept (a ∷ []) later in rw same f

-- One atom more at the end, which is not there.
pub last-not-there : {l m : List Atom} (a : Atom) → Some l m → Some (l ++ (a ∷ [])) m
last-not-there a none_there = not_there none_there
last-not-there a (not_there f) = not_there (last-not-there a f)
last-not-there a (there f) = there (last-not-there a f)

-- Of some atoms, those that are no variable's are some of those that are none's.
pub non_variable-some : (n : ℕ) {l m : List Atom} → Some l m → Some (non_variable n l) (non_variable n m)
unfolding non_variable unless_variable
non_variable-some n none_there = none_there
non_variable-some n (not_there {a} {these = m} f) = by-which (which n a.polynomial) (non_variable-some n f)
  where
    by-which : (o : Option ℕ) {l : List Atom} → Some l (non_variable n m) → Some (unless_variable o a l) (non_variable n m)
    by-which none g = not_there g
    by-which (some i) g = g
non_variable-some n (there {a} f) = by-which (which n a.polynomial) (non_variable-some n f)
  where
    by-which : (o : Option ℕ) {l m : List Atom} → Some l m → Some (unless_variable o a l) (unless_variable o a m)
    by-which none g = there g
    by-which (some i) g = g
