-- When lists of atoms, OR children and parts hold, given the sign of each polynomial: append, atoms and ORs apart, complement and exchange.
-- The laws of the six steps speak of `atoms_hold` (all atoms of a list) and `ors_hold` (in each OR child some part).
use Rattle.std.specs.Prelude.{◌≡◌, Bool, true, false, not, ◌&&◌}
use Rattle.std.proofs.Math.Path.{refl}
use Rattle.std.proofs.Common.{sym}
use mathlib.Core.List.{List, [], ◌∷◌, ◌++◌}
use Rattle.rules.specs.Signs.{Sign, empty, full}
use Rattle.rules.specs.Polynomial.{Polynomial, Atom}
use Rattle.rules.specs.Formula.{Parts, end, atom, and, or, Node, is_end, each_atom, each_atom_of}
use Rattle.rules.specs.Level.{Placed, plain, plains, Formula, complemented, dual, atoms_of, ors_of, or_parts, parts}
use Rattle.rules.specs.Meaning.{atom_holds, all_hold, some_hold, holds}
use Rattle.sign_laws.specs.Booleans.{and_assoc, and-swap, and-true, and-four, not-and, not-or, and_intro, and_first, and_second, never_true}
use Rattle.sign_laws.specs.Sets.{◌In◌, in-full, in-empty, has-complement}

-- ---- Lists and parts.

-- Each element passes the test.
unfoldable pub every : {A : Type 0} → (A → Bool) → List A → Bool
every test [] = true
every test (a ∷ l) = test a && every test l

-- Of a list put behind another, both do.
pub every_append : {A : Type 0} (test : A → Bool) (l m : List A) → every test (l ++ m) ≡ every test l && every test m
unfolding every
every_append test [] m = refl
every_append test (a ∷ l) m = rw (every_append test l m) (and_assoc (test a) (every test l) (every test m))

-- All atoms of a list hold.
abbrev pub atoms_hold : (Polynomial → Sign) → List Atom → Bool
atoms_hold sign l = every (atom_holds sign) l

-- The same of atoms with places, and of formulas over them: their places say nothing of truth.
abbrev pub placed_holds : (Polynomial → Sign) → Placed → Bool
placed_holds sign a = atom_holds sign (plain a)

abbrev pub list_holds : (Polynomial → Sign) → List Placed → Bool
list_holds sign l = every (placed_holds sign) l

abbrev pub all_parts_hold : (Polynomial → Sign) → Formula → Bool
all_parts_hold sign kids = all_hold sign (each_atom plain kids)

abbrev pub some_part_holds : (Polynomial → Sign) → Formula → Bool
some_part_holds sign kids = some_hold sign (each_atom plain kids)

abbrev pub tree_holds : (Polynomial → Sign) → Node Placed → Bool
tree_holds sign tree = holds sign (each_atom_of plain tree)

-- In each OR child some part holds.
abbrev pub ors_hold : (Polynomial → Sign) → List Formula → Bool
ors_hold sign ors = every (some_part_holds sign) ors

-- To prove something of `is_end rest`: the case of no rest, with that fact, and the other.
pub by_end : {A : Type 0} (P : Bool → Type 0) (rest : Parts A) → (rest ≡ end → P true) → P false → P (is_end rest)
unfolding is_end
by_end P end alone more = alone refl
by_end P (atom a rest) alone more = more
by_end P (and kids rest) alone more = more
by_end P (or kids rest) alone more = more

module _ (sign : Polynomial → Sign) where
  -- ---- Atoms and lists of atoms.

  -- The sign is in the set of an atom that holds.
  pub atom-in : (a : Atom) → atom_holds sign a ≡ true → sign a.polynomial In a.set
  unfolding atom_holds
  atom-in a e = record { is = e }

  -- And back.
  pub in-atom : (a : Atom) → sign a.polynomial In a.set → atom_holds sign a ≡ true
  unfolding atom_holds
  in-atom a h = h.is

  -- An atom with the empty set does not hold.
  pub empty-fails : (a : Atom) → a.set ≡ empty → atom_holds sign a ≡ false
  unfolding atom_holds
  empty-fails a e = never_true (atom_holds sign a) (λ h. in-empty {x = sign a.polynomial} (record { is = rw e at h }))

  -- And one with the full set does.
  pub full-holds : (a : Atom) → a.set ≡ full → atom_holds sign a ≡ true
  unfolding atom_holds
  full-holds a e = rw e (in-full (sign a.polynomial)).is

  -- A list with no atoms holds.
  pub no_atoms : atoms_hold sign [] ≡ true
  unfolding every
  no_atoms = refl

  -- Of a list that holds, the first atom does.
  pub first_holds : (a : Atom) (l : List Atom) → atoms_hold sign (a ∷ l) ≡ true → atom_holds sign a ≡ true
  unfolding every
  first_holds a l e = and_first (atom_holds sign a) (atoms_hold sign l) e

  -- And so do the others.
  pub others-hold : (a : Atom) (l : List Atom) → atoms_hold sign (a ∷ l) ≡ true → atoms_hold sign l ≡ true
  unfolding every
  others-hold a l e = and_second (atom_holds sign a) (atoms_hold sign l) e

  -- A list holds if its first atom and the others do.
  pub both_hold : (a : Atom) (l : List Atom) → atom_holds sign a ≡ true → atoms_hold sign l ≡ true → atoms_hold sign (a ∷ l) ≡ true
  unfolding every
  both_hold a l h k = and_intro h k

  -- Atoms with places hold exactly if the plain ones do.
  pub plains-hold : (l : List Placed) → atoms_hold sign (plains l) ≡ list_holds sign l
  unfolding every
  plains-hold [] = refl
  plains-hold (a ∷ l) = rw (plains-hold l)

  -- A list of one atom holds exactly if the atom does.
  pub one_atom : (a : Atom) → atoms_hold sign (a ∷ []) ≡ atom_holds sign a
  unfolding every
  one_atom a = and-true (atom_holds sign a)

  -- ---- The parts of an AND.

  -- An AND's parts hold exactly if its direct atoms and its OR children hold.
  pub all_apart : (kids : Formula) → all_parts_hold sign kids ≡ list_holds sign (atoms_of kids) && ors_hold sign (ors_of kids)
  unfolding all_hold each_atom every atoms_of ors_of
  all_apart end = refl
  all_apart (atom a rest) = rw (all_apart rest) (and_assoc (placed_holds sign a) (list_holds sign (atoms_of rest)) (ors_hold sign (ors_of rest)))
  all_apart (and kids rest) =
      rw (all_apart kids, all_apart rest, every_append (placed_holds sign) (atoms_of kids) (atoms_of rest), every_append (some_part_holds sign) (ors_of kids) (ors_of rest))
      (and-four (list_holds sign (atoms_of kids)) (ors_hold sign (ors_of kids)) (list_holds sign (atoms_of rest)) (ors_hold sign (ors_of rest)))
  all_apart (or kids rest) = rw (all_apart rest) (and-swap (some_part_holds sign kids) (list_holds sign (atoms_of rest)) (ors_hold sign (ors_of rest)))

  or-parts-hold : (ors : List Formula) → all_parts_hold sign (or_parts ors) ≡ ors_hold sign ors
  unfolding all_hold each_atom or_parts every
  or-parts-hold [] = refl
  or-parts-hold (child ∷ later) = rw (or-parts-hold later)

  -- The same of atoms and ORs put together again (step 6).
  pub parts-hold : (l : List Placed) (ors : List Formula) → all_parts_hold sign (parts l ors) ≡ list_holds sign l && ors_hold sign ors
  unfolding all_hold each_atom parts every
  parts-hold [] ors = or-parts-hold ors
  parts-hold (a ∷ l) ors = rw (parts-hold l ors) (and_assoc (placed_holds sign a) (list_holds sign l) (ors_hold sign ors))

  -- ---- Complement and exchange.

  -- An atom with the complement of its set holds exactly if the atom does not.
  pub complement-holds : (a : Placed) → placed_holds sign (complemented a) ≡ not (placed_holds sign a)
  unfolding atom_holds complemented
  complement-holds a = has-complement (sign a.polynomial) a.set

  mutual
    unfolding all_hold each_atom dual

    -- The complement of parts of an OR, as parts of an AND, holds exactly if they do not.
    pub all-dual : (kids : Formula) → all_parts_hold sign (dual kids) ≡ not (some_part_holds sign kids)
    all-dual end = refl
    all-dual (atom a rest) = rw (complement-holds a, all-dual rest) (sym (not-or (placed_holds sign a) (some_part_holds sign rest)))
    all-dual (and kids rest) = rw (some_dual kids, all-dual rest) (sym (not-or (all_parts_hold sign kids) (some_part_holds sign rest)))
    all-dual (or kids rest) = rw (all-dual kids, all-dual rest) (sym (not-or (some_part_holds sign kids) (some_part_holds sign rest)))

    -- And the other way round.
    pub some_dual : (kids : Formula) → some_part_holds sign (dual kids) ≡ not (all_parts_hold sign kids)
    some_dual end = refl
    some_dual (atom a rest) = rw (complement-holds a, some_dual rest) (sym (not-and (placed_holds sign a) (all_parts_hold sign rest)))
    some_dual (and kids rest) = rw (some_dual kids, some_dual rest) (sym (not-and (all_parts_hold sign kids) (all_parts_hold sign rest)))
    some_dual (or kids rest) = rw (all-dual kids, some_dual rest) (sym (not-and (some_part_holds sign kids) (all_parts_hold sign rest)))
