-- Fewer atoms, in order, each with the same or a wider set; and what appending, loading and storing make of fewer atoms and of wider boards.
use Rattle.std.specs.Prelude.{◌≡◌, refl, true, false, ◌&&◌, List, [], ◌∷◌, ◌++◌, ℕ, zero, suc, ◌<◌, length, get_or, set, replicate}
use Rattle.std.proofs.Common.{sym, ◌∙◌, eq-eqb}
use Rattle.rules.specs.Signs.{Sign, negative, nought, positive, SignSet, empty, full, has, bit, set_of, intersect, inside}
use Rattle.rules.specs.Polynomial.{Atom, Board}
use Rattle.sign_laws.specs.Booleans.{both_ways, and_intro, and_first, never_true}
use Rattle.sign_laws.specs.Sets.{set_of-has, in-full, in-empty, in-intersect, in_left, in_right, PartOf, part-refl, part-trans, in-inside}
use Rattle.removal_laws.specs.Wider.{Wider, no_sets, sets, WiderAtom}

-- ---- Sets.

-- Every set is a part of the full one.
pub part-full : (s : SignSet) → PartOf s full
part-full s = record { each = λ x h. in-full x }

-- Of wider sets the intersection is wider.
pub intersect-wider : {a b c d : SignSet} → PartOf a c → PartOf b d → PartOf (intersect a b) (intersect c d)
intersect-wider {a} {b} p q = record { each = λ x h. in-intersect (p.each x (in_left a b h)) (q.each x (in_right a b h)) }

-- What has no sign the empty set has not: below 8 that is the empty set.
pub part-empty : {s : SignSet} → s < 8 → PartOf s empty → s ≡ empty
unfolding set_of bit
part-empty {s} h p = sym (set_of-has s h) ∙ rw (hasnt negative, hasnt nought, hasnt positive)
  where
    hasnt : (x : Sign) → has x s ≡ false
    hasnt x = never_true (has x s) (λ e. in-empty (p.each x (record { is = e })))

-- What a wider set lies inside of, a set below 8 lies inside of.
pub inside-wider : {a b : SignSet} (c : SignSet) → a < 8 → PartOf a b → inside b c ≡ true → inside a c ≡ true
unfolding inside intersect set_of
inside-wider {a} {b} c h p e = eq-eqb (intersect a c) a (rw (both negative, both nought, both positive) (set_of-has a h))
  where
    both : (x : Sign) → has x a && has x c ≡ has x a
    both x = both_ways (has x a && has x c) (has x a) (and_first (has x a) (has x c))
        (λ k. and_intro k (in-inside b c e (p.each x (record { is = k }))).is)

-- ---- Boards.

-- A board of full sets is wider than any.
pub full-wider : (board : Board) → Wider board (replicate (length board) full)
full-wider [] = no_sets
full-wider (s ∷ board) = sets (part-full s) (full-wider board)

-- A variable's set on a wider board is wider.
pub get_d_wider : {board wide : Board} → Wider board wide → (i : ℕ) → PartOf (get_or board i full) (get_or wide i full)
get_d_wider no_sets i = part-refl full
get_d_wider (sets h hs) zero = h
get_d_wider (sets h hs) (suc i) = get_d_wider hs i

-- A wider set, stored on a wider board.
pub set-wider : {board wide : Board} {s t : SignSet} → Wider board wide → (i : ℕ) → PartOf s t → Wider (set board i s) (set wide i t)
set-wider no_sets i k = no_sets
set-wider (sets h hs) zero k = sets k hs
set-wider (sets h hs) (suc i) k = sets h (set-wider hs i k)

-- A wider set, stored on the wider board alone.
pub set-wide : {board wide : Board} {t : SignSet} → Wider board wide → (i : ℕ) → PartOf (get_or board i full) t → Wider board (set wide i t)
set-wide no_sets i k = no_sets
set-wide (sets h hs) zero k = sets k hs
set-wide (sets h hs) (suc i) k = sets h (set-wide hs i k)

-- ---- Atoms.

-- Some of the atoms, in order, each with its own set or a wider one.
pub data Fewer : List Atom → List Atom → Type 0 where
  no_atoms : Fewer [] []
  left_out : {a : Atom} {atoms fewer : List Atom} → Fewer atoms fewer → Fewer (a ∷ atoms) fewer
  kept : {a b : Atom} {atoms fewer : List Atom} → WiderAtom a b → Fewer atoms fewer → Fewer (a ∷ atoms) (b ∷ fewer)

-- An atom as it is.
pub itself : (a : Atom) → WiderAtom a a
itself a = record { polynomial = refl; set = part-refl a.set }

-- All atoms as they are.
pub all-kept : (l : List Atom) → Fewer l l
all-kept [] = no_atoms
all-kept (a ∷ l) = kept (itself a) (all-kept l)

-- Fewer of two lists, one behind the other.
pub fewer-append : {l k m j : List Atom} → Fewer l m → Fewer k j → Fewer (l ++ k) (m ++ j)
fewer-append no_atoms g = g
fewer-append (left_out f) g = left_out (fewer-append f g)
fewer-append (kept h f) g = kept h (fewer-append f g)

-- One atom more at the end, which is left out.
pub last-left-out : {l m : List Atom} (a : Atom) → Fewer l m → Fewer (l ++ (a ∷ [])) m
last-left-out a no_atoms = left_out no_atoms
last-left-out a (left_out f) = left_out (last-left-out a f)
last-left-out a (kept h f) = kept h (last-left-out a f)

-- Fewer of fewer.
pub fewer-both : {k l m : List Atom} → Fewer k l → Fewer l m → Fewer k m
fewer-both no_atoms no_atoms = no_atoms
fewer-both (left_out f) g = left_out (fewer-both f g)
fewer-both (kept v f) (left_out g) = left_out (fewer-both f g)
fewer-both (kept v f) (kept u g) = kept (record { polynomial = v.polynomial ∙ u.polynomial; set = part-trans v.set u.set }) (fewer-both f g)
