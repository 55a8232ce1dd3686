-- What a search over pairs finds of a variable is a finding of pairs, as turns ahead of the rounds may be made (02, #111; turn_laws/AfterTurns).
use mathlib.Core.Path.{◌≡◌, refl, ap, subst}
use mathlib.Core.List.{List, [], ◌∷◌}
use mathlib.Core.Option.{some}
use Prim.Native.Nat.{ℕ, suc, ◌+◌, ◌<◌, ◌≤◌}
use native.Mathlib.Omega.{arith}
use lib.ListN.{length, get_or, set}
use Rattle.rules.specs.Signs.{SignSet, full, intersect}
use Rattle.rules.specs.Polynomial.{Atom, Board, variable}
use Rattle.rules.specs.TwoAtoms.{tries, first_cut, cut_by_all}
use Rattle.rules.specs.Rounds.{search_board}
use Rattle.sign_laws.specs.Lists.{Every, every_none, every}
use Rattle.sign_laws.specs.Sets.{PartOf, part-refl, part-trans, intersect-first, intersect-second}
use Rattle.ending_laws.specs.Searches.{first-cuts, first-keeps, BoardFound, found_here, found_later, board-found}
use Rattle.turn_laws.specs.AfterTurns.{AfterTurns, no_turn, by_pairs}

-- what all findings leave of a set is a part of it, and of each finding
all-inside : (s : SignSet) (fs : List SignSet) → PartOf (cut_by_all s fs) s
unfolding cut_by_all
all-inside s [] = part-refl s
all-inside s (f ∷ fs) = part-trans (all-inside (intersect s f) fs) (intersect-first s f)

all-inside-each : (s : SignSet) (fs : List SignSet) → Every (PartOf (cut_by_all s fs)) fs
unfolding cut_by_all
all-inside-each s [] = every_none
all-inside-each s (f ∷ fs) = every (part-trans (all-inside (intersect s f) fs) (intersect-second s f)) (all-inside-each (intersect s f) fs)

-- the place of what was found
record FoundAt (n : ℕ) (atoms : List Atom) (board : Board) (i : ℕ) (l m : List SignSet) : Type 0 where
  place : ℕ
  cut : SignSet
  within : place < length l
  first : first_cut (get_or l place full) (tries board (variable n (i + place)) atoms) ≡ some cut
  sets : set l place cut ≡ m

found_at : {n : ℕ} {atoms : List Atom} {board : Board} {i : ℕ} {l m : List SignSet} → BoardFound n atoms board i l m → FoundAt n atoms board i l m
found_at {i = i} (found_here {cut = cut} e) =
    let here : i + 0 ≡ i = omega arith in
    record { place = 0; cut = cut; within = omega arith; first = rw here e; sets = refl }
found_at {i = i} (found_later {s = s} f) =
    let later = found_at f in
    let next : i + suc later.place ≡ suc i + later.place = omega arith in
    record {
      place = suc later.place;
      cut = later.cut;
      within = omega (arith, later.within);
      first = rw next later.first;
      sets = ap (λ (k : List SignSet). s ∷ k) later.sets;
    }

pub found_after : (n : ℕ) (atoms : List Atom) (board : Board) {found : Board} → length board ≤ n → search_board n atoms board 0 n board ≡ some found
    → AfterTurns n atoms board found
found_after n atoms board h e =
    let at = found_at (board-found n atoms board 0 n board e) in
    let i = at.place in
    let own = get_or board i full in
    let findings = tries board (variable n i) atoms in
    let here : 0 + i ≡ i = omega arith in
    let first : first_cut own findings ≡ some at.cut = rw here at at.first in
    subst (AfterTurns n atoms board) at.sets
    (by_pairs i (omega (arith, at.within)) (first-cuts own findings first).low (first-keeps own (all-inside own findings) (all-inside-each own findings) first)
    (first-cuts own findings first).part no_turn)
