-- Sets below which no turn goes, on boards in arrays: a variable that has its floor's set needs no turn.
-- `floor-at` is what a floor of all turns says of the next one.
use Rattle.std.specs.Prelude.{◌≡◌, refl, List, ℕ, ◌<◌, ◌≤◌, get_or, replicate}
use Rattle.std.proofs.Common.{sym, ◌∙◌, subst, arith}
use Rattle.std.proofs.lemmas.List.{get_or-replicate}
use Rattle.rules.specs.Signs.{SignSet}
use Rattle.rules.specs.Polynomial.{Atom, variable}
use Rattle.rules.specs.Polynomial.{Board as Sets}
use Rattle.rules.specs.Rounds.{cut_by, turn}
use Rattle.sign_laws.specs.Sets.{PartOf}
use Rattle.ending_laws.specs.Cuts.{cut-floor}
use Rattle.turn_laws.specs.AfterTurns.{AfterTurns, Floor, floor-empty}
use Rattle.terms.specs.declared.Board.{Board}
use Rattle.terms.specs.View.{few, numbers_from, sets_of}
use Rattle.table.specs.declared.Atoms.{Atoms}
use Rattle.table.specs.Table.{Table, atoms_of}
use Rattle.round.specs.Boards.{set_at, turn-keeps}

-- variable i's turn does not go below the floor
abbrev pub FloorAt : Table → Atoms → Board → Board → ℕ → Type 0
FloorAt t a b floor i = (get_or floor.sets i 0 < 8)
    × PartOf (get_or floor.sets i 0) (cut_by (sets_of b) (variable t.variables i) (atoms_of t a) (get_or b.sets i 0))

-- a variable that has the floor's set
pub floor-keeps : (t : Table) (a : Atoms) (b floor : Board) (i : ℕ) → FloorAt t a b floor i → i < few b.variables
    → get_or b.sets i 0 ≡ get_or floor.sets i 0 → sets_of b ≡ turn t.variables (atoms_of t a) (sets_of b) i
floor-keeps t a b floor i (small, part) low e =
    let s = get_or b.sets i 0 in
    let cut = cut-floor (sets_of b) (variable t.variables i) (atoms_of t a) s (rw e small)
    (subst (λ (x : SignSet). PartOf x (cut_by (sets_of b) (variable t.variables i) (atoms_of t a) s)) (sym e) part) in
    turn-keeps t.variables b.sets i (few b.variables) low (atoms_of t a) (sym cut) refl

-- what the floor says of the board at hand
pub floor-at : (t : Table) (a : Atoms) (first at floor : Board) → AfterTurns t.variables (atoms_of t a) (sets_of first) (sets_of at)
    → at.variables ≡ t.variables → t.variables ≤ 16 → floor.variables ≡ t.variables
    → Floor t.variables (atoms_of t a) (sets_of first) (sets_of floor) → (j : ℕ) → j < t.variables → FloorAt t a at floor j
floor-at t a first at floor after own-variables few-of same below j h =
    let its = set_at floor.sets j (few floor.variables) (omega (arith, same)) in
    let own = set_at at.sets j (few at.variables) (omega (arith, own-variables)) in
    (rw its at (below.low j h), rw (its, own) at (below.below after j h))

-- a board of empty sets is a floor
pub nothing-below : (n : ℕ) → n ≤ 16 → (atoms : List Atom) (first : Sets) → Floor n atoms first (numbers_from (replicate 16 0) 0 (few n))
nothing-below n h atoms first = floor-empty (λ i low.
    set_at (replicate 16 0) i (few n) (omega arith) ∙ get_or-replicate 16 i 0 0 (omega arith))
