-- Searches that find nothing: of no variable, of no atom; where a list is too short for a pair, and where each variable has its floor's set.
use mathlib.Core.Path.{◌≡◌, refl, sym, ◌∙◌}
use mathlib.Core.Bool.{false}
use mathlib.Core.List.{List, [], ◌++◌}
use mathlib.Core.Option.{Option, none}
use Prim.Native.Nat.{ℕ, zero, suc, ◌+◌, ◌-◌, ◌%◌, ◌<◌, ◌≤◌}
use native.Mathlib.Omega.{arith}
use lib.ListN.{get_or}
use Rattle.rules.specs.Signs.{SignSet, full}
use Rattle.rules.specs.Polynomial.{Polynomial, Board, variable}
use Rattle.rules.specs.TwoAtoms.{tries_with, tries, first_cut}
use Rattle.terms.specs.View.{few, sets_of}
use Rattle.terms.specs.declared.Board.{Board as Sets}
use Rattle.table.specs.declared.Atoms.{Atoms}
use Rattle.table.specs.Table.{Table, form_at, atoms_from, atoms_of, many}
use Rattle.round.specs.Boards.{set_at}
use Rattle.search.specs.Search.{when_found, AtFloor, PairsFloor, SearchedBoard, SearchedAtoms}
use Rattle.search.proofs.Firsts.{none-of-board, first_at, none-of-atoms}

-- what is first found of variable j
abbrev pub first_of_variable : Table → Sets → Atoms → ℕ → Option SignSet
first_of_variable t b a j = first_cut (get_or (sets_of b) j full) (tries (sets_of b) (variable b.variables j) (atoms_of t a))

module _ (t : Table) (b : Sets) (a : Atoms) where
  -- nothing of any variable
  pub board-nothing : ((j : ℕ) → j < t.variables
      → first_cut (get_or (sets_of b) j full) (tries (sets_of b) (variable t.variables j) (atoms_of t a)) ≡ none)
      → SearchedBoard t b a (record { found = false; board = b })
  unfolding when_found
  board-nothing idle = record {
    found = sym (none-of-board t.variables (atoms_of t a) (sets_of b) t.variables (sets_of b) idle);
    variables = refl;
    itself = λ e. refl;
  }

  -- nothing of any atom
  pub atoms-nothing : ((j : ℕ) → j < many a.count → first_at t a.number a.set (sets_of b) (many a.count) j ≡ none)
      → SearchedAtoms t b a (record { found = false; atoms = a })
  unfolding when_found
  atoms-nothing idle = record {
    found = sym (none-of-atoms t a.number a.set (sets_of b) (many a.count) idle);
    count = refl;
    number = refl;
    itself = λ e. refl;
  }

-- ---- lists that are too short

no-try : (s : SignSet) {fs : List SignSet} → fs ≡ [] → first_cut s fs ≡ none
unfolding first_cut
no-try s e = rw e

module _ (t : Table) (numbers : List ℕ) (sets : List SignSet) (board : Board) (p : Polynomial) where
  few-tries : (n : ℕ) → n < 2 → tries board p (atoms_from t numbers sets 0 n) ≡ []
  unfolding tries tries_with atoms_from
  few-tries zero h = refl
  few-tries (suc zero) h = refl
  few-tries (suc (suc n)) h = absurd (omega arith)

  -- of less than three atoms there are no two others
  few-others : (n i : ℕ) → n < 3 → i < n → tries board p (atoms_from t numbers sets 0 i ++ atoms_from t numbers sets (i + 1) (n - (i + 1))) ≡ []
  unfolding tries tries_with atoms_from
  few-others zero i h l = absurd (omega arith)
  few-others (suc zero) zero h l = refl
  few-others (suc zero) (suc i) h l = absurd (omega arith)
  few-others (suc (suc zero)) zero h l = refl
  few-others (suc (suc zero)) (suc zero) h l = refl
  few-others (suc (suc zero)) (suc (suc i)) h l = absurd (omega arith)
  few-others (suc (suc (suc n))) i h l = absurd (omega arith)

module _ (t : Table) (b : Sets) (a : Atoms) where
  pub no-pair : a.count < 2 → SearchedBoard t b a (record { found = false; board = b })
  no-pair h = board-nothing t b a (λ j low. no-try (get_or (sets_of b) j full)
      (few-tries t a.number a.set (sets_of b) (variable t.variables j) (many a.count) (omega arith)))

  pub no-pair-of-others : a.count < 3 → SearchedAtoms t b a (record { found = false; atoms = a })
  no-pair-of-others h = atoms-nothing t b a (λ j low. no-try (get_or a.set j 0)
      (few-others t a.number a.set (sets_of b) (form_at t (get_or a.number j 0 % 64)) (many a.count) j (omega arith) low))

-- ---- variables at their floor

module _ (b floor : Sets) (few-variables : b.variables ≤ 16) (same : floor.variables ≡ b.variables) where
  -- the sets of both boards are the same where their places are
  pub floor-set : (i : ℕ) → i < b.variables → get_or b.sets i 0 ≡ get_or floor.sets i 0 → get_or (sets_of b) i full ≡ get_or (sets_of floor) i full
  floor-set i h e =
      let low : i < few b.variables = omega arith in
      let low-floor : i < few floor.variables = omega arith in
      set_at b.sets i _ low ∙ e ∙ sym (set_at floor.sets i _ low-floor)

  pub all-at-floor : (t : Table) (a : Atoms) → t.variables ≡ b.variables → PairsFloor t.variables (atoms_of t a) (sets_of b) (sets_of floor)
      → AtFloor b floor → SearchedBoard t b a (record { found = false; board = b })
  all-at-floor t a e idle at = board-nothing t b a (λ j h.
      let low : j < b.variables = omega arith in
      idle.idle j h (floor-set j low (at.each j low)))
