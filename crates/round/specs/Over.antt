-- Laws for a board whose own number of variables is the table's: what is said of the slices with the one holds with the other.
-- Each law carries one contract along the equation of the two numbers.
use Rattle.std.specs.Prelude.{◌≡◌, List, [], ℕ, ℤ}
use Rattle.std.proofs.Common.{subst}
use Rattle.rules.specs.Signs.{SignSet}
use Rattle.rules.specs.Polynomial.{Board}
use Rattle.rules.specs.Rounds.{cut_by, turn, cut_atoms}
use Rattle.turn_laws.specs.AfterTurns.{Floor}
use Rattle.terms.specs.declared.Board.{Board as Sets}
use Rattle.table.specs.declared.Atoms.{Atoms}
use Rattle.table.specs.Table.{Forms, form_at, atoms_from, atoms_of}
use Rattle.round.specs.declared.State.{State}
use Rattle.round.specs.declared.slots.Holds.{Holds}
use Rattle.round.specs.Views.{table_of, Below}
use Rattle.round.specs.Signing.{Ready}
use Rattle.round.specs.Floors.{FloorAt}
use Rattle.round.specs.Round.{Turned, Cut, Rounded}

pub below-over : {n m : ℕ} → n ≡ m → (holds : Holds) → Below n holds → Below m holds
below-over same holds = subst (λ (k : ℕ). Below k holds) same

module _ (cs : List ℤ) (ms ts : List ℕ) {n m : ℕ} (same : n ≡ m) where
  pub forms-over : Forms (table_of cs ms ts n) → Forms (table_of cs ms ts m)
  forms-over = subst (λ (k : ℕ). Forms (table_of cs ms ts k)) same

  pub ready-over : {board : Board} {a : Atoms} {ss : List SignSet} → Ready (table_of cs ms ts n) board a ss → Ready (table_of cs ms ts m) board a ss
  ready-over {board} {a} {ss} = subst (λ (k : ℕ). Ready (table_of cs ms ts k) board a ss) same

  pub cut-by-over : {r : SignSet} (board : Board) (p : ℕ) (a : Atoms) (i k : ℕ) (s : SignSet)
      → r ≡ cut_by board (form_at (table_of cs ms ts n) p) (atoms_from (table_of cs ms ts n) a.number a.set i k) s
      → r ≡ cut_by board (form_at (table_of cs ms ts m) p) (atoms_from (table_of cs ms ts m) a.number a.set i k) s
  cut-by-over {r} board p a i k s =
      subst (λ (v : ℕ). r ≡ cut_by board (form_at (table_of cs ms ts v) p) (atoms_from (table_of cs ms ts v) a.number a.set i k) s) same

  pub turned-over : {a : Atoms} (board : Board) (i : ℕ) {b : Sets} {ss : List SignSet}
      → Turned (table_of cs ms ts n) a (turn n (atoms_of (table_of cs ms ts n) a) board i) b ss
      → Turned (table_of cs ms ts m) a (turn m (atoms_of (table_of cs ms ts m) a) board i) b ss
  turned-over {a} board i {b} {ss} = subst (λ (k : ℕ). Turned (table_of cs ms ts k) a (turn k (atoms_of (table_of cs ms ts k) a) board i) b ss) same

  pub floor-at-over : (a : Atoms) (b floor : Sets) (i : ℕ) → FloorAt (table_of cs ms ts n) a b floor i → FloorAt (table_of cs ms ts m) a b floor i
  floor-at-over a b floor i = subst (λ (k : ℕ). FloorAt (table_of cs ms ts k) a b floor i) same

  pub floor-over : (a : Atoms) (first floor : Board) → Floor n (atoms_of (table_of cs ms ts n) a) first floor
      → Floor m (atoms_of (table_of cs ms ts m) a) first floor
  floor-over a first floor = subst (λ (k : ℕ). Floor k (atoms_of (table_of cs ms ts k) a) first floor) same

  pub cut-over : {a : Atoms} (board : Board) {r : Atoms} → Cut (table_of cs ms ts n) a (cut_atoms board [] (atoms_of (table_of cs ms ts n) a)) r
      → Cut (table_of cs ms ts m) a (cut_atoms board [] (atoms_of (table_of cs ms ts m) a)) r
  cut-over {a} board {r} = subst (λ (k : ℕ). Cut (table_of cs ms ts k) a (cut_atoms board [] (atoms_of (table_of cs ms ts k) a)) r) same

  pub rounded-over : {st r : State} → Rounded (table_of cs ms ts n) st r → Rounded (table_of cs ms ts m) st r
  rounded-over {st} {r} = subst (λ (k : ℕ). Rounded (table_of cs ms ts k) st r) same
