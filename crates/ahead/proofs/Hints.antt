-- A variable's turn in part, by one atom: the signs of their two slots, and what the atom's deduction leaves of the variable's set.
-- `both-signed`, `deduced-is` and `in-part-of` say so.
use mathlib.Core.Path.{◌≡◌, sym, ◌∙◌, ap, ap₂, subst}
use mathlib.Core.List.{List}
use Prim.Native.Nat.{ℕ, zero, suc, ◌+◌, ◌<◌, ◌≤◌}
use native.Mathlib.Decide.{dec_lt}
use native.Mathlib.Omega.{arith}
use lib.ListN.{length, get_or, set}
use Rattle.rules.specs.Signs.{SignSet, full, intersect}
use Rattle.rules.specs.Polynomial.{Polynomial, variable}
use Rattle.rules.specs.Polynomial.{Board as Sets}
use Rattle.rules.specs.Deduce.{deduce}
use Rattle.rules.specs.Rounds.{cut_by}
use Rattle.sign_laws.specs.Sets.{PartOf, part-refl, part-trans, intersect-first, intersect-below}
use Rattle.ending_laws.specs.Cuts.{cut_by-part}
use Rattle.removal_laws.specs.Fewer.{intersect-wider}
use Rattle.turn_laws.specs.AfterTurns.{no_turn, in_part}
use Rattle.terms.specs.declared.Board.{Board}
use Rattle.terms.specs.View.{few, sets_of}
use Rattle.table.specs.declared.Atoms.{Atoms}
use Rattle.table.specs.Table.{Table, Forms, atom_at, atoms_from, many}
use Rattle.round.specs.Signing.{signed_slot, SignedSlot}
use Rattle.round.specs.SignedSlots.{same-slots, form-slots, length-slot, slot-keeps, slot-there}
use Rattle.round.specs.Boards.{set_at, changed-at}
use Rattle.ahead.specs.Ahead.{Reached}

-- ---- the signs of two slots

pub record BothSigned (t : Table) (board : Sets) (ss : List SignSet) (j k : ℕ) : Type 0 where
  pub places : length ss ≡ 1280
  pub first : SignedSlot t board ss j
  pub second : SignedSlot t board ss k

pub both-signed : {t : Table} {board : Sets} (ss : List SignSet) {zs ys : List SignSet} (j k : ℕ) → Forms t → length ss ≡ 1280 → j < 80 → k < 80
    → zs ≡ signed_slot board t.monomial t.terms ss j → ys ≡ signed_slot board t.monomial t.terms zs k → BothSigned t board ys j k
both-signed {t} {board} ss {zs} {ys} j k forms places low small e f =
    let slots = form-slots {t = t} forms places in
    let same = ap length e ∙ length-slot board t.monomial t.terms ss j in
    let later = same-slots slots same in
    record {
      places = ap length f ∙ length-slot board t.monomial t.terms zs k ∙ same ∙ places;
      first = rw f (slot-keeps board t.monomial t.terms later k small (rw e (slot-there board t.monomial t.terms slots j low)));
      second = rw f (slot-there board t.monomial t.terms later k small);
    }

-- ---- one atom of the list

module _ (t : Table) (numbers : List ℕ) (sets : List SignSet) (board : Sets) (p : Polynomial) (j : ℕ) where
  -- what all atoms leave is a part of what it leaves
  cut-member : (i k : ℕ) (s : SignSet) → i ≤ j → j < i + k
      → PartOf (cut_by board p (atoms_from t numbers sets i k) s) (intersect s (deduce board p (atom_at t numbers sets j)))
  unfolding cut_by atoms_from
  cut-member i zero s h l = absurd (omega arith)
  cut-member i (suc k) s h l = by-place (dec_lt i j) (λ b. cut-member (suc i) k (intersect s (deduce board p (atom_at t numbers sets i))) b (omega arith))
    where
      its : ℕ → SignSet
      its v = deduce board p (atom_at t numbers sets v)

      rest : SignSet
      rest = cut_by board p (atoms_from t numbers sets (suc i) k) (intersect s (its i))

      by-place : Dec (i < j) → (i < j → PartOf rest (intersect (intersect s (its i)) (its j))) → PartOf rest (intersect s (its j))
      by-place (yes b) later = part-trans (later b) (intersect-wider (intersect-first s (its i)) (part-refl (its j)))
      by-place (no b) later =
          let here : i ≡ j = omega arith in
          subst (λ (v : ℕ). PartOf rest (intersect s (its v))) here (cut_by-part board p (atoms_from t numbers sets (suc i) k) (intersect s (its i)))

-- so what it leaves is a turn in part
pub reached-by : (t : Table) (a : Atoms) (b : Board) (i j : ℕ) {found v : SignSet} → i < t.variables → i < few b.variables → b.variables ≡ t.variables
    → i < length b.sets → j < many a.count → found ≡ deduce (sets_of b) (variable t.variables i) (atom_at t a.number a.set j)
    → v ≡ intersect (get_or b.sets i 0) found → Reached t a b (record { variables = b.variables; sets = set b.sets i v })
reached-by t a b i j {found} {v} low small same within listed is e =
    let own = set_at b.sets i (few b.variables) small in
    let old = get_or (sets_of b) i full in
    let new : v ≡ intersect old (deduce (sets_of b) (variable t.variables i) (atom_at t a.number a.set j)) = e ∙ ap₂ intersect (sym own) is in
    record {
      variables = same;
      after = rw (changed-at b.sets i (few b.variables) small v within)
          (in_part {board = sets_of b} i {s = v} low (rw new (intersect-below old _)) (rw new (cut-member t a.number a.set (sets_of b) (variable t.variables i) j 0 (many a.count) old
          (omega arith) (omega arith))) (rw new (intersect-first old _)) no_turn);
    }

-- nothing is done
pub reached-itself : (t : Table) (a : Atoms) (b : Board) → b.variables ≡ t.variables → Reached t a b b
reached-itself t a b same = record { variables = same; after = no_turn }
