-- The atoms of other slots than one, walked through the list: those passed are stored one behind the other.
-- Atoms of other slots are of other polynomials, as no form stands in two slots.
use mathlib.Core.Path.{◌≡◌, sym, ◌∙◌, ap, subst}
use mathlib.Core.List.{List, ◌∷◌, ◌++◌, append-nil}
use Prim.Native.Nat.{ℕ, ◌+◌, ◌<◌, ◌≤◌}
use native.Mathlib.Nat.{sub-zero}
use native.Mathlib.Numerals.{add-one}
use native.Mathlib.Omega.{arith}
use borrow.Author.Count.{below_more}
use borrow.Author.Tests.{eq-eqb, ne_eqb}
use lib.ListN.{length, get_or, set, length-set}
use lib.Seq.{get_or-set_same, get_or-set_other}
use Rattle.rules.specs.Signs.{SignSet}
use Rattle.rules.specs.Polynomial.{Atom, Board}
use Rattle.rules.specs.Rounds.{unless_same, other_than}
use Rattle.table.specs.declared.Atoms.{Atoms}
use Rattle.table.specs.Table.{Table, Forms, form_at, atom_at, atoms_from, atoms_of, many}
use Rattle.round.specs.Views.{rest}
use Rattle.round.specs.Signing.{atom_slot, SignedSlot, Ready}
use Rattle.round.specs.Walks.{rest-cons, rest-nil, stored-atom}
use Rattle.settled.specs.Others.{SlotOf, OtherThan}

-- of the atoms before i, the first next of others are those of other slots
pub record OthersBefore (list : Atoms) (number i next : ℕ) (others : Atoms) : Type 0 where
  pub few : next ≤ i
  pub numbers : length others.number ≡ 64
  pub sets : length others.set ≡ 64
  pub atoms : (t : Table) → Forms t
      → atoms_from t others.number others.set 0 next ++ other_than (form_at t number) (rest t list i)
      ≡ other_than (form_at t number) (atoms_of t list)
  pub slots : (j : ℕ) → j < next → SlotOf list (atom_slot others.number j)

module _ (list : Atoms) (number : ℕ) where
  pub others-first : length list.number ≡ 64 → length list.set ≡ 64 → OthersBefore list number 0 0 list
  unfolding atoms_from
  others-first h k = record {
    few = omega arith;
    numbers = h;
    sets = k;
    atoms = λ t forms. rw (sub-zero (many list.count));
    slots = λ j l. absurd (omega arith);
  }

module _ {list : Atoms} {number i next : ℕ} {others : Atoms} (low : number < 64) (so_far : OthersBefore list number i next others)
    (more : i < many list.count) where
  -- the atom at i, and those after it
  left_out : number ≡ atom_slot list.number i → (t : Table) → Forms t
      → other_than (form_at t number) (rest t list i) ≡ other_than (form_at t number) (rest t list (i + 1))
  unfolding other_than unless_same
  left_out e t forms = rw (rest-cons t list i more) (simp (forms.distinct number (atom_slot list.number i) low (omega arith), eq-eqb _ _ e))

  taken : (number ≡ atom_slot list.number i → ⊥) → (t : Table) → Forms t
      → other_than (form_at t number) (rest t list i) ≡ atom_at t list.number list.set i ∷ other_than (form_at t number) (rest t list (i + 1))
  unfolding other_than unless_same
  taken e t forms = rw (rest-cons t list i more) (simp (forms.distinct number (atom_slot list.number i) low (omega arith), ne_eqb _ _ e))

  pub others-without : number ≡ atom_slot list.number i → OthersBefore list number (i + 1) next others
  others-without e = record {
    few = omega (arith, so_far.few);
    numbers = so_far.numbers;
    sets = so_far.sets;
    atoms = λ t forms.
        ap (λ (l : List Atom). atoms_from t others.number others.set 0 next ++ l) (sym (left_out e t forms)) ∙ so_far.atoms t forms;
    slots = so_far.slots;
  }

  pub others-with : {count : ℕ} → i < 64 → (number ≡ atom_slot list.number i → ⊥)
      → OthersBefore list number (i + 1) (next + 1)
      (record { count = count; number = set others.number next (get_or list.number i 0); set = set others.set next (get_or list.set i 0) })
  others-with small e =
      let x = get_or list.number i 0 in
      let h : next < length others.number = omega (arith, so_far.few, so_far.numbers) in
      let k : next < length others.set = omega (arith, so_far.few, so_far.sets) in
      record {
        few = omega (arith, so_far.few);
        numbers = length-set {A = ℕ} others.number next _ ∙ so_far.numbers;
        sets = length-set {A = ℕ} others.set next _ ∙ so_far.sets;
        atoms = λ t forms.
            rw (add-one next)
            (stored-atom t others.number others.set next x (get_or list.set i 0) h k (other_than (form_at t number) (rest t list (i + 1)))
            ∙ ap (λ (l : List Atom). atoms_from t others.number others.set 0 next ++ l) (sym (taken e t forms)) ∙ so_far.atoms t forms);
        slots = below_more (λ (j : ℕ). SlotOf list (atom_slot (set others.number next (get_or list.number i 0)) j)) next
            (λ (j : ℕ) (l : j < next). rw (get_or-set_other others.number next j x 0 (λ (q : j ≡ next). omega arith)) (so_far.slots j l))
            (record { place = i; low = more; is = rw (get_or-set_same others.number next (get_or list.number i 0) 0 h) });
      }

module _ {list : Atoms} {number i next : ℕ} {others : Atoms} (so_far : OthersBefore list number i next others) where
  pub others-last : i ≤ 64 → many list.count ≤ i → OtherThan list number (record { count = next; number = others.number; set = others.set })
  unfolding other_than
  others-last small all =
      let e : many next ≡ next = omega (arith, so_far.few) in
      record {
        atoms = λ t forms.
            rw e
            (sym (append-nil (atoms_from t others.number others.set 0 next))
            ∙ ap (λ (l : List Atom). atoms_from t others.number others.set 0 next ++ other_than (form_at t number) l) (sym (rest-nil t list i all))
            ∙ so_far.atoms t forms);
        slots = λ j l. so_far.slots j (omega arith);
      }

-- where the signs of all atoms are worked out, those of the others are
pub others-ready : {list r : Atoms} {number : ℕ} {t : Table} {board : Board} {ss : List SignSet} → OtherThan list number r
    → Ready t board list ss → Ready t board r ss
others-ready {t = t} {board} {ss} others ready = record {
  forms = ready.forms;
  places = ready.places;
  variables = ready.variables;
  atoms = λ j l. let at = others.slots j l in subst (SignedSlot t board ss) (sym at.is) (ready.atoms at.place at.low);
}
