-- A list of atoms: one more stored at its end, and the set of a polynomial that is listed.
-- That goes by the number of the polynomial's slot, as no form stands in two slots.
use mathlib.Core.Path.{◌≡◌}
use mathlib.Core.List.{List}
use mathlib.Core.Option.{none}
use Prim.Native.Nat.{ℕ, suc, ◌+◌, ◌-◌, ◌<◌, ◌≤◌}
use native.Mathlib.Omega.{arith}
use borrow.Author.Tests.{eq-eqb, ne_eqb}
use lib.ListN.{length, get_or, set}
use Rattle.rules.specs.Signs.{SignSet, full}
use Rattle.rules.specs.Rounds.{unless_variable, or_next, listed}
use Rattle.table.specs.declared.Atoms.{Atoms}
use Rattle.table.specs.Table.{Table, Forms, form_at, atoms_from, many}
use Rattle.round.specs.Signing.{atom_slot}
use Rattle.round.specs.Listed.{Listed}
use Rattle.round.specs.Walks.{atoms-cons, atoms-nil, stored-atom}

-- ---- one atom more

pub pushed : (a : Atoms) (number : ℕ) (s : SignSet) → a.count < 64 → a.count < length a.number → a.count < length a.set
    → Listed none number s a (record { count = a.count + 1; number = set a.number a.count number; set = set a.set a.count s })
unfolding unless_variable
pushed a number s low h k = record {
  count = omega arith;
  atoms = λ t l.
      let e : many (a.count + 1) ≡ suc a.count = omega arith in
      let f : many a.count ≡ a.count = omega arith in
      rw (e, f) (stored-atom t a.number a.set a.count number s h k l);
}

-- ---- what is listed, from the atom at i on

module _ {t : Table} (forms : Forms t) (numbers : List ℕ) (sets : List SignSet) (number i n : ℕ) (low : number < 64) where
  pub listed_here : i < n → number ≡ atom_slot numbers i → listed (form_at t number) (atoms_from t numbers sets i (n - i)) ≡ get_or sets i 0
  unfolding listed or_next
  listed_here h e = rw (atoms-cons t numbers sets i n h) (simp (forms.distinct number (atom_slot numbers i) low (omega arith), eq-eqb _ _ e))

  pub listed-later : i < n → (number ≡ atom_slot numbers i → ⊥)
      → listed (form_at t number) (atoms_from t numbers sets i (n - i)) ≡ listed (form_at t number) (atoms_from t numbers sets (i + 1) (n - (i + 1)))
  unfolding listed or_next
  listed-later h e = rw (atoms-cons t numbers sets i n h) (simp (forms.distinct number (atom_slot numbers i) low (omega arith), ne_eqb _ _ e))

  pub listed-nowhere : n ≤ i → listed (form_at t number) (atoms_from t numbers sets i (n - i)) ≡ full
  unfolding listed
  listed-nowhere h = rw (atoms-nil t numbers sets i n h)
