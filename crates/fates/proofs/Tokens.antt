-- Tokens with no set empty, of which all but the first of a slot have the empty set: different slots, so different polynomials.
use mathlib.Core.Path.{◌≡◌, refl, sym, ◌∙◌}
use mathlib.Core.Bool.{false}
use mathlib.Core.List.{List, [], ◌∷◌}
use Prim.Native.Nat.{ℕ, ◌%◌, ◌<◌}
use native.Mathlib.Omega.{arith}
use borrow.Author.Tests.{ne_eqb}
use Rattle.rules.specs.Deduce.{any_empty}
use Rattle.rules.specs.Rounds.{sets_of}
use Rattle.rules.specs.Level.{plains}
use Rattle.sign_laws.specs.Lists.{Every, every_none, every}
use Rattle.removal_laws.specs.Apart.{Other, Apart, none_apart, apart}
use Rattle.removal_laws.specs.Rounds.{LowAtoms}
use Rattle.table.specs.Table.{Table, Forms}
use Rattle.tape.specs.Token.{slot, atom_of, atoms_in}
use Rattle.reason_laws.specs.Sooner.{Unempty}
use Rattle.merging.specs.Merged.{EmptyAt, Sparse}
use Rattle.merging.specs.Slots.{Filled}

others : {t : Table} → Forms t → (x : ℕ) (l : List ℕ) → EmptyAt (slot x) l → Filled l → Every (Other (atom_of t x).polynomial) (plains (atoms_in t l))
unfolding EmptyAt Filled atom_of
others forms x [] e f = every_none
others forms x (y ∷ l) e f =
    every (record { differs = forms.distinct (slot x) (slot y) (omega arith) (omega arith) ∙ ne_eqb _ _ (λ z. f.0 (e.0 (sym z))) }) (others forms x l e.1 f.1)

pub apart-tokens : {t : Table} → Forms t → (l : List ℕ) → Sparse l → Filled l → Apart (plains (atoms_in t l))
unfolding Sparse Filled
apart-tokens forms [] s f = none_apart
apart-tokens forms (x ∷ l) s f = apart (others forms x l s.0 f.1) (apart-tokens forms l s.1 f.1)

pub low-tokens : (t : Table) (l : List ℕ) → LowAtoms (plains (atoms_in t l))
unfolding atom_of
low-tokens t [] = every_none
low-tokens t (x ∷ l) = every (low x) (low-tokens t l)
  where
    low : (x : ℕ) → x % 8 < 8
    low x = omega arith

none-empty : (t : Table) (l : List ℕ) → Filled l → any_empty (sets_of (plains (atoms_in t l))) ≡ false
unfolding Filled any_empty sets_of atom_of
none-empty t [] f = refl
none-empty t (x ∷ l) f = rw (ne_eqb (x % 8) 0 f.0, none-empty t l f.1)

pub unempty-tokens : (t : Table) (l : List ℕ) → Filled l → Unempty (atoms_in t l)
unempty-tokens t l f = record { none = none-empty t l f }
