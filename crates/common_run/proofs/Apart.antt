-- Atoms whose slots pass a test are not of a slot that does not: so an atom of such a slot can go, and they are still there.
use mathlib.Core.Path.{◌≡◌, refl, sym, ◌∙◌, ap, subst}
use mathlib.Core.Bool.{Bool, true, false, false≢true}
use mathlib.Core.List.{List, [], ◌∷◌, ◌++◌}
use mathlib.Core.Option.{Option, none, some}
use Prim.Native.Nat.{ℕ, zero, suc, ◌<◌}
use native.Mathlib.Omega.{arith}
use lib.Dec.{eqb, eqb→eq, eqb_refl, T}
use lib.ListN.{length}
use Rattle.rules.specs.Signs.{SignSet}
use Rattle.rules.specs.Polynomial.{Polynomial, Atom, which, same}
use Rattle.rules.specs.Rounds.{unless_variable, non_variable}
use Rattle.sign_laws.specs.Lists.{Every, every_none, every}
use Rattle.turn_laws.specs.Some.{Some, none_there, not_there, there}
use Rattle.table.specs.Table.{Table, Forms, form_at, atom_at, atoms_from}
use Rattle.round.specs.Signing.{atom_slot}
use Rattle.common_run.specs.Marks.{when_true, those_from}

-- those that pass a test are some of the atoms
pub those-some : (test : ℕ → Bool) (t : Table) (numbers : List ℕ) (sets : List SignSet) (i k : ℕ)
    → Some (atoms_from t numbers sets i k) (those_from test t numbers sets i k)
unfolding atoms_from those_from when_true
those-some test t numbers sets i zero = none_there
those-some test t numbers sets i (suc k) = either (test (atom_slot numbers i)) (those-some test t numbers sets (suc i) k)
  where
    either : (b : Bool) {l m : List Atom} → Some l m → Some (atom_at t numbers sets i ∷ l) (when_true b (atom_at t numbers sets i) m)
    either true f = there f
    either false f = not_there f

-- the atoms of two lists that are no variables'
both-lists : (n : ℕ) (l r : List Atom) → non_variable n (l ++ r) ≡ non_variable n l ++ non_variable n r
unfolding non_variable unless_variable
both-lists n [] r = refl
both-lists n (x ∷ l) r = by-which (which n x.polynomial) (non_variable n (l ++ r)) (non_variable n l) (both-lists n l r)
  where
    by-which : (o : Option ℕ) (p q : List Atom) → p ≡ q ++ non_variable n r → unless_variable o x p ≡ unless_variable o x q ++ non_variable n r
    by-which none p q h = ap (λ (w : List Atom). x ∷ w) h
    by-which (some j) p q h = h

first-listed : (n : ℕ) (a : Atom) (l : List Atom) → which n a.polynomial ≡ none → non_variable n (a ∷ l) ≡ a ∷ non_variable n l
unfolding non_variable unless_variable
first-listed n a l e = rw e

-- an atom of another polynomial
pub record Apart (p : Polynomial) (a : Atom) : Type 0 where
  pub differs : a.polynomial ≡ p → ⊥

same-slot : {t : Table} → Forms t → (j k : ℕ) → j < 64 → k < 64 → form_at t j ≡ form_at t k → j ≡ k
same-slot {t} forms j k low lower e =
    let itself : same (form_at t k) (form_at t k) ≡ eqb k k = forms.distinct k k lower lower in
    let both : same (form_at t k) (form_at t k) ≡ eqb j k = rw e at (forms.distinct j k low lower) in
    eqb→eq j k (subst T (sym itself ∙ both) (eqb_refl k))

module _ {t : Table} (forms : Forms t) (test : ℕ → Bool) (k : ℕ) (low : k < 64) (fails : test k ≡ false) where
  those-apart : (numbers : List ℕ) (sets : List SignSet) (i m : ℕ) → Every (Apart (form_at t k)) (those_from test t numbers sets i m)
  unfolding those_from when_true
  those-apart numbers sets i zero = every_none
  those-apart numbers sets i (suc m) = either (test (atom_slot numbers i)) refl (those-apart numbers sets (suc i) m)
    where
      either : (b : Bool) → test (atom_slot numbers i) ≡ b → {l : List Atom} → Every (Apart (form_at t k)) l
          → Every (Apart (form_at t k)) (when_true b (atom_at t numbers sets i) l)
      either true e f = every
          (record { differs = λ q. false≢true (sym fails ∙ ap test (sym (same-slot forms (atom_slot numbers i) k (omega arith) low q)) ∙ e) }) f
      either false e f = f

  goes : (a : Atom) → a.polynomial ≡ form_at t k → (xs ys : List Atom) {these : List Atom} → Every (Apart (form_at t k)) these
      → Some (xs ++ (a ∷ ys)) these → Some (xs ++ ys) these
  goes a e [] ys d (not_there f) = f
  goes a e [] ys (every d ds) (there f) = absurd (d.differs e)
  goes a e (x ∷ xs) ys d (not_there f) = not_there (goes a e xs ys d f)
  goes a e (x ∷ xs) ys (every d ds) (there f) = there (goes a e xs ys ds f)

  -- without it, an atom that is no variable's
  pub those-without : (kept : List Atom) (a : Atom) (later : List Atom) → a.polynomial ≡ form_at t k → which t.variables a.polynomial ≡ none
      → (numbers : List ℕ) (sets : List SignSet) (i m : ℕ)
      → Some (non_variable t.variables (kept ++ (a ∷ later))) (those_from test t numbers sets i m)
      → Some (non_variable t.variables (kept ++ later)) (those_from test t numbers sets i m)
  those-without kept a later e no-variable numbers sets i m f =
      let n = t.variables in
      subst (λ (l : List Atom). Some l (those_from test t numbers sets i m)) (sym (both-lists n kept later))
      (goes a e (non_variable n kept) (non_variable n later) (those-apart numbers sets i m)
      (subst (λ (l : List Atom). Some l (those_from test t numbers sets i m))
      (both-lists n kept (a ∷ later) ∙ ap (λ (l : List Atom). non_variable n kept ++ l) (first-listed n a later no-variable)) f))

pub length-atoms : (t : Table) (numbers : List ℕ) (sets : List SignSet) (i k : ℕ) → length (atoms_from t numbers sets i k) ≡ k
unfolding atoms_from
length-atoms t numbers sets i zero = refl
length-atoms t numbers sets i (suc k) = ap suc (length-atoms t numbers sets (suc i) k)
