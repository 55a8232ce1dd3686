-- Where pairs of atoms say no more than a settled state holds already: of a variable, and of a polynomial that is listed.
use mathlib.Core.Path.{◌≡◌, refl, sym, ◌∙◌, ap, subst}
use mathlib.Core.Bool.{Bool, true, false, true≢false}
use mathlib.Core.List.{List, [], ◌∷◌, ◌++◌}
use mathlib.Core.Option.{Option, none, some}
use Prim.Native.Nat.{ℕ, zero, suc, ◌<◌}
use native.Mathlib.Omega.{arith}
use lib.ListN.{length, get_or}
use Rattle.rules.specs.Signs.{SignSet, full}
use Rattle.rules.specs.Polynomial.{Polynomial, Atom, by_terms, same, which}
use Rattle.rules.specs.TwoAtoms.{tries, cut_by_all}
use Rattle.rules.specs.Rounds.{State, or_next, listed, held, unless_same, other_than, says_in}
use Rattle.sign_laws.specs.Sets.{PartOf, part-trans, intersect-first}
use Rattle.ending_laws.specs.Cuts.{cut_by-part}
use Rattle.level_laws.specs.Same.{same-equal, which-variable, which-below}
use Rattle.removal_laws.specs.Settled.{Settled}
use Rattle.removal_laws.specs.Listed.{listed-no-pairs, variable-no-pairs}
use Rattle.table.specs.declared.Atoms.{Atoms}
use Rattle.table.specs.Table.{Table, Forms, form_at, atoms_from, atoms_of, many}
use Rattle.round.specs.declared.State.{State as Left}
use Rattle.round.specs.declared.slots.Holds.{Holds}
use Rattle.round.specs.declared.slots.Holds.TheVariants.{Variable, Form}
use Rattle.round.specs.Views.{variable_of}
use Rattle.settled.specs.Others.{OtherThan, PairsMatter, says_before_pairs}
use Rattle.settled.proofs.ByPairs.{says-low}

-- ---- a polynomial that is listed has a first atom

record Stands (p : Polynomial) (l : List Atom) : Type 0 where
  before : List Atom
  atom : Atom
  later : List Atom
  is : l ≡ before ++ (atom ∷ later)
  polynomial : atom.polynomial ≡ p
  set : listed p l ≡ atom.set

-- the others are fewer than all
stands : (p : Polynomial) (l : List Atom) → length (other_than p l) < length l → Stands p l
unfolding other_than unless_same listed or_next
stands p [] h = absurd (omega arith)
stands p (a ∷ l) h = by (same p a.polynomial) refl (stands p l) h
  where
    by : (b : Bool) → same p a.polynomial ≡ b → (length (other_than p l) < length l → Stands p l)
        → length (unless_same b a (other_than p l)) < suc (length l) → Stands p (a ∷ l)
    by true e more h = record { before = []; atom = a; later = l; is = refl; polynomial = sym (same-equal p a.polynomial e); set = rw e }
    by false e more h =
        let r = more (omega arith) in
        record {
          before = a ∷ r.before;
          atom = r.atom;
          later = r.later;
          is = ap (λ (m : List Atom). a ∷ m) r.is;
          polynomial = r.polynomial;
          set = rw e r.set;
        }

-- ---- what a settled state says

module _ {n : ℕ} {st : State} (s : Settled n st) (p : Polynomial) where
  part : PartOf (says_before_pairs n st p) (held (which n p) st p)
  unfolding says_before_pairs
  part = part-trans (cut_by-part st.board p st.atoms _) (intersect-first (held (which n p) st p) (by_terms st.board p))

  -- the pairs leave it as it is
  Idle : Polynomial → Type 0
  Idle q = cut_by_all (says_before_pairs n st p) (tries st.board q (other_than q st.atoms)) ≡ says_before_pairs n st p

  variable-idle : (i : ℕ) → which n p ≡ some i → Idle p
  unfolding held Idle
  variable-idle i e =
      let there : PartOf (says_before_pairs n st p) (get_or st.board i full) = subst (λ (o : Option ℕ). PartOf (says_before_pairs n st p) (held o st p)) e part in
      subst Idle (sym (which-variable n p i e)) (variable-no-pairs s i (which-below n p i e) (says_before_pairs n st p) (says-low n st p) there)

  listed-idle : which n p ≡ none → length (other_than p st.atoms) < length st.atoms → Idle p
  unfolding held Idle
  listed-idle e fewer =
      let at = stands p st.atoms fewer in
      let said = says_before_pairs n st p in
      let there : PartOf said (listed p st.atoms) = subst (λ (o : Option ℕ). PartOf said (held o st p)) e part in
      subst Idle at.polynomial
      (listed-no-pairs s at.before at.atom at.later at.is said (says-low n st p) (subst (PartOf said) at.set there))

  idle-says : Idle p → says_in n st p ≡ says_before_pairs n st p
  unfolding says_in says_before_pairs Idle
  idle-says e = e

-- ---- by what the slot holds, and by how many the others are

atoms-many : (t : Table) (numbers : List ℕ) (sets : List SignSet) (i k : ℕ) → length (atoms_from t numbers sets i k) ≡ k
unfolding atoms_from
atoms-many t numbers sets i zero = refl
atoms-many t numbers sets i (suc k) = ap suc (atoms-many t numbers sets (suc i) k)

module _ {t : Table} (forms : Forms t) (st : Left) (number : ℕ) {holds : Holds} (is : variable_of holds ≡ which t.variables (form_at t number)) where
  pub idle-variable : {i : ℕ} → holds ≡ Variable i → PairsMatter t st number false
  idle-variable {i} e = record { idle = λ f s. idle-says s (form_at t number) (variable-idle s (form_at t number) i (sym is ∙ ap variable_of e)) }

  pub idle-listed : {others : Atoms} → holds ≡ Form → OtherThan st.atoms number others → others.count < many st.atoms.count
      → PairsMatter t st number false
  idle-listed {others} e than h =
      let all : length (atoms_of t st.atoms) ≡ many st.atoms.count =
      atoms-many t st.atoms.number st.atoms.set 0 (many st.atoms.count) in
      let left : length (other_than (form_at t number) (atoms_of t st.atoms)) ≡ many others.count =
      sym (ap length (than.atoms t forms)) ∙ atoms-many t others.number others.set 0 (many others.count) in
      record { idle = λ f s. idle-says s (form_at t number) (listed-idle s (form_at t number) (sym is ∙ ap variable_of e) (omega (arith, all, left))) }

-- nothing is said of pairs that matter
pub may-matter : {t : Table} (st : Left) (number : ℕ) → PairsMatter t st number true
may-matter st number = record { idle = λ e s. absurd (true≢false e) }
