-- The walks over the pairs: what the tries that are left leave of the set at hand is what all tries leave of the first set.
-- One step more goes on with what it left, or ends there.
use mathlib.Core.Path.{◌≡◌, sym, ap, ◌∙◌}
use mathlib.Core.Bool.{Bool, true, false}
use mathlib.Core.List.{List, [], ◌++◌}
use Prim.Native.Nat.{ℕ, ◌+◌, ◌*◌, ◌<◌, ◌≤◌}
use lib.IntN.{ℤ}
use lib.ListN.{get_or}
use Rattle.rules.specs.Signs.{SignSet}
use Rattle.rules.specs.Polynomial.{Polynomial, Atom, Board}
use Rattle.rules.specs.TwoAtoms.{try, factors, with_each, tries_with, tries}
use Rattle.terms.specs.View.{terms_of}
use Rattle.terms.specs.Signed.{Held}
use Rattle.table.specs.declared.Atoms.{Atoms}
use Rattle.table.specs.Table.{Table, form_at, atom_at, many}
use Rattle.two_atoms.specs.Cuts.{cut_in, stops, goes_on, stopped, no_cut}
use Rattle.two_atoms.specs.Sums.{Places}
use Rattle.round.specs.Views.{rest}
use Rattle.round.specs.Signing.{SignedSlot, Ready}
use Rattle.round.specs.SignedSlots.{run-form}
use Rattle.round.specs.Walks.{rest-cons, rest-nil}
use Rattle.search.specs.Filled.{Filled}

-- a filled board, and its signs in the slots of the atoms and in slot p
pub record Stands (t : Table) (board : Board) (a : Atoms) (ss : List SignSet) (p : ℕ) : Type 0 where
  pub ready : Ready t board a ss
  pub own : SignedSlot t board ss p
  pub filled : Filled board

-- the places of a run that has the board's signs
pub held-places : {board : Board} {cs : List ℤ} {ms : List ℕ} {ss : List SignSet} {from to : ℕ} → Held board cs ms ss from to
    → Places cs ms ss from to
held-places h = record { ordered = h.ordered; coefficients = h.coefficients; monomials = h.monomials; signs = h.signs }

-- ---- one list of findings after the other

module _ (all : Bool) (s : SignSet) {r left : SignSet} (a b : List SignSet) {l : List SignSet} (so_far : cut_in all s l ≡ left) (parts : l ≡ a ++ b)
    (cut : r ≡ cut_in all s a) where
  pub walk-on : stops all r s ≡ false → cut_in all r b ≡ left
  walk-on e =
      ap (λ (x : SignSet). cut_in all x b) cut
      ∙ sym (goes_on all s a b (ap (λ (x : SignSet). stops all x s) (sym cut) ∙ e))
      ∙ ap (cut_in all s) (sym parts) ∙ so_far

  pub walk-stop : stops all r s ≡ true → r ≡ left
  walk-stop e = cut ∙ sym (stopped all s a b (ap (λ (x : SignSet). stops all x s) (sym cut) ∙ e)) ∙ ap (cut_in all s) (sym parts) ∙ so_far

pub walk_end : (all : Bool) {s left : SignSet} {l : List SignSet} → cut_in all s l ≡ left → l ≡ [] → s ≡ left
walk_end all {s} so_far e = no_cut all s ∙ ap (cut_in all s) (sym e) ∙ so_far

-- ---- the tries of one pair, of one atom with those after it, of all

abbrev pub pair_tries : Board → Polynomial → Atom → Atom → List SignSet
pair_tries board p q1 q2 = with_each (λ (u : ℤ). with_each (try board p q1 q2 u) factors) factors

-- of runs that are the places of three slots
pub pair-at : (t : Table) (board : Board) (k k1 k2 : ℕ) (set1 set2 : SignSet) {from to from1 to1 from2 to2 : ℕ}
    → from ≡ 16 * k → to ≡ 16 * k + get_or t.terms k 0
    → from1 ≡ 16 * k1 → to1 ≡ 16 * k1 + get_or t.terms k1 0
    → from2 ≡ 16 * k2 → to2 ≡ 16 * k2 + get_or t.terms k2 0
    → pair_tries board (terms_of t.coefficient t.monomial from to)
    (record { polynomial = terms_of t.coefficient t.monomial from1 to1; set = set1 })
    (record { polynomial = terms_of t.coefficient t.monomial from2 to2; set = set2 })
    ≡ pair_tries board (form_at t k) (record { polynomial = form_at t k1; set = set1 }) (record { polynomial = form_at t k2; set = set2 })
pair-at t board k k1 k2 set1 set2 f g f1 g1 f2 g2 = rw (run-form t k f g, run-form t k1 f1 g1, run-form t k2 f2 g2)

module _ (t : Table) (a : Atoms) (board : Board) (p : Polynomial) (i : ℕ) where
  pub with-step : (q1 : Atom) → i < many a.count
      → tries_with board p q1 (rest t a i) ≡ pair_tries board p q1 (atom_at t a.number a.set i) ++ tries_with board p q1 (rest t a (i + 1))
  unfolding tries_with
  with-step q1 h = rw (rest-cons t a i h)

  pub with-end : (q1 : Atom) → many a.count ≤ i → tries_with board p q1 (rest t a i) ≡ []
  unfolding tries_with
  with-end q1 h = rw (rest-nil t a i h)

  pub tries-step : i < many a.count
      → tries board p (rest t a i) ≡ tries_with board p (atom_at t a.number a.set i) (rest t a (i + 1)) ++ tries board p (rest t a (i + 1))
  unfolding tries
  tries-step h = rw (rest-cons t a i h)

  pub tries-end : many a.count ≤ i → tries board p (rest t a i) ≡ []
  unfolding tries
  tries-end h = rw (rest-nil t a i h)
