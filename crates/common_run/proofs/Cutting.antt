-- A variable's set cut by one atom after the other, with marks: what is left of the atoms, and what is left of those that are marked, goes on from
-- the set so far. An atom that does not narrow it may be marked or not.
use mathlib.Core.Path.{◌≡◌, sym, ◌∙◌, ap}
use mathlib.Core.Bool.{Bool, true, false, false≢true}
use mathlib.Core.Logic.{dite}
use mathlib.Core.List.{List, [], ◌∷◌}
use Prim.Native.Nat.{ℕ, suc, ◌+◌, ◌-◌, ◌<◌, ◌≤◌}
use native.Mathlib.Nat.{sub-zero}
use native.Mathlib.Numerals.{add-one}
use native.Mathlib.Decide.{ℕ_discrete}
use native.Mathlib.Omega.{arith}
use lib.ListN.{get_or}
use Rattle.rules.specs.Signs.{SignSet, intersect}
use Rattle.rules.specs.Polynomial.{Polynomial, Atom, Board}
use Rattle.rules.specs.Deduce.{deduce}
use Rattle.rules.specs.Rounds.{cut_by}
use Rattle.sign_laws.specs.Sets.{PartOf, part-refl, part-trans, parts-equal, intersect-first, intersect-below, in-intersect, in_left, in_right}
use Rattle.table.specs.declared.Atoms.{Atoms}
use Rattle.table.specs.Table.{Table, atom_at, atoms_from}
use Rattle.round.specs.Signing.{atom_slot}
use Rattle.round.specs.Walks.{atoms-cons, atoms-nil}
use Rattle.common_run.specs.Marks.{marked_by, marked_slot, when_true, those_from, Grows, MarkedAt}
use Rattle.common_run.proofs.Marking.{grows-itself, grows-on}

module _ (test : ℕ → Bool) (t : Table) (numbers : List ℕ) (sets : List SignSet) (i n : ℕ) where
  those-cons : i < n → those_from test t numbers sets i (n - i)
      ≡ when_true (test (atom_slot numbers i)) (atom_at t numbers sets i) (those_from test t numbers sets (i + 1) (n - (i + 1)))
  unfolding those_from
  those-cons h = let e : n - i ≡ suc (n - (i + 1)) = omega arith in rw (e, add-one i)

  those-nil : n ≤ i → those_from test t numbers sets i (n - i) ≡ []
  unfolding those_from
  those-nil h = let e : n - i ≡ 0 = omega arith in rw e

-- one atom
pub one-cut : (t : Table) (numbers : List ℕ) (sets : List SignSet) (board : Board) (p : Polynomial) (j : ℕ) (s : SignSet)
    → cut_by board p (atoms_from t numbers sets j ((j + 1) - j)) s ≡ intersect s (deduce board p (atom_at t numbers sets j))
unfolding cut_by atoms_from
one-cut t numbers sets board p j s = let e : (j + 1) - j ≡ 1 = omega arith in rw e

-- a finding by itself cuts a part of the set as it does with the rest of the set
narrower : {sofar old : SignSet} (found : SignSet) → PartOf sofar old → intersect sofar (intersect old found) ≡ intersect sofar found
narrower {sofar} {old} found part = parts-equal (intersect-below sofar (intersect old found)) (intersect-below sofar found)
    (record { each = λ x h. in-intersect (in_left sofar (intersect old found) h) (in_right old found (in_right sofar (intersect old found) h)) })
    (record { each = λ x h. in-intersect (in_left sofar found h) (in-intersect (part.each x (in_left sofar found h)) (in_right sofar found h)) })

module _ (board : Board) (p : Polynomial) (a : Atom) (rest : List Atom) (sofar : SignSet) {cut : SignSet}
    (is : cut ≡ intersect sofar (deduce board p a)) where
  taken : cut_by board p (a ∷ rest) sofar ≡ cut_by board p rest cut
  unfolding cut_by
  taken = rw is

  either_way : (b : Bool) → ((sofar ≡ cut → ⊥) → b ≡ true) → cut_by board p (when_true b a rest) sofar ≡ cut_by board p rest cut
  unfolding when_true
  either_way true h = taken
  either_way false h =
      dite (ℕ_discrete sofar cut) (λ (e : sofar ≡ cut). ap (cut_by board p rest) e) (λ (e : sofar ≡ cut → ⊥). absurd (false≢true (h e)))

-- The set so far after the first j of n atoms.
pub record Cutting (t : Table) (a : Atoms) (board : Board) (p : Polynomial) (old : SignSet) (round : ℕ) (marks : List ℕ) (n j : ℕ) (sofar : SignSet)
    (more : List ℕ) : Type 0 where
  pub part : PartOf sofar old
  pub all : cut_by board p (atoms_from t a.number a.set j (n - j)) sofar ≡ cut_by board p (atoms_from t a.number a.set 0 n) old
  pub grows : Grows marks more
  pub rests : (later : List ℕ) → Grows more later
      → cut_by board p (those_from (marked_slot later round) t a.number a.set 0 n) old
      ≡ cut_by board p (those_from (marked_slot later round) t a.number a.set j (n - j)) sofar

pub cutting-first : (t : Table) (a : Atoms) (board : Board) (p : Polynomial) (old : SignSet) (round : ℕ) (marks : List ℕ) (n : ℕ)
    → Cutting t a board p old round marks n 0 old marks
cutting-first t a board p old round marks n =
    record { part = part-refl old; all = rw sub-zero; grows = grows-itself marks; rests = λ later g. rw sub-zero }

pub cutting-next : {t : Table} {a : Atoms} {board : Board} {p : Polynomial} {old : SignSet} {round : ℕ} {marks : List ℕ} {n j : ℕ}
    {sofar cut left : SignSet} {more next : List ℕ}
    → Cutting t a board p old round marks n j sofar more → j < n → cut ≡ cut_by board p (atoms_from t a.number a.set j ((j + 1) - j)) old
    → left ≡ intersect sofar cut → MarkedAt more sofar left (atom_slot a.number j) round next
    → Cutting t a board p old round marks n (j + 1) left next
cutting-next {t} {a} {board} {p} {old} {round} {n = n} {j = j} {sofar = sofar} {cut = cut} c h e f m =
    let atom : Atom = atom_at t a.number a.set j in
    let is = f ∙ ap (intersect sofar) (e ∙ one-cut t a.number a.set board p j old) ∙ narrower (deduce board p atom) c.part in
    record {
      part = rw f (part-trans (intersect-first sofar cut) c.part);
      all = sym (taken board p atom (atoms_from t a.number a.set (j + 1) (n - (j + 1))) sofar is)
          ∙ (rw (atoms-cons t a.number a.set j n h) at c.all);
      grows = grows-on c.grows m.grows;
      rests = λ later g. c.rests later (grows-on m.grows g)
          ∙ ap (λ (l : List Atom). cut_by board p l sofar) (those-cons (marked_slot later round) t a.number a.set j n h)
          ∙ either_way board p atom (those_from (marked_slot later round) t a.number a.set (j + 1) (n - (j + 1))) sofar is
          (marked_by (get_or later (atom_slot a.number j) 0) round) (λ d. g.keeps (atom_slot a.number j) round (m.here d));
    }

-- after the last one: all atoms, and those that are marked
module _ {t : Table} {a : Atoms} {board : Board} {p : Polynomial} {old : SignSet} {round : ℕ} {marks : List ℕ} {n j : ℕ} {sofar : SignSet}
    {more : List ℕ} (c : Cutting t a board p old round marks n j sofar more) (h : n ≤ j) where
  pub cutting-all : sofar ≡ cut_by board p (atoms_from t a.number a.set 0 n) old
  unfolding cut_by
  cutting-all = rw (atoms-nil t a.number a.set j n h) at c.all

  pub cutting-marked : (later : List ℕ) → Grows more later → cut_by board p (those_from (marked_slot later round) t a.number a.set 0 n) old ≡ sofar
  unfolding cut_by
  cutting-marked later g = rw (those-nil (marked_slot later round) t a.number a.set j n h) at (c.rests later g)
