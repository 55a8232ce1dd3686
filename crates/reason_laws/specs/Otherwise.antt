-- No atom of the merged list carries the full set: a record that tells it is that of a true constant, or of an atom that is full after merging.
use Rattle.std.specs.Prelude.{◌≡◌, Bool, true, false, ℕ, ◌<◌, eqb, length, get_or, replicate}
use Rattle.std.proofs.Math.Path.{refl, subst}
use Rattle.std.proofs.Common.{sym, ap, ◌∙◌, arith, eqb-true, eq-eqb}
use mathlib.Core.List.{List, [], ◌∷◌}
use Rattle.std.proofs.Math.Option.{Option, none, some}
use Rattle.std.proofs.lemmas.List.{length-replicate}
use Rattle.std.proofs.Math.Seq.{get_or-set_same}
use Rattle.rules.specs.Signs.{Sign, negative, nought, positive, SignSet, full, has, intersect, set_of, bit}
use Rattle.rules.specs.Polynomial.{Atom, Board, which}
use Rattle.rules.specs.Rounds.{State, Outcome, settled, unless_variable, non_variable, placed, placed_all, start, run, carried_one, carried}
use Rattle.rules.specs.Level.{Placed, plain, plains, carry}
use Rattle.sign_laws.specs.Booleans.{never_true, never_both}
use Rattle.sign_laws.specs.Lists.{Every, every_none, every}
use Rattle.sign_laws.specs.Sets.{set_of-has, in-full, PartOf, part-trans, intersect-second}
use Rattle.ending_laws.specs.Rounds.{placed-length}
use Rattle.level_laws.specs.Same.{which-below}
use Rattle.level_laws.specs.Narrower.{BoardWithin, placed_all-within, AtomsWithin, no_atoms, one-more, Narrower, Narrows, run-narrows}
use Rattle.level_laws.specs.Carried.{carried-plain}
use Rattle.removal_laws.specs.Rounds.{LowAtoms}
use Rattle.rules.specs.Reasons.{unless_full, not_full, joined, merged_list, carried_clauses}
use Rattle.reason_laws.specs.Merged.{merged-low}

-- What a full set lies inside of is full.
around-full : (s t : SignSet) → t < 8 → PartOf s t → s ≡ full → t ≡ full
unfolding set_of bit
around-full s t h p e = sym (set_of-has t h) ∙ rw (there negative, there nought, there positive)
  where
    there : (x : Sign) → has x t ≡ true
    there x = (p.each x (rw e (in-full x))).is

-- The carried sets lie inside those of the list.
module _ (n : ℕ) where
  placed-set : (a : Atom) (i : ℕ) (board : Board) → length board ≡ n → which n a.polynomial ≡ some i
      → PartOf (get_or (placed (which n a.polynomial) a.set board) i full) a.set
  unfolding placed
  placed-set a i board long w =
      rw (w, get_or-set_same board i (intersect (get_or board i full) a.set) full (omega (arith, long, which-below n a.polynomial i w)))
      (intersect-second (get_or board i full) a.set)

  carried-within : (l cut : List Atom) (board bare : Board) → length bare ≡ n → BoardWithin board (placed_all n l bare) → AtomsWithin cut (non_variable n l)
      → AtomsWithin (carried n board l cut) l
  unfolding carried carried_one non_variable unless_variable placed_all
  carried-within [] cut board bare long b c = no_atoms
  carried-within (a ∷ l) cut board bare long b c =
      by-which (which n a.polynomial) refl cut c
      (λ rest. carried-within l rest board (placed (which n a.polynomial) a.set bare) (placed-length (which n a.polynomial) a.set bare ∙ long) b)
    where
      by-which : (o : Option ℕ) → which n a.polynomial ≡ o → (cut : List Atom) → AtomsWithin cut (unless_variable o a (non_variable n l))
          → ((rest : List Atom) → AtomsWithin rest (non_variable n l) → AtomsWithin (carried n board l rest) l)
          → AtomsWithin (carried_one o board a cut (λ (rest : List Atom). carried n board l rest)) (a ∷ l)
      by-which (some i) w cut c more =
          let then-placed : Board = placed (which n a.polynomial) a.set bare in
          one-more refl (part-trans (b.at i) (part-trans ((placed_all-within n l then-placed).at i) (placed-set a i bare long w))) (more cut c)
      by-which none w cut (one-more {l = rest} p f t) more = one-more p f (more rest t)

  run-within : (l : List Atom) {st : State} → run n l ≡ settled st → AtomsWithin (carried n st.board l st.atoms) l
  unfolding start
  run-within l {st} e =
      let narrower : Narrower st (start n l) = subst (λ (outcome : Outcome). Narrows outcome (start n l)) e (run-narrows n l) in
      carried-within l st.atoms st.board (replicate n full) (length-replicate n full) narrower.boards narrower.lists

-- The atom has another set than the full one.
pub record Otherwise (a : Atom) : Type 0 where
  pub not_full : eqb a.set full ≡ false

within-otherwise : {l m : List Atom} → AtomsWithin l m → LowAtoms m → Every Otherwise m → Every Otherwise l
within-otherwise no_atoms every_none every_none = every_none
within-otherwise (one-more {a} {b} p f w) (every low lows) (every h hs) =
    every (record {
      not_full = never_true (eqb a.set full)
          (λ e. never_both (eq-eqb b.set full (around-full a.set b.set low f (eqb-true a.set full e))) h.not_full);
    })
    (within-otherwise w lows hs)

not_full-otherwise : (l : List Placed) → Every Otherwise (plains (not_full l))
unfolding not_full unless_full
not_full-otherwise [] = every_none
not_full-otherwise (c ∷ l) = by-test (eqb c.set full) refl (not_full-otherwise l)
  where
    by-test : (b : Bool) → eqb c.set full ≡ b → Every Otherwise (plains (not_full l)) → Every Otherwise (plains (unless_full b c (not_full l)))
    by-test true e rest = rest
    by-test false e rest = every (record { not_full = e }) rest

-- So what is removed by step 5 tells another set than the full one.
pub carried-otherwise : (n : ℕ) (l : List Atom) → LowAtoms l → {st : State} → run n (plains (merged_list l)) ≡ settled st
    → Every Otherwise (plains (carried_clauses n st (merged_list l)))
unfolding merged_list carried_clauses
carried-otherwise n l low {st} e =
    subst (Every Otherwise) (sym (carried-plain n (merged_list l) st e))
    (within-otherwise (run-within n (plains (merged_list l)) e) (merged-low l low) (not_full-otherwise (joined l)))
