-- Rounds that start afresh, from some of the atoms with the sets that they carry, start wider than the state that the sets were carried from.
-- 01, "A level", step 3: "Atoms now carry the cut sets".
use Rattle.std.specs.Prelude.{◌≡◌, ℕ, get_or, replicate}
use Rattle.std.proofs.Math.Path.{refl}
use Rattle.std.proofs.Common.{sym, ap, ◌∙◌, subst}
use mathlib.Core.List.{List, [], ◌∷◌}
use Rattle.std.proofs.Math.Option.{Option, none, some, some-injective, none-ne-some}
use Rattle.rules.specs.Signs.{full}
use Rattle.rules.specs.Polynomial.{Atom, Board, which}
use Rattle.rules.specs.Rounds.{State, Outcome, settled, unless_variable, non_variable, placed, placed_all, start, run, carried_one, carried}
use Rattle.sign_laws.specs.Lists.{Every, every_none, every}
use Rattle.sign_laws.specs.Sets.{PartOf, part-refl, part-trans, in-intersect}
use Rattle.level_laws.specs.Narrower.{AtomsWithin, no_atoms as none_within, one-more, Narrows, run-narrows}
use Rattle.removal_laws.specs.Wider.{Wider}
use Rattle.removal_laws.specs.Fewer.{full-wider, get_d_wider, set-wide, Fewer, no_atoms, left_out, kept}
use Rattle.removal_laws.specs.Rounds.{WiderState}
use Rattle.removal_laws.specs.Settled.{Settled}

module _ (n : ℕ) (board : Board) where
  -- ---- The atoms with the sets that they carry.

  -- A list, its cut atoms, and the list with the sets that its atoms carry: a variable's from the board, the others theirs.
  pub data Carries : List Atom → List Atom → List Atom → Type 0 where
    none-carried : Carries [] [] []
    from-board : {a : Atom} {i : ℕ} {l cut m : List Atom} → which n a.polynomial ≡ some i → Carries l cut m
        → Carries (a ∷ l) cut (record { polynomial = a.polynomial; set = get_or board i full } ∷ m)
    from_cut : {a c : Atom} {l cut m : List Atom} → c.polynomial ≡ a.polynomial → which n c.polynomial ≡ none → Carries l cut m
        → Carries (a ∷ l) (c ∷ cut) (c ∷ m)

  -- So `carried` goes.
  pub carries : (l cut : List Atom) → AtomsWithin cut (non_variable n l) → Carries l cut (carried n board l cut)
  unfolding carried carried_one non_variable unless_variable
  carries [] cut none_within = none-carried
  carries (a ∷ l) cut within = by-which (which n a.polynomial) refl cut within (λ rest. carries l rest)
    where
      by-which : (o : Option ℕ) → which n a.polynomial ≡ o → (cut : List Atom) → AtomsWithin cut (unless_variable o a (non_variable n l))
          → ((rest : List Atom) → AtomsWithin rest (non_variable n l) → Carries l rest (carried n board l rest))
          → Carries (a ∷ l) cut (carried_one o board a cut (λ (rest : List Atom). carried n board l rest))
      by-which (some i) w cut within more = from-board w (more cut within)
      by-which none w cut (one-more {l = rest} p f t) more = from_cut p (ap (which n) p ∙ w) (more rest t)

  -- Those that are no variable's are the cut atoms.
  pub carries-cut : {l cut m : List Atom} → Carries l cut m → non_variable n m ≡ cut
  unfolding non_variable unless_variable
  carries-cut none-carried = refl
  carries-cut (from-board w c) = rw w (carries-cut c)
  carries-cut (from_cut {c = a} p w c) = rw w (ap (λ (l : List Atom). a ∷ l) (carries-cut c))

  -- A variable's atom has a set that is no narrower than the board's.
  record OnBoard (a : Atom) : Type 0 where
    part : (i : ℕ) → which n a.polynomial ≡ some i → PartOf (get_or board i full) a.set

  carries-board : {l cut m : List Atom} → Carries l cut m → Every OnBoard m
  carries-board none-carried = every_none
  carries-board (from-board {i = j} w c) =
      let own = get_or board j full in
      every (record { part = λ i e. subst (λ k. PartOf (get_or board k full) own) (some-injective j i (sym w ∙ e)) (part-refl own) }) (carries-board c)
  carries-board (from_cut p w c) = every (record { part = λ i e. absurd (none-ne-some i (sym w ∙ e)) }) (carries-board c)

  -- ---- Some of them.

  fewer-on-board : {l m : List Atom} → Fewer l m → Every OnBoard l → Every OnBoard m
  fewer-on-board no_atoms every_none = every_none
  fewer-on-board (left_out f) (every h hs) = fewer-on-board f hs
  fewer-on-board (kept v f) (every h hs) =
      every (record { part = λ i e. part-trans (h.part i (ap (which n) v.polynomial ∙ e)) v.set }) (fewer-on-board f hs)

  placed-wider : (a : Atom) → OnBoard a → (wide : Board) → Wider board wide → Wider board (placed (which n a.polynomial) a.set wide)
  unfolding placed
  placed-wider a h wide w = by-which (which n a.polynomial) refl
    where
      by-which : (o : Option ℕ) → which n a.polynomial ≡ o → Wider board (placed o a.set wide)
      by-which none e = w
      by-which (some i) e = set-wide w i (record { each = λ x k. in-intersect ((get_d_wider w i).each x k) ((h.part i e).each x k) })

  placed_all-wider : {m : List Atom} → Every OnBoard m → (wide : Board) → Wider board wide → Wider board (placed_all n m wide)
  unfolding placed_all
  placed_all-wider every_none wide w = w
  placed_all-wider (every {a} h hs) wide w = placed_all-wider hs _ (placed-wider a h wide w)

-- Of fewer atoms, those that are no variable's are fewer.
non_variable-fewer : (n : ℕ) {l m : List Atom} → Fewer l m → Fewer (non_variable n l) (non_variable n m)
unfolding non_variable unless_variable
non_variable-fewer n no_atoms = no_atoms
non_variable-fewer n (left_out {a} {fewer = m} f) = by-which (which n a.polynomial) (non_variable-fewer n f)
  where
    by-which : (o : Option ℕ) {l : List Atom} → Fewer l (non_variable n m) → Fewer (unless_variable o a l) (non_variable n m)
    by-which none g = left_out g
    by-which (some i) g = g
non_variable-fewer n (kept {a} {b} v f) = rw (← ap (which n) v.polynomial) (by-which (which n a.polynomial) (non_variable-fewer n f))
  where
    by-which : (o : Option ℕ) {l m : List Atom} → Fewer l m → Fewer (unless_variable o a l) (unless_variable o b m)
    by-which none g = kept v g
    by-which (some i) g = g

-- The cut atoms that a run leaves are those that are no variable's, in order.
pub run-carries : (n : ℕ) (l : List Atom) {st : State} → run n l ≡ settled st → Carries n st.board l st.atoms (carried n st.board l st.atoms)
unfolding start
run-carries n l {st} e = carries n st.board l st.atoms (subst (λ (outcome : Outcome). Narrows outcome (start n l)) e (run-narrows n l)).lists

-- Rounds over some of the atoms that carry the sets of a settled state start wider than that state.
pub start-wider : {n : ℕ} {l others : List Atom} {st : State} → Settled n st → Carries n st.board l st.atoms (carried n st.board l st.atoms)
    → Fewer (carried n st.board l st.atoms) others → WiderState st (start n others)
unfolding start
start-wider {n} {st} s c f =
    let board = st.board in
    record {
      boards = placed_all-wider n board (fewer-on-board n board f (carries-board n board c)) (replicate n full) (rw s.many at (full-wider board));
      lists = rw (carries-cut n board c) at (non_variable-fewer n f);
    }
