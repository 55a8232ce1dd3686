-- What a settled state says of a polynomial without that polynomial's own atom: fresh rounds over some of the other atoms never say more.
-- 01, "A level", step 5: "what the other remaining atoms (rounds run afresh on them alone) say of it".
use Rattle.std.specs.Prelude.{◌≡◌, refl, Bool, true, false, List, [], ◌∷◌, ℕ, ◌<◌, eqb}
use Rattle.std.proofs.Common.{ap, ◌∙◌, subst, lit<, eqb-true, eq-eqb}
use Rattle.std.proofs.Math.Option.{Option, none, some}
use Rattle.rules.specs.Signs.{SignSet, empty, full, intersect}
use Rattle.rules.specs.Polynomial.{Polynomial, Atom, Board, by_terms, same, which}
use Rattle.rules.specs.Deduce.{any_empty}
use Rattle.rules.specs.TwoAtoms.{tries, cut_by_all}
use Rattle.rules.specs.Rounds.{cut_by, State, round, sets_of, has_empty, Outcome, contradiction, settled, unless_variable, non_variable, start, run}
use Rattle.rules.specs.Rounds.{or_next, listed, held, unless_same, other_than, says_in, says, carried}
use Rattle.sign_laws.specs.Booleans.{or-second, or-keeps, never_both}
use Rattle.sign_laws.specs.Lists.{Every, every_none, every}
use Rattle.sign_laws.specs.Sets.{in-full, in-intersect, intersect-below, PartOf}
use Rattle.ending_laws.specs.Cuts.{cut_by-below}
use Rattle.ending_laws.specs.Rounds.{Run, along-run, run_ends}
use Rattle.level_laws.specs.Narrower.{AtomsWithin, no_atoms as none_within, one-more, Narrows, run-narrows}
use Rattle.removal_laws.specs.Wider.{Wider, no_sets, sets}
use Rattle.removal_laws.specs.Terms.{by_terms-wider, by_terms-small}
use Rattle.removal_laws.specs.Fewer.{part-empty, Fewer, no_atoms, left_out, kept}
use Rattle.removal_laws.specs.Rounds.{LowBoard, LowAtoms, Low, WiderState, cut_by-wider, round-wider}
use Rattle.removal_laws.specs.TwoAtoms.{Filled, tries-wider, cut-wider}
use Rattle.removal_laws.specs.Settled.{Settled}
use Rattle.removal_laws.specs.Searched.{settled-filled, search-wider}
use Rattle.removal_laws.specs.Starts.{Carries, start-wider}
use Rattle.removal_laws.specs.Apart.{Other}

-- ---- The atoms of other polynomials.

-- What the state says of p by p's sign by terms and by the atoms of other polynomials, one at a time and two at once.
unfoldable pub said_by_others : State → Polynomial → SignSet
said_by_others st p =
    let others = other_than p st.atoms in
    cut_by_all (cut_by st.board p others (by_terms st.board p)) (tries st.board p others)

-- It is one of the eight sets.
pub all-below : (s : SignSet) (fs : List SignSet) → s < 8 → cut_by_all s fs < 8
unfolding cut_by_all
all-below s [] h = h
all-below s (f ∷ fs) h = all-below (intersect s f) fs (intersect-below s f)

pub said-below : (st : State) (p : Polynomial) → said_by_others st p < 8
unfolding said_by_others
said-below st p =
    all-below _ (tries st.board p (other_than p st.atoms)) (cut_by-below st.board p (other_than p st.atoms) (by_terms st.board p) (by_terms-small st.board p))

pub other-filled : (p : Polynomial) {l : List Atom} → Every Filled l → Every Filled (other_than p l)
unfolding other_than unless_same
other-filled p every_none = every_none
other-filled p (every {a} {l} h hs) = by-test (same p a.polynomial) (other-filled p hs)
  where
    by-test : (b : Bool) → Every Filled (other_than p l) → Every Filled (unless_same b a (other_than p l))
    by-test true k = k
    by-test false k = every h k

other-low : (p : Polynomial) {l : List Atom} → LowAtoms l → LowAtoms (other_than p l)
unfolding other_than unless_same
other-low p every_none = every_none
other-low p (every {a} {l} h hs) = by-test (same p a.polynomial) (other-low p hs)
  where
    by-test : (b : Bool) → LowAtoms (other_than p l) → LowAtoms (unless_same b a (other_than p l))
    by-test true k = k
    by-test false k = every h k

-- Fewer atoms, none of which is of p, are fewer of the others too.
other-fewer : (p : Polynomial) {l m : List Atom} → Fewer l m → Every (Other p) m → Fewer (other_than p l) m
unfolding other_than unless_same
other-fewer p no_atoms every_none = no_atoms
other-fewer p (left_out {a} {atoms = l} {fewer = m} f) hs = by-test (same p a.polynomial) (other-fewer p f hs)
  where
    by-test : (b : Bool) → Fewer (other_than p l) m → Fewer (unless_same b a (other_than p l)) m
    by-test true g = g
    by-test false g = left_out g
other-fewer p (kept v f) (every h hs) = rw (ap (same p) v.polynomial, h.differs) (kept v (other-fewer p f hs))

non_variable-other : (n : ℕ) (p : Polynomial) {l : List Atom} → Every (Other p) l → Every (Other p) (non_variable n l)
unfolding non_variable unless_variable
non_variable-other n p every_none = every_none
non_variable-other n p (every {a} {l} h hs) = by-which (which n a.polynomial) (non_variable-other n p hs)
  where
    by-which : (o : Option ℕ) → Every (Other p) (non_variable n l) → Every (Other p) (unless_variable o a (non_variable n l))
    by-which none k = every h k
    by-which (some i) k = k

within-other : (p : Polynomial) {k l : List Atom} → AtomsWithin k l → Every (Other p) l → Every (Other p) k
within-other p none_within every_none = every_none
within-other p (one-more q f t) (every h hs) = every (record { differs = ap (same p) q ∙ h.differs }) (within-other p t hs)

-- A list without p is all others.
pub none-same : (p : Polynomial) {l : List Atom} → Every (Other p) l → other_than p l ≡ l
unfolding other_than unless_same
none-same p every_none = refl
none-same p (every {a} h hs) = rw h.differs (ap (λ (m : List Atom). a ∷ m) (none-same p hs))

not_listed : (p : Polynomial) {l : List Atom} → Every (Other p) l → listed p l ≡ full
unfolding listed or_next
not_listed p every_none = refl
not_listed p (every h hs) = rw h.differs (not_listed p hs)

-- ---- Rounds over some of the atoms that carry a settled state's sets.

-- Where a wider state has an empty set, the other has one.
board-empty : {board wide : Board} → Wider board wide → LowBoard board → any_empty wide ≡ true → any_empty board ≡ true
unfolding any_empty
board-empty no_sets every_none e = e
board-empty (sets {s} {t} p w) (every h hs) e =
    or-keeps (eqb t empty) _ (eqb s empty) _ (λ z. eq-eqb s empty (part-empty h (rw (eqb-true t empty z) at p))) (board-empty w hs) e

atoms-empty : {l m : List Atom} → Fewer l m → LowAtoms l → any_empty (sets_of m) ≡ true → any_empty (sets_of l) ≡ true
unfolding any_empty sets_of
atoms-empty no_atoms every_none e = e
atoms-empty (left_out {a} f) (every h hs) e = or-second (eqb a.set empty) (atoms-empty f hs e)
atoms-empty (kept {a} {b} v f) (every h hs) e =
    or-keeps (eqb b.set empty) _ (eqb a.set empty) _
    (λ z. eq-eqb a.set empty (part-empty h (rw (eqb-true b.set empty z) at v.set))) (atoms-empty f hs) e

pub state-empty : {st wide : State} → WiderState st wide → Low st → has_empty wide ≡ true → has_empty st ≡ true
unfolding has_empty
state-empty {wide} w low e =
    or-keeps (any_empty wide.board) (any_empty (sets_of wide.atoms)) _ _
    (board-empty w.boards low.board) (atoms-empty w.lists low.atoms) e

-- An outcome is wider than a state if it is a wider state; so it is no contradiction.
abbrev pub Widens : State → Outcome → Type 0
Widens st contradiction = ⊥
Widens st (settled su) = WiderState st su

-- A run that starts wider than a settled state stays wider.
pub widens-run : {n : ℕ} {st : State} → Settled n st → {wide : State} {k : ℕ} {o : Outcome} → Run n wide k o → WiderState st wide → Widens st o
widens-run {n} {st} s = along-run (Widens st) (λ wide w e. never_both (state-empty w s.low e) s.filled) stays-wider (λ wide sv e w. search-wider s w e)
  where
    stays-wider : (wide : State) → WiderState st wide → WiderState st (round n wide)
    stays-wider wide w = subst (λ (su : State). WiderState su (round n wide)) s.still (round-wider n s.low w)

module _ {n : ℕ} {l : List Atom} {st : State} (s : Settled n st) (c : Carries n st.board l st.atoms (carried n st.board l st.atoms)) where
  -- Each state of such rounds is wider than the settled one.
  pub run_wider : {others : List Atom} → Fewer (carried n st.board l st.atoms) others → Widens st (run n others)
  run_wider {others} f = widens-run s (run_ends n others) (start-wider s c f)

  -- What they say of a polynomial that they do not list is no narrower than what the settled state says by the others.
  pub says-wider : {others : List Atom} → Fewer (carried n st.board l st.atoms) others → (p : Polynomial) → which n p ≡ none → Every (Other p) others
      → PartOf (said_by_others st p) (says n (run n others) p)
  unfolding says says_in said_by_others held start
  says-wider {others} f p e hs = by-outcome (run n others) (run_wider f) (run-narrows n others)
    where
      by-outcome : (outcome : Outcome) → Widens st outcome → Narrows outcome (start n others) → PartOf (said_by_others st p) (says n outcome p)
      by-outcome contradiction w narrower = absurd w
      by-outcome (settled wide) w narrower =
          let others-only : Every (Other p) wide.atoms = within-other p narrower.lists (non_variable-other n p hs) in
          let by-terms : PartOf (by_terms st.board p) (intersect full (by_terms wide.board p)) =
          record { each = λ x h. in-intersect (in-full x) ((by_terms-wider w.boards p).each x h) } in
          let fewer = other-fewer p w.lists others-only in
          rw (e, not_listed p others-only, none-same p others-only)
          (cut-wider (tries-wider w.boards p fewer (other-filled p (settled-filled s)))
          (cut_by-wider w.boards s.low.board p fewer (other-low p s.low.atoms) by-terms))
