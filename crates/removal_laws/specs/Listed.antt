-- Of a listed polynomial, and of a variable, the pairs say nothing that a settled list does not hold already: there they need not be tried.
-- 02, #111: "What a list says of p includes these."
use Rattle.std.specs.Prelude.{◌≡◌, refl, Bool, true, false, List, [], ◌∷◌, ◌++◌, ℕ, ◌+◌, ◌<◌, get_or}
use Rattle.std.proofs.Common.{sym, ap, ◌∙◌, subst, append_assoc, arith}
use Rattle.std.proofs.Math.Option.{none}
use Rattle.rules.specs.Signs.{SignSet, full, intersect}
use Rattle.rules.specs.Polynomial.{Polynomial, Atom, Board, same, variable}
use Rattle.rules.specs.TwoAtoms.{tries, first_cut, cut_by_all}
use Rattle.rules.specs.Rounds.{State, search_atoms, unless_same, other_than}
use Rattle.sign_laws.specs.Lists.{Every, every_none, every, every_append}
use Rattle.sign_laws.specs.Sets.{in-intersect, PartOf, part-refl, part-trans, intersect-first, intersect-below, parts-equal}
use Rattle.ending_laws.specs.Searches.{none-cuts, search-idle, board-none-at, atoms-none}
use Rattle.level_laws.specs.Same.{same-itself}
use Rattle.removal_laws.specs.Wider.{Wider, no_sets, sets}
use Rattle.removal_laws.specs.Fewer.{Fewer, no_atoms, left_out, kept, itself, all-kept, fewer-append}
use Rattle.removal_laws.specs.TwoAtoms.{Filled, tries-wider, weaker-every}
use Rattle.removal_laws.specs.Settled.{Settled}
use Rattle.removal_laws.specs.Searched.{settled-filled}

-- ---- Findings that hold a set leave its parts as they are.

pub held_whole : {s cut : SignSet} → cut < 8 → PartOf cut s → {fs : List SignSet} → Every (PartOf s) fs → cut_by_all cut fs ≡ cut
unfolding cut_by_all
held_whole h p every_none = refl
held_whole {cut = cut} h p (every {a = f} k ks) =
    let same : intersect cut f ≡ cut =
    parts-equal (intersect-below cut f) h (intersect-first cut f) (record { each = λ x i. in-intersect i (k.each x (p.each x i)) }) in
    rw same (held_whole h p ks)

-- ---- The others are fewer.

board-itself : (board : Board) → Wider board board
board-itself [] = no_sets
board-itself (s ∷ board) = sets (part-refl s) (board-itself board)

others-fewer : (p : Polynomial) (l : List Atom) → Fewer l (other_than p l)
unfolding other_than unless_same
others-fewer p [] = no_atoms
others-fewer p (a ∷ l) = by (same p a.polynomial) (others-fewer p l)
  where
    by : (b : Bool) → Fewer l (other_than p l) → Fewer (a ∷ l) (unless_same b a (other_than p l))
    by true f = left_out f
    by false f = kept (itself a) f

without-itself : (before : List Atom) (a : Atom) (later : List Atom) → Fewer (before ++ later) (other_than a.polynomial (before ++ (a ∷ later)))
unfolding other_than unless_same
without-itself [] a later = rw (same-itself a.polynomial) (others-fewer a.polynomial later)
without-itself (b ∷ before) a later = by (same a.polynomial b.polynomial) (without-itself before a later)
  where
    by : (c : Bool) → Fewer (before ++ later) (other_than a.polynomial (before ++ (a ∷ later)))
        → Fewer (b ∷ (before ++ later)) (unless_same c b (other_than a.polynomial (before ++ (a ∷ later))))
    by true f = left_out f
    by false f = kept (itself b) f

-- ---- At each place of a settled list no finding changes the set.

atoms-none-at : (board : Board) (before l : List Atom) (a : Atom) (later : List Atom) → search_atoms board before (l ++ (a ∷ later)) ≡ none
    → first_cut a.set (tries board a.polynomial ((before ++ l) ++ later)) ≡ none
atoms-none-at board before [] a later e = rw (append-nil before) (atoms-none board before a later e).0
  where
    append-nil : (l : List Atom) → l ++ [] ≡ l
    append-nil [] = refl
    append-nil (b ∷ l) = ap (λ (m : List Atom). b ∷ m) (append-nil l)
atoms-none-at board before (b ∷ l) a later e =
    rw (append_assoc before (b ∷ []) l) at (atoms-none-at board (before ++ (b ∷ [])) l a later (atoms-none board before b (l ++ (a ∷ later)) e).1)

every-without : {P : Atom → Type 0} (before : List Atom) (a : Atom) (later : List Atom) → Every P (before ++ (a ∷ later)) → Every P (before ++ later)
every-without [] a later (every h hs) = hs
every-without (b ∷ before) a later (every h hs) = every h (every-without before a later hs)

module _ {n : ℕ} {st : State} (s : Settled n st) where
  -- A listed polynomial.
  pub listed-no-pairs : (before : List Atom) (a : Atom) (later : List Atom) → st.atoms ≡ before ++ (a ∷ later) → (cut : SignSet) → cut < 8 → PartOf cut a.set
      → cut_by_all cut (tries st.board a.polynomial (other_than a.polynomial st.atoms)) ≡ cut
  listed-no-pairs before a later e cut h p =
      let p' = a.polynomial in
      let idle = atoms-none-at st.board [] before a later (rw e at (search-idle n st s.idle).1) in
      let filled : Every Filled (before ++ later) = every-without before a later (rw e at (settled-filled s)) in
      let fewer : Fewer (before ++ later) (other_than p' st.atoms) = rw e (without-itself before a later) in
      held_whole h p (weaker-every (tries-wider (board-itself st.board) p' fewer filled) (none-cuts a.set (tries st.board p' (before ++ later)) idle))

  -- A variable.
  pub variable-no-pairs : (i : ℕ) → i < n → (cut : SignSet) → cut < 8 → PartOf cut (get_or st.board i full)
      → cut_by_all cut (tries st.board (variable n i) (other_than (variable n i) st.atoms)) ≡ cut
  variable-no-pairs i b cut h p =
      let first : 0 + i ≡ i = omega arith in
      let idle = rw first at (board-none-at n st.atoms st.board 0 n st.board (search-idle n st s.idle).0 i b (omega (arith, s.many))) in
      held_whole h p (weaker-every (tries-wider (board-itself st.board) (variable n i) (others-fewer (variable n i) st.atoms) (settled-filled s))
      (none-cuts (get_or st.board i full) (tries st.board (variable n i) st.atoms) idle))
