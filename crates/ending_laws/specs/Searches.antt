-- What a search over pairs (02, #111) does: it finds nothing, or it cuts one set, which loses a sign. And where all atoms' sets are full it finds nothing.
use Rattle.std.specs.Prelude.{◌≡◌, refl, Bool, true, false, cond, List, [], ◌∷◌, ◌++◌, ℕ, zero, suc, ◌+◌, ◌<◌, ◌≤◌, eqb, ℤ, length, get_or}
use Rattle.std.proofs.Common.{sym, ap, ap₂, ◌∙◌, subst, arith, eqb-true, eq-eqb}
use Rattle.std.proofs.Math.Option.{Option, none, some, some-injective, none-ne-some}
use Rattle.std.specs.Int.Signed.{non_neg}
use Rattle.std.proofs.lemmas.Bool.{eqb-false}
use Rattle.rules.specs.Signs.{Sign, SignSet, empty, full, kind, intersect}
use Rattle.rules.specs.Polynomial.{Polynomial, Atom, Board, variable}
use Rattle.rules.specs.Deduce.{any_empty}
use Rattle.rules.specs.TwoAtoms.{non_positive, non_negative, never_positive, never_negative, tried, try, factors, with_each, tries_with, tries, cut_or, first_cut}
use Rattle.rules.specs.Rounds.{State, sets_of, has_empty, sets_or, search_board, atoms_or, search_atoms, state_or, search}
use Rattle.sign_laws.specs.Booleans.{neither}
use Rattle.sign_laws.specs.Lists.{Every, every_none, every, every_append, every-wider}
use Rattle.sign_laws.specs.Sets.{◌In◌, in-intersect, PartOf, intersect-first, intersect-second, intersect-below, parts-equal}
use Rattle.ending_laws.specs.Sizes.{spare, spare-falls}
use Rattle.ending_laws.specs.Cuts.{Low, none-empty, spare_all, spare_of}

-- ---- One set.

-- A cut that changes a set.
pub record CutTo (s cut : SignSet) : Type 0 where
  pub part : PartOf cut s
  pub low : cut < 8
  pub other : eqb cut s ≡ false

-- What the first finding that changes a set leaves.
pub first-cuts : (s : SignSet) (fs : List SignSet) {cut : SignSet} → first_cut s fs ≡ some cut → CutTo s cut
unfolding first_cut cut_or
first-cuts s [] {cut} e = absurd (none-ne-some cut e)
first-cuts s (f ∷ fs) {cut} e = by (eqb (intersect s f) s) refl (first-cuts s fs) e
  where
    by : (b : Bool) → eqb (intersect s f) s ≡ b → (first_cut s fs ≡ some cut → CutTo s cut) → cut_or b (intersect s f) (first_cut s fs) ≡ some cut → CutTo s cut
    by true d later e = later e
    by false d later e = subst (CutTo s) (some-injective (intersect s f) cut e)
        (record { part = intersect-first s f; low = intersect-below s f; other = d })

-- A sign of the set and of all findings is one of it.
pub first-has : {x : Sign} (s : SignSet) {fs : List SignSet} {cut : SignSet} → x In s → Every (λ (f : SignSet). x In f) fs → first_cut s fs ≡ some cut → x In cut
unfolding first_cut cut_or
first-has s {cut = cut} p every_none e = absurd (none-ne-some cut e)
first-has {x} s {cut = cut} p (every {a = f} {l = fs} h hs) e = by (eqb (intersect s f) s) (first-has s p hs) e
  where
    by : (b : Bool) → (first_cut s fs ≡ some cut → x In cut) → cut_or b (intersect s f) (first_cut s fs) ≡ some cut → x In cut
    by true later e = later e
    by false later e = subst (λ (c : SignSet). x In c) (some-injective (intersect s f) cut e) (in-intersect p h)

-- A part of the set and of all findings is a part of it.
pub first-keeps : {x : SignSet} (s : SignSet) {fs : List SignSet} {cut : SignSet} → PartOf x s → Every (PartOf x) fs → first_cut s fs ≡ some cut → PartOf x cut
first-keeps s p hs e = record { each = λ y k. first-has s (p.each y k) (every-wider (λ f h. h.each y k) hs) e }

-- If there is none, the set is a part of all findings.
pub none-cuts : (s : SignSet) (fs : List SignSet) → first_cut s fs ≡ none → Every (PartOf s) fs
unfolding first_cut cut_or
none-cuts s [] e = every_none
none-cuts s (f ∷ fs) e = by (eqb (intersect s f) s) refl (none-cuts s fs) e
  where
    by : (b : Bool) → eqb (intersect s f) s ≡ b → (first_cut s fs ≡ none → Every (PartOf s) fs) → cut_or b (intersect s f) (first_cut s fs) ≡ none → Every (PartOf s) (f ∷ fs)
    by true d later e = every (subst (λ (x : SignSet). PartOf x f) (eqb-true (intersect s f) s d) (intersect-second s f)) (later e)
    by false d later e = absurd (none-ne-some (intersect s f) (sym e))

-- And back, for a set below 8.
pub parts-cut-none : (s : SignSet) → s < 8 → {fs : List SignSet} → Every (PartOf s) fs → first_cut s fs ≡ none
unfolding first_cut cut_or
parts-cut-none s h every_none = refl
parts-cut-none s h (every {a = f} p ps) =
    let same : intersect s f ≡ s = parts-equal (intersect-below s f) h (intersect-first s f) (record { each = λ x k. in-intersect k (p.each x k) }) in
    rw (eq-eqb (intersect s f) s same) (parts-cut-none s h ps)

-- ---- A list of sets, of which one is cut.

-- The sets of which P is asked before the cut.
pub data OneCut (P : SignSet → Type 0) : List SignSet → List SignSet → Type 0 where
  this_one : {s cut : SignSet} {l : List SignSet} → P s → CutTo s cut → OneCut P (s ∷ l) (cut ∷ l)
  later_one : {s : SignSet} {l m : List SignSet} → OneCut P l m → OneCut P (s ∷ l) (s ∷ m)

module _ {P : SignSet → Type 0} where
  -- As many are left.
  pub one-length : {l m : List SignSet} → OneCut P l m → length m ≡ length l
  one-length (this_one h c) = refl
  one-length (later_one c) = ap suc (one-length c)

  -- Those that were below 8 are.
  pub one-low : {l m : List SignSet} → OneCut P l m → (i : ℕ) → get_or l i full < 8 → get_or m i full < 8
  one-low (this_one h c) zero k = c.low
  one-low (this_one h c) (suc i) k = k
  one-low (later_one c) zero k = k
  one-low (later_one c) (suc i) k = one-low c i k

-- A sign is lost, if the set was below 8 and none is empty now.
pub one-falls : {l m : List SignSet} → OneCut (λ s. s < 8) l m → any_empty m ≡ false → spare_all m < spare_all l
unfolding spare_all any_empty
one-falls (this_one {s} {cut} {l} h c) e = let (left, rest) = (neither (eqb cut empty) (any_empty l)).0 e in
    omega (arith, spare-falls h c.low c.part (eqb-false cut empty left) (λ same. eqb-false cut s c.other (sym same)))
one-falls (later_one {s} {m = m} c) e = let (left, rest) = (neither (eqb s empty) (any_empty m)).0 e in omega (arith, one-falls c rest)

-- ---- A search over the variables.

-- If it finds something, one set of the first k is cut.
pub board-cut : (P : SignSet → Type 0) (n : ℕ) (atoms : List Atom) (board : Board) (i k : ℕ) (l : List SignSet) {m : List SignSet}
    → ((j : ℕ) → j < k → P (get_or l j full)) → search_board n atoms board i k l ≡ some m → OneCut P l m
unfolding search_board sets_or
board-cut P n atoms board i zero l {m} h e = absurd (none-ne-some m e)
board-cut P n atoms board i (suc k) [] {m} h e = absurd (none-ne-some m e)
board-cut P n atoms board i (suc k) (s ∷ later) {m} h e =
    by (first_cut s (tries board (variable n i) atoms)) (λ cut g. first-cuts s (tries board (variable n i) atoms) g) (search_board n atoms board (suc i) k later)
    (λ r g. board-cut P n atoms board (suc i) k later (λ j b. h (suc j) (omega arith)) g) e
  where
    by : (first : Option SignSet) → ((cut : SignSet) → first ≡ some cut → CutTo s cut) → (rest : Option (List SignSet))
        → ((r : List SignSet) → rest ≡ some r → OneCut P later r) → sets_or first s later rest ≡ some m → OneCut P (s ∷ later) m
    by (some cut) f rest g e = subst (OneCut P (s ∷ later)) (some-injective (cut ∷ later) m e) (this_one (h 0 (omega arith)) (f cut refl))
    by none f none g e = absurd (none-ne-some m e)
    by none f (some rest) g e = subst (OneCut P (s ∷ later)) (some-injective (s ∷ rest) m e) (later_one (g rest refl))

-- What it finds: at one place, what the first finding for that variable leaves.
pub data BoardFound (n : ℕ) (atoms : List Atom) (board : Board) : ℕ → List SignSet → List SignSet → Type 0 where
  found_here : {i : ℕ} {s cut : SignSet} {l : List SignSet} → first_cut s (tries board (variable n i) atoms) ≡ some cut
      → BoardFound n atoms board i (s ∷ l) (cut ∷ l)
  found_later : {i : ℕ} {s : SignSet} {l m : List SignSet} → BoardFound n atoms board (suc i) l m → BoardFound n atoms board i (s ∷ l) (s ∷ m)

pub board-found : (n : ℕ) (atoms : List Atom) (board : Board) (i k : ℕ) (l : List SignSet) {m : List SignSet} → search_board n atoms board i k l ≡ some m
    → BoardFound n atoms board i l m
unfolding search_board sets_or
board-found n atoms board i zero l {m} e = absurd (none-ne-some m e)
board-found n atoms board i (suc k) [] {m} e = absurd (none-ne-some m e)
board-found n atoms board i (suc k) (s ∷ later) {m} e =
    by (first_cut s (tries board (variable n i) atoms)) refl (search_board n atoms board (suc i) k later) (λ r g. board-found n atoms board (suc i) k later g) e
  where
    by : (first : Option SignSet) → first_cut s (tries board (variable n i) atoms) ≡ first → (rest : Option (List SignSet))
        → ((r : List SignSet) → rest ≡ some r → BoardFound n atoms board (suc i) later r) → sets_or first s later rest ≡ some m
        → BoardFound n atoms board i (s ∷ later) m
    by (some cut) f rest g e = subst (BoardFound n atoms board i (s ∷ later)) (some-injective (cut ∷ later) m e) (found_here f)
    by none f none g e = absurd (none-ne-some m e)
    by none f (some rest) g e = subst (BoardFound n atoms board i (s ∷ later)) (some-injective (s ∷ rest) m e) (found_later (g rest refl))

-- ---- A search over the atoms.

pub data OneAtomCut : List Atom → List Atom → Type 0 where
  this_atom : {a : Atom} {cut : SignSet} {l : List Atom} → CutTo a.set cut → OneAtomCut (a ∷ l) (record { polynomial = a.polynomial; set = cut } ∷ l)
  later_atom : {a : Atom} {l m : List Atom} → OneAtomCut l m → OneAtomCut (a ∷ l) (a ∷ m)

-- Their sets.
pub atoms-sets : (P : SignSet → Type 0) {l m : List Atom} → OneAtomCut l m → ((i : ℕ) → P (get_or (sets_of l) i full)) → OneCut P (sets_of l) (sets_of m)
unfolding sets_of
atoms-sets P (this_atom c) h = this_one (h 0) c
atoms-sets P (later_atom c) h = later_one (atoms-sets P c (λ i. h (suc i)))

pub atoms-length : {l m : List Atom} → OneAtomCut l m → length m ≡ length l
atoms-length (this_atom c) = refl
atoms-length (later_atom c) = ap suc (atoms-length c)

pub atoms-cut : (board : Board) (before l : List Atom) {m : List Atom} → search_atoms board before l ≡ some m → OneAtomCut l m
unfolding search_atoms atoms_or
atoms-cut board before [] {m} e = absurd (none-ne-some m e)
atoms-cut board before (a ∷ later) {m} e =
    by (first_cut a.set (tries board a.polynomial (before ++ later))) (λ cut g. first-cuts a.set (tries board a.polynomial (before ++ later)) g)
    (search_atoms board (before ++ (a ∷ [])) later) (λ r g. atoms-cut board (before ++ (a ∷ [])) later g) e
  where
    by : (first : Option SignSet) → ((cut : SignSet) → first ≡ some cut → CutTo a.set cut) → (rest : Option (List Atom))
        → ((r : List Atom) → rest ≡ some r → OneAtomCut later r) → atoms_or first a later rest ≡ some m → OneAtomCut (a ∷ later) m
    by (some cut) f rest g e = subst (OneAtomCut (a ∷ later)) (some-injective _ m e) (this_atom (f cut refl))
    by none f none g e = absurd (none-ne-some m e)
    by none f (some rest) g e = subst (OneAtomCut (a ∷ later)) (some-injective (a ∷ rest) m e) (later_atom (g rest refl))

-- What it finds: one atom's set, cut to what the first finding from the others leaves.
pub data AtomsFound (board : Board) : List Atom → List Atom → List Atom → Type 0 where
  found_this : {before : List Atom} {a : Atom} {later : List Atom} {cut : SignSet}
      → first_cut a.set (tries board a.polynomial (before ++ later)) ≡ some cut
      → AtomsFound board before (a ∷ later) (record { polynomial = a.polynomial; set = cut } ∷ later)
  found_after : {before : List Atom} {a : Atom} {later m : List Atom} → AtomsFound board (before ++ (a ∷ [])) later m
      → AtomsFound board before (a ∷ later) (a ∷ m)

pub atoms-found : (board : Board) (before l : List Atom) {m : List Atom} → search_atoms board before l ≡ some m → AtomsFound board before l m
unfolding search_atoms atoms_or
atoms-found board before [] {m} e = absurd (none-ne-some m e)
atoms-found board before (a ∷ later) {m} e =
    by (first_cut a.set (tries board a.polynomial (before ++ later))) refl (search_atoms board (before ++ (a ∷ [])) later)
    (λ r g. atoms-found board (before ++ (a ∷ [])) later g) e
  where
    by : (first : Option SignSet) → first_cut a.set (tries board a.polynomial (before ++ later)) ≡ first → (rest : Option (List Atom))
        → ((r : List Atom) → rest ≡ some r → AtomsFound board (before ++ (a ∷ [])) later r) → atoms_or first a later rest ≡ some m
        → AtomsFound board before (a ∷ later) m
    by (some cut) f rest g e = subst (AtomsFound board before (a ∷ later)) (some-injective _ m e) (found_this f)
    by none f none g e = absurd (none-ne-some m e)
    by none f (some rest) g e = subst (AtomsFound board before (a ∷ later)) (some-injective (a ∷ rest) m e) (found_after (g rest refl))

-- ---- The search.

-- What it finds: a set of the board, or else a set of an atom.
pub search-finds : (X : State → Type 0) (n : ℕ) (st : State) {sv : State} → search n st ≡ some sv
    → ((sets : List SignSet) → search_board n st.atoms st.board 0 n st.board ≡ some sets → X (record { board = sets; atoms = st.atoms }))
    → ((l : List Atom) → search_atoms st.board [] st.atoms ≡ some l → X (record { board = st.board; atoms = l })) → X sv
unfolding search state_or
search-finds X n st {sv} e f g = by (search_board n st.atoms st.board 0 n st.board) f (search_atoms st.board [] st.atoms) g e
  where
    by : (first : Option (List SignSet)) → ((sets : List SignSet) → first ≡ some sets → X (record { board = sets; atoms = st.atoms }))
        → (second : Option (List Atom)) → ((l : List Atom) → second ≡ some l → X (record { board = st.board; atoms = l }))
        → state_or st first second ≡ some sv → X sv
    by (some sets) f second g e = subst X (some-injective _ sv e) (f sets refl)
    by none f (some l) g e = subst X (some-injective _ sv e) (g l refl)
    by none f none g e = absurd (none-ne-some sv e)

-- If it finds nothing, neither search does.
pub search-idle : (n : ℕ) (st : State) → search n st ≡ none
    → (search_board n st.atoms st.board 0 n st.board ≡ none) × (search_atoms st.board [] st.atoms ≡ none)
unfolding search state_or
search-idle n st e = by (search_board n st.atoms st.board 0 n st.board) (search_atoms st.board [] st.atoms) e
  where
    by : (first : Option (List SignSet)) (second : Option (List Atom)) → state_or st first second ≡ none → (first ≡ none) × (second ≡ none)
    by (some sets) second e = absurd (none-ne-some _ (sym e))
    by none (some l) e = absurd (none-ne-some _ (sym e))
    by none none e = (refl, refl)

-- So no first finding changes a set: of the first variable and the later ones,
pub board-none : (n : ℕ) (atoms : List Atom) (board : Board) (i k : ℕ) (s : SignSet) (later : List SignSet) → search_board n atoms board i (suc k) (s ∷ later) ≡ none
    → (first_cut s (tries board (variable n i) atoms) ≡ none) × (search_board n atoms board (suc i) k later ≡ none)
unfolding search_board sets_or
board-none n atoms board i k s later e = by (first_cut s (tries board (variable n i) atoms)) (search_board n atoms board (suc i) k later) e
  where
    by : (first : Option SignSet) (rest : Option (List SignSet)) → sets_or first s later rest ≡ none → (first ≡ none) × (rest ≡ none)
    by (some cut) rest e = absurd (none-ne-some _ (sym e))
    by none (some rest) e = absurd (none-ne-some _ (sym e))
    by none none e = (refl, refl)

-- and so at each place;
pub board-none-at : (n : ℕ) (atoms : List Atom) (board : Board) (i k : ℕ) (l : List SignSet) → search_board n atoms board i k l ≡ none
    → (j : ℕ) → j < k → j < length l → first_cut (get_or l j full) (tries board (variable n (i + j)) atoms) ≡ none
board-none-at n atoms board i zero l e j a b = absurd (omega arith)
board-none-at n atoms board i (suc k) [] e j a b = absurd (omega arith)
board-none-at n atoms board i (suc k) (s ∷ later) e zero a b =
    let here : i + 0 ≡ i = omega arith in rw here (board-none n atoms board i k s later e).0
board-none-at n atoms board i (suc k) (s ∷ later) e (suc j) a b =
    let next : i + suc j ≡ suc i + j = omega arith in
    rw next (board-none-at n atoms board (suc i) k later (board-none n atoms board i k s later e).1 j (omega arith) (omega arith))

-- of the first atom and the later ones.
pub atoms-none : (board : Board) (before : List Atom) (a : Atom) (later : List Atom) → search_atoms board before (a ∷ later) ≡ none
    → (first_cut a.set (tries board a.polynomial (before ++ later)) ≡ none) × (search_atoms board (before ++ (a ∷ [])) later ≡ none)
unfolding search_atoms atoms_or
atoms-none board before a later e = by (first_cut a.set (tries board a.polynomial (before ++ later))) (search_atoms board (before ++ (a ∷ [])) later) e
  where
    by : (first : Option SignSet) (rest : Option (List Atom)) → atoms_or first a later rest ≡ none → (first ≡ none) × (rest ≡ none)
    by (some cut) rest e = absurd (none-ne-some _ (sym e))
    by none (some rest) e = absurd (none-ne-some _ (sym e))
    by none none e = (refl, refl)

-- It keeps the number of sets, and those below 8; and it takes a sign out, unless a set is empty now.
pub record Searched (n : ℕ) (st sv : State) : Type 0 where
  pub board_length : length sv.board ≡ length st.board
  pub many-atoms : length sv.atoms ≡ length st.atoms
  pub low : Low n st → Low n sv
  pub falls : Low n st → has_empty sv ≡ false → spare_of sv < spare_of st

pub searched : (n : ℕ) (st : State) {sv : State} → search n st ≡ some sv → Searched n st sv
unfolding spare_of
searched n st e = search-finds (Searched n st) n st e
    (λ sets f. let cut = board-cut (λ s. Unit {0}) n st.atoms st.board 0 n st.board (λ j b. tt) f in record {
      board_length = one-length cut;
      many-atoms = refl;
      low = λ low. record { board = λ i h. one-low cut i (low.board i h); atoms = low.atoms };
      falls = λ low left. let fall = one-falls (board-cut (λ s. s < 8) n st.atoms st.board 0 n st.board (λ j b. low.board j b) f) (none-empty _ left).0 in
          omega (arith, fall);
    })
    (λ l f. let cut = atoms-cut st.board [] st.atoms f in record {
      board_length = refl;
      many-atoms = atoms-length cut;
      low = λ low. record { board = low.board; atoms = λ i. one-low (atoms-sets (λ s. Unit {0}) cut (λ j. tt)) i (low.atoms i) };
      falls = λ low left. let fall = one-falls (atoms-sets (λ s. s < 8) cut low.atoms) (none-empty _ left).1 in omega (arith, fall);
    })

-- ---- Where nothing can be found.

-- The board's search finds nothing if no first finding changes a set below 8.
pub board-idle : (n : ℕ) (atoms : List Atom) (board : Board) (i k : ℕ) (l : List SignSet)
    → ((j : ℕ) → j < k → first_cut (get_or l j full) (tries board (variable n (i + j)) atoms) ≡ none) → search_board n atoms board i k l ≡ none
unfolding search_board sets_or
board-idle n atoms board i zero l h = refl
board-idle n atoms board i (suc k) [] h = refl
board-idle n atoms board i (suc k) (s ∷ later) h =
    let here : i + 0 ≡ i = omega arith in
    let rest = board-idle n atoms board (suc i) k later (λ j b. let next : i + suc j ≡ suc i + j = omega arith in rw next at (h (suc j) (omega arith))) in
    rw (rw here at (h 0 (omega arith)), rest)

-- Over no atoms.
pub no-atoms-search : (n : ℕ) (board : Board) → search n (record { board = board; atoms = [] }) ≡ none
unfolding search state_or search_atoms tries first_cut
no-atoms-search n board = ap (λ (o : Option (List SignSet)). state_or (record { board = board; atoms = [] }) o none) (board-idle n [] board 0 n board (λ j b. refl))

-- Where all atoms' sets are full: no factor makes such an atom never positive or never negative, so there is no try.
no_way : (b : Bool) → cond b false false ≡ false
no_way true = refl
no_way false = refl

try-full : (board : Board) (p : Polynomial) (q1 q2 : Atom) (u v : ℤ) → q1.set ≡ full → try board p q1 q2 u v ≡ []
unfolding try never_positive never_negative non_positive non_negative tried kind
try-full board p q1 q2 u v e = rw (e, no_way (non_neg u))

each_none : (f : ℤ → List SignSet) → ((v : ℤ) → f v ≡ []) → (l : List ℤ) → with_each f l ≡ []
unfolding with_each
each_none f h [] = refl
each_none f h (v ∷ l) = ap₂ (λ (a b : List SignSet). a ++ b) (h v) (each_none f h l)

tries-with-full : (board : Board) (p : Polynomial) (q1 : Atom) → q1.set ≡ full → (l : List Atom) → tries_with board p q1 l ≡ []
unfolding tries_with
tries-with-full board p q1 e [] = refl
tries-with-full board p q1 e (q2 ∷ l) = ap₂ (λ (a b : List SignSet). a ++ b)
    (each_none (λ (u : ℤ). with_each (try board p q1 q2 u) factors) (λ u. each_none (try board p q1 q2 u) (λ v. try-full board p q1 q2 u v e) factors) factors)
    (tries-with-full board p q1 e l)

tries-full : (board : Board) (p : Polynomial) {l : List Atom} → Every (λ (a : Atom). a.set ≡ full) l → tries board p l ≡ []
unfolding tries
tries-full board p every_none = refl
tries-full board p (every {a = q} {l = l} h hs) = ap₂ (λ (a b : List SignSet). a ++ b) (tries-with-full board p q h l) (tries-full board p hs)

full-cuts-none : (s : SignSet) {fs : List SignSet} → fs ≡ [] → first_cut s fs ≡ none
unfolding first_cut
full-cuts-none s e = rw e

atoms-idle : (board : Board) {before l : List Atom} → Every (λ (a : Atom). a.set ≡ full) before → Every (λ (a : Atom). a.set ≡ full) l
    → search_atoms board before l ≡ none
unfolding search_atoms atoms_or
atoms-idle board hb every_none = refl
atoms-idle board {before} hb (every {a} {l = later} h hs) =
    let first : first_cut a.set (tries board a.polynomial (before ++ later)) ≡ none =
    full-cuts-none a.set (tries-full board a.polynomial (every_append hb hs)) in
    let rest = atoms-idle board (every_append hb (every {a = a} h every_none)) hs in
    rw (first, rest)

pub full-search : (n : ℕ) (st : State) → Every (λ (a : Atom). a.set ≡ full) st.atoms → search n st ≡ none
unfolding search state_or
full-search n st h = ap₂ (state_or st)
    (board-idle n st.atoms st.board 0 n st.board (λ j b. full-cuts-none (get_or st.board j full) (tries-full st.board (variable n (0 + j)) h)))
    (atoms-idle st.board every_none h)
