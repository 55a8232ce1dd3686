-- Request #108: without atoms that no cut of a run rests on the rounds are the same rounds, and so is their number.
-- Rounds that cut no atom are meant, those of `turned_rounds`: one common run in which no pair finds anything counts for each atom that it does not rest on.
use Rattle.std.specs.Prelude.{◌≡◌, Bool, List, [], ◌∷◌, ◌++◌, length, get_or, set, replicate}
use Rattle.std.proofs.Math.Path.{refl, ap}
use Rattle.std.proofs.Common.{sym, ◌∙◌, arith, lit<}
use Rattle.std.proofs.Math.Bool.{true, false}
use Rattle.std.proofs.Math.Option.{Option, none, some}
use Prim.Native.Nat.{ℕ, zero, suc, ◌+◌, ◌<◌}
use Rattle.rules.specs.Signs.{SignSet, full}
use Rattle.rules.specs.Polynomial.{Polynomial, Atom, Board, variable, which}
use Rattle.rules.specs.TwoAtoms.{tries, first_cut}
use Rattle.rules.specs.Rounds.{cut_by, turn, turns, State, same_sets, settled, sets_or, search_board, begun, unless_variable, non_variable, placed, placed_all, start, enough, run, carried}
use Rattle.rules.specs.Count.{run_count}
use Rattle.sign_laws.specs.Lists.{Every, every_none, every, every-get_d}
use Rattle.sign_laws.specs.Sets.{PartOf, part-refl, parts-equal}
use Rattle.ending_laws.specs.Cuts.{cut_by-below}
use Rattle.ending_laws.specs.Searches.{none-cuts, parts-cut-none, board-none}
use Rattle.ending_laws.specs.Rounds.{more-rounds-begin-no-more}
use Rattle.removal_laws.specs.Rounds.{LowBoard, LowAtoms, turn_low, cut_by-wider}
use Rattle.removal_laws.specs.TwoAtoms.{Filled, tries-wider, weaker-every}
use Rattle.removal_laws.specs.Settled.{start-low}
use Rattle.removal_laws.specs.Searched.{settled-filled}
use Rattle.turn_laws.specs.Some.{Some, not_there, some-fewer, all_there, some-append, some-without, non_variable-some}
use Rattle.turn_laws.specs.Equal.{board-itself}
use Rattle.turn_laws.specs.Afresh.{afresh-start}
use Rattle.count_laws.specs.Fresh.{some-every, some-low}
use Rattle.count_laws.specs.Boards.{unless_still, turned_rounds, counted-by-turns}

-- The cuts of k turns from variable i on, on a board, rest on the atoms of `these`: they leave of each set what all atoms leave.
unfoldable pub RestTurns : ℕ → List Atom → List Atom → Board → ℕ → ℕ → Type 0
RestTurns n all these board i zero = Unit {0}
RestTurns n all these board i (suc k) =
    (cut_by board (variable n i) these (get_or board i full) ≡ cut_by board (variable n i) all (get_or board i full))
    × RestTurns n all these (turn n all board i) (suc i) k

-- After a round that leaves the board no pair finds anything of a variable; after another one the further rounds rest on them.
unfoldable pub RestFurther : Bool → Option Board → Type 0 → Type 0
RestFurther true found further = found ≡ none
RestFurther false found further = further

-- The cuts of so many rounds rest on them, and are none of pairs.
unfoldable pub RestRounds : ℕ → List Atom → List Atom → ℕ → Board → Type 0
RestRounds n all these zero board = Unit {0}
RestRounds n all these (suc k) board =
    let next = turns n all board 0 n in
    RestTurns n all these board 0 n × RestFurther (same_sets board next) (search_board n all next 0 n next) (RestRounds n all these k next)

module _ (n : ℕ) {all fewer these : List Atom} (low : LowAtoms all) (lower : LowAtoms fewer) (f : Some all fewer) (g : Some fewer these) where
  -- What atoms between them leave of a set.
  same-cut : (board : Board) → LowBoard board → (i : ℕ)
      → cut_by board (variable n i) these (get_or board i full) ≡ cut_by board (variable n i) all (get_or board i full)
      → cut_by board (variable n i) fewer (get_or board i full) ≡ cut_by board (variable n i) all (get_or board i full)
  same-cut board h i e =
      let s = get_or board i full in
      let small = every-get_d i full (lit< tt) h in
      let p : Polynomial = variable n i in
      let above : PartOf (cut_by board p all s) (cut_by board p fewer s) = cut_by-wider (board-itself board) h p (some-fewer f) low (part-refl s) in
      let below : PartOf (cut_by board p fewer s) (cut_by board p all s) = rw e at (cut_by-wider (board-itself board) h p (some-fewer g) lower (part-refl s)) in
      parts-equal (cut_by-below board p fewer s small) (cut_by-below board p all s small) below above

  pub same-turns : (board : Board) → LowBoard board → (i k : ℕ) → RestTurns n all these board i k → turns n fewer board i k ≡ turns n all board i k
  unfolding turns turn RestTurns
  same-turns board h i zero r = refl
  same-turns board h i (suc k) r =
      ap (λ (s : ℕ). turns n fewer (set board i s) (suc i) k) (same-cut board h i r.0)
      ∙ same-turns (turn n all board i) (turn_low n all board i h) (suc i) k r.1

pub turns-stay-low : (n : ℕ) (all : List Atom) (board : Board) → LowBoard board → (i k : ℕ) → LowBoard (turns n all board i k)
unfolding turns
turns-stay-low n all board h i zero = h
turns-stay-low n all board h i (suc k) = turns-stay-low n all (turn n all board i) (turn_low n all board i h) (suc i) k

-- Of pairs fewer atoms find no more.
module _ (n : ℕ) {all fewer : List Atom} (filled : Every Filled all) (f : Some all fewer) where
  pub same-idle : (board : Board) (i k : ℕ) {l : List SignSet} → Every (λ (s : SignSet). s < 8) l → search_board n all board i k l ≡ none
      → search_board n fewer board i k l ≡ none
  unfolding search_board sets_or
  same-idle board i zero h e = refl
  same-idle board i (suc k) every_none e = refl
  same-idle board i (suc k) (every {a = s} {l = later} h hs) e =
      let idle = board-none n all board i k s later e in
      let here : first_cut s (tries board (variable n i) fewer) ≡ none = parts-cut-none s h
      (weaker-every (tries-wider (board-itself board) (variable n i) (some-fewer f) filled) (none-cuts s (tries board (variable n i) all) idle.0)) in
      let rest = same-idle board (suc i) k hs idle.1 in
      rw (here, rest)

module _ (n : ℕ) {all fewer these : List Atom} (filled : Every Filled all) (low : LowAtoms all) (lower : LowAtoms fewer) (f : Some all fewer)
    (g : Some fewer these) where
  same-further : (still : Bool) (few many : Board → ℕ) {next : Board} → LowBoard next → {Rest : Type 0} → RestFurther still (search_board n all next 0 n next) Rest
      → (Rest → few next ≡ many next)
      → unless_still still (search_board n fewer next 0 n next) next (λ (b : Board). few b) ≡ unless_still still (search_board n all next 0 n next) next (λ (b : Board). many b)
  unfolding unless_still RestFurther
  same-further true few many {next} h idle same = rw (same-idle n filled f next 0 n h idle, idle)
  same-further false few many h rest same = same rest

  -- So the rounds are as many.
  pub same-rounds : (k : ℕ) (board : Board) → LowBoard board → RestRounds n all these k board → turned_rounds n fewer k board ≡ turned_rounds n all k board
  unfolding turned_rounds RestRounds
  same-rounds zero board h r = refl
  same-rounds (suc k) board h r =
      let next = turns n all board 0 n in
      let low-next = turns-stay-low n all board h 0 n in
      rw (same-turns n low lower f g board h 0 n r.0)
      (ap suc (same-further (same_sets board next) (turned_rounds n fewer k) (turned_rounds n all k) low-next r.1 (λ rest. same-rounds k next low-next rest)))

-- ---- Step 5: the run over the other atoms, without one that is no variable's.

pub same_start : (n : ℕ) (kept : List Atom) (a : Atom) (later : List Atom) → which n a.polynomial ≡ none → (board : Board)
    → placed_all n (kept ++ (a ∷ later)) board ≡ placed_all n (kept ++ later) board
unfolding placed_all placed
same_start n [] a later e board = ap (λ (o : Option ℕ). placed_all n later (placed o a.set board)) e
same_start n (b ∷ kept) a later e board = same_start n kept a later e (placed (which n b.polynomial) b.set board)

one-atom-more : (n : ℕ) (kept : List Atom) (a : Atom) (later : List Atom) → which n a.polynomial ≡ none
    → length (non_variable n (kept ++ (a ∷ later))) ≡ suc (length (non_variable n (kept ++ later)))
unfolding non_variable unless_variable
one-atom-more n [] a later e = ap (λ (o : Option ℕ). length (unless_variable o a (non_variable n later))) e
one-atom-more n (b ∷ kept) a later e = by-which (which n b.polynomial) _ _ (one-atom-more n kept a later e)
  where
    by-which : (o : Option ℕ) (l m : List Atom) → length l ≡ suc (length m) → length (unless_variable o b l) ≡ suc (length (unless_variable o b m))
    by-which none l m h = ap suc h
    by-which (some i) l m h = h

-- If the common run over all remaining atoms rests on others than the one at hand, the run without it takes as many rounds.
pub common-run : (n : ℕ) (l : List Atom) {st : State} → run n l ≡ settled st → (kept : List Atom) (a : Atom) (later : List Atom)
    → Some (carried n st.board l st.atoms) (kept ++ (a ∷ later)) → which n a.polynomial ≡ none
    → (these : List Atom) → Some (non_variable n (kept ++ later)) these
    → let su = start n (kept ++ (a ∷ later)) in RestRounds n su.atoms these (enough su) su.board
    → run_count n (kept ++ later) ≡ run_count n (kept ++ (a ∷ later))
unfolding run_count start enough
common-run n l e kept a later f no-variable these g rest =
    let all : State = start n (kept ++ (a ∷ later)) in
    let fewer : State = start n (kept ++ later) in
    let t = afresh-start n l e f in
    let u = afresh-start n l e (some-without kept a later f) in
    let boards : all.board ≡ fewer.board = same_start n kept a later no-variable (replicate n full) in
    let some : Some all.atoms fewer.atoms = non_variable-some n (some-append (all_there kept) (not_there (all_there later))) in
    let more : enough all ≡ enough fewer + 2 = omega (arith, ap length boards, one-atom-more n kept a later no-variable) in
    let same : turned_rounds n fewer.atoms (enough all) all.board ≡ turned_rounds n all.atoms (enough all) all.board =
    same-rounds n (some-every t.lists (settled-filled t.still)) (some-low t.lists t.still.low.atoms) (some-low u.lists u.still.low.atoms) some g (enough all) all.board
    (start-low n (kept ++ (a ∷ later))) rest in
    sym (more-rounds-begin-no-more n 2 fewer) ∙ ap (λ (k : ℕ). begun n k fewer) (sym more) ∙ counted-by-turns u (enough all)
    ∙ ap (turned_rounds n fewer.atoms (enough all)) (sym boards) ∙ same ∙ sym (counted-by-turns t (enough all))
