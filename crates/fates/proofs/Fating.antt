-- What becomes of the atoms, by the merged list, the atoms behind its last empty one, and their rounds.
use mathlib.Core.Path.{◌≡◌, sym, ap, ◌∙◌, subst}
use mathlib.Core.Bool.{Bool, true, false, true≢false}
use mathlib.Core.List.{List, [], ◌∷◌, ◌++◌}
use Prim.Native.Nat.{ℕ, suc, ◌+◌, ◌-◌, ◌%◌, ◌<◌, ◌≤◌}
use native.Mathlib.Omega.{arith}
use lib.Dec.{eqb}
use borrow.Author.Tests.{eq-eqb}
use lib.ListN.{length, get_or, take, drop, length-drop, take-append-drop}
use lib.Seq.{take_all, drop-cons, get_or-drop}
use Rattle.rules.specs.Signs.{empty}
use Rattle.rules.specs.Polynomial.{Atom}
use Rattle.rules.specs.Deduce.{any_empty}
use Rattle.rules.specs.Rounds.{sets_of, settled, run, carried}
use Rattle.rules.specs.Level.{Placed, plains, carry}
use Rattle.sign_laws.specs.Booleans.{or-first, or-second}
use Rattle.level_laws.specs.Carried.{carried-plain}
use Rattle.removal_laws.specs.Fewer.{Fewer, left_out, all-kept}
use Rattle.removal_laws.specs.Rounds.{LowAtoms}
use Rattle.terms.specs.View.{sets_of as board_of}
use Rattle.table.specs.Table.{Table, Forms, atoms_of}
use Rattle.tape.specs.declared.rows.Row.{Row}
use Rattle.tape.specs.Row.{Lists}
use Rattle.tape.specs.Token.{atom_of, atoms_in}
use Rattle.tape.specs.Entering.{map-append}
use Rattle.round.specs.Views.{state_of}
use Rattle.rounds.specs.Views.{ending}
use Rattle.settled.specs.Remaining.{CarriedFrom}
use Rattle.steps.specs.declared.carrying.Carrying.{Carrying}
use Rattle.steps.specs.Carried.{Carries, LeftBy, Remains}
use Rattle.rules.specs.Reasons.{places_of, join_all, not_full, has_contradiction, fails, failing, leave_out, told_from, carried_clauses, each_reason, each_false, reasons_after}
use Rattle.reason_laws.specs.SaysLess.{fails-by-more}
use Rattle.reason_laws.specs.LeaveOut.{leave_out-map}
use Rattle.reason_laws.specs.Places.{Among, all_among}
use Rattle.reason_laws.specs.Sooner.{reasons_of, told-false, failing-later, failing-empty, failing-by-rounds}
use Rattle.merging.specs.Merged.{Sparse, JoinsAll, NotFull, BehindEmpty}
use Rattle.merging.specs.Slots.{Filled, filled-all, sparse-drop, sparse-few}
use Rattle.leaving.specs.declared.Question.{Question}
use Rattle.leaving.specs.Enough.{enough_if, enough_for, AsksAll, LeavesOut}
use Rattle.fates.specs.declared.Fates.{Fates}
use Rattle.fates.specs.Fated.{FatesOf, all_false, each_told}
use Rattle.fates.proofs.Tokens.{apart-tokens, low-tokens, unempty-tokens}

-- All of a part up to the end.
pub all-later : {row : Row} (m : List ℕ) (b to : ℕ) → to ≡ length m → Lists row (take (to - b) (drop b m)) → Lists row (drop b m)
all-later {row} m b to e h = subst (Lists row) (take_all (to - b) (drop b m) (omega (arith, length-drop b m))) h

later-fewer : (front back : List Placed) → Fewer (plains (front ++ back)) (plains back)
later-fewer [] back = all-kept (plains back)
later-fewer (c ∷ front) back = left_out (later-fewer front back)

empty-token : (t : Table) (front : List Placed) (x : ℕ) (back : List Placed) → x % 8 ≡ 0 → any_empty (sets_of (plains (front ++ (atom_of t x ∷ back)))) ≡ true
unfolding any_empty sets_of atom_of
empty-token t [] x back e = or-first _ (eq-eqb (x % 8) 0 e)
empty-token t (c ∷ front) x back e = or-second (eqb c.set empty) (empty-token t front x back e)

module _ {t : Table} (forms : Forms t) {l : List ℕ} {joins : Row} (joined : JoinsAll t l joins) {unfull : Row} (merged : NotFull t joined.list unfull)
    {b : ℕ} (behind : BehindEmpty merged.list b) where
  abbrev m : List ℕ
  m = merged.list

  abbrev d : List ℕ
  d = drop b merged.list

  abbrev n : ℕ
  n = t.variables

  sparse : Sparse d
  sparse = sparse-drop b m (merged.sparse joined.sparse)

  filled : Filled d
  filled = filled-all d (λ j h e. behind.filled (b + j) (omega arith) (omega (arith, length-drop b m)) (ap (λ (x : ℕ). x % 8) (sym (get_or-drop b m j 0)) ∙ e))

  -- There are at most 64 behind the last empty one.
  pub few : length (drop b merged.list) ≤ 64
  few = sparse-few d sparse filled

  these : not_full (join_all [] (atoms_in t l)) ≡ atoms_in t m
  these = ap not_full joined.is ∙ merged.is

  base : reasons_of n (atoms_in t l) ≡ reasons_after (any_empty (sets_of (plains (atoms_in t m)))) (run n (plains (atoms_in t m))) n (atoms_in t joined.list) (atoms_in t m) (atoms_in t l)
  unfolding reasons_of
  base = rw (these, joined.is)

  split : atoms_in t m ≡ atoms_in t (take b m) ++ atoms_in t d
  split = ap (atoms_in t) (sym (take-append-drop b m)) ∙ map-append (atom_of t) (take b m) d

  low : LowAtoms (plains (atoms_in t (take b m) ++ atoms_in t d))
  low = subst (λ (k : List Placed). LowAtoms (plains k)) split (low-tokens t m)

  -- ---- The rounds over these.
  module _ {most : ℕ} {row : Row} {r : Carrying} (ran : Carries t d most row r) where
    -- A contradiction.
    found : r.contradiction ≡ true → has_contradiction (run n (plains (atoms_in t d))) ≡ true
    unfolding has_contradiction
    found e = rw (ran.is, e)

    fails-there : r.contradiction ≡ true → fails n (plains (atoms_in t d)) ≡ true
    unfolding fails
    fails-there e = or-second (any_empty (sets_of (plains (atoms_in t d)))) (found e)

    pub asks-contradiction : (q : Question) → q.contradiction ≡ true → r.contradiction ≡ true → (later : Row) → Lists later (drop b merged.list) → AsksAll t q later
    unfolding enough_for enough_if
    asks-contradiction q f e later h = record {
      tokens = d;
      lists = h;
      few = few;
      proper = record { apart = apart-tokens forms d sparse filled; afresh = λ z. absurd (true≢false (sym f ∙ z)) };
      enough = rw f (found e);
    }

    named-is : (q : Question) → q.contradiction ≡ true → r.contradiction ≡ true → atoms_in t (leave_out (enough_for t q) d) ≡ failing n (atoms_in t m)
    unfolding enough_for enough_if
    named-is q f e =
        rw f (leave_out-map (atom_of t) (λ (k : List Placed). has_contradiction (run n (plains k))) d)
        ∙ sym (failing-by-rounds n (atoms_in t d) (unempty-tokens t d filled))
        ∙ sym (failing-later n (atoms_in t (take b m)) (atoms_in t d) low (fails-there e)) ∙ ap (failing n) (sym split)

    whole-fails : r.contradiction ≡ true → fails n (plains (atoms_in t m)) ≡ true
    whole-fails e =
        rw split (fails-by-more n (later-fewer (atoms_in t (take b m)) (atoms_in t d)) low (fails-there e))

    pub false-by-rounds : (q : Question) → q.contradiction ≡ true → r.contradiction ≡ true → {named : Row} → LeavesOut t q (drop b merged.list) named → (made : Fates)
        → made.excluded ≡ true → made.carried ≡ named → FatesOf t l made
    false-by-rounds q f e {named} out made flag same = all_false (record {
      flag = flag;
      named = leave_out (enough_for t q) d;
      lists = rw same out.lists;
      is = base ∙ told-false n _ (atoms_in t m) _ (whole-fails e) ∙ ap (λ (k : List Placed). each_false (places_of k) (atoms_in t l)) (sym (named-is q f e));
    })

    -- No contradiction, but an empty set before these.
    not_there : r.contradiction ≡ false → fails n (plains (atoms_in t d)) ≡ false
    unfolding fails has_contradiction
    not_there e = rw ((unempty-tokens t d filled).none, ran.is, e)

    pub false-by-empty : 0 < b → r.contradiction ≡ false → {named : Row} → Lists named (take (b - (b - 1)) (drop (b - 1) merged.list)) → (made : Fates)
        → made.excluded ≡ true → made.carried ≡ named → FatesOf t l made
    unfolding fails atom_of
    false-by-empty some e {named} h made flag same =
        let k : ℕ = b - 1 in
        let x : ℕ = get_or m k 0 in
        let next : b ≡ k + 1 = omega arith in
        let one : b - k ≡ 1 = omega arith in
        let up : suc k ≡ b = omega arith in
        let cons : drop k m ≡ x ∷ d = drop-cons m k 0 (omega (arith, behind.most)) ∙ ap (λ (i : ℕ). x ∷ drop i m) up in
        let listed : take (b - k) (drop k m) ≡ x ∷ [] = rw (one, cons) in
        let parts : atoms_in t m ≡ atoms_in t (take k m) ++ (atom_of t x ∷ atoms_in t d) =
        ap (atoms_in t) (sym (take-append-drop k m) ∙ ap (λ (z : List ℕ). take k m ++ z) cons) ∙ map-append (atom_of t) (take k m) (x ∷ d) in
        let low_parts = subst (λ (z : List Placed). LowAtoms (plains z)) parts (low-tokens t m) in
        let nothing : x % 8 ≡ 0 = behind.last k next in
        let whole : fails n (plains (atoms_in t m)) ≡ true = rw parts (or-first _ (empty-token t (atoms_in t (take k m)) x (atoms_in t d) nothing)) in
        all_false (record {
          flag = flag;
          named = x ∷ [];
          lists = rw same (rw listed at h);
          is = base ∙ told-false n _ (atoms_in t m) _ whole ∙ ap (λ (z : List Placed). each_false (places_of z) (atoms_in t l))
              (ap (failing n) parts ∙ failing-empty n (atoms_in t (take k m)) (atom_of t x) (atoms_in t d) low_parts (low-tokens t (x ∷ d)) nothing (not_there e));
        })

    -- Neither: step 5.
    settles : r.contradiction ≡ false → run n (plains (atoms_in t d)) ≡ settled (state_of t r.state)
    settles e = ran.is ∙ ap (λ (f : Bool). ending f (state_of t r.state)) e

    pub left-from : r.contradiction ≡ false → CarriedFrom t r.state (plains (atoms_in t ran.list))
    left-from e = record {
      given = plains (atoms_in t d);
      settles = settles e;
      distinct = apart-tokens forms d sparse filled;
      variables = ran.variables;
      atoms = ap plains (sym (ran.carries e)) ∙ carried-plain n (atoms_in t d) (state_of t r.state) (settles e);
    }

    pub left_by : r.contradiction ≡ false → LeftBy t r.state row
    left_by e = record { list = ran.list; lists = ran.lists; carries = left-from e }

    pub each-by : b ≤ 0 → r.contradiction ≡ false → {rest : Row} {rounds : ℕ} → Remains t ran.list most rest rounds → (made : Fates)
        → made.excluded ≡ false → made.joined ≡ joins → made.carried ≡ row → made.left ≡ rest → made.state ≡ r.state → FatesOf t l made
    unfolding reasons_after carried_clauses
    each-by low-b e {rest} remains made flag same-joined same-carried same_left same-state =
        let first : b ≡ 0 = omega arith in
        let all : atoms_in t m ≡ atoms_in t d = ap (λ (k : ℕ). atoms_in t (drop k m)) (sym first) in
        let cut : List Atom = carried n (board_of r.state.board) (plains (atoms_in t d)) (atoms_of t r.state.atoms) in
        each_told (record {
          flag = flag;
          merged = joined.list;
          carrying = ran.list;
          staying = remains.list;
          joined_lists = rw same-joined joined.lists;
          carried_lists = rw same-carried ran.lists;
          left_lists = rw same_left remains.lists;
          few = omega (arith, ran.same, few);
          from = rw same-state (left-from e);
          among = subst (Among (atoms_in t l)) (ap (λ (k : List Placed). carry k cut) (these ∙ all) ∙ ran.carries e) (all_among (atoms_in t l) cut);
          left = remains.is;
          is = base ∙ rw (all, (unempty-tokens t d filled).none, settles e)
              (ap (λ (k : List Placed). each_reason (atoms_in t joined.list) (told_from n [] k) (atoms_in t l)) (ran.carries e));
        })
