-- Request #108: the number of rounds that the answer returns is at most 2(16 + 64) + 1 = 161, for every accepted block.
-- The lists that step 2 leaves have no polynomial twice, and all are normal forms of the table: at most 64 atoms. A run over k non-variable atoms and
-- n variables takes at most 2(n + k) + 1 rounds (`ending_laws/Rounds: at-most-for-list`).
use Rattle.std.specs.Prelude.{◌≡◌, Bool, true, false, length}
use Rattle.std.proofs.Math.Path.{refl}
use Rattle.std.proofs.Common.{sym, ap, ◌∙◌, subst, arith, length-append}
use mathlib.Core.List.{List, [], ◌∷◌, ◌++◌, map}
use mathlib.Core.List.Memᴰ.{head as here}
use mathlib.Core.List.Memᴰ.{tail as later}
use mathlib.Core.List.{Memᴰ as Member}
use Rattle.std.proofs.Math.Option.{Option, none, some}
use Prim.Native.Nat.{ℕ, zero, suc, ◌+◌, ◌*◌, ◌≤◌, max, zero-le}
use Rattle.std.proofs.Math.Nat.{max-le}
use Rattle.std.proofs.Math.ListN.{length-map}
use Rattle.rules.specs.Polynomial.{Polynomial, Atom, same, which}
use Rattle.rules.specs.Rounds.{Outcome, contradiction, settled, unless_variable, non_variable, run, carried}
use Rattle.rules.specs.Formula.{end, atom, Node, leaf, all_of, any_of}
use Rattle.rules.specs.Level.{Placed, plain, plains, placed_tree, Formula, dual, atoms_of, ors_of, Entry, fails, joins, stays, enter, Walk, Tidied, broken, tidied, tidy, kept_unless, implied, inner_all}
use Rattle.rules.specs.Level.{carry, and_rule, or_rule, gather}
use Rattle.rules.specs.Count.{run_count, removal_count, CountAgain, sweep_count, outcome_count, tidy_count, settle_count, settled_count, unless_fails, gather_count}
use Rattle.rules.specs.Count.{gathered_count, rule_count, most_rounds}
use Rattle.rules.specs.Block.{Block, Reading, refused, read, read_block}
use Rattle.rules.specs.Limits.{BlockWithin}
use Rattle.rules.specs.Answer.{formula_of, rounds_of, forms_used}
use Rattle.sign_laws.specs.Booleans.{never_both}
use Rattle.sign_laws.specs.Lists.{Every, every_none, every, every_append, every-wider}
use Rattle.level_laws.specs.Same.{same-itself}
use Rattle.ending_laws.specs.Counts.{run-at-most}
use Rattle.removal_laws.specs.Apart.{Other, Apart, none_apart, apart, tidy-apart}
use Rattle.rules.specs.Polynomial.{normal_form}
use Rattle.length_laws.specs.Pigeonhole.{Distinct, none_distinct, distinct, total, pigeonhole}
use Rattle.length_laws.specs.Alternation.{AND, OR, Alternates, no_parts, an_atom, alternates-dual, Child, child, direct-atoms, or-children}
use Rattle.length_laws.specs.Alternation.{TreeAlternates, one_atom, one_and, one_or}
use Rattle.length_laws.specs.Formed.{GivenAt, FormedAt, given-complemented, formed-given}
use Rattle.length_laws.specs.RoundsKeep.{carried-small}
use Rattle.length_laws.specs.LevelKeeps.{EntryFormed, WalkFormed, it_falls, are_still, have_moved, TidiedFormed, is_broken, is_tidied, sweep-formed, tidy-formed, gather-formed}
use Rattle.length_laws.specs.LevelKeeps.{formed-small, carry-formed, enter-result, rule-keeps}
use Rattle.length_laws.specs.Blocks.{tree_placed}
use Rattle.length_laws.specs.FormsUsed.{tree-uses}
use Rattle.length_laws.specs.NeverLonger.{formula-given, used-own, used-never-more}
use Rattle.block_laws.specs.Blocks.{accepted-within}

-- ---- A list without a polynomial twice has at most as many atoms as there are forms.

polynomials : List Atom → List Polynomial
polynomials l = map (λ (a : Atom). a.polynomial) l

not_among : (p : Polynomial) {l : List Atom} → Every (Other p) l → Member p (polynomials l) → ⊥
unfolding polynomials
not_among p every_none x3 = elim x3 [ ]
not_among p (every h hs) (here e) = never_both (subst (λ (q : Polynomial). same p q ≡ true) e (same-itself p)) h.differs
not_among p (every h hs) (later m) = not_among p hs m

all-distinct : {l : List Atom} → Apart l → Distinct (polynomials l)
unfolding polynomials
all-distinct none_apart = none_distinct
all-distinct (apart {a} h hs) = distinct (not_among a.polynomial h) (all-distinct hs)

-- One of the forms, whatever the place.
abbrev Among : List Polynomial → ℕ → Polynomial → Type 0
Among forms place p = Member p forms

among : {forms : List Polynomial} {l : List Placed} → Every (FormedAt (Among forms)) l → Every (λ (p : Polynomial). Member p forms) (polynomials (plains l))
unfolding polynomials
among every_none = every_none
among (every h hs) = every h.form (among hs)

total-ones : {A : Type 0} (l : List A) → total (λ (a : A). 1) l ≡ length l
unfolding total
total-ones [] = refl
total-ones (a ∷ l) = omega (arith, total-ones l)

few-atoms : {forms : List Polynomial} {l : List Placed} → Every (FormedAt (Among forms)) l → Apart (plains l) → length (plains l) ≤ length forms
unfolding polynomials
few-atoms {forms} {l} h d =
    omega (
      arith,
      pigeonhole (λ (p : Polynomial). 1) (all-distinct d) (among h),
      total-ones forms,
      total-ones (polynomials (plains l)),
      length-map (plains l) (λ (a : Atom). a.polynomial),
    )

fewer-unless : (o : Option ℕ) (a : Atom) (rest : List Atom) → length (unless_variable o a rest) ≤ 1 + length rest
unfolding unless_variable
fewer-unless none a rest = omega arith
fewer-unless (some i) a rest = omega arith

non-variable-fewer : (n : ℕ) (l : List Atom) → length (non_variable n l) ≤ length l
unfolding non_variable
non-variable-fewer n [] = zero-le
non-variable-fewer n (a ∷ l) = omega (arith, fewer-unless (which n a.polynomial) a (non_variable n l), non-variable-fewer n l)

-- ---- Steps 2 to 5, over lists of at most k atoms.

abbrev bound : ℕ → ℕ → ℕ
bound n k = 2 * (n + k) + 1

run-bounded : (n k : ℕ) (l : List Atom) → length l ≤ k → run_count n l ≤ bound n k
run-bounded n k l h = omega (arith, run-at-most n l, non-variable-fewer n l)

kept-length : (out : Bool) (a : Placed) (kept : List Placed) → length (kept_unless out a kept) ≤ 1 + length kept
unfolding kept_unless
kept-length true a kept = omega arith
kept-length false a kept = omega (arith, length-append kept (a ∷ []))

removal-bounded : (n k : ℕ) (kept l : List Placed) → length kept + length l ≤ k → removal_count n kept l ≤ bound n k
unfolding removal_count
removal-bounded n k kept [] h = zero-le
removal-bounded n k kept (a ∷ l) h =
    let out = implied n (plains (kept ++ l)) (plain a) in
    max-le (run-bounded n k (plains (kept ++ l)) (omega (arith, length-map (kept ++ l) plain, length-append kept l)))
    (removal-bounded n k (kept_unless out a kept) l (omega (arith, kept-length out a kept)))

-- Step 3 leaves as many atoms.
carry-length : (l : List Placed) (cut : List Atom) → length (carry l cut) ≡ length l
unfolding carry
carry-length [] cut = refl
carry-length (a ∷ l) [] = refl
carry-length (a ∷ l) (c ∷ cut) = ap suc (carry-length l cut)

module _ (forms : List Polynomial) (n : ℕ) where
  -- A way back that counts within the bound, from atoms that are formed.
  record Bounded (d : ℕ) (again : CountAgain) : Type 0 where
    back : (l : List Placed) (ors : List Formula) → Every (FormedAt (Among forms)) l → Every (Child (FormedAt (Among forms)) d) ors → again l ors ≤ bound n (length forms)

  sweep-bounded : {d : ℕ} {l : List Placed} {walk : Walk} (again : CountAgain) → Bounded d again → Every (FormedAt (Among forms)) l → length l ≤ length forms
      → WalkFormed (Among forms) d walk → sweep_count n l walk again ≤ bound n (length forms)
  unfolding sweep_count
  sweep-bounded again b h few it_falls = zero-le
  sweep-bounded {l} again b h few (are_still ors) = removal-bounded n (length forms) [] l (omega arith)
  sweep-bounded {l} again b h few (have_moved {l = new} {ors = left} m ors) = b.back (l ++ new) left (every_append h m) ors

  outcome-bounded : {d : ℕ} {l : List Placed} {ors : List Formula} (again : CountAgain) → Bounded d again → Every (FormedAt (Among forms)) l → length l ≤ length forms
      → (outcome : Outcome) → run n (plains l) ≡ outcome → Every (Child (FormedAt (Among forms)) d) ors → outcome_count n l outcome ors again ≤ bound n (length forms)
  unfolding outcome_count
  outcome-bounded again b h few contradiction e ors = zero-le
  outcome-bounded {l} again b h few (settled st) e ors =
      let cut = carried n st.board (plains l) st.atoms in
      sweep-bounded again b (carry-formed h (carried-small n e (formed-small h))) (omega (arith, carry-length l cut)) (sweep-formed n st ors)

  tidy-bounded : {d : ℕ} {t : Tidied} {ors : List Formula} (again : CountAgain) → Bounded d again → TidiedFormed (Among forms) t → ((m : List Placed) → t ≡ tidied m → Apart (plains m))
      → Every (Child (FormedAt (Among forms)) d) ors → tidy_count n t ors again ≤ bound n (length forms)
  unfolding tidy_count
  tidy-bounded again b is_broken differ ors = zero-le
  tidy-bounded again b (is_tidied {l} h) differ ors =
      let few = few-atoms h (differ l refl) in
      max-le (run-bounded n (length forms) (plains l) few) (outcome-bounded again b h (omega (arith, length-map l plain)) (run n (plains l)) refl ors)

  module _ (own : (p : Polynomial) → Member p forms → normal_form p ≡ p) where
    settle-bounded : (k : ℕ) {d : ℕ} {l : List Placed} {ors : List Formula} → Every (GivenAt (Among forms)) l → Every (Child (FormedAt (Among forms)) d) ors
        → settle_count n k l ors ≤ bound n (length forms)
    unfolding settle_count
    settle-bounded zero l ors = zero-le
    settle-bounded (suc k) {l = atoms} l ors =
        tidy-bounded (λ (m : List Placed) (later : List Formula). settle_count n k m later)
        (record { back = λ m later hs ks. settle-bounded k (every-wider (formed-given (λ place p m. own p m)) hs) ks }) (tidy-formed l) (λ m e. tidy-apart atoms e) ors

    gathered-bounded : {d : ℕ} {l : List Placed} {walk : Walk} → Every (GivenAt (Among forms)) l → WalkFormed (Among forms) d walk → gathered_count n l walk ≤ bound n (length forms)
    unfolding gathered_count settled_count
    gathered-bounded l it_falls = zero-le
    gathered-bounded l (are_still {ors = left} ors) = settle-bounded (1 + inner_all left) l ors
    gathered-bounded l (have_moved {ors = left} new ors) = settle-bounded (1 + inner_all left) (every_append l (every-wider (formed-given (λ place p m. own p m)) new)) ors

    -- ---- The rules.

    unless-bounded : (entry : Entry) {k : ℕ} → k ≤ bound n (length forms) → unless_fails entry k ≤ bound n (length forms)
    unfolding unless_fails
    unless-bounded fails h = zero-le
    unless-bounded (joins l ors) h = h
    unless-bounded (stays kids) h = h

    gather-bounded : {d : ℕ} (count : Formula → ℕ) (rule : Formula → Formula) → ((f : Formula) → Child (GivenAt (Among forms)) d f → count f ≤ bound n (length forms))
        → {ors : List Formula} → Every (Child (GivenAt (Among forms)) d) ors → gather_count count rule ors ≤ bound n (length forms)
    unfolding gather_count
    gather-bounded count rule h every_none = zero-le
    gather-bounded count rule h (every {a = f} k ks) = max-le (h f k) (unless-bounded (enter (rule f)) (gather-bounded count rule h ks))

    by-children : {d : ℕ} {kids : Formula} → ((f : Formula) → Child (GivenAt (Among forms)) d f → EntryFormed (Among forms) d (enter (or_rule n d f)))
        → ((f : Formula) → Child (GivenAt (Among forms)) d f → rule_count n d (dual f) ≤ bound n (length forms)) → Alternates (GivenAt (Among forms)) AND d kids
        → rule_count n (suc d) kids ≤ bound n (length forms)
    unfolding rule_count
    by-children {d} enters counts kids =
        max-le (gather-bounded (λ (f : Formula). rule_count n d (dual f)) (or_rule n d) counts (or-children kids))
        (gathered-bounded (direct-atoms kids) (gather-formed (or_rule n d) enters (or-children kids)))

    pub rule-bounded : (d : ℕ) {kids : Formula} → Alternates (GivenAt (Among forms)) AND d kids → rule_count n (suc d) kids ≤ bound n (length forms)
    unfolding or_rule
    rule-bounded zero kids = by-children (λ f h. elim h [ ]) (λ f h. elim h [ ]) kids
    rule-bounded (suc d) kids = by-children enters (λ f h. counts f h (λ g kept. rule-bounded d kept)) kids
      where
        enters : (f : Formula) → Child (GivenAt (Among forms)) (suc d) f → EntryFormed (Among forms) (suc d) (enter (or_rule n (suc d) f))
        enters f (child h) = enter-result (λ place p m. own p m) (rule-keeps (λ place p m. own p m) n d (alternates-dual given-complemented h))

        counts : (f : Formula) → Child (GivenAt (Among forms)) (suc d) f → ((g : Formula) → Alternates (GivenAt (Among forms)) AND d g → rule_count n (suc d) g ≤ bound n (length forms))
            → rule_count n (suc d) (dual f) ≤ bound n (length forms)
        counts f (child h) below = below (dual f) (alternates-dual given-complemented h)

    tree-bounded : {tree : Node Placed} → TreeAlternates (GivenAt (Among forms)) 5 tree → most_rounds n tree ≤ bound n (length forms)
    unfolding most_rounds
    tree-bounded (one_atom h) = rule-bounded 5 (an_atom h no_parts)
    tree-bounded (one_and kids) = rule-bounded 5 kids
    tree-bounded (one_or kids) = rule-bounded 5 (alternates-dual given-complemented kids)

-- ---- A block.

-- With n variables and m polynomials, at most 2(n + m) + 1 rounds.
pub rounds-at-most : (given : Block) → BlockWithin given
    → most_rounds given.variables (placed_tree (formula_of given)) ≤ 2 * (given.variables + length given.table) + 1
rounds-at-most given h =
    let forms = forms_used (formula_of given) in
    let placed = tree_placed {Q = GivenAt (Among forms)} (λ k a l e g. record { small = g.small; form = g.form }) (tree-uses (formula-given given h)) in
    omega (arith, tree-bounded forms given.variables (used-own given h) placed, used-never-more given h)

-- At most 161.
pub rounds-at-most-161 : (given : Block) → BlockWithin given → most_rounds given.variables (placed_tree (formula_of given)) ≤ 161
rounds-at-most-161 given h = omega (arith, rounds-at-most given h, h.variables, h.polynomials)

-- For every byte string: an accepted block's number is at most 161, and a refusal's is 0.
pub few-rounds : (bytes : List ℕ) → rounds_of (read_block bytes) ≤ 161
unfolding rounds_of
few-rounds bytes = by-reading (read_block bytes) refl
  where
    by-reading : (reading : Reading Block) → read_block bytes ≡ reading → rounds_of reading ≤ 161
    by-reading (refused number) e = zero-le
    by-reading (read given stream) e = rounds-at-most-161 given (accepted-within bytes e)
