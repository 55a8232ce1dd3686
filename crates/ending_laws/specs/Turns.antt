-- The way back to step 2 ends: each takes at least one AND or OR out of the OR children, so the turns of `settled_down` never run out.
-- 01, "A level", step 4: "If any did, go to 2."
use Rattle.std.specs.Prelude.{◌≡◌, Bool, true, false, List, [], ◌∷◌, ◌++◌, ℕ, zero, suc, ◌+◌, ◌≤◌, ◌<◌}
use Rattle.std.proofs.Math.Path.{refl}
use Rattle.std.proofs.Common.{◌∙◌, zero-le, arith, le_refl}
use Rattle.std.proofs.Math.Option.{Option, none, some}
use Rattle.rules.specs.Rounds.{State, Outcome, contradiction, settled, run}
use Rattle.rules.specs.Formula.{end, atom, and, or, is_end}
use Rattle.rules.specs.Level.{Placed, plains, Formula, atoms_of, ors_of, Entry, fails, joins, stays, joins_if, enter, Walk, falls, still, moved, add, Tidied, broken, tidied, tidy}
use Rattle.rules.specs.Level.{unless_dropped, pruned_if, prune, add_pruned, sweep, Again, after_sweep, after_rounds, after_tidy, settle, inner, inner_all, settled_down}

-- ---- The inner nodes of the OR children.

inner-append : (ors later : List Formula) → inner_all (ors ++ later) ≡ inner_all ors + inner_all later
unfolding inner_all
inner-append [] later = omega arith
inner-append (child ∷ ors) later = omega (arith, inner-append ors later)

inner-ors : (kids : Formula) → inner_all (ors_of kids) ≤ inner kids
unfolding inner_all ors_of inner
inner-ors end = le_refl 0
inner-ors (atom a rest) = inner-ors rest
inner-ors (and kids rest) = omega (arith, inner-ors kids, inner-ors rest, inner-append (ors_of kids) (ors_of rest))
inner-ors (or kids rest) = omega (arith, inner-ors rest)

-- What an entry leaves of a child that has at most m inner nodes: no more, a child that stays not being counted itself.
LeavesAtMost : ℕ → Entry → Type 0
LeavesAtMost m fails = Unit {0}
LeavesAtMost m (joins l ors) = inner_all ors ≤ m
LeavesAtMost m (stays child) = inner child ≤ m

joins_if-leaves : (one : Bool) (m : ℕ) (l : List Placed) (ors : List Formula) (child : Formula) → inner_all ors ≤ m → inner child ≤ m
    → LeavesAtMost m (joins_if one l ors child)
unfolding LeavesAtMost joins_if
joins_if-leaves true m l ors child h i = h
joins_if-leaves false m l ors child h i = i

enter-leaves : (m : ℕ) (child : Formula) → inner child ≤ m → LeavesAtMost m (enter child)
unfolding LeavesAtMost enter inner inner_all
enter-leaves m end h = tt
enter-leaves m (atom a rest) h = joins_if-leaves (is_end rest) m (a ∷ []) [] (atom a rest) zero-le h
enter-leaves m (and kids rest) h = joins_if-leaves (is_end rest) m (atoms_of kids) (ors_of kids) (and kids rest) (omega (arith, inner-ors kids)) h
enter-leaves m (or kids rest) h = h

-- A walk over children with m inner nodes, themselves counted, leaves no more; and fewer if a child joined or was spliced.
unfoldable pub Fewer : ℕ → Walk → Type 0
Fewer m falls = Unit {0}
Fewer m (still ors) = inner_all ors ≤ m
Fewer m (moved l ors) = inner_all ors < m

add-fewer : (entry : Entry) (walk : Walk) (m later : ℕ) → LeavesAtMost m entry → Fewer later walk → Fewer (1 + m + later) (add entry walk)
unfolding LeavesAtMost Fewer add inner_all
add-fewer fails walk m later h f = tt
add-fewer (joins l ors) falls m later h f = tt
add-fewer (joins l ors) (still rest) m later h f = omega (arith, inner-append ors rest)
add-fewer (joins l ors) (moved new rest) m later h f = omega (arith, inner-append ors rest)
add-fewer (stays child) falls m later h f = tt
add-fewer (stays child) (still rest) m later h f = omega arith
add-fewer (stays child) (moved new rest) m later h f = omega arith

fewer-of-more : (walk : Walk) (m k : ℕ) → m ≤ k → Fewer m walk → Fewer k walk
unfolding Fewer
fewer-of-more falls m k h f = tt
fewer-of-more (still ors) m k h f = omega arith
fewer-of-more (moved new ors) m k h f = omega arith

-- ---- Step 4 takes only atoms out of a child.

AtMost : ℕ → Option Formula → Type 0
AtMost m none = Unit {0}
AtMost m (some child) = inner child ≤ m

unless_dropped-most : (f : Formula → Formula) (m k : ℕ) → ((rest : Formula) → inner rest ≤ m → inner (f rest) ≤ k)
    → (pruned : Option Formula) → AtMost m pruned → AtMost k (unless_dropped f pruned)
unfolding AtMost unless_dropped
unless_dropped-most f m k h none most = tt
unless_dropped-most f m k h (some rest) most = h rest most

pruned_if-most : (m : ℕ) (drops is_empty : Bool) (a : Placed) (pruned : Option Formula) → AtMost m pruned → AtMost m (pruned_if drops is_empty a pruned)
unfolding AtMost pruned_if inner
pruned_if-most m true is_empty a pruned most = tt
pruned_if-most m false true a pruned most = most
pruned_if-most m false false a pruned most = unless_dropped-most (atom a) m m (λ rest h. h) pruned most

prune-most : (n : ℕ) (st : State) (child : Formula) → AtMost (inner child) (prune n st child)
unfolding AtMost prune inner
prune-most n st end = le_refl 0
prune-most n st (and kids rest) = unless_dropped-most (and kids) (inner rest) _ (λ left h. omega arith) (prune n st rest) (prune-most n st rest)
prune-most n st (or kids rest) = unless_dropped-most (or kids) (inner rest) _ (λ left h. omega arith) (prune n st rest) (prune-most n st rest)
prune-most n st (atom a rest) = pruned_if-most (inner rest) _ _ _ (prune n st rest) (prune-most n st rest)

add_pruned-fewer : (pruned : Option Formula) (walk : Walk) (m later : ℕ) → AtMost m pruned → Fewer later walk → Fewer (1 + m + later) (add_pruned pruned walk)
unfolding AtMost add_pruned
add_pruned-fewer none walk m later most f = fewer-of-more walk later _ (omega arith) f
add_pruned-fewer (some child) walk m later most f = add-fewer (enter child) walk m later (enter-leaves m child most) f

-- A step 4 that sends back to step 2 leaves OR children with fewer inner nodes than it found.
pub sweep-fewer : (n : ℕ) (st : State) (ors : List Formula) → Fewer (inner_all ors) (sweep n st ors)
unfolding Fewer sweep inner_all
sweep-fewer n st [] = le_refl 0
sweep-fewer n st (child ∷ later) =
    add_pruned-fewer (prune n st child) (sweep n st later) (inner child) (inner_all later) (prune-most n st child) (sweep-fewer n st later)

-- ---- So two ways back that agree on children with fewer inner nodes give the same.

module _ (n : ℕ) (ors : List Formula) (f g : Again) (agree : (m : List Placed) (left : List Formula) → inner_all left < inner_all ors → f m left ≡ g m left) where
  after_sweep-same : (l : List Placed) (walk : Walk) → Fewer (inner_all ors) walk → after_sweep n l walk f ≡ after_sweep n l walk g
  unfolding Fewer after_sweep
  after_sweep-same l falls fewer = refl
  after_sweep-same l (still left) fewer = refl
  after_sweep-same l (moved new left) fewer = agree (l ++ new) left fewer

  after_rounds-same : (l : List Placed) (outcome : Outcome) → after_rounds n l outcome ors f ≡ after_rounds n l outcome ors g
  unfolding after_rounds
  after_rounds-same l contradiction = refl
  after_rounds-same l (settled st) = after_sweep-same _ (sweep n st ors) (sweep-fewer n st ors)

  after_tidy-same : (t : Tidied) → after_tidy n t ors f ≡ after_tidy n t ors g
  unfolding after_tidy
  after_tidy-same broken = refl
  after_tidy-same (tidied l) = after_rounds-same l (run n (plains l))

-- Any two numbers of turns above the inner nodes of the OR children give the same.
pub enough_turns : (n k j : ℕ) (l : List Placed) (ors : List Formula) → inner_all ors < k → inner_all ors < j → settle n k l ors ≡ settle n j l ors
unfolding settle
enough_turns n zero j l ors h i = absurd (omega arith)
enough_turns n (suc k) zero l ors h i = absurd (omega arith)
enough_turns n (suc k) (suc j) l ors h i =
    after_tidy-same n ors _ _ (λ m left fewer. enough_turns n k j m left (omega arith) (omega arith)) (tidy l)

-- More turns change nothing.
pub more-turns-change-nothing : (n k : ℕ) (l : List Placed) (ors : List Formula) → settle n (k + (1 + inner_all ors)) l ors ≡ settled_down n l ors
unfolding settled_down
more-turns-change-nothing n k l ors = enough_turns n _ _ l ors (omega arith) (omega arith)

-- Steps 2 to 6 as 01 says them, with no number of turns: the way back is the steps themselves.
pub no-turn-missing : (n : ℕ) (l : List Placed) (ors : List Formula) → settled_down n l ors ≡ after_tidy n (tidy l) ors (settled_down n)
unfolding settle settled_down
no-turn-missing n l ors =
    enough_turns n (1 + inner_all ors) (suc (inner_all ors)) l ors (omega arith) (omega arith)
    ∙ after_tidy-same n ors _ _ (λ m left fewer. enough_turns n (inner_all ors) (1 + inner_all left) m left fewer (omega arith)) (tidy l)
