-- The AND rule, the OR rule and `simplify` keep the truth of a formula, for each way to give polynomials a sign that the deductions respect;
-- and the verdicts ALWAYS and UNSATISFIABLE are right for each such way.
use Rattle.std.specs.Prelude.{◌≡◌, Bool, true, false, ◌&&◌}
use Rattle.std.proofs.Math.Path.{refl, sym, ap}
use Rattle.std.proofs.Common.{◌∙◌, subst}
use Rattle.std.proofs.Math.Bool.{not}
use mathlib.Core.List.{List, [], ◌++◌}
use Prim.Native.Nat.{ℕ, zero, suc, ◌+◌}
use Rattle.rules.specs.Signs.{Sign}
use Rattle.rules.specs.Polynomial.{Polynomial}
use Rattle.rules.specs.Rounds.{Outcome, contradiction, settled, run, carried}
use Rattle.rules.specs.Formula.{end, atom, and, or, Node, leaf, all_of, any_of, is_end, each_atom, each_atom_of}
use Rattle.rules.specs.Level.{Placed, plain, plains, carry, Formula, dual, dual_node, atoms_of, ors_of, Walk, falls, still, moved, gather, Tidied, broken, tidied, tidy, sweep, remove_implied, never}
use Rattle.rules.specs.Level.{Again, after_sweep, after_rounds, after_tidy, settle, inner_all, settled_down, after_gather, and_rule, or_rule, node_if, as_node, simplify}
use Rattle.rules.specs.Meaning.{atom_holds, all_hold, some_hold, holds}
use Rattle.rules.specs.Answer.{Verdict, formula, always, unsatisfiable, if_end, verdict_of}
use Rattle.sign_laws.specs.Booleans.{and_assoc, and-true, and-false, not-not, and-under}
use Rattle.level_laws.specs.Holding.{every, every_append, placed_holds, list_holds, all_parts_hold, some_part_holds, tree_holds, ors_hold, by_end}
use Rattle.level_laws.specs.Holding.{all_apart, parts-hold, complement-holds, all-dual, some_dual, plains-hold}
use Rattle.level_laws.specs.Respects.{Respects}
use Rattle.level_laws.specs.Rounds.{RightOutcome, run-keeps, contradiction-false}
use Rattle.level_laws.specs.Tidy.{tidied_holds, tidy-keeps}
use Rattle.level_laws.specs.Carried.{carry-keeps}
use Rattle.level_laws.specs.Sweep.{walk_holds, gather-keeps, sweep-keeps}
use Rattle.level_laws.specs.Removal.{removal-keeps}

module _ (sign : Polynomial → Sign) where
  -- "the node is false"
  never-holds : all_parts_hold sign never ≡ false
  unfolding all_hold each_atom never
  never-holds = refl

  never-behind : (l : List Placed) → all_parts_hold sign never ≡ list_holds sign l && false
  never-behind l = never-holds ∙ sym (and-false (list_holds sign l))

  -- Atoms that joined count with the list that they joined.
  joined : (l new : List Placed) (ors : List Formula) → list_holds sign (l ++ new) && ors_hold sign ors ≡ list_holds sign l && (list_holds sign new && ors_hold sign ors)
  joined l new ors = rw (every_append (placed_holds sign) l new) (sym (and_assoc (list_holds sign l) (list_holds sign new) (ors_hold sign ors)))

module _ {sign : Polynomial → Sign} {n : ℕ} (ok : Respects sign n) where
  -- ---- Steps 2 to 6, if the way back to step 2 keeps the truth.
  module _ (again : Again) (again-keeps : (l : List Placed) (ors : List Formula) → all_parts_hold sign (again l ors) ≡ list_holds sign l && ors_hold sign ors) where
    after_sweep-keeps : (l : List Placed) (walk : Walk) → all_parts_hold sign (after_sweep n l walk again) ≡ list_holds sign l && walk_holds sign walk
    unfolding after_sweep walk_holds every
    after_sweep-keeps l falls = never-behind sign l
    after_sweep-keeps l (still ors) = parts-hold sign (remove_implied n [] l) ors
        ∙ ap (λ (x : Bool). x && ors_hold sign ors) (removal-keeps ok [] l)
    after_sweep-keeps l (moved new ors) = again-keeps (l ++ new) ors ∙ joined sign l new ors

    after_rounds-keeps : (l : List Placed) (ors : List Formula) (outcome : Outcome) → run n (plains l) ≡ outcome
        → all_parts_hold sign (after_rounds n l outcome ors again) ≡ list_holds sign l && ors_hold sign ors
    unfolding after_rounds
    after_rounds-keeps l ors contradiction e = never-holds sign ∙ sym (ap (λ (x : Bool). x && ors_hold sign ors) (sym (plains-hold sign l) ∙ contradiction-false ok (plains l) e))
    after_rounds-keeps l ors (settled st) e =
        after_sweep-keeps (carry l (carried n st.board (plains l) st.atoms)) (sweep n st ors)
        ∙ ap (λ (x : Bool). x && walk_holds sign (sweep n st ors)) (carry-keeps ok l st e)
        ∙ and-under (list_holds sign l) (walk_holds sign (sweep n st ors)) (ors_hold sign ors)
        (λ h. sweep-keeps ok st (subst (RightOutcome sign n) e (run-keeps ok (plains l) (plains-hold sign l ∙ h))) ors)

    after_tidy-keeps : (result : Tidied) (ors : List Formula) → all_parts_hold sign (after_tidy n result ors again) ≡ tidied_holds sign result && ors_hold sign ors
    unfolding after_tidy tidied_holds
    after_tidy-keeps broken ors = never-holds sign
    after_tidy-keeps (tidied l) ors = after_rounds-keeps l ors (run n (plains l)) refl

  settle-keeps : (k : ℕ) (l : List Placed) (ors : List Formula) → all_parts_hold sign (settle n k l ors) ≡ list_holds sign l && ors_hold sign ors
  unfolding settle
  settle-keeps zero l ors = parts-hold sign l ors
  settle-keeps (suc k) l ors = after_tidy-keeps (λ (m : List Placed) (later : List Formula). settle n k m later) (settle-keeps k) (tidy l) ors
      ∙ ap (λ (x : Bool). x && ors_hold sign ors) (tidy-keeps ok l)

  after_gather-keeps : (l : List Placed) (walk : Walk) → all_parts_hold sign (after_gather n l walk) ≡ list_holds sign l && walk_holds sign walk
  unfolding after_gather settled_down walk_holds
  after_gather-keeps l falls = never-behind sign l
  after_gather-keeps l (still ors) = settle-keeps (1 + inner_all ors) l ors
  after_gather-keeps l (moved new ors) = settle-keeps (1 + inner_all ors) (l ++ new) ors ∙ joined sign l new ors

  -- ---- The rules.

  -- What keeps the truth of AND parts keeps, between complement and exchange, that of OR parts.
  by-dual : (rule : Formula → Formula) → ((kids : Formula) → all_parts_hold sign (rule kids) ≡ all_parts_hold sign kids)
      → (kids : Formula) → some_part_holds sign (dual (rule (dual kids))) ≡ some_part_holds sign kids
  by-dual rule keeps kids = some_dual sign (rule (dual kids)) ∙ ap not (keeps (dual kids) ∙ all-dual sign kids) ∙ not-not (some_part_holds sign kids)

  -- The AND rule keeps the truth.
  pub and_rule-keeps : (d : ℕ) (kids : Formula) → all_parts_hold sign (and_rule n d kids) ≡ all_parts_hold sign kids
  unfolding and_rule
  and_rule-keeps zero kids = refl
  and_rule-keeps (suc d) kids =
      after_gather-keeps (atoms_of kids) (gather (λ (child : Formula). dual (and_rule n d (dual child))) (ors_of kids))
      ∙ ap (λ (x : Bool). list_holds sign (atoms_of kids) && x)
      (gather-keeps sign (λ (child : Formula). dual (and_rule n d (dual child))) (by-dual (and_rule n d) (and_rule-keeps d)) (ors_of kids))
      ∙ sym (all_apart sign kids)

  -- The OR rule keeps the truth.
  pub or_rule-keeps : (d : ℕ) (kids : Formula) → some_part_holds sign (or_rule n d kids) ≡ some_part_holds sign kids
  unfolding or_rule
  or_rule-keeps d kids = by-dual (and_rule n d) (and_rule-keeps d) kids

-- ---- The whole tree.

module _ (sign : Polynomial → Sign) where
  node_if-keeps : (rest kids : Formula) (one : Node Placed) → (rest ≡ end → tree_holds sign one ≡ all_parts_hold sign kids)
      → tree_holds sign (node_if (is_end rest) one kids) ≡ all_parts_hold sign kids
  unfolding node_if holds each_atom_of
  node_if-keeps rest kids one alone = by_end (λ b. tree_holds sign (node_if b one kids) ≡ all_parts_hold sign kids) rest alone refl

  -- "One part: that part. None: true."
  as_node-keeps : (kids : Formula) → tree_holds sign (as_node kids) ≡ all_parts_hold sign kids
  unfolding as_node holds each_atom_of all_hold each_atom
  as_node-keeps end = refl
  as_node-keeps (atom a rest) = node_if-keeps rest (atom a rest) (leaf a) (λ e. rw e (sym (and-true (placed_holds sign a))))
  as_node-keeps (and kids rest) = node_if-keeps rest (and kids rest) (all_of kids) (λ e. rw e (sym (and-true (all_parts_hold sign kids))))
  as_node-keeps (or kids rest) = node_if-keeps rest (or kids rest) (any_of kids) (λ e. rw e (sym (and-true (some_part_holds sign kids))))

  node-dual : (node : Node Placed) → tree_holds sign (dual_node node) ≡ not (tree_holds sign node)
  unfolding dual_node holds each_atom_of
  node-dual (leaf a) = complement-holds sign a
  node-dual (all_of kids) = some_dual sign kids
  node-dual (any_of kids) = all-dual sign kids

module _ {sign : Polynomial → Sign} {n : ℕ} (ok : Respects sign n) where
  -- A simplified formula holds exactly when the formula does.
  pub simplify-keeps : (tree : Node Placed) → tree_holds sign (simplify n tree) ≡ tree_holds sign tree
  unfolding simplify holds each_atom_of all_hold each_atom
  simplify-keeps (leaf a) = as_node-keeps sign (and_rule n 6 (atom a end)) ∙ and_rule-keeps ok 6 (atom a end) ∙ and-true (placed_holds sign a)
  simplify-keeps (all_of kids) = as_node-keeps sign (and_rule n 6 kids) ∙ and_rule-keeps ok 6 kids
  simplify-keeps (any_of kids) = node-dual sign (as_node (and_rule n 6 (dual kids)))
      ∙ ap not (as_node-keeps sign (and_rule n 6 (dual kids)) ∙ and_rule-keeps ok 6 (dual kids) ∙ all-dual sign kids) ∙ not-not (some_part_holds sign kids)

-- ---- The verdicts.

-- What a verdict tells of the truth of a formula.
abbrev pub Tells : Verdict → Bool → Type 0
Tells formula b = Unit {0}
Tells always b = b ≡ true
Tells unsatisfiable b = b ≡ false

-- What the verdict on a node tells is so.
verdict-tells : (sign : Polynomial → Sign) (node : Node Placed) → Tells (verdict_of node) (tree_holds sign node)
unfolding verdict_of if_end holds each_atom_of all_hold each_atom
verdict-tells sign (leaf a) = tt
verdict-tells sign (all_of kids) = by_end (λ b. Tells (if_end b always) (all_parts_hold sign kids)) kids (λ e. rw e refl) tt
verdict-tells sign (any_of kids) = by_end (λ b. Tells (if_end b unsatisfiable) (some_part_holds sign kids)) kids (λ e. rw e refl) tt

module _ {sign : Polynomial → Sign} {n : ℕ} (ok : Respects sign n) where
  verdict-right : (tree : Node Placed) → Tells (verdict_of (simplify n tree)) (tree_holds sign tree)
  verdict-right tree = subst (Tells (verdict_of (simplify n tree))) (simplify-keeps ok tree) (verdict-tells sign (simplify n tree))

  -- A formula with the verdict ALWAYS holds.
  pub verdict-always : (tree : Node Placed) → verdict_of (simplify n tree) ≡ always → tree_holds sign tree ≡ true
  verdict-always tree e = subst (λ (verdict : Verdict). Tells verdict (tree_holds sign tree)) e (verdict-right tree)

  -- A formula with the verdict UNSATISFIABLE does not.
  pub verdict-unsatisfiable : (tree : Node Placed) → verdict_of (simplify n tree) ≡ unsatisfiable → tree_holds sign tree ≡ false
  verdict-unsatisfiable tree e = subst (λ (verdict : Verdict). Tells verdict (tree_holds sign tree)) e (verdict-right tree)
