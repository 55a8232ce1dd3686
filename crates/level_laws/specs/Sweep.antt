-- OR children that come back, from step 1 or from step 4: entering, joining and splicing keep the truth of the OR children,
-- and so does what step 4 drops in view of the atoms, where these hold.
use Rattle.std.specs.Prelude.{◌≡◌, Bool, ◌&&◌, ◌||◌, ℕ, eqb}
use Rattle.std.proofs.Math.Path.{refl, sym, ap, ap₂}
use Rattle.std.proofs.Common.{◌∙◌, eqb-true}
use Rattle.std.proofs.Math.Bool.{true, false}
use mathlib.Core.List.{List, [], ◌∷◌}
use Rattle.std.proofs.Math.Option.{Option, none, some}
use Rattle.rules.specs.Signs.{Sign, SignSet, empty, intersect, inside}
use Rattle.rules.specs.Polynomial.{Polynomial}
use Rattle.rules.specs.Rounds.{State, says_in}
use Rattle.rules.specs.Formula.{end, atom, and, or, is_end, each_atom}
use Rattle.rules.specs.Level.{Placed, plain, with_set, Formula, atoms_of, ors_of, Entry, fails, joins, stays, joins_if, enter, Walk, falls, still, moved, add, gather}
use Rattle.rules.specs.Level.{unless_dropped, pruned_if, prune, add_pruned, sweep}
use Rattle.rules.specs.Meaning.{atom_holds, all_hold, some_hold}
use Rattle.sign_laws.specs.Booleans.{and_assoc, and-swap, and-true, and-false, and-four, or-false}
use Rattle.sign_laws.specs.Sets.{◌In◌, has-intersect, in-inside}
use Rattle.level_laws.specs.Holding.{every, every_append, placed_holds, list_holds, all_parts_hold, some_part_holds, ors_hold, by_end, in-atom, empty-fails, all_apart}
use Rattle.level_laws.specs.Respects.{Respects}
use Rattle.level_laws.specs.Rounds.{Right, says_in-right}

-- What an OR child that comes back asks for.
unfoldable pub entry_holds : (Polynomial → Sign) → Entry → Bool
entry_holds sign fails = false
entry_holds sign (joins l ors) = list_holds sign l && ors_hold sign ors
entry_holds sign (stays child) = some_part_holds sign child

-- What a walk over the OR children asks for.
unfoldable pub walk_holds : (Polynomial → Sign) → Walk → Bool
walk_holds sign falls = false
walk_holds sign (still ors) = ors_hold sign ors
walk_holds sign (moved l ors) = list_holds sign l && ors_hold sign ors

-- What is left of an OR child; a dropped one is true.
unfoldable pub pruned_holds : (Polynomial → Sign) → Option Formula → Bool
pruned_holds sign none = true
pruned_holds sign (some child) = some_part_holds sign child

module _ (sign : Polynomial → Sign) where
  -- ---- Entering.

  joins_if-keeps : (rest : Formula) (l : List Placed) (ors : List Formula) (child : Formula)
      → (rest ≡ end → list_holds sign l && ors_hold sign ors ≡ some_part_holds sign child) → entry_holds sign (joins_if (is_end rest) l ors child) ≡ some_part_holds sign child
  unfolding joins_if entry_holds
  joins_if-keeps rest l ors child alone = by_end (λ b. entry_holds sign (joins_if b l ors child) ≡ some_part_holds sign child) rest alone refl

  enter-keeps : (child : Formula) → entry_holds sign (enter child) ≡ some_part_holds sign child
  unfolding enter entry_holds some_hold each_atom every
  enter-keeps end = refl
  enter-keeps (atom a rest) = joins_if-keeps rest (a ∷ []) [] (atom a rest)
      (λ e. and-true (placed_holds sign a && true) ∙ and-true (placed_holds sign a) ∙ (rw e (sym (or-false (placed_holds sign a)))))
  enter-keeps (and kids rest) = joins_if-keeps rest (atoms_of kids) (ors_of kids) (and kids rest)
      (λ e. sym (all_apart sign kids) ∙ (rw e (sym (or-false (all_parts_hold sign kids)))))
  enter-keeps (or kids rest) = refl

  add-keeps : (entry : Entry) (walk : Walk) → walk_holds sign (add entry walk) ≡ entry_holds sign entry && walk_holds sign walk
  unfolding walk_holds add entry_holds every
  add-keeps fails walk = refl
  add-keeps (joins l ors) falls = sym (and-false (list_holds sign l && ors_hold sign ors))
  add-keeps (joins l ors) (still later) = rw (every_append (some_part_holds sign) ors later) (and_assoc (list_holds sign l) (ors_hold sign ors) (ors_hold sign later))
  add-keeps (joins l ors) (moved m later) = rw (every_append (placed_holds sign) l m, every_append (some_part_holds sign) ors later)
      (and-four (list_holds sign l) (list_holds sign m) (ors_hold sign ors) (ors_hold sign later))
  add-keeps (stays child) falls = sym (and-false (some_part_holds sign child))
  add-keeps (stays child) (still later) = refl
  add-keeps (stays child) (moved m later) = and-swap (list_holds sign m) (some_part_holds sign child) (ors_hold sign later)

  enters : (child : Formula) (walk : Walk) → walk_holds sign (add (enter child) walk) ≡ some_part_holds sign child && walk_holds sign walk
  enters child walk = add-keeps (enter child) walk ∙ ap (λ (x : Bool). x && walk_holds sign walk) (enter-keeps child)

  -- Step 1 keeps the truth of the OR children, if the OR rule does.
  pub gather-keeps : (or_rule : Formula → Formula) → ((child : Formula) → some_part_holds sign (or_rule child) ≡ some_part_holds sign child) → (ors : List Formula)
      → walk_holds sign (gather or_rule ors) ≡ ors_hold sign ors
  unfolding gather walk_holds every
  gather-keeps or_rule keeps [] = refl
  gather-keeps or_rule keeps (child ∷ later) = enters (or_rule child) (gather or_rule later)
      ∙ ap₂ (λ (x y : Bool). x && y) (keeps child) (gather-keeps or_rule keeps later)

  -- ---- Pruning.

  unless_dropped-keeps : (f : Formula → Formula) (b : Bool) → ((rest : Formula) → some_part_holds sign (f rest) ≡ b || some_part_holds sign rest) → (rest : Option Formula)
      → pruned_holds sign (unless_dropped f rest) ≡ b || pruned_holds sign rest
  unfolding unless_dropped pruned_holds
  unless_dropped-keeps f true h none = refl
  unless_dropped-keeps f false h none = refl
  unless_dropped-keeps f b h (some rest) = h rest

  pruned_if-keeps : (is_inside is_empty : Bool) (a cut : Placed) (rest : Option Formula) → (is_inside ≡ true → placed_holds sign a ≡ true)
      → (is_empty ≡ true → placed_holds sign cut ≡ false) → placed_holds sign cut ≡ placed_holds sign a
      → pruned_holds sign (pruned_if is_inside is_empty cut rest) ≡ placed_holds sign a || pruned_holds sign rest
  unfolding pruned_if pruned_holds some_hold each_atom
  pruned_if-keeps true is_empty a cut rest f g e = rw (f refl)
  pruned_if-keeps false true a cut rest f g e = rw (← e, g refl)
  pruned_if-keeps false false a cut rest f g e = unless_dropped-keeps (atom cut) (placed_holds sign a) (λ q. rw e) rest

  -- An atom keeps its truth when it is cut by a set that has the sign of its polynomial.
  cut_holds : (a : Placed) (s : SignSet) → sign a.polynomial In s
      → placed_holds sign (with_set a (intersect a.set s)) ≡ placed_holds sign a
  unfolding atom_holds
  cut_holds a s h = has-intersect (sign a.polynomial) a.set s ∙ ap (λ (x : Bool). placed_holds sign a && x) h.is ∙ and-true (placed_holds sign a)

module _ {sign : Polynomial → Sign} {n : ℕ} (ok : Respects sign n) (st : State) (right : Right sign n st) where
  prune-keeps : (child : Formula) → pruned_holds sign (prune n st child) ≡ some_part_holds sign child
  unfolding prune pruned_holds some_hold each_atom
  prune-keeps end = refl
  prune-keeps (and kids rest) = unless_dropped-keeps sign (and kids) (all_parts_hold sign kids) (λ q. refl) (prune n st rest)
      ∙ ap (λ (x : Bool). all_parts_hold sign kids || x) (prune-keeps rest)
  prune-keeps (or kids rest) = unless_dropped-keeps sign (or kids) (some_part_holds sign kids) (λ q. refl) (prune n st rest)
      ∙ ap (λ (x : Bool). some_part_holds sign kids || x) (prune-keeps rest)
  prune-keeps (atom a rest) =
      let said : SignSet = says_in n st a.polynomial in
      let true-sign : sign a.polynomial In said = says_in-right ok st a.polynomial right in
      let cut : Placed = with_set a (intersect a.set said) in
      pruned_if-keeps sign (inside said a.set) (eqb (intersect a.set said) empty) a cut (prune n st rest)
      (λ e. in-atom sign (plain a) (in-inside said a.set e true-sign)) (λ e. empty-fails sign (plain cut) (eqb-true (intersect a.set said) empty e))
      (cut_holds sign a said true-sign)
      ∙ ap (λ (x : Bool). placed_holds sign a || x) (prune-keeps rest)

  add_pruned-keeps : (child : Option Formula) (walk : Walk) → walk_holds sign (add_pruned child walk) ≡ pruned_holds sign child && walk_holds sign walk
  unfolding add_pruned pruned_holds
  add_pruned-keeps none walk = refl
  add_pruned-keeps (some child) walk = enters sign child walk

  -- Step 4 keeps the truth of the OR children where the atoms' state is right.
  pub sweep-keeps : (ors : List Formula) → walk_holds sign (sweep n st ors) ≡ ors_hold sign ors
  unfolding sweep walk_holds every
  sweep-keeps [] = refl
  sweep-keeps (child ∷ later) = add_pruned-keeps (prune n st child) (sweep n st later) ∙ ap₂ (λ (x y : Bool). x && y) (prune-keeps child) (sweep-keeps later)
