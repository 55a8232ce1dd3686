-- Request #102, the original and the shortened block on the same readings: where both answer they answer alike; and where the original answers, the short
-- one does too if 2^63 is let pass as a product or running sum, or if no polynomial of the original's tree is negated in its normal form.
use Rattle.std.specs.Prelude.{◌≡◌, Bool, false, ◌&&◌, List, [], ◌∷◌, ◌++◌, map, ◌⊎◌, ℕ, suc, ◌-◌, ◌^◌, ◌<◌, ℤ, length}
use Rattle.std.proofs.Math.Path.{refl, sym, ap, subst}
use Rattle.std.proofs.Common.{◌∙◌, inl, inr, arith}
use Rattle.std.proofs.Math.Bool.{true}
use mathlib.Core.List.Memᴰ.{head as here}
use mathlib.Core.List.Memᴰ.{map as member-mapped}
use mathlib.Core.List.Memᴰ.{of_map as member-of-map}
use mathlib.Core.List.Memᴰ.{tail as later}
use mathlib.Core.List.{Memᴰ as Member}
use mathlib.Core.List.Memᴰ.{append_cases}
use mathlib.Core.List.Memᴰ.{append_left}
use mathlib.Core.List.Memᴰ.{append_right}
use mathlib.Core.List.Memᴰ.{not-nil}
use Rattle.std.proofs.Math.Option.{Option, none, some, some-injective, none-ne-some}
use Rattle.rules.specs.Polynomial.{Polynomial, Atom, divided, first_is_negative}
use Rattle.rules.specs.Formula.{Parts, end, atom, and, or, Node, leaf, all_of, any_of, each_atom_of, alone, open_formula}
use Rattle.rules.specs.Level.{Placed, plain}
use Rattle.rules.specs.Block.{Block}
use Rattle.rules.specs.Limits.{BlockWithin}
use Rattle.rules.specs.Answer.{formula_of, simplified, new_block}
use Rattle.rules.specs.Meaning.{holds_at, whole_numbers, holds_over}
use Rattle.rules.specs.Evaluate.{steps, all_fit, parts_fit, some_if, evaluate_by, within, fits64}
use Rattle.sign_laws.specs.Booleans.{and_intro, and_first, and_second}
use Rattle.normal_laws.specs.Shape.{normal_form-twice}
use Rattle.rules.specs.Polynomial.{normal_form}
use Rattle.level_laws.specs.Written.{new_block-keeps, new-formula}
use Rattle.length_laws.specs.Alternation.{Join, AND, OR, Alternates, no_parts, an_atom, an_and, an_or, TreeAlternates, one_atom, one_and, one_or, tree-each, tree-alone}
use Rattle.length_laws.specs.Formed.{Given, Formed, FormedAt}
use Rattle.length_laws.specs.LevelKeeps.{simplify-keeps}
use Rattle.length_laws.specs.Blocks.{forms_of, tree-given, tree_placed}
use Rattle.laws.specs.Fractions.{respected-over, whole-holds}
use Rattle.evaluate_laws.specs.Scaled.{normal_form-near, normal_form-fits}

-- ---- The polynomials that a tree names.

unfoldable pub polynomials_of : Parts Atom → List Polynomial
polynomials_of end = []
polynomials_of (atom a rest) = a.polynomial ∷ polynomials_of rest
polynomials_of (and kids rest) = polynomials_of kids ++ polynomials_of rest
polynomials_of (or kids rest) = polynomials_of kids ++ polynomials_of rest

-- A normal form of one of these is its own normal form.
own-form : (all : List Polynomial) (p : Polynomial) → Member p (forms_of all) → normal_form p ≡ p
own-form all p m = let (q, k, e) = member-of-map normal_form all m in ap normal_form (sym e) ∙ normal_form-twice q ∙ e

-- The atoms of a tree have normal forms of these.
given_by : (all : List Polynomial) {forms : List Polynomial} {join : Join} {d : ℕ} {f : Parts Atom} → Alternates (Given forms) join d f
    → ((p : Polynomial) → Member p (polynomials_of f) → Member p all) → Alternates (Given (forms_of all)) join d f
unfolding polynomials_of
given_by all no_parts k = no_parts
given_by all (an_atom {a = a} h hs) k =
    an_atom (record { small = h.small; form = λ h. member-mapped normal_form (k a.polynomial (here refl)) }) (given_by all hs (λ p m. k p (later m)))
given_by all (an_and {kids = kids} {rest = rest} h hs) k =
    an_and (given_by all h (λ p m. k p (append_left (polynomials_of rest) m))) (given_by all hs (λ p m. k p (append_right (polynomials_of kids) m)))
given_by all (an_or {kids = kids} {rest = rest} h hs) k =
    an_or (given_by all h (λ p m. k p (append_left (polynomials_of rest) m))) (given_by all hs (λ p m. k p (append_right (polynomials_of kids) m)))

tree-given-by : {forms : List Polynomial} {tree : Node Atom} → TreeAlternates (Given forms) 5 tree → TreeAlternates (Given (forms_of (polynomials_of (alone tree)))) 5 tree
unfolding polynomials_of open_formula
tree-given-by (one_atom {a} h) = one_atom (record { small = h.small; form = λ k. member-mapped normal_form {l = a.polynomial ∷ []} (here refl) })
tree-given-by (one_and {kids} h) = one_and (given_by (polynomials_of kids ++ []) h (λ p m. append_left [] m))
tree-given-by (one_or {kids} h) = one_or (given_by (polynomials_of kids ++ []) h (λ p m. append_left [] m))

-- Each polynomial of the simplified formula is the normal form of one of the tree's.
pub simplified-from-tree : (given : Block) → BlockWithin given
    → TreeAlternates (Formed (forms_of (polynomials_of (alone (formula_of given))))) 5 (each_atom_of plain (simplified given))
unfolding simplified formula_of
simplified-from-tree given h =
    let all = polynomials_of (alone (formula_of given)) in
    tree-each plain (λ (a : Placed) (k : FormedAt (λ (place : ℕ) (p : Polynomial). Member p (forms_of all)) a). record { small = k.small; form = k.form })
    (simplify-keeps (λ place p m. own-form all p m) given.variables
    (tree_placed (λ k a l e g. record { small = g.small; form = g.form }) (tree-given-by (tree-given given.table given.tree h.tree))))

-- ---- What fits.

in_either : {A B X : Type 0} → A ⊎ B → (A → X) → (B → X) → X
in_either (inl a) f g = f a
in_either (inr b) f g = g b

module _ (readings : List ℤ) where
  each_fits : (fits : ℤ → Bool) (f : Parts Atom) → parts_fit fits readings f ≡ true → (p : Polynomial) → Member p (polynomials_of f) → all_fit fits (steps readings p) ≡ true
  unfolding parts_fit polynomials_of
  each_fits fits end e p m = absurd (not-nil m)
  each_fits fits (atom a rest) e p (here q) = subst (λ (p : Polynomial). all_fit fits (steps readings p) ≡ true) (sym q)
      (and_first (all_fit fits (steps readings a.polynomial)) (parts_fit fits readings rest) e)
  each_fits fits (atom a rest) e p (later m) = each_fits fits rest (and_second (all_fit fits (steps readings a.polynomial)) (parts_fit fits readings rest) e) p m
  each_fits fits (and kids rest) e p m = in_either (append_cases (polynomials_of kids) m)
      (λ k. each_fits fits kids (and_first (parts_fit fits readings kids) (parts_fit fits readings rest) e) p k)
      (λ k. each_fits fits rest (and_second (parts_fit fits readings kids) (parts_fit fits readings rest) e) p k)
  each_fits fits (or kids rest) e p m = in_either (append_cases (polynomials_of kids) m)
      (λ k. each_fits fits kids (and_first (parts_fit fits readings kids) (parts_fit fits readings rest) e) p k)
      (λ k. each_fits fits rest (and_second (parts_fit fits readings kids) (parts_fit fits readings rest) e) p k)

  module _ (fits : ℤ → Bool) (all : List Polynomial) (each : (p : Polynomial) → Member p all → all_fit fits (steps readings (normal_form p)) ≡ true) where
    formed-fits : {join : Join} {d : ℕ} {f : Parts Atom} → Alternates (Formed (forms_of all)) join d f → parts_fit fits readings f ≡ true
    unfolding parts_fit
    formed-fits no_parts = refl
    formed-fits (an_atom {a = a} h hs) = let (q, m, e) = member-of-map normal_form all h.form in
        and_intro (subst (λ (p : Polynomial). all_fit fits (steps readings p) ≡ true) e (each q m)) (formed-fits hs)
    formed-fits (an_and h hs) = and_intro (formed-fits h) (formed-fits hs)
    formed-fits (an_or h hs) = and_intro (formed-fits h) (formed-fits hs)

-- ---- The two blocks.

-- "if the one value 2^63 were allowed": -2^63 to 2^63.
unfoldable pub near64 : ℤ → Bool
near64 = within (2 ^ 63 - 1) (2 ^ 63)

some-if : (b c d : Bool) → some_if b c ≡ some d → (b ≡ true) × (c ≡ d)
unfolding some_if
some-if true c d e = (refl, some-injective c d e)
some-if false c d e = absurd (none-ne-some d e)

module _ (given : Block) (readings : List ℤ) (many : length readings ≡ given.variables) where
  same_truth : holds_at readings (formula_of (new_block given)) ≡ holds_at readings (formula_of given)
  unfolding holds_over
  same_truth = sym (whole-holds readings many (formula_of (new_block given))) ∙ new_block-keeps given (respected-over (whole_numbers readings many))
      ∙ whole-holds readings many (formula_of given)

  -- "Where the original and the shortened block both answer, they answer alike", by whatever limits.
  pub alike : (fits limits : ℤ → Bool) (b c : Bool) → evaluate_by fits readings (formula_of given) ≡ some b → evaluate_by limits readings (formula_of (new_block given)) ≡ some c
      → c ≡ b
  unfolding evaluate_by
  alike fits limits b c e f = sym (some-if _ (holds_at readings (formula_of (new_block given))) c f).1 ∙ same_truth ∙ (some-if _ (holds_at readings (formula_of given)) b e).1

  -- Where the original answers, all steps of its tree's polynomials fit.
  pub fits_each : (b : Bool) → evaluate_by fits64 readings (formula_of given) ≡ some b → (p : Polynomial) → Member p (polynomials_of (alone (formula_of given)))
      → all_fit fits64 (steps readings p) ≡ true
  unfolding evaluate_by
  fits_each b e p m = each_fits readings fits64 (alone (formula_of given)) (some-if _ (holds_at readings (formula_of given)) b e).0 p m

  -- Where the original answers, and the normal forms of its tree's polynomials fit some limits, the short one answers by these limits, and alike.
  pub short-answers : (limits : ℤ → Bool) (b : Bool) → BlockWithin given → evaluate_by fits64 readings (formula_of given) ≡ some b
      → ((p : Polynomial) → Member p (polynomials_of (alone (formula_of given))) → all_fit fits64 (steps readings p) ≡ true → all_fit limits (steps readings (normal_form p)) ≡ true)
      → evaluate_by limits readings (formula_of (new_block given)) ≡ some b
  unfolding evaluate_by some_if
  short-answers limits b h e each =
      let (fit, truth) = some-if _ (holds_at readings (formula_of given)) b e in
      let all = polynomials_of (alone (formula_of given)) in
      let forms : (p : Polynomial) → Member p all → all_fit limits (steps readings (normal_form p)) ≡ true =
      λ p m. each p m (each_fits readings fits64 (alone (formula_of given)) fit p m) in
      let short : parts_fit limits readings (alone (each_atom_of plain (simplified given))) ≡ true =
      tree-alone (simplified-from-tree given h) (λ join k. formed-fits readings limits all forms k) in
      let new : parts_fit limits readings (alone (formula_of (new_block given))) ≡ true = subst (λ (tree : Node Atom). parts_fit limits readings (alone tree) ≡ true) (sym (new-formula given)) short in
      ap (λ (x : Bool). some_if x (holds_at readings (formula_of (new_block given)))) new ∙ ap some (same_truth ∙ truth)

  -- Where the original answers, the short one answers the same if the one value 2^63 is allowed; so it is refused only where 2^63 is met.
  pub nearly : (b : Bool) → BlockWithin given → evaluate_by fits64 readings (formula_of given) ≡ some b → evaluate_by near64 readings (formula_of (new_block given)) ≡ some b
  unfolding fits64 near64
  nearly b h e = short-answers near64 b h e (λ p m fit. normal_form-near (2 ^ 63 - 1) readings p fit)

  -- If no polynomial of the original's tree is negated in its normal form, the short one answers wherever the original does.
  pub where-none-is-negated : (b : Bool) → BlockWithin given
      → ((p : Polynomial) → Member p (polynomials_of (alone (formula_of given))) → first_is_negative (divided p) ≡ false)
      → evaluate_by fits64 readings (formula_of given) ≡ some b → evaluate_by fits64 readings (formula_of (new_block given)) ≡ some b
  unfolding fits64
  where-none-is-negated b h none-negated e = short-answers fits64 b h e (λ p m fit. normal_form-fits (2 ^ 63 - 1) readings p (none-negated p m) fit)
