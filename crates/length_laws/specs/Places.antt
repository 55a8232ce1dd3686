-- 02, #105: "The list of places in the answer has no repeats, and each names an input atom of the same normal polynomial."
-- No repeats: no step adds weight where only one place counts. The same form: only sets change, or a polynomial becomes its normal form.
use Rattle.std.specs.Prelude.{◌≡◌, Bool, true, false, ℕ, zero, suc, ◌+◌, ◌<◌, ◌≤◌, eqb, drop}
use Rattle.std.proofs.Math.Path.{refl, sym, ap}
use Rattle.std.proofs.Common.{ap₂, ◌∙◌, subst, lit≤, length-drop, get_or-drop, add-zero, eq-eqb, ne_eqb}
use mathlib.Core.List.{List, [], ◌∷◌, ◌++◌, map, map-append}
use Rattle.std.proofs.Math.Logic.{dite}
use Rattle.std.proofs.Math.Decide.{dec_lt}
use native.Mathlib.Omega.{arith}
use Rattle.std.proofs.Math.ListN.{length, get_or, length-map, get_or-map}
use Rattle.rules.specs.Polynomial.{Polynomial, Atom, normal}
use Rattle.rules.specs.Formula.{Parts, end, atom, and, or, Node, leaf, all_of, any_of, each_atom, each_atom_of, in_order, atoms, alone, open_formula}
use Rattle.rules.specs.Level.{Placed, plain, placed_at, placed_from, placed_tree, places, simplify}
use Rattle.rules.specs.Block.{Block}
use Rattle.rules.specs.Limits.{BlockWithin}
use Rattle.rules.specs.Answer.{formula_of, simplified, new_block, new_places}
use Rattle.rules.specs.Demands.{atoms_of, no_atom, form_at_place, PlacesName}
use Rattle.sign_laws.specs.Lists.{Every, every_none, every, every_append}
use Rattle.normal_laws.specs.Shape.{normal-alike, normal_form-twice}
use Rattle.rules.specs.Polynomial.{normal_form}
use Rattle.ending_laws.specs.Nestings.{alone-each}
use Rattle.level_laws.specs.Written.{new-formula}
use Rattle.length_laws.specs.Pigeonhole.{total, total-append}
use Rattle.length_laws.specs.Weight.{weight, by_place}
use Rattle.length_laws.specs.Shorter.{simplify-lighter}
use Rattle.length_laws.specs.Alternation.{Join, Alternates, no_parts, an_atom, an_and, an_or, TreeAlternates, tree-alone}
use Rattle.length_laws.specs.Formed.{GivenAt, FormedAt}
use Rattle.length_laws.specs.LevelKeeps.{simplify-keeps}
use Rattle.length_laws.specs.Blocks.{forms_of, tree-given, tree_placed}

-- ---- How often a place stands in a list.

-- 1 for the place q, 0 for every other.
unfoldable pub counts_if : Bool → ℕ
counts_if true = 1
counts_if false = 0

unfoldable pub is : ℕ → ℕ → ℕ
is q k = counts_if (eqb k q)

is-itself : (q : ℕ) → is q q ≡ 1
unfolding is counts_if
is-itself q = rw (eq-eqb q q refl)

is-other : (q k : ℕ) → (k ≡ q → ⊥) → is q k ≡ 0
unfolding is counts_if
is-other q k h = rw (ne_eqb k q h)

is-most : (q k : ℕ) → is q k ≤ 1
unfolding is counts_if
is-most q k = at-most (eqb k q)
  where
    at-most : (b : Bool) → counts_if b ≤ 1
    at-most true = omega arith
    at-most false = omega arith

-- The places of two formulas one after the other.
appended : (v : ℕ → ℕ) (kids rest : Parts Placed) → total v (map (λ (a : Placed). a.place) (in_order kids ++ in_order rest)) ≡ total v (places kids) + total v (places rest)
unfolding places
appended v kids rest =
    ap (total v) (map-append (λ (a : Placed). a.place) (in_order kids) (in_order rest))
    ∙ total-append v (map (λ (a : Placed). a.place) (in_order kids)) (map (λ (a : Placed). a.place) (in_order rest))

-- A formula in which only atoms count weighs what its places do.
places-weigh : (v : ℕ → ℕ) (f : Parts Placed) → weight (by_place v) 0 f ≡ total v (places f)
unfolding weight places in_order total
places-weigh v end = refl
places-weigh v (atom a rest) = ap (λ (k : ℕ). v a.place + k) (places-weigh v rest)
places-weigh v (and kids rest) = omega (arith, places-weigh v kids, places-weigh v rest, appended v kids rest)
places-weigh v (or kids rest) = omega (arith, places-weigh v kids, places-weigh v rest, appended v kids rest)

-- ---- Each place stands in the input once at most.

module _ (q : ℕ) where
  -- A place behind all of these atoms, and one before them.
  behind-all : (k : ℕ) (f : Parts Atom) → (q < k + atoms f → ⊥) → weight (by_place (is q)) 0 (placed_from k f) ≡ 0
  unfolding weight placed_from atoms
  behind-all k end h = refl
  behind-all k (atom a rest) h = omega (arith, is-other q k (λ e. h (omega arith)), behind-all (1 + k) rest (λ i. h (omega arith)))
  behind-all k (and kids rest) h = omega (arith, behind-all k kids (λ i. h (omega arith)), behind-all (k + atoms kids) rest (λ i. h (omega arith)))
  behind-all k (or kids rest) h = omega (arith, behind-all k kids (λ i. h (omega arith)), behind-all (k + atoms kids) rest (λ i. h (omega arith)))

  before-all : (k : ℕ) (f : Parts Atom) → q < k → weight (by_place (is q)) 0 (placed_from k f) ≡ 0
  unfolding weight placed_from
  before-all k end h = refl
  before-all k (atom a rest) h = omega (arith, is-other q k (λ e. absurd (omega arith)), before-all (1 + k) rest (omega arith))
  before-all k (and kids rest) h = omega (arith, before-all k kids h, before-all (k + atoms kids) rest (omega arith))
  before-all k (or kids rest) h = omega (arith, before-all k kids h, before-all (k + atoms kids) rest (omega arith))

  once : (k : ℕ) (f : Parts Atom) → weight (by_place (is q)) 0 (placed_from k f) ≤ 1
  unfolding weight placed_from
  once k end = omega arith
  once k (atom a rest) = dite (dec_lt q (1 + k))
      (λ h. omega (arith, is-most q k, before-all (1 + k) rest h)) (λ h. omega (arith, is-other q k (λ e. h (omega arith)), once (1 + k) rest))
  once k (and kids rest) = dite (dec_lt q (k + atoms kids))
      (λ h. omega (arith, once k kids, before-all (k + atoms kids) rest h)) (λ h. omega (arith, behind-all k kids h, once (k + atoms kids) rest))
  once k (or kids rest) = dite (dec_lt q (k + atoms kids))
      (λ h. omega (arith, once k kids, before-all (k + atoms kids) rest h)) (λ h. omega (arith, behind-all k kids h, once (k + atoms kids) rest))

  -- So in the simplified formula it stands once at most.
  once-out : (n : ℕ) (tree : Node Atom) → total (is q) (places (alone (simplify n (placed_tree tree)))) ≤ 1
  unfolding weight placed_tree open_formula
  once-out n tree =
      omega (arith, simplify-lighter (is q) 0 (λ k. (omega arith, is-most q k)) n (placed_tree tree), places-weigh (is q) (alone (simplify n (placed_tree tree))), whole tree)
    where
      whole : (tree : Node Atom) → weight (by_place (is q)) 0 (alone (placed_tree tree)) ≤ 1
      whole (leaf a) = omega (arith, is-most q 0)
      whole (all_of kids) = omega (arith, once 0 kids)
      whole (any_of kids) = omega (arith, once 0 kids)

-- ---- What stands once at most in a list is not repeated.

stands-there : (l : List ℕ) (i : ℕ) → i < length l → 1 ≤ total (is (get_or l i 0)) l
unfolding total
stands-there [] i h = absurd (omega arith)
stands-there (x ∷ l) zero h = omega (arith, is-itself x)
stands-there (x ∷ l) (suc i) h = omega (arith, stands-there l i (omega arith))

never-twice : (l : List ℕ) → ((q : ℕ) → total (is q) l ≤ 1) → (i j : ℕ) → i < j → j < length l → get_or l i 0 ≡ get_or l j 0 → ⊥
unfolding total
never-twice [] h i j low high e = omega arith
never-twice (x ∷ l) h i zero low high e = omega arith
never-twice (x ∷ l) h zero (suc j) low high e =
    let there : 1 ≤ total (is x) l = subst (λ (y : ℕ). 1 ≤ total (is y) l) (sym e) (stands-there l j (omega arith)) in
    omega (arith, h x, is-itself x)
never-twice (x ∷ l) h (suc i) (suc j) low high e = never-twice l (λ q. omega (arith, h q)) i j (omega arith) (omega arith) e

-- ---- The form that a place has.

-- p is the normal form of the input atom at this place.
record FormOf (all : List Atom) (place : ℕ) (p : Polynomial) : Type 0 where
  atom : Atom
  rest : List Atom
  here : drop place all ≡ atom ∷ rest
  form : p ≡ normal_form atom.polynomial

form-own : (all : List Atom) (place : ℕ) (p : Polynomial) → FormOf all place p → normal_form p ≡ p
form-own all place p f = ap normal_form f.form ∙ normal_form-twice f.atom.polynomial ∙ sym f.form

module _ {all : List Atom} {place : ℕ} {p : Polynomial} (f : FormOf all place p) where
  form-inside : place < length all
  form-inside = omega (arith, ap length f.here, length-drop place all)

  form-there : form_at_place all place ≡ p
  unfolding form_at_place
  form-there =
      let there : get_or all place no_atom ≡ f.atom = sym (rw (add-zero place) at (get_or-drop place all 0 no_atom)) ∙ ap (λ (l : List Atom). get_or l 0 no_atom) f.here in
      ap (λ (a : Atom). (normal a).polynomial) there ∙ normal-alike f.atom ∙ sym f.form

-- ---- The atoms of a formula in reading order.

every-in-order : {A : Type 0} {P : A → Type 0} {join : Join} {d : ℕ} {f : Parts A} → Alternates P join d f → Every P (in_order f)
unfolding in_order
every-in-order no_parts = every_none
every-in-order (an_atom h rest) = every h (every-in-order rest)
every-in-order (an_and kids rest) = every_append (every-in-order kids) (every-in-order rest)
every-in-order (an_or kids rest) = every_append (every-in-order kids) (every-in-order rest)

in-order-each : {A B : Type 0} (g : A → B) (f : Parts A) → in_order (each_atom g f) ≡ map g (in_order f)
unfolding in_order each_atom
in-order-each g end = refl
in-order-each g (atom a rest) = ap (λ (l : List _). g a ∷ l) (in-order-each g rest)
in-order-each g (and kids rest) = ap₂ ◌++◌ (in-order-each g kids) (in-order-each g rest) ∙ sym (map-append g (in_order kids) (in_order rest))
in-order-each g (or kids rest) = ap₂ ◌++◌ (in-order-each g kids) (in-order-each g rest) ∙ sym (map-append g (in_order kids) (in_order rest))

every-at : {A : Type 0} {P : A → Type 0} {l : List A} (i : ℕ) (a : A) → Every P l → i < length l → P (get_or l i a)
every-at i a every_none h = absurd (omega arith)
every-at zero a (every k ks) h = k
every-at (suc i) a (every k ks) h = every-at i a ks (omega arith)

-- ---- The law.

module _ (given : Block) (within : BlockWithin given) where
  -- The answer's atoms with their places, in reading order.
  answered : List Placed
  answered = in_order (alone (simplified given))

  formed : Every (FormedAt (FormOf (atoms_of given))) answered
  unfolding answered simplified formula_of atoms_of
  formed = tree-alone (simplify-keeps (form-own (atoms_of given)) given.variables
      (tree_placed (λ k a l e g. record { small = g.small; form = λ c. record { atom = a; rest = l; here = e; form = refl } })
      (tree-given given.table given.tree within.tree)))
      (λ join k. every-in-order k)

  new-atoms-are : atoms_of (new_block given) ≡ map plain answered
  unfolding answered atoms_of
  new-atoms-are = ap (λ (t : Node Atom). in_order (alone t)) (new-formula given) ∙ ap in_order (sym (alone-each plain (simplified given))) ∙ in-order-each plain (alone (simplified given))

  -- As many places as atoms out; no repeats; each is that of an input atom whose polynomial has the normal form of the answer's atom.
  pub places-name : PlacesName (atoms_of given) (atoms_of (new_block given)) (new_places given)
  unfolding new_places places answered simplified
  places-name = record {
    many = length-map answered (λ (a : Placed). a.place) ∙ sym (ap length new-atoms-are ∙ length-map answered plain);
    no_repeats = never-twice (new_places given) (λ q. counted q);
    of_input = λ i h. let k : i < length answered = omega (arith, length-map answered (λ (a : Placed). a.place)) in
        rw (get_or-map (λ (a : Placed). a.place) answered i filler) (form-inside (every-at i filler formed k).form);
    same-form = λ i h. let k : i < length answered = omega (arith, length-map answered (λ (a : Placed). a.place)) in
        rw (get_or-map (λ (a : Placed). a.place) answered i filler, new-atoms-are, get_or-map plain answered i filler)
        (form-there (every-at i filler formed k).form);
  }
    where
      filler : Placed
      filler = placed_at 0 no_atom

      counted : (q : ℕ) → total (is q) (new_places given) ≤ 1
      counted q = once-out q given.variables (formula_of given)
