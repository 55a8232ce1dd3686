-- 02, #103: the forms that a tree uses. Each is there once, none is a constant, each is its own normal form; the normal form of each atom is there,
-- unless it is a constant; and those of a block's tree are among the normal forms of its table.
use Rattle.std.specs.Prelude.{◌≡◌, refl, Bool, true, false, ◌||◌, List, [], ◌∷◌, ℕ, ℤ}
use Rattle.std.proofs.Common.{sym, ap, ◌∙◌, subst}
use Rattle.std.proofs.lemmas.Bool.{false≢true}
use mathlib.Core.List.Memᴰ.{cast as member-same}
use mathlib.Core.List.Memᴰ.{head as here}
use mathlib.Core.List.Memᴰ.{tail as later}
use mathlib.Core.List.{Memᴰ as Member}
use Rattle.std.proofs.Math.Option.{Option, none, some}
use Rattle.rules.specs.Polynomial.{Polynomial, Atom, same, normal, constant}
use Rattle.rules.specs.Formula.{Parts, Node, alone, each_atom, each_atom_of, open_formula}
use Rattle.rules.specs.Answer.{knows, added_unless, used, unless_constant, without_constants, forms_used}
use Rattle.sign_laws.specs.Lists.{Every, every_none, every}
use Rattle.ending_laws.specs.Nestings.{alone-each}
use Rattle.normal_laws.specs.Shape.{normal_form-twice, normal-alike}
use Rattle.rules.specs.Polynomial.{normal_form}
use Rattle.level_laws.specs.Same.{same-equal}
use Rattle.length_laws.specs.Alternation.{Join, AND, Alternates, no_parts, an_atom, an_and, an_or, alternates-each, alternates-beside}
use Rattle.length_laws.specs.Alternation.{TreeAlternates, one_atom, one_and, one_or, tree-alone}
use Rattle.length_laws.specs.Formed.{Given, given-normal}
use Rattle.length_laws.specs.Pigeonhole.{Distinct, none_distinct, distinct}
use Rattle.length_laws.specs.Table.{Listed, used-distinct, used-every, used_all}

-- ---- What is left without the constants.

unless-every : {Q : Polynomial → Type 0} (o : Option ℤ) (p : Polynomial) {l : List Polynomial} → (o ≡ none → Q p) → Every Q l → Every Q (unless_constant o p l)
unfolding unless_constant
unless-every none p h hs = every (h refl) hs
unless-every (some c) p h hs = hs

-- What is left has a property that each had unless it was a constant.
pub without-every : {Q : Polynomial → Type 0} {l : List Polynomial} → Every (λ (p : Polynomial). constant p ≡ none → Q p) l → Every Q (without_constants l)
unfolding without_constants
without-every every_none = every_none
without-every (every {a = p} h hs) = unless-every (constant p) p h (without-every hs)

-- None of it is a constant.
pub without-constant : (l : List Polynomial) → Every (λ (p : Polynomial). constant p ≡ none) (without_constants l)
unfolding without_constants
without-constant [] = every_none
without-constant (p ∷ l) = unless-every (constant p) p (λ e. e) (without-constant l)

-- Where there was no constant, all is left.
pub without-none : {l : List Polynomial} → Every (λ (p : Polynomial). constant p ≡ none) l → without_constants l ≡ l
unfolding without_constants unless_constant
without-none every_none = refl
without-none (every {a = p} e hs) = rw (e, without-none hs)

unless-member : (o : Option ℤ) {p q : Polynomial} {l m : List Polynomial} → (Member q l → Member q m) → Member q (unless_constant o p l) → Member q (p ∷ m)
unfolding unless_constant
unless-member none k (here e) = here e
unless-member none k (later m) = later (k m)
unless-member (some c) k m = later (k m)

-- What is left was there.
without-member : (l : List Polynomial) {p : Polynomial} → Member p (without_constants l) → Member p l
unfolding without_constants
without-member [] m = m
without-member (q ∷ l) m = unless-member (constant q) (without-member l) m

unless-later : (o : Option ℤ) (q : Polynomial) {p : Polynomial} {l : List Polynomial} → Member p l → Member p (unless_constant o q l)
unfolding unless_constant
unless-later none q m = later m
unless-later (some c) q m = m

-- What was there and is no constant is left.
pub without-keeps : {p : Polynomial} {l : List Polynomial} → constant p ≡ none → Member p l → Member p (without_constants l)
unfolding without_constants unless_constant
without-keeps e (here {x} d) = rw (ap constant (sym d) ∙ e) (here d)
without-keeps e (later {x} m) = unless-later (constant x) x (without-keeps e m)

unless-distinct : (o : Option ℤ) {p : Polynomial} {l : List Polynomial} → (Member p l → ⊥) → Distinct l → Distinct (unless_constant o p l)
unfolding unless_constant
unless-distinct none h d = distinct h d
unless-distinct (some c) h d = d

-- What had no repeats has none.
pub without-distinct : {l : List Polynomial} → Distinct l → Distinct (without_constants l)
unfolding without_constants
without-distinct none_distinct = none_distinct
without-distinct (distinct {a = p} {l = l} new d) = unless-distinct (constant p) (λ m. new (without-member l m)) (without-distinct d)

-- ---- Any tree.

-- The forms that a tree uses repeat nothing,
pub forms-once : (tree : Node Atom) → Distinct (forms_used tree)
unfolding forms_used
forms-once tree = without-distinct (used-distinct (alone (each_atom_of normal tree)) none_distinct)

-- and none of them is a constant.
pub forms-not-constant : (tree : Node Atom) → Every (λ (p : Polynomial). constant p ≡ none) (forms_used tree)
unfolding forms_used
forms-not-constant tree = without-constant (used [] (alone (each_atom_of normal tree)))

-- ---- The tree of a block.

-- A property of the normal forms of atoms is one of the forms that the tree uses, if it holds of each that is no constant.
pub forms-every : {P : Atom → Type 0} {Q : Polynomial → Type 0} → ((a : Atom) → P a → constant (normal a).polynomial ≡ none → Q (normal a).polynomial)
    → {d : ℕ} {tree : Node Atom} → TreeAlternates P d tree → Every Q (forms_used tree)
unfolding forms_used
forms-every {P} {Q} h {tree = tree} t =
    without-every (subst (λ (f : Parts Atom). Every (λ (p : Polynomial). constant p ≡ none → Q p) (used [] f)) (alone-each normal tree)
    (tree-alone t (λ join k. used-every (λ a q. q) (alternates-each {Q = λ a. constant a.polynomial ≡ none → Q a.polynomial} normal h k) every_none)))

-- Each is its own normal form.
pub forms-own : {P : Atom → Type 0} {d : ℕ} {tree : Node Atom} → TreeAlternates P d tree → Every (λ (p : Polynomial). normal_form p ≡ p) (forms_used tree)
forms-own t = forms-every (λ a h e. own a) t
  where
    own : (a : Atom) → normal_form (normal a).polynomial ≡ (normal a).polynomial
    own a = ap normal_form (normal-alike a) ∙ normal_form-twice a.polynomial ∙ sym (normal-alike a)

-- Of a tree whose atoms have their normal forms among others, these are among them too.
pub forms-among : {forms : List Polynomial} {d : ℕ} {tree : Node Atom} → TreeAlternates (Given forms) d tree
    → Every (λ (p : Polynomial). Member p forms) (forms_used tree)
forms-among t = forms-every (λ a h e. given-normal a e h) t

knows-member : (table : List Polynomial) (p : Polynomial) → knows table p ≡ true → Member p table
unfolding knows
knows-member [] p e = absurd (false≢true e)
knows-member (q ∷ qs) p e = by-test (same p q) refl e (knows-member qs p)
  where
    by-test : (b : Bool) → same p q ≡ b → b || knows qs p ≡ true → (knows qs p ≡ true → Member p qs) → Member p (q ∷ qs)
    by-test true w e found = here (same-equal p q w)
    by-test false w e found = later (found e)

parts-given : {forms : List Polynomial} {join : Join} {d : ℕ} {f : Parts Atom} → Alternates (Given forms) join d f
    → Alternates (Given (without_constants (used [] (each_atom normal f)))) join d f
parts-given {forms} {f = f} k = alternates-beside normal among k (used_all {P = λ a. Unit {0}} [] (alternates-each normal (λ a h. tt) k))
  where
    among : (a : Atom) → Given forms a → Listed (λ (b : Atom). Unit {0}) (used [] (each_atom normal f)) (normal a)
        → Given (without_constants (used [] (each_atom normal f))) a
    among a h listed = record {
      small = h.small;
      form = λ e. without-keeps e (member-same (sym (normal-alike a)) (knows-member (used [] (each_atom normal f)) (normal a).polynomial listed.known));
    }

-- The normal form of each atom is one of the forms that the tree uses, unless it is a constant.
pub tree-uses : {forms : List Polynomial} {d : ℕ} {tree : Node Atom} → TreeAlternates (Given forms) d tree → TreeAlternates (Given (forms_used tree)) d tree
unfolding forms_used used open_formula
tree-uses (one_atom {a} h) = elim (parts-given {join = AND} {d = 0} (an_atom h no_parts)) [ an_atom k rest ↦ one_atom k ]
tree-uses (one_and kids) = one_and (parts-given kids)
tree-uses (one_or kids) = one_or (parts-given kids)

-- ---- A tree whose atoms are in normal form already.

-- What it uses is what its atoms have.
pub used-same : {P : Atom → Type 0} → ((a : Atom) → P a → normal_form a.polynomial ≡ a.polynomial)
    → {join : Join} {d : ℕ} {f : Parts Atom} (table : List Polynomial) → Alternates P join d f → used table (each_atom normal f) ≡ used table f
unfolding used each_atom
used-same own table no_parts = refl
used-same own table (an_atom {a = a} {rest = rest} h hs) =
    ap (λ (p : Polynomial). used (added_unless (knows table p) p table) (each_atom normal rest)) (normal-alike a ∙ own a h)
    ∙ used-same own (added_unless (knows table a.polynomial) a.polynomial table) hs
used-same own table (an_and {kids = kids} {rest = rest} h hs) =
    ap (λ (t : List Polynomial). used t (each_atom normal rest)) (used-same own table h) ∙ used-same own (used table kids) hs
used-same own table (an_or {kids = kids} {rest = rest} h hs) =
    ap (λ (t : List Polynomial). used t (each_atom normal rest)) (used-same own table h) ∙ used-same own (used table kids) hs
