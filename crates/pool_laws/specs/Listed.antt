-- What a block lists: the normal forms of its polynomials that are no constants, each once, none a constant, each its own normal form and within the
-- limits of the format; "repeats, multiples and negations count once", since these have one normal form.
use Rattle.std.specs.Prelude.{◌≡◌, refl, Bool, true, false, List, [], ◌∷◌, ◌++◌, map, ℕ, eqb, ℤ}
use Rattle.std.proofs.Common.{sym, ap, ◌∙◌, subst, append-nil, ⊎_elim}
use mathlib.Core.List.Memᴰ.{head as here}
use mathlib.Core.List.Memᴰ.{tail as later}
use mathlib.Core.List.{Memᴰ as Member}
use Rattle.std.proofs.Math.Option.{Option, none, some, none-ne-some}
use Rattle.rules.specs.Polynomial.{Polynomial, only_if, constant}
use Rattle.rules.specs.Signs.{full}
use Rattle.rules.specs.Block.{Block}
use Rattle.rules.specs.Limits.{PolynomialWithin, TableWithin, no_polynomials, polynomials}
use Rattle.rules.specs.Answer.{knows, added_unless, unless_constant, without_constants}
use Rattle.rules.specs.Pool.{together, forms_listed}
use Rattle.sign_laws.specs.Booleans.{both_ways}
use Rattle.sign_laws.specs.Lists.{Every, every_none, every, every-wider}
use Rattle.normal_laws.specs.Shape.{Shape, shape_end, shape, normal-shape, normal_form-twice, normal_form-within}
use Rattle.rules.specs.Polynomial.{normal_form}
use Rattle.length_laws.specs.Pigeonhole.{every-member}
use Rattle.pool_laws.specs.Known.{member-knows}
use Rattle.length_laws.specs.FormsUsed.{without-every, without-keeps}
use Rattle.pool_laws.specs.Known.{without-member, knows-member}
use Rattle.pool_laws.specs.Together.{together-second, together-cases}

map-member : {A B : Type 0} (f : A → B) {a : A} {l : List A} → Member a l → Member (f a) (map f l)
map-member f (here e) = here (ap f e)
map-member f (later m) = later (map-member f m)

map-every : {A B : Type 0} {P : A → Type 0} {Q : B → Type 0} (f : A → B) → ((a : A) → P a → Q (f a)) → {l : List A} → Every P l → Every Q (map f l)
map-every f h every_none = every_none
map-every f h (every {a} k ks) = every (h a k) (map-every f h ks)

every-self : {A : Type 0} (l : List A) {P : A → Type 0} → ((a : A) → Member a l → P a) → Every P l
every-self [] h = every_none
every-self (a ∷ l) h = every (h a (here refl)) (every-self l (λ b m. h b (later m)))

-- The normal form of each table polynomial that is no constant is listed.
pub all-listed : (block : Block) {p : Polynomial} → Member p block.table → constant p ≡ none → Member (normal_form p) (forms_listed block)
unfolding forms_listed
all-listed block m e = together-second [] (map-member normal_form (without-keeps e m))

-- And what is listed is one of these: it has each property that these have.
pub listed-every : {P Q : Polynomial → Type 0} (block : Block) → ((p : Polynomial) → P p → constant p ≡ none → Q (normal_form p))
    → Every P block.table → Every Q (forms_listed block)
unfolding forms_listed
listed-every {P} {Q} block h table =
    every-self (together [] (map normal_form (without_constants block.table)))
    (λ q m. ⊎_elim (λ k. elim k [ ]) (λ k. every-member each k) (together-cases [] (map normal_form (without_constants block.table)) m))
  where
    each : Every Q (map normal_form (without_constants block.table))
    each = map-every {P = λ (p : Polynomial). Q (normal_form p)} normal_form (λ p k. k) (without-every (every-wider (λ p k e. h p k e) table))

-- Each is its own normal form,
pub listed-own : (block : Block) → Every (λ (q : Polynomial). normal_form q ≡ q) (forms_listed block)
listed-own block = listed-every {P = λ (p : Polynomial). Unit {0}} block (λ p k e. normal_form-twice p)
    (every-self block.table (λ p m. tt))

-- (Of two polynomials of one shape both are constants or none is.)
shape-constant : {p q : Polynomial} → Shape p q → constant p ≡ none → constant q ≡ none
unfolding constant only_if
shape-constant shape_end e = e
shape-constant (shape {t} {u} h shape_end) e = rw h.monomial (by-test (eqb t.monomial 0) e)
  where
    by-test : (b : Bool) → only_if b t.coefficient ≡ none → only_if b u.coefficient ≡ none
    by-test true e = absurd (none-ne-some t.coefficient (sym e))
    by-test false e = refl
shape-constant (shape h (shape k ks)) e = refl

-- none is a constant,
pub listed-not-constant : (block : Block) → Every (λ (q : Polynomial). constant q ≡ none) (forms_listed block)
unfolding normal_form
listed-not-constant block =
    listed-every {P = λ (p : Polynomial). Unit {0}} block (λ p k e. shape-constant (normal-shape (record { polynomial = p; set = full })) e)
    (every-self block.table (λ p m. tt))

-- and within the limits, so of at most 16 terms, if the table is.
pub listed-within : (n : ℕ) (block : Block) → TableWithin n block.table → Every (PolynomialWithin n) (forms_listed block)
listed-within n block h = listed-every block (λ p k e. normal_form-within p k) (each h)
  where
    each : {table : List Polynomial} → TableWithin n table → Every (PolynomialWithin n) table
    each no_polynomials = every_none
    each (polynomials k ks) = every k (each ks)

-- ---- The constants may be left out at the end: a walk over the whole table in normal form finds the same, in the same order.

shape-back : {p q : Polynomial} → Shape p q → constant q ≡ none → constant p ≡ none
unfolding constant only_if
shape-back shape_end e = e
shape-back (shape {t} {u} h shape_end) e = by-test (eqb t.monomial 0) (rw h.monomial at e)
  where
    by-test : (b : Bool) → only_if b u.coefficient ≡ none → only_if b t.coefficient ≡ none
    by-test true e = absurd (none-ne-some u.coefficient (sym e))
    by-test false e = refl
shape-back (shape h (shape k ks)) e = refl

form-shape : (p : Polynomial) → Shape p (normal_form p)
unfolding normal_form
form-shape p = normal-shape (record { polynomial = p; set = full })

-- A polynomial and its normal form are both constants or neither is.
pub constant-form : (p : Polynomial) → (constant p ≡ none → constant (normal_form p) ≡ none) × (constant (normal_form p) ≡ none → constant p ≡ none)
constant-form p = (λ e. shape-constant (form-shape p) e, λ e. shape-back (form-shape p) e)

without-append : (forms : List Polynomial) (p : Polynomial) → without_constants (forms ++ (p ∷ [])) ≡ without_constants forms ++ without_constants (p ∷ [])
unfolding without_constants unless_constant
without-append [] p = refl
without-append (q ∷ forms) p = by_constant (constant q) (without-append forms p)
  where
    by_constant : (o : Option ℤ) → without_constants (forms ++ (p ∷ [])) ≡ without_constants forms ++ without_constants (p ∷ [])
        → unless_constant o q (without_constants (forms ++ (p ∷ []))) ≡ unless_constant o q (without_constants forms) ++ without_constants (p ∷ [])
    by_constant none e = ap (λ (l : List Polynomial). q ∷ l) e
    by_constant (some c) e = e

-- A constant that is added is left out again.
added-constant : (b : Bool) (p : Polynomial) (c : ℤ) (forms : List Polynomial) → constant p ≡ some c
    → without_constants (added_unless b p forms) ≡ without_constants forms
unfolding added_unless without_constants unless_constant
added-constant true p c forms e = refl
added-constant false p c forms e = without-append forms p ∙ rw e (append-nil (without_constants forms))

-- Any other is added to what is left.
added-other : (b : Bool) (p : Polynomial) (forms : List Polynomial) → constant p ≡ none
    → without_constants (added_unless b p forms) ≡ added_unless b p (without_constants forms)
unfolding added_unless without_constants unless_constant
added-other true p forms e = refl
added-other false p forms e = without-append forms p ∙ rw e

knows-without : (p : Polynomial) (forms : List Polynomial) → constant p ≡ none → knows (without_constants forms) p ≡ knows forms p
knows-without p forms e =
    both_ways (knows (without_constants forms) p) (knows forms p) (λ k. member-knows (without-member forms (knows-member (without_constants forms) p k)))
    (λ k. member-knows (without-keeps e (knows-member forms p k)))

together-without : (forms table : List Polynomial)
    → together (without_constants forms) (map normal_form (without_constants table)) ≡ without_constants (together forms (map normal_form table))
unfolding together without_constants unless_constant
together-without forms [] = refl
together-without forms (p ∷ table) = by_constant (constant p) refl (constant (normal_form p)) refl (λ l. together-without l table)
  where
    by_constant : (o : Option ℤ) → constant p ≡ o → (r : Option ℤ) → constant (normal_form p) ≡ r
        → ((l : List Polynomial)
        → together (without_constants l) (map normal_form (without_constants table)) ≡ without_constants (together l (map normal_form table)))
        → together (without_constants forms) (map normal_form (unless_constant o p (without_constants table)))
        ≡ without_constants (together (added_unless (knows forms (normal_form p)) (normal_form p) forms) (map normal_form table))
    by_constant none e none f others =
        let q = normal_form p in
        ap (λ (l : List Polynomial). together l (map normal_form (without_constants table)))
        (ap (λ (b : Bool). added_unless b q (without_constants forms)) (knows-without q forms f) ∙ sym (added-other (knows forms q) q forms f))
        ∙ others (added_unless (knows forms q) q forms)
    by_constant none e (some d) f others = absurd (none-ne-some d (sym (shape-constant (form-shape p) e) ∙ f))
    by_constant (some c) e none f others = absurd (none-ne-some c (sym (shape-back (form-shape p) f) ∙ e))
    by_constant (some c) e (some d) f others =
        let q = normal_form p in
        ap (λ (l : List Polynomial). together l (map normal_form (without_constants table))) (sym (added-constant (knows forms q) q d forms f))
        ∙ others (added_unless (knows forms q) q forms)

pub listed-walk : (block : Block) → forms_listed block ≡ without_constants (together [] (map normal_form block.table))
unfolding forms_listed without_constants
listed-walk block = together-without [] block.table
