-- The slots of a pool, over what is to be marked: for each form a row of 32 marks. A slot is cleared, or has a form that has a mark, with its row;
-- each form with a mark has one slot. Listing one more form for a number, and withdrawing a number, keep that.
use Rattle.std.specs.Prelude.{◌≡◌, Bool, not, ◌&&◌, ◌||◌, ◌⊎◌, ℕ, zero, suc, ◌<◌, ◌≤◌, eqb, set, replicate}
use Rattle.std.proofs.Math.Path.{refl, sym, ap}
use Rattle.std.proofs.Common.{◌∙◌, subst, arith, length-set, set-set, eqb-true, eq-eqb, ne_eqb}
use Rattle.std.proofs.Math.Bool.{true, false}
use Rattle.std.proofs.lemmas.Bool.{false≢true}
use mathlib.Core.List.{List, [], ◌∷◌, map}
use mathlib.Core.List.Memᴰ.{head as here}
use mathlib.Core.List.Memᴰ.{tail as later}
use mathlib.Core.List.{Memᴰ as Member}
use Rattle.std.proofs.Math.Logic.{inl, inr, ⊎_elim}
use Rattle.std.proofs.Math.ListN.{length}
use Rattle.std.proofs.lemmas.List.{length-map}
use Rattle.rules.specs.Polynomial.{Polynomial, same}
use Rattle.rules.specs.Answer.{knows}
use Rattle.rules.specs.Pool.{together, either, count, Slot, cleared, is_free, stores, forms_in_use, slot_of, change_first, marked, list_form, list_forms}
use Rattle.rules.specs.Pool.{unless_unused, unmarked}
use Rattle.sign_laws.specs.Booleans.{never_both, never_true}
use Rattle.sign_laws.specs.Lists.{Every, every_none, every, every-wider}
use Rattle.level_laws.specs.Same.{same-equal, same-itself}
use Rattle.length_laws.specs.Pigeonhole.{Distinct, none_distinct, distinct}
use Rattle.pool_laws.specs.Known.{member-knows, added_unless-distinct}
use Rattle.pool_laws.specs.Known.{knows-member}
use Rattle.pool_laws.specs.Together.{no_longer, together-first, together-second, together-more, together-one}
use Rattle.pool_laws.specs.Rows.{count-marked, count-unmarked, no-marks, count_none}

-- For each form the numbers of the blocks that are to list it.
abbrev pub Marks : Type 0
Marks = Polynomial → List Bool

-- A slot is cleared, or has a form that has a mark.
pub data Kept (marks : Marks) : Slot → Type 0 where
  free : Kept marks cleared
  kept : (p : Polynomial) → 0 < count (marks p) → Kept marks (slot_of p (marks p))

-- The slots have just the forms that have a mark.
pub record Slots (marks : Marks) (slots : List Slot) : Type 0 where
  pub rows : (p : Polynomial) → length (marks p) ≡ 32
  pub each : Every (Kept marks) slots
  pub once : Distinct (forms_in_use slots)
  pub all : (p : Polynomial) → 0 < count (marks p) → Member p (forms_in_use slots)

-- ---- One slot.

pub not_free : (p : Polynomial) (row : List Bool) → 0 < count row → is_free (slot_of p row) ≡ false
unfolding is_free slot_of
not_free p row h = ne_eqb (count row) 0 (λ e. omega arith)

pub cleared-free : is_free cleared ≡ true
unfolding is_free cleared
cleared-free = refl

-- A slot that is free is cleared.
kept_free : {marks : Marks} {slot : Slot} → Kept marks slot → is_free slot ≡ true → slot ≡ cleared
kept_free free e = refl
kept_free {marks} (kept p h) e = never_both e (not_free p (marks p) h)

-- The form of a slot that stores it, and its row.
kept-stores : {marks : Marks} {slot : Slot} (p : Polynomial) → Kept marks slot → stores p slot ≡ true
    → (slot ≡ slot_of p (marks p)) × (0 < count (marks p))
unfolding stores slot_of
kept-stores p free e = never_both e (rw cleared-free)
kept-stores {marks} p (kept q h) e =
    let equal : p ≡ q = same-equal p q (rw (not_free q (marks q) h) at e) in
    (ap (λ (r : Polynomial). slot_of r (marks r)) (sym equal), subst (λ (r : Polynomial). 0 < count (marks r)) (sym equal) h)

-- A slot stays where the marks of its form do.
kept_same : {marks new : Marks} {slot : Slot} → Kept marks slot → ((p : Polynomial) → stores p slot ≡ true → new p ≡ marks p) → Kept new slot
unfolding stores slot_of
kept_same free h = free
kept_same {marks} {new} (kept q k) h =
    let e : new q ≡ marks q = h q (rw (not_free q (marks q) k) (same-itself q)) in
    subst (λ (row : List Bool). Kept new (slot_of q row)) e (kept q (subst (λ (row : List Bool). 0 < count row) (sym e) k))

-- ---- Small facts.

equal_or_not : {X : Type 0} (q p : Polynomial) → (q ≡ p → X) → ((q ≡ p → ⊥) → X) → X
equal_or_not {X} q p f g = by-test (same q p) refl
  where
    by-test : (b : Bool) → same q p ≡ b → X
    by-test true e = f (same-equal q p e)
    by-test false e = g (λ d. never_both (subst (λ (r : Polynomial). same q r ≡ true) d (same-itself q)) e)

no-count : (row : List Bool) → (0 < count row → ⊥) → count row ≡ 0
no-count row h = by_size (count row) h
  where
    by_size : (k : ℕ) → (0 < k → ⊥) → k ≡ 0
    by_size zero h = refl
    by_size (suc k) h = absurd (h (omega arith))

-- A new form makes them more.
more-with : {forms : List Polynomial} {p : Polynomial} → (Member p forms → ⊥) → Distinct forms → length forms < length (together forms (p ∷ []))
more-with {forms} {p} out d = no_longer (distinct out d) among
  where
    among : (q : Polynomial) → Member q (p ∷ forms) → Member q (together forms (p ∷ []))
    among q (here e) = together-second forms (here e)
    among q (later m) = together-first (p ∷ []) m

-- The first of them make no more than all.
together-fewer : (forms : List Polynomial) (p : Polynomial) (ps : List Polynomial) → Distinct forms
    → length (together forms (p ∷ [])) ≤ length (together forms (p ∷ ps))
unfolding together
together-fewer forms p ps d = together-more ps (added_unless-distinct (knows forms p) p refl d)

-- ---- The forms in use.

pub in-use-free : (slot : Slot) (slots : List Slot) → is_free slot ≡ true → forms_in_use (slot ∷ slots) ≡ forms_in_use slots
unfolding forms_in_use either
in-use-free slot slots e = rw e

pub in_use : (slot : Slot) (slots : List Slot) → is_free slot ≡ false → forms_in_use (slot ∷ slots) ≡ slot.form ∷ forms_in_use slots
unfolding forms_in_use either
in_use slot slots e = rw e

-- A member of the forms in use, by what the first slot is.
pub use-cases : {X : Type 0} (slot : Slot) (slots : List Slot) {p : Polynomial} → Member p (forms_in_use (slot ∷ slots))
    → (is_free slot ≡ false → p ≡ slot.form → X) → (Member p (forms_in_use slots) → X) → X
use-cases {X} slot slots {p} m f g = by-test (is_free slot) refl
  where
    by-test : (b : Bool) → is_free slot ≡ b → X
    by-test true e = g (subst (λ (l : List Polynomial). Member p l) (in-use-free slot slots e) m)
    by-test false e = elim (subst (λ (l : List Polynomial). Member p l) (in_use slot slots e) m) [ here d ↦ f e d | later k ↦ g k ]

pub use-later : (slot : Slot) (slots : List Slot) {p : Polynomial} → Member p (forms_in_use slots) → Member p (forms_in_use (slot ∷ slots))
unfolding forms_in_use either
use-later slot slots {p} m = by-test (is_free slot)
  where
    by-test : (b : Bool) → Member p (either b (forms_in_use slots) (slot.form ∷ forms_in_use slots))
    by-test true = m
    by-test false = later m

pub use-here : (slot : Slot) (slots : List Slot) {p : Polynomial} → is_free slot ≡ false → p ≡ slot.form → Member p (forms_in_use (slot ∷ slots))
use-here slot slots {p} f e = rw (in_use slot slots f) (here e)

-- A slot that stores a form has it among the forms in use.
stores-used : (slot : Slot) (slots : List Slot) (p : Polynomial) → stores p slot ≡ true → Member p (forms_in_use (slot ∷ slots))
unfolding stores forms_in_use either
stores-used slot slots p e = by-test (is_free slot) e
  where
    by-test : (b : Bool) → not b && same p slot.form ≡ true → Member p (either b (forms_in_use slots) (slot.form ∷ forms_in_use slots))
    by-test true e = absurd (false≢true e)
    by-test false e = here (same-equal p slot.form e)

-- The forms behind the first slot repeat nothing, nor the form that the first slot stores.
pub rest-distinct : (slot : Slot) (slots : List Slot) → Distinct (forms_in_use (slot ∷ slots)) → Distinct (forms_in_use slots)
unfolding forms_in_use either
rest-distinct slot slots d = by-test (is_free slot) d
  where
    by-test : (b : Bool) → Distinct (either b (forms_in_use slots) (slot.form ∷ forms_in_use slots)) → Distinct (forms_in_use slots)
    by-test true d = d
    by-test false (distinct new d) = d

stored-once : (slot : Slot) (slots : List Slot) (p : Polynomial) → Distinct (forms_in_use (slot ∷ slots)) → stores p slot ≡ true
    → Member p (forms_in_use slots) → ⊥
unfolding stores forms_in_use either
stored-once slot slots p d e m = by-test (is_free slot) d e
  where
    by-test : (b : Bool) → Distinct (either b (forms_in_use slots) (slot.form ∷ forms_in_use slots)) → not b && same p slot.form ≡ true → ⊥
    by-test true d e = absurd (false≢true e)
    by-test false (distinct new d) e = new (subst (λ (r : Polynomial). Member r (forms_in_use slots)) (same-equal p slot.form e) m)

pub once-first : (slot : Slot) (slots : List Slot) → is_free slot ≡ false → Distinct (forms_in_use (slot ∷ slots))
    → Member slot.form (forms_in_use slots) → ⊥
once-first slot slots e d m = elim (subst (λ (l : List Polynomial). Distinct l) (in_use slot slots e) d) [ distinct new rest ↦ new m ]

-- The slots beside it stay as many.
change-size : (test : Slot → Bool) (change : Slot → Slot) (slots : List Slot) → length (change_first test change slots) ≡ length slots
unfolding change_first either
change-size test change [] = refl
change-size test change (slot ∷ slots) = by-test (test slot) (change-size test change slots)
  where
    by-test : (b : Bool) → length (change_first test change slots) ≡ length slots
        → length (either b (change slot ∷ slots) (slot ∷ change_first test change slots)) ≡ suc (length slots)
    by-test true e = refl
    by-test false e = ap suc e

marked-form : (number : ℕ) (p : Polynomial) (slot : Slot) → (marked number p slot).form ≡ p
unfolding marked slot_of
marked-form number p slot = refl

-- A slot marked once more is in use by the same form.
marked-use : (number : ℕ) (p : Polynomial) (row : List Bool) (slot : Slot) (slots : List Slot) → number < length row → slot ≡ slot_of p row
    → 0 < count row
    → forms_in_use (marked number p slot ∷ slots) ≡ forms_in_use (slot ∷ slots)
unfolding marked slot_of
marked-use number p row slot slots b e h =
    in_use (marked number p slot) slots (not_free p (set slot.listed_by number true)
    (count-marked slot.listed_by number (subst (λ (s : Slot). number < length s.listed_by) (sym e) b)))
    ∙ sym (subst (λ (s : Slot). forms_in_use (s ∷ slots) ≡ p ∷ forms_in_use slots) (sym e) (in_use (slot_of p row) slots (not_free p row h)))

-- ---- A form listed for one number more: only its own row changes, and there by one mark.
pub record OneMore (marks new : Marks) (number : ℕ) (p : Polynomial) : Type 0 where
  pub other : (q : Polynomial) → (q ≡ p → ⊥) → new q ≡ marks q
  pub own : new p ≡ set (marks p) number true

module _ {marks new : Marks} (number : ℕ) (p : Polynomial) (below : number < 32) (rows : (q : Polynomial) → length (marks q) ≡ 32)
    (more : OneMore marks new number p) where
  new-mark : 0 < count (new p)
  new-mark = rw more.own (count-marked (marks p) number (omega (arith, rows p)))

  -- The slot of the form itself.
  kept-marked : (slot : Slot) → slot.listed_by ≡ marks p → Kept new (marked number p slot)
  unfolding marked
  kept-marked slot e = rw (e, ← more.own) (kept p new-mark)

  -- Slots of other forms.
  others_same : (slots : List Slot) → Every (Kept marks) slots → (Member p (forms_in_use slots) → ⊥) → Every (Kept new) slots
  others_same [] every_none out = every_none
  others_same (slot ∷ slots) (every k ks) out =
      every (kept_same k (λ q e. more.other q (λ d. out (stores-used slot slots p (subst (λ (r : Polynomial). stores r slot ≡ true) d e)))))
      (others_same slots ks (λ m. out (use-later slot slots m)))

  -- A form that is in use.
  known-each : (slots : List Slot) → Every (Kept marks) slots → Distinct (forms_in_use slots)
      → Every (Kept new) (change_first (stores p) (marked number p) slots)
  unfolding change_first either slot_of
  known-each [] every_none d = every_none
  known-each (slot ∷ slots) (every k ks) d = by-test (stores p slot) refl (known-each slots ks (rest-distinct slot slots d))
    where
      by-test : (b : Bool) → stores p slot ≡ b → Every (Kept new) (change_first (stores p) (marked number p) slots)
          → Every (Kept new) (either b (marked number p slot ∷ slots) (slot ∷ change_first (stores p) (marked number p) slots))
      by-test true e others =
          every (kept-marked slot (ap (λ (s : Slot). s.listed_by) (kept-stores p k e).0))
          (others_same slots ks (λ m. stored-once slot slots p d e m))
      by-test false e others = every (kept_same k (λ q h. more.other q
          (λ d. never_both (subst (λ (r : Polynomial). stores r slot ≡ true) d h) e))) others

  known-forms : (slots : List Slot) → Every (Kept marks) slots → forms_in_use (change_first (stores p) (marked number p) slots) ≡ forms_in_use slots
  unfolding change_first forms_in_use either
  known-forms [] every_none = refl
  known-forms (slot ∷ slots) (every k ks) = by-test (stores p slot) refl (known-forms slots ks)
    where
      by-test : (b : Bool) → stores p slot ≡ b → forms_in_use (change_first (stores p) (marked number p) slots) ≡ forms_in_use slots
          → forms_in_use (either b (marked number p slot ∷ slots) (slot ∷ change_first (stores p) (marked number p) slots)) ≡ forms_in_use (slot ∷ slots)
      by-test true e others = marked-use number p (marks p) slot slots (omega (arith, rows p)) (kept-stores p k e).0 (kept-stores p k e).1
      by-test false e others = ap (λ (l : List Polynomial). either (is_free slot) l (slot.form ∷ l)) others

  -- A form that is new, to the first free slot.
  new-each : (slots : List Slot) → Every (Kept marks) slots → (Member p (forms_in_use slots) → ⊥) → marks p ≡ replicate 32 false
      → Every (Kept new) (change_first is_free (marked number p) slots)
  unfolding change_first either cleared
  new-each [] every_none out none = every_none
  new-each (slot ∷ slots) (every k ks) out none = by-test (is_free slot) refl (new-each slots ks (λ m. out (use-later slot slots m)) none)
    where
      by-test : (b : Bool) → is_free slot ≡ b → Every (Kept new) (change_first is_free (marked number p) slots)
          → Every (Kept new) (either b (marked number p slot ∷ slots) (slot ∷ change_first is_free (marked number p) slots))
      by-test true e others =
          every (kept-marked slot (ap (λ (s : Slot). s.listed_by) (kept_free k e) ∙ sym none))
          (others_same slots ks (λ m. out (use-later slot slots m)))
      by-test false e others =
          every (kept_same k (λ q h. more.other q (λ d. out
          (stores-used slot slots p (subst (λ (r : Polynomial). stores r slot ≡ true) d h))))) others

  -- The forms in use are then those before and the new one.
  new-cases : (slots : List Slot) → Every (Kept marks) slots → {q : Polynomial} → Member q (forms_in_use (change_first is_free (marked number p) slots))
      → (q ≡ p) ⊎ Member q (forms_in_use slots)
  unfolding change_first either
  new-cases [] every_none m = inr m
  new-cases (slot ∷ slots) (every k ks) {q} m = by-test (is_free slot) m (new-cases slots ks)
    where
      by-test : (b : Bool) → Member q (forms_in_use (either b (marked number p slot ∷ slots) (slot ∷ change_first is_free (marked number p) slots)))
          → (Member q (forms_in_use (change_first is_free (marked number p) slots)) → (q ≡ p) ⊎ Member q (forms_in_use slots))
          → (q ≡ p) ⊎ Member q (forms_in_use (slot ∷ slots))
      by-test true m others = use-cases (marked number p slot) slots m (λ f e. inl (e ∙ marked-form number p slot))
          (λ h. inr (use-later slot slots h))
      by-test false m others =
          use-cases slot (change_first is_free (marked number p) slots) m (λ f e. inr (use-here slot slots f e))
          (λ h. ⊎_elim (λ e. inl e) (λ x. inr (use-later slot slots x)) (others h))

  new-kept : (slots : List Slot) {q : Polynomial} → Member q (forms_in_use slots) → Member q (forms_in_use (change_first is_free (marked number p) slots))
  unfolding change_first either
  new-kept [] m = m
  new-kept (slot ∷ slots) {q} m = by-test (is_free slot) refl (λ h. new-kept slots h)
    where
      by-test : (b : Bool) → is_free slot ≡ b → (Member q (forms_in_use slots) → Member q (forms_in_use (change_first is_free (marked number p) slots)))
          → Member q (forms_in_use (either b (marked number p slot ∷ slots) (slot ∷ change_first is_free (marked number p) slots)))
      by-test true e others = use-later (marked number p slot) slots (subst (λ (l : List Polynomial). Member q l) (in-use-free slot slots e) m)
      by-test false e others =
          use-cases slot slots m (λ f d. use-here slot (change_first is_free (marked number p) slots) f d)
          (λ h. use-later slot (change_first is_free (marked number p) slots) (others h))

  marked-not-free : {slot : Slot} → Kept marks slot → is_free slot ≡ true → is_free (marked number p slot) ≡ false
  unfolding marked cleared
  marked-not-free {slot} k e =
      not_free p (set slot.listed_by number true)
      (count-marked slot.listed_by number (subst (λ (s : Slot). number < length s.listed_by) (sym (kept_free k e)) below))

  -- With a free slot the form is in use then.
  new-there : (slots : List Slot) → Every (Kept marks) slots → length (forms_in_use slots) < length slots
      → Member p (forms_in_use (change_first is_free (marked number p) slots))
  unfolding change_first either
  new-there [] every_none room = absurd (omega arith)
  new-there (slot ∷ slots) (every k ks) room = by-test (is_free slot) refl (new-there slots ks)
    where
      by-test : (b : Bool) → is_free slot ≡ b → (length (forms_in_use slots) < length slots
          → Member p (forms_in_use (change_first is_free (marked number p) slots)))
          → Member p (forms_in_use (either b (marked number p slot ∷ slots) (slot ∷ change_first is_free (marked number p) slots)))
      by-test true e others = use-here (marked number p slot) slots (marked-not-free k e) (sym (marked-form number p slot))
      by-test false e others =
          use-later slot (change_first is_free (marked number p) slots) (others (omega (arith, ap length (in_use slot slots e))))

  new-distinct : (slots : List Slot) → Every (Kept marks) slots → Distinct (forms_in_use slots) → (Member p (forms_in_use slots) → ⊥)
      → Distinct (forms_in_use (change_first is_free (marked number p) slots))
  unfolding change_first either
  new-distinct [] every_none d out = d
  new-distinct (slot ∷ slots) (every k ks) d out =
      by-test (is_free slot) refl (new-distinct slots ks (rest-distinct slot slots d) (λ m. out (use-later slot slots m)))
    where
      by-test : (b : Bool) → is_free slot ≡ b → Distinct (forms_in_use (change_first is_free (marked number p) slots))
          → Distinct (forms_in_use (either b (marked number p slot ∷ slots) (slot ∷ change_first is_free (marked number p) slots)))
      by-test true e others =
          rw (in_use (marked number p slot) slots (marked-not-free k e), marked-form number p slot)
          (distinct (λ m. out (use-later slot slots m)) (rest-distinct slot slots d))
      by-test false e others =
          rw (in_use slot (change_first is_free (marked number p) slots) e)
          (distinct (λ m. ⊎_elim (λ h. out (use-here slot slots e (sym h))) (λ h. once-first slot slots e d h) (new-cases slots ks m)) others)

  new-rows : (q : Polynomial) → length (new q) ≡ 32
  new-rows q =
      equal_or_not q p (λ e. ap (λ (r : Polynomial). length (new r)) e ∙ ap length more.own ∙ length-set (marks p) number true ∙ rows p)
      (λ d. ap length (more.other q d) ∙ rows q)

-- What the slots are when a form has been listed: the pool is as large, and what is together with others is as much as before.
record Advanced (new : Marks) (p : Polynomial) (slots after : List Slot) : Type 0 where
  slots_then : Slots new after
  size : length after ≡ length slots
  room : (ps : List Polynomial) → length (together (forms_in_use after) ps) ≡ length (together (forms_in_use slots) (p ∷ ps))

list-one : {marks new : Marks} (number : ℕ) (p : Polynomial) → number < 32 → OneMore marks new number p → (slots : List Slot) → Slots marks slots
    → length (together (forms_in_use slots) (p ∷ [])) ≤ length slots → Advanced new p slots (list_form number slots p)
unfolding list_form either
list-one {marks} {new} number p below more slots h room = by-test (knows (forms_in_use slots) p) refl
  where
    of_member : {after : List Polynomial} → Member p after → ((q : Polynomial) → Member q (forms_in_use slots) → Member q after) → (q : Polynomial)
        → 0 < count (new q) → Member q after
    of_member {after} there old q k =
        equal_or_not q p (λ e. subst (λ (r : Polynomial). Member r after) (sym e) there)
        (λ d. old q (h.all q (subst (λ (row : List Bool). 0 < count row) (more.other q d) k)))

    by-test : (b : Bool) → knows (forms_in_use slots) p ≡ b → Advanced new p slots (change_first (either b (stores p) is_free) (marked number p) slots)
    by-test true e =
        let there : Member p (forms_in_use slots) = knows-member (forms_in_use slots) p e in
        let forms : forms_in_use (change_first (stores p) (marked number p) slots)
        ≡ forms_in_use slots = known-forms number p below h.rows more slots h.each in
        record {
          slots_then = record {
            rows = new-rows number p below h.rows more;
            each = known-each number p below h.rows more slots h.each h.once;
            once = rw forms h.once;
            all = rw forms (of_member there (λ q m. m));
          };
          size = change-size (stores p) (marked number p) slots;
          room = λ ps. rw forms (together-one (forms_in_use slots) p ps h.once h.once (λ q m. inr m) there (λ q m. m));
        }
    by-test false e =
        let out : Member p (forms_in_use slots) → ⊥ = λ m. never_both (member-knows m) e in
        let unmarked : count (marks p) ≡ 0 = no-count (marks p) (λ k. out (h.all p k)) in
        let none : marks p ≡ replicate 32 false = no-marks (marks p) unmarked ∙ ap (λ (k : ℕ). replicate k false) (h.rows p) in
        let free : length (forms_in_use slots) < length slots = omega (arith, more-with out h.once) in
        let there = new-there number p below h.rows more slots h.each free in
        let once = new-distinct number p below h.rows more slots h.each h.once out in
        record {
          slots_then = record {
            rows = new-rows number p below h.rows more;
            each = new-each number p below h.rows more slots h.each out none;
            once = once;
            all = of_member there (λ q m. new-kept number p below h.rows more slots m);
          };
          size = change-size is_free (marked number p) slots;
          room = λ ps. together-one (forms_in_use slots) p ps h.once once (λ q m. new-cases number p below h.rows more slots h.each m) there
              (λ q m. new-kept number p below h.rows more slots m);
        }

-- ---- All forms of a block.

-- The marks when a form, or each of some, has been listed for a number.
unfoldable also_marked : ℕ → Polynomial → Marks → Marks
also_marked number p marks q = either (same q p) (set (marks q) number true) (marks q)

unfoldable marks_after : ℕ → Marks → List Polynomial → Marks
marks_after number marks [] = marks
marks_after number marks (p ∷ ps) = marks_after number (also_marked number p marks) ps

one-more : (number : ℕ) (p : Polynomial) (marks : Marks) → OneMore marks (also_marked number p marks) number p
unfolding also_marked either
one-more number p marks = record {
  other = λ q d. rw (never_true (same q p) (λ e. d (same-equal q p e)));
  own = rw (same-itself p);
}

marks-after : (number : ℕ) (ps : List Polynomial) (marks : Marks) (q : Polynomial)
    → marks_after number marks ps q ≡ either (knows ps q) (set (marks q) number true) (marks q)
unfolding marks_after also_marked knows either
marks-after number [] marks q = refl
marks-after number (p ∷ ps) marks q = marks-after number ps (also_marked number p marks) q ∙ by-test (same q p) (knows ps q)
  where
    by-test : (b c : Bool) → either c (set (either b (set (marks q) number true) (marks q)) number true)
        (either b (set (marks q) number true) (marks q))
        ≡ either (b || c) (set (marks q) number true) (marks q)
    by-test true true = set-set (marks q) number true true
    by-test true false = refl
    by-test false true = refl
    by-test false false = refl

slots-alike : {marks new : Marks} {slots : List Slot} → Slots marks slots → ((p : Polynomial) → new p ≡ marks p) → Slots new slots
slots-alike h e = record {
  rows = λ p. ap length (e p) ∙ h.rows p;
  each = every-wider (λ slot k. kept_same k (λ p s. e p)) h.each;
  once = h.once;
  all = λ p k. h.all p (subst (λ (row : List Bool). 0 < count row) (e p) k);
}

list_all : (number : ℕ) → number < 32 → (ps : List Polynomial) {marks : Marks} (slots : List Slot) → Slots marks slots
    → length (together (forms_in_use slots) ps) ≤ length slots
    → Slots (marks_after number marks ps) (list_forms number slots ps) × (length (list_forms number slots ps) ≡ length slots)
unfolding marks_after list_forms
list_all number below [] slots h room = (h, refl)
list_all number below (p ∷ ps) {marks} slots h room =
    let first : length (together (forms_in_use slots) (p ∷ [])) ≤ length slots = omega (arith, together-fewer (forms_in_use slots) p ps h.once) in
    let one : Advanced (also_marked number p marks) p slots (list_form number slots p) = list-one number p below
    (one-more number p marks) slots h first in
    let others = list_all number below ps (list_form number slots p) one.slots_then (omega (arith, one.room ps, one.size)) in
    (others.0, others.1 ∙ one.size)

-- With room for all of them, the forms listed for a number are marked there, and no other mark changes.
pub listed-all : (number : ℕ) → number < 32 → (ps : List Polynomial) {marks new : Marks} (slots : List Slot) → Slots marks slots
    → length (together (forms_in_use slots) ps) ≤ length slots → ((q : Polynomial) → new q ≡ either (knows ps q) (set (marks q) number true) (marks q))
    → Slots new (list_forms number slots ps) × (length (list_forms number slots ps) ≡ length slots)
listed-all number below ps {marks} slots h room e =
    let all = list_all number below ps slots h room in
    (slots-alike all.0 (λ q. e q ∙ sym (marks-after number ps marks q)), all.1)
