-- Forms put together, each once: nothing is repeated, the members are those of both, and lists without repeats that have the same members are
-- equally long. So how many different forms there are does not depend on the order in which they are met.
use Rattle.std.specs.Prelude.{◌≡◌, refl, Bool, true, false, List, [], ◌∷◌, ◌++◌, ◌⊎◌, ℕ, suc, ◌≤◌, length}
use Rattle.std.proofs.Common.{sym, ap, ◌∙◌, subst, inl, inr, ⊎_elim, arith, length-append}
use mathlib.Core.List.Memᴰ.{head as here}
use mathlib.Core.List.Memᴰ.{tail as later}
use mathlib.Core.List.{Memᴰ as Member}
use mathlib.Core.List.Memᴰ.{append_cases}
use mathlib.Core.List.Memᴰ.{eq_of_singleton as only-member}
use Rattle.rules.specs.Polynomial.{Polynomial}
use Rattle.rules.specs.Answer.{knows, added_unless}
use Rattle.rules.specs.Pool.{together}
use Rattle.sign_laws.specs.Lists.{Every, every_none, every}
use Rattle.length_laws.specs.Pigeonhole.{Distinct, total, pigeonhole}
use Rattle.pool_laws.specs.Known.{member-knows, added_unless-distinct}
use Rattle.pool_laws.specs.Known.{knows-member}

-- ---- Lists without repeats that have the same members.

every-among : {A : Type 0} (l : List A) {m : List A} → ((a : A) → Member a l → Member a m) → Every (λ (a : A). Member a m) l
every-among [] h = every_none
every-among (a ∷ l) h = every (h a (here refl)) (every-among l (λ b k. h b (later k)))

total-length : {A : Type 0} (l : List A) → total (λ (a : A). 1) l ≡ length l
unfolding total
total-length [] = refl
total-length (a ∷ l) = omega (arith, total-length l)

-- What has no repeats and stands among others is no longer.
pub no_longer : {A : Type 0} {l m : List A} → Distinct l → ((a : A) → Member a l → Member a m) → length l ≤ length m
no_longer {A} {l} {m} d h = omega (arith, pigeonhole (λ (a : A). 1) d (every-among l h), total-length l, total-length m)

-- Two that have the same members are equally long.
pub equally-long : {A : Type 0} {l m : List A} → Distinct l → Distinct m → ((a : A) → Member a l → Member a m) → ((a : A) → Member a m → Member a l)
    → length l ≡ length m
equally-long d e h k = omega (arith, no_longer d h, no_longer e k)

-- ---- One form added unless it is known.

append-first : {A : Type 0} {a : A} {l : List A} (m : List A) → Member a l → Member a (l ++ m)
append-first m (here e) = here e
append-first m (later k) = later (append-first m k)

append-last : {A : Type 0} (l : List A) {m : List A} {a : A} → Member a m → Member a (l ++ m)
append-last [] k = k
append-last (b ∷ l) k = later (append-last l k)

-- Its members are the form and what was there.
added-cases : (b : Bool) (p : Polynomial) (forms : List Polynomial) {q : Polynomial} → Member q (added_unless b p forms) → (q ≡ p) ⊎ Member q forms
unfolding added_unless
added-cases true p forms k = inr k
added-cases false p forms k = ⊎_elim (λ h. inr h) (λ h. inl (only-member h)) (append_cases forms k)

added-old : (b : Bool) (p : Polynomial) {forms : List Polynomial} {q : Polynomial} → Member q forms → Member q (added_unless b p forms)
unfolding added_unless
added-old true p k = k
added-old false p k = append-first (p ∷ []) k

added_new : (b : Bool) (p : Polynomial) (forms : List Polynomial) → knows forms p ≡ b → Member p (added_unless b p forms)
unfolding added_unless
added_new true p forms e = knows-member forms p e
added_new false p forms e = append-last forms (here refl)

-- ---- All of them.

-- Nothing is repeated.
pub together-distinct : {forms : List Polynomial} (ps : List Polynomial) → Distinct forms → Distinct (together forms ps)
unfolding together
together-distinct [] d = d
together-distinct {forms} (p ∷ ps) d = together-distinct {forms = added_unless (knows forms p) p forms} ps (added_unless-distinct (knows forms p) p refl d)

-- The first forms are there, and the others are; and nothing else is.
pub together-first : {forms : List Polynomial} (ps : List Polynomial) {q : Polynomial} → Member q forms → Member q (together forms ps)
unfolding together
together-first [] k = k
together-first {forms} (p ∷ ps) k = together-first {forms = added_unless (knows forms p) p forms} ps (added-old (knows forms p) p k)

pub together-second : {q : Polynomial} (forms : List Polynomial) {ps : List Polynomial} → Member q ps → Member q (together forms ps)
unfolding together
together-second forms (here {x = p} {xs = ps} e) = together-first ps
    (subst (λ (r : Polynomial). Member r (added_unless (knows forms p) p forms)) (sym e) (added_new (knows forms p) p forms refl))
together-second forms (later {x = p} k) = together-second (added_unless (knows forms p) p forms) k

pub together-cases : (forms ps : List Polynomial) {q : Polynomial} → Member q (together forms ps) → Member q forms ⊎ Member q ps
unfolding together
together-cases forms [] k = inl k
together-cases forms (p ∷ ps) k =
    ⊎_elim (λ h. ⊎_elim (λ e. inr (here e)) (λ h. inl h) (added-cases (knows forms p) p forms h)) (λ h. inr (later h))
    (together-cases (added_unless (knows forms p) p forms) ps k)

-- They are no fewer than the first.
pub together-more : {forms : List Polynomial} (ps : List Polynomial) → Distinct forms → length forms ≤ length (together forms ps)
together-more ps d = no_longer d (λ q k. together-first ps k)

-- How many there are depends on the members of the first forms alone.
pub together-size : {forms others : List Polynomial} (ps : List Polynomial) → Distinct forms → Distinct others
    → ((q : Polynomial) → Member q forms → Member q others) → ((q : Polynomial) → Member q others → Member q forms)
    → length (together forms ps) ≡ length (together others ps)
together-size {forms} {others} ps d e h k =
    equally-long (together-distinct ps d) (together-distinct ps e)
    (λ q m. ⊎_elim (λ x. together-first ps (h q x)) (λ x. together-second others x) (together-cases forms ps m))
    (λ q m. ⊎_elim (λ x. together-first ps (k q x)) (λ x. together-second forms x) (together-cases others ps m))

-- One form first, or with the others.
pub together-one : (forms : List Polynomial) (p : Polynomial) (ps : List Polynomial) {added : List Polynomial} → Distinct forms → Distinct added
    → ((q : Polynomial) → Member q added → (q ≡ p) ⊎ Member q forms) → Member p added → ((q : Polynomial) → Member q forms → Member q added)
    → length (together added ps) ≡ length (together forms (p ∷ ps))
unfolding together
together-one forms p ps {added} d e only new old =
    together-size ps e (added_unless-distinct (knows forms p) p refl d)
    (λ q m. ⊎_elim (λ x. subst (λ (r : Polynomial). Member r (added_unless (knows forms p) p forms)) (sym x) (added_new (knows forms p) p forms refl))
    (λ x. added-old (knows forms p) p x) (only q m))
    (λ q m. ⊎_elim (λ x. subst (λ (r : Polynomial). Member r added) (sym x) new) (λ x. old q x) (added-cases (knows forms p) p forms m))
