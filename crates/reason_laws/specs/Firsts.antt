-- A polynomial stands at its first place: an atom is never merged into a later one, where the whole is not false.
use Rattle.std.specs.Prelude.{◌≡◌, refl, Bool, ◌||◌, List, [], ◌∷◌, ◌++◌, ℕ, suc, ◌≤◌, ℤ}
use Rattle.std.proofs.Common.{sym, ap, ◌∙◌, subst, arith}
use Rattle.std.proofs.Math.Bool.{true, false}
use Rattle.std.proofs.Math.Option.{Option, none, some, none-ne-some}
use Rattle.rules.specs.Signs.{sign_of, has}
use Rattle.rules.specs.Polynomial.{Polynomial, Atom, same, normal, constant}
use Rattle.rules.specs.Deduce.{any_empty}
use Rattle.rules.specs.Rounds.{sets_of}
use Rattle.rules.specs.Level.{Placed, plains, placed_at, normal_placed, merged_if, merge_into}
use Rattle.sign_laws.specs.Booleans.{never_true, never_both}
use Rattle.sign_laws.specs.Lists.{Every, every_none, every, every-wider, every_append}
use Rattle.level_laws.specs.Same.{same-equal, same-itself}
use Rattle.rules.specs.Reasons.{clauses_from, join_constant, join_normal, join_all, joined, merged_list, or_place, place_of}
use Rattle.reason_laws.specs.Merged.{Empty, false-stands, join_all-empty, not_full-empty}

-- ---- The first clause of a polynomial.

pub data FirstAt (p : Polynomial) (i : ℕ) : List Placed → Type 0 where
  first_here : {c : Placed} {l : List Placed} → same p c.polynomial ≡ true → c.place ≡ i → FirstAt p i (c ∷ l)
  first_later : {c : Placed} {l : List Placed} → same p c.polynomial ≡ false → FirstAt p i l → FirstAt p i (c ∷ l)

pub first_found : {p : Polynomial} {i : ℕ} {l : List Placed} → FirstAt p i l → (own : ℕ) → place_of p l own ≡ i
unfolding place_of or_place
first_found (first_here e q) own = rw e q
first_found (first_later e f) own = rw e (first_found f own)

join_first : {p : Polynomial} {i : ℕ} (d : Placed) {l : List Placed} → FirstAt p i l → FirstAt p i (merge_into d l)
unfolding merge_into merged_if
join_first {p} {i} d (first_here {c} {l} e q) = by-test (same d.polynomial c.polynomial)
  where
    by-test : (b : Bool) → FirstAt p i (merged_if b d c l (merge_into d l))
    by-test true = first_here e q
    by-test false = first_here e q
join_first {p} {i} d (first_later {c} {l} e f) = by-test (same d.polynomial c.polynomial) (join_first d f)
  where
    by-test : (b : Bool) → FirstAt p i (merge_into d l) → FirstAt p i (merged_if b d c l (merge_into d l))
    by-test true rest = first_later e f
    by-test false rest = first_later e rest

append-first : {p : Polynomial} {i : ℕ} {l : List Placed} (m : List Placed) → FirstAt p i l → FirstAt p i (l ++ m)
append-first m (first_here e q) = first_here e q
append-first m (first_later e f) = first_later e (append-first m f)

join_normal-first : {p : Polynomial} {i : ℕ} (o : Option ℤ) (d : Placed) {l : List Placed} → FirstAt p i l → FirstAt p i (join_normal o d l)
unfolding join_normal join_constant
join_normal-first none d f = join_first d f
join_normal-first {p} {i} (some z) d {l} f = by-truth (has (sign_of z) d.set)
  where
    by-truth : (b : Bool) → FirstAt p i (join_constant b d l)
    by-truth true = f
    by-truth false = append-first _ f

join_all-first : {p : Polynomial} {i : ℕ} (given : List Placed) {l : List Placed} → FirstAt p i l → FirstAt p i (join_all l given)
unfolding join_all
join_all-first [] f = f
join_all-first (d ∷ given) f = join_all-first given (join_normal-first (constant d.polynomial) d f)

-- ---- What holds of places and polynomials is kept.

record Has (Q : ℕ → Polynomial → Type 0) (c : Placed) : Type 0 where
  it : Q c.place c.polynomial

module _ {Q : ℕ → Polynomial → Type 0} where
  join-every : (d : Placed) → Q d.place d.polynomial → {l : List Placed} → Every (Has Q) l → Every (Has Q) (merge_into d l)
  unfolding merge_into merged_if
  join-every d h every_none = every (record { it = h }) every_none
  join-every d h (every {a = c} {l} k ks) = by-test (same d.polynomial c.polynomial) (join-every d h ks)
    where
      by-test : (b : Bool) → Every (Has Q) (merge_into d l) → Every (Has Q) (merged_if b d c l (merge_into d l))
      by-test true rest = every (record { it = k.it }) ks
      by-test false rest = every k rest

  join_normal-every : (o : Option ℤ) (d : Placed) → Q d.place d.polynomial → {l : List Placed} → Every (Has Q) l
      → Every (Has Q) (join_normal o d l)
  unfolding join_normal join_constant
  join_normal-every none d h hs = join-every d h hs
  join_normal-every (some z) d h {l} hs = by-truth (has (sign_of z) d.set)
    where
      by-truth : (b : Bool) → Every (Has Q) (join_constant b d l)
      by-truth true = hs
      by-truth false = every_append hs (every (record { it = h }) every_none)

-- ---- A clause just joined stands at its own place or an earlier one.

record First (p : Polynomial) (i : ℕ) (l : List Placed) : Type 0 where
  at : ℕ
  stands : FirstAt p at l
  soon : at ≤ i

abbrev UpTo : ℕ → ℕ → Polynomial → Type 0
UpTo i j p = j ≤ i

just-joined : (c : Placed) {l : List Placed} → Every (Has (UpTo c.place)) l → First c.polynomial c.place (merge_into c l)
unfolding merge_into merged_if
just-joined c every_none = record { at = c.place; stands = first_here (same-itself c.polynomial) refl; soon = omega arith }
just-joined c (every {a = d} {l} h hs) = by-test (same c.polynomial d.polynomial) refl (just-joined c hs)
  where
    by-test : (b : Bool) → same c.polynomial d.polynomial ≡ b → First c.polynomial c.place (merge_into c l)
        → First c.polynomial c.place (merged_if b c d l (merge_into c l))
    by-test true e rest = record { at = d.place; stands = first_here e refl; soon = h.it }
    by-test false e rest = record { at = rest.at; stands = first_later e rest.stands; soon = rest.soon }

-- ---- Constants are not merged.

abbrev NoConstant : ℕ → Polynomial → Type 0
NoConstant j p = constant p ≡ none

no-constants : (given : List Placed) {l : List Placed} → Every (Has NoConstant) l → any_empty (sets_of (plains (join_all l given))) ≡ false
    → Every (Has NoConstant) (join_all l given)
unfolding join_all join_normal join_constant
no-constants [] hs e = hs
no-constants (d ∷ given) {l} hs e = by_constant (constant d.polynomial) refl e (λ m ks f. no-constants given ks f)
  where
    by-truth : (b : Bool) → any_empty (sets_of (plains (join_all (join_constant b d l) given))) ≡ false
        → ((m : List Placed) → Every (Has NoConstant) m → any_empty (sets_of (plains (join_all m given))) ≡ false
        → Every (Has NoConstant) (join_all m given))
        → Every (Has NoConstant) (join_all (join_constant b d l) given)
    by-truth true f rest = rest l hs f
    by-truth false f rest = never_both (join_all-empty _ given (false-stands d l)) f

    by_constant : (o : Option ℤ) → constant d.polynomial ≡ o → any_empty (sets_of (plains (join_all (join_normal o d l) given))) ≡ false
        → ((m : List Placed) → Every (Has NoConstant) m → any_empty (sets_of (plains (join_all m given))) ≡ false
        → Every (Has NoConstant) (join_all m given))
        → Every (Has NoConstant) (join_all (join_normal o d l) given)
    by_constant none w f rest = rest (merge_into d l) (join-every d w hs) f
    by_constant (some z) w f rest = by-truth (has (sign_of z) d.set) f rest

constant-nowhere : (p : Polynomial) (z : ℤ) → constant p ≡ some z → (own : ℕ) {l : List Placed} → Every (Has NoConstant) l → place_of p l own ≡ own
unfolding place_of or_place
constant-nowhere p z w own every_none = refl
constant-nowhere p z w own (every {a = c} h hs) =
    let differs : same p c.polynomial ≡ false = never_true (same p c.polynomial)
    (λ e. none-ne-some z (sym h.it ∙ ap constant (sym (same-equal p c.polynomial e)) ∙ w)) in
    rw differs (constant-nowhere p z w own hs)

-- ---- So each polynomial stands no later than any atom of it.

pub record NoLater (all : List Placed) (c : Placed) : Type 0 where
  pub soon : place_of c.polynomial all c.place ≤ c.place

firsts-from : (given : List Atom) (i : ℕ) {l : List Placed} → Every (Has (UpTo i)) l → Every (Has NoConstant) (join_all l (clauses_from i given))
    → Every (NoLater (join_all l (clauses_from i given))) (clauses_from i given)
unfolding join_all clauses_from join_normal normal_placed
firsts-from [] i hs ks = every_none
firsts-from (a ∷ given) i {l} hs ks =
    every (by_constant (constant (normal a).polynomial) refl ks)
    (firsts-from given (suc i) (every-wider (λ c h. record { it = later h.it }) (join_normal-every (constant (normal a).polynomial) c
    (omega arith) hs)) ks)
  where
    c : Placed
    c = normal_placed (placed_at i a)

    later : {j : ℕ} → j ≤ i → j ≤ suc i
    later h = omega arith

    by_constant : (o : Option ℤ) → constant (normal a).polynomial ≡ o
        → Every (Has NoConstant) (join_all (join_normal o c l) (clauses_from (suc i) given))
        → NoLater (join_all (join_normal o c l) (clauses_from (suc i) given)) c
    by_constant none w k =
        let first = just-joined c hs in
        let found = first_found (join_all-first (clauses_from (suc i) given) first.stands) i in
        record { soon = subst (λ j. j ≤ i) (sym found) first.soon }
    by_constant (some z) w k =
        let own = constant-nowhere (normal a).polynomial z w i k in
        record { soon = subst (λ j. j ≤ i) (sym own) (omega arith) }

pub no-later : (l : List Atom) → any_empty (sets_of (plains (merged_list l))) ≡ false → Every (NoLater (joined l)) (clauses_from 0 l)
unfolding joined merged_list
no-later l e = firsts-from l 0 every_none (no-constants (clauses_from 0 l) every_none
    (never_true (any_empty (sets_of (plains (joined l)))) (λ f. never_both (not_full-empty (joined l) f) e)))

-- ---- And an atom that is not merged is a true constant, or stands at its own place.

-- A true constant.
pub record TrueConstant (c : Placed) : Type 0 where
  pub value : ℤ
  pub is : constant c.polynomial ≡ some value
  pub holds : has (sign_of value) c.set ≡ true

pub data Stood (all : List Placed) (c : Placed) : Type 0 where
  is_true : TrueConstant c → Stood all c
  stands_first : (at : ℕ) → FirstAt c.polynomial at all → Stood all c

stood-from : (given : List Atom) (i : ℕ) {l : List Placed} → Every (Has (UpTo i)) l
    → any_empty (sets_of (plains (join_all l (clauses_from i given)))) ≡ false
    → Every (Stood (join_all l (clauses_from i given))) (clauses_from i given)
unfolding join_all clauses_from join_normal join_constant normal_placed
stood-from [] i hs e = every_none
stood-from (a ∷ given) i {l} hs e =
    every (by_constant (constant (normal a).polynomial) refl e)
    (stood-from given (suc i) (every-wider (λ c h. record { it = later h.it }) (join_normal-every (constant (normal a).polynomial) c
    (omega arith) hs)) e)
  where
    c : Placed
    c = normal_placed (placed_at i a)

    later : {j : ℕ} → j ≤ i → j ≤ suc i
    later h = omega arith

    by-truth : (b : Bool) (z : ℤ) → constant (normal a).polynomial ≡ some z → has (sign_of z) (normal a).set ≡ b
        → any_empty (sets_of (plains (join_all (join_constant b c l) (clauses_from (suc i) given)))) ≡ false
        → Stood (join_all (join_constant b c l) (clauses_from (suc i) given)) c
    by-truth true z w t f = is_true (record { value = z; is = w; holds = t })
    by-truth false z w t f = never_both (join_all-empty _ (clauses_from (suc i) given) (false-stands c l)) f

    by_constant : (o : Option ℤ) → constant (normal a).polynomial ≡ o
        → any_empty (sets_of (plains (join_all (join_normal o c l) (clauses_from (suc i) given)))) ≡ false
        → Stood (join_all (join_normal o c l) (clauses_from (suc i) given)) c
    by_constant none w f = let first = just-joined c hs in stands_first first.at (join_all-first (clauses_from (suc i) given) first.stands)
    by_constant (some z) w f = by-truth (has (sign_of z) (normal a).set) z w refl f

pub all-stood : (l : List Atom) → any_empty (sets_of (plains (merged_list l))) ≡ false → Every (Stood (joined l)) (clauses_from 0 l)
unfolding joined merged_list
all-stood l e = stood-from l 0 every_none (never_true (any_empty (sets_of (plains (joined l)))) (λ f. never_both (not_full-empty (joined l) f) e))
