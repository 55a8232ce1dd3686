-- The polynomial of an atom, behind a table of those that are known: any, or if the table is full a known one.
use Rattle.std.specs.Prelude.{Bool, ◌≡◌, ℕ, suc, ◌+◌, ◌<◌, ◌≤◌, ltb, length}
use Rattle.std.proofs.Math.Bool.{true, false}
use Rattle.std.proofs.lemmas.Bool.{false≢true}
use mathlib.Core.List.{List, [], ◌∷◌, ◌++◌, map}
use mathlib.Core.List.Memᴰ.{head as here}
use mathlib.Core.List.Memᴰ.{map as member-mapped}
use mathlib.Core.List.Memᴰ.{of_map as member-of-map}
use mathlib.Core.List.Memᴰ.{tail as later}
use mathlib.Core.List.{Memᴰ as Member}
use Rattle.std.proofs.Math.Path.{refl}
use Rattle.std.proofs.Common.{sym, subst, arith, length-append, ltb-true, ltb-false}
use Rattle.rules.specs.Polynomial.{Polynomial, same}
use Rattle.rules.specs.Limits.{PolynomialWithin}
use Rattle.rules.specs.Answer.{knows, added_unless}
use Rattle.sign_laws.specs.Booleans.{or-first, or-second, or_cases}
use Rattle.sign_laws.specs.Lists.{Every, every_none, every, every_append}
use Rattle.level_laws.specs.Same.{same-equal, same-itself}
use Rattle.script_laws.specs.Leading.{Leads, leads_one}
use Rattle.rules.specs.Combine.{only, is_some}
use Rattle.script_laws.specs.CombineLaws.{Reads, Led, led-none, led, leads-only, only-leads, fine-only}
use Rattle.rules.specs.Text.{bytes, polynomial_text}
use Rattle.rules.specs.Reading.{polynomial, of_known, known_polynomial}

-- A table so far: polynomials within the limits, at most 64.
pub record Table (n : ℕ) (known : List Polynomial) : Type 0 where
  pub each : Every (PolynomialWithin n) known
  pub few : length known ≤ 64

-- The table with one more polynomial, unless it is known.
abbrev pub with : List Polynomial → Polynomial → List Polynomial
with known p = added_unless (knows known p) p known

-- A polynomial that may come: within the limits, and the table has room for it or knows it.
pub record MayCome (n : ℕ) (known : List Polynomial) (p : Polynomial) : Type 0 where
  pub within : PolynomialWithin n p
  pub few : length (with known p) ≤ 64

-- ---- What a table knows is one of its members.

known_member : (known : List Polynomial) (p : Polynomial) → knows known p ≡ true → Member p known
unfolding knows
known_member [] p e = absurd (false≢true e)
known_member (q ∷ qs) p e = or_cases (same p q) (knows qs p) e (λ h. here (same-equal p q h)) (λ h. later (known_member qs p h))

member-known : {p : Polynomial} {known : List Polynomial} → Member p known → knows known p ≡ true
unfolding knows
member-known {p = p} (here {x = q} {xs = qs} e) = or-first (knows qs p) (subst (λ (r : Polynomial). same p r ≡ true) e (same-itself p))
member-known {p = p} (later {x = q} m) = or-second (same p q) (member-known m)

every_in : {P : Polynomial → Type 0} {known : List Polynomial} {p : Polynomial} → Every P known → Member p known → P p
every_in {P = P} {p = p} every_none x3 = elim x3 [ ]
every_in {P} (every h hs) (here e) = subst P (sym e) h
every_in (every h hs) (later m) = every_in hs m

with-grows : (b : Bool) (known : List Polynomial) (p : Polynomial) → length (added_unless b p known) ≤ suc (length known)
unfolding added_unless
with-grows true known p = omega arith
with-grows false known p = rw (length-append known (p ∷ [])) (omega arith)

with-new : (b : Bool) (known : List Polynomial) (p : Polynomial) → length (added_unless b p known) ≤ length known → b ≡ true
unfolding added_unless
with-new true known p h = refl
with-new false known p h = let more : length (known ++ (p ∷ [])) ≡ length known + 1 = length-append known (p ∷ []) in absurd (omega arith)

with-known : (b : Bool) (known : List Polynomial) (p : Polynomial) → b ≡ true → length (added_unless b p known) ≤ length known
unfolding added_unless
with-known true known p e = omega arith
with-known false known p e = absurd (false≢true e)

-- Polynomials that are within the limits stay so.
pub with-each : {P : Polynomial → Type 0} (b : Bool) {known : List Polynomial} {p : Polynomial} → Every P known → P p → Every P (added_unless b p known)
unfolding added_unless
with-each true h k = h
with-each false h k = every_append h (every k every_none)

module _ (n : ℕ) (reads : Reads (polynomial n) (PolynomialWithin n) (λ p. polynomial_text n p ++ bytes " ")) where
  abbrev text_of : Polynomial → List ℕ
  text_of p = polynomial_text n p ++ bytes " "

  known-led : {known : List Polynomial} → Every (PolynomialWithin n) known → Led (polynomial n) (map text_of known)
  known-led every_none = led-none
  known-led (every {a = p} h hs) = led (reads.there p h) (known-led hs)

  some-text : (known : List Polynomial) → 64 ≤ length known → is_some (map text_of known) ≡ true
  unfolding is_some
  some-text [] h = absurd (omega (arith, h))
  some-text (p ∷ ps) h = refl

  member_back : (known : List Polynomial) {t : List ℕ} {p : Polynomial} → Leads (polynomial n) t p → Member t (map text_of known) → Every (PolynomialWithin n) known → knows known p ≡ true
  member_back known {t} {p} way m each =
      let (q, k, e) = member-of-map text_of known m in
      let led-there : Leads (polynomial n) t q = subst (λ (u : List ℕ). Leads (polynomial n) u q) e (reads.there q (every_in each k)) in
      member-known (subst (λ (x : Polynomial). Member x known) (leads_one (polynomial n) led-there way) k)

  room-reads : (known : List Polynomial) → length known < 64 → Reads (polynomial n) (MayCome n known) text_of
  room-reads known small = record {
    fine = reads.fine;
    there = λ p h. reads.there p h.within;
    back = λ t p way. let (within, same) = reads.back t p way in
        (record { within = within; few = let grows = with-grows (knows known p) known p in omega arith }, same);
  }

  full-reads : (known : List Polynomial) → Table n known → 64 ≤ length known → Reads (only (map text_of known) (polynomial n)) (MayCome n known) text_of
  full-reads known table big =
      let some = some-text known big in
      let all-led = known-led table.each in
      record {
        fine = fine-only (polynomial n) (map text_of known) some all-led;
        there = λ p h.
            let small = table.few in
            let grown = h.few in
            leads-only (map text_of known) (reads.there p h.within) (member-mapped text_of (known_member known p (with-new (knows known p) known p (omega arith))));
        back = λ t p way.
            let (leads, member) = only-leads (polynomial n) (map text_of known) some all-led way in
            let (within, same) = reads.back t p leads in
            let known-there = with-known (knows known p) known p (member_back known leads member table.each) in
            (record { within = within; few = let small = table.few in omega arith }, same);
      }

  by-room : (known : List Polynomial) → Table n known → (b : Bool) → ltb (length known) 64 ≡ b → Reads (of_known b n known) (MayCome n known) text_of
  unfolding of_known
  by-room known table true e = room-reads known (ltb-true (length known) 64 e)
  by-room known table false e = full-reads known table (ltb-false (length known) 64 e)

  pub known-reads : (known : List Polynomial) → Table n known → Reads (known_polynomial n known) (MayCome n known) text_of
  unfolding known_polynomial
  known-reads known table = by-room known table (ltb (length known) 64) refl
