-- The digits of a number, byte by byte: each byte ends it, goes on with it, or stops it.
use Rattle.std.specs.Prelude.{Result, Ok, Err}
use mathlib.Core.Bool.{Bool, true, false, ◌&&◌}
use mathlib.Core.List.{List}
use mathlib.Core.Path.{◌≡◌, refl, sym, ◌∙◌}
use Prim.Native.Nat.{ℕ, zero, suc, ◌+◌, ◌-◌, ◌*◌, ◌≤◌, ◌<◌}
use native.Mathlib.Omega.{arith}
use lib.Dec.{eqb, leb}
use lib.ListN.{length, drop, get_or}
use borrow.Author.Tests.{eq-eqb, ne_eqb, le-leb, lt-leb, leb-true}
use Rattle.sign_laws.specs.Booleans.{and_first, and_second, and-false}
use Rattle.rules.specs.Reader.{Reader, give}
use Rattle.rules.specs.Combine.{given, say}
use Rattle.script_laws.specs.Numbers.{Sized}
use Rattle.rules.specs.Reading.{digit_may, end_or, digits_after, magnitude}
use Rattle.script_laws.specs.Steps.{got, stop, read_part}
use Rattle.script_polynomial.specs.At.{read_at, byte_inside, byte-on, byte-stops, stops_as, reaches-as}
use Rattle.script_polynomial.specs.Found.{NumberOf, NumberFound}
use Rattle.script_polynomial.specs.declared.Read.{Read}
use Rattle.script_polynomial.specs.declared.Stop.{Stop}

-- ---- What is found, by another reader that reads the same.

pub number-as : {text : List ℕ} {at at' : ℕ} {r r' : Reader ℕ} {P : ℕ → Type 0} (number : Result (Read ℕ) Stop) → read_at text at r ≡ read_at text at' r'
    → NumberFound text at' r' P number → NumberFound text at r P number
unfolding NumberOf
number-as (Err stopped) same h = record { found = stops_as same h.found }
number-as (Ok number) same h = record { found = (reaches-as same h.found.0, h.found.1) }

pub number-stops : {text : List ℕ} {at : ℕ} {r : Reader ℕ} {P : ℕ → Type 0} {position : ℕ} → read_at text at r ≡ stop position
    → NumberFound text at r P (Err (record { at = position }))
unfolding NumberOf
number-stops e = record { found = record { reading = e } }

-- ---- Digits.

-- A digit that may stand behind x is one, and the number that it makes is small.
pub may-digit : (x b : ℕ) → digit_may x b ≡ true → (48 ≤ b) × (b ≤ 57) × (10 * x + (b - 48) ≤ 2147483647)
unfolding digit_may
may-digit x b e =
    let below = and_second (leb 48 b) (leb b 57 && leb (10 * x + (b - 48)) 2147483647) e in (
      leb-true 48 b (and_first (leb 48 b) (leb b 57 && leb (10 * x + (b - 48)) 2147483647) e),
      leb-true b 57 (and_first (leb b 57) (leb (10 * x + (b - 48)) 2147483647) below),
      leb-true (10 * x + (b - 48)) 2147483647 (and_second (leb b 57) (leb (10 * x + (b - 48)) 2147483647) below),
    )

module _ (text : List ℕ) (at last x : ℕ) where
  -- What decides on a byte behind x, where k digits more are allowed.
  abbrev behind : ℕ → ℕ → Reader ℕ
  behind k b = end_or (eqb b last) (give x) (given (digit_may x b) (digits_after k last (10 * x + (b - 48))))

  pub digits-end : (most : ℕ) {b : ℕ} → b ≡ get_or text at 0 → 0 < last → b ≡ last → Sized x → NumberFound text at (digits_after most last x) Sized
      (Ok (record { value = x; behind = at + 1 }))
  unfolding NumberOf digits_after say given end_or read_part
  digits-end most e some same sized = record { found = (record { reading = by most; inside = omega (arith, here) }, sized) }
    where
      ends : get_or text at 0 ≡ last
      ends = sym e ∙ same

      here : at < length text
      here = byte_inside text at (rw ends some)

      by : (k : ℕ) → read_at text at (digits_after k last x) ≡ got x (at + 1) (drop (at + 1) text)
      by zero = byte-on text at (λ b. given (eqb b last) (give x)) here ∙ rw (eq-eqb (get_or text at 0) last ends)
      by (suc k) = byte-on text at (behind k) here ∙ rw (eq-eqb (get_or text at 0) last ends)

  module _ {b : ℕ} (e : b ≡ get_or text at 0) (other : b ≡ last → ⊥) where
    unlike : eqb (get_or text at 0) last ≡ false
    unlike = ne_eqb (get_or text at 0) last (λ same. other (e ∙ same))

    pub digits-spent : (most : ℕ) → most ≡ 0 → NumberFound text at (digits_after most last x) Sized (Err (record { at = at }))
    unfolding digits_after say given
    digits-spent most none = rw none (number-stops (byte-stops text at (λ b. given (eqb b last) (give x)) (rw unlike)))

    pub digits-stop : (most : ℕ) → (most ≡ 0 → ⊥) → {may : Bool} → may ≡ digit_may x b → may ≡ false → NumberFound text at
        (digits_after most last x) Sized (Err (record { at = at }))
    unfolding digits_after end_or given
    digits-stop zero some m not_so = absurd (some refl)
    digits-stop (suc k) some {may} m not_so =
        let never : digit_may x (get_or text at 0) ≡ false = rw (← e) (sym m ∙ not_so) in
        number-stops (byte-stops text at (behind k) (rw (unlike, never)))

    pub digits-on : (most : ℕ) → (most ≡ 0 → ⊥) → {may : Bool} → may ≡ digit_may x b → may ≡ true → {r : Result (Read ℕ) Stop}
        → NumberFound text (at + 1) (digits_after (most - 1) last (10 * x + (b - 48))) Sized r → NumberFound text at (digits_after most last x) Sized r
    unfolding digits_after end_or given
    digits-on zero some m so h = absurd (some refl)
    digits-on (suc k) some {may} m so {r} h =
        let may-be : digit_may x (get_or text at 0) ≡ true = rw (← e) (sym m ∙ so) in
        let here : at < length text = byte_inside text at (omega (arith, (may-digit x (get_or text at 0) may-be).0)) in
        let k-is : suc k - 1 ≡ k = omega arith in
        number-as r (byte-on text at (behind k) here ∙ rw (unlike, may-be, ← e)) (rw k-is at h)

-- ---- The first digit.

module _ (text : List ℕ) (at last : ℕ) {b : ℕ} (e : b ≡ get_or text at 0) where
  abbrev first : ℕ → Reader ℕ
  first c = given (leb 49 c && leb c 57) (digits_after 9 last (c - 48))

  pub magnitude-low : b < 49 → NumberFound text at (magnitude last) Sized (Err (record { at = at }))
  unfolding magnitude given
  magnitude-low h = number-stops (byte-stops text at first (rw (← e, lt-leb 49 b h)))

  pub magnitude-high : 57 < b → NumberFound text at (magnitude last) Sized (Err (record { at = at }))
  unfolding magnitude given
  magnitude-high h = number-stops (byte-stops text at first (rw (← e, lt-leb b 57 h, and-false (leb 49 b))))

  pub magnitude-on : 49 ≤ b → b ≤ 57 → {r : Result (Read ℕ) Stop} → NumberFound text (at + 1) (digits_after 9 last (b - 48)) Sized r → NumberFound text at
      (magnitude last) Sized r
  unfolding magnitude given
  magnitude-on low high {r} h =
      number-as r (byte-on text at first (byte_inside text at (omega (arith, e))) ∙ rw (← e, le-leb 49 b low, le-leb b 57 high)) h
