-- Reading from a position of a text on: what the functions of this crate say is `read_part` of the book's reader there.
-- Laws of it: the byte at the position decides; one part and then the next; a position that is reached lies in the text.
use Rattle.std.specs.Prelude.{List, ◌≡◌, drop, get_or}
use Rattle.std.proofs.Common.{◌∙◌, drop_of_length-le, drop-cons}
use Prim.Native.Nat.{ℕ, suc, ◌+◌, ◌-◌, ◌≤◌, ◌<◌}
use Rattle.std.proofs.Math.Decide.{dec_lt}
use Rattle.std.proofs.Math.Numerals.{add-one}
use native.Mathlib.Omega.{arith}
use Rattle.std.proofs.Math.ListN.{length, get_or-eq_default}
use Rattle.rules.specs.Reader.{Reader, stuck, ask}
use Rattle.rules.specs.Combine.{◌then◌}
use Rattle.script_laws.specs.Steps.{Part, got, stop, read_part, and_then, part_then}

-- What a reader makes of the text from a position on.
abbrev pub read_at : {A : Type 0} → List ℕ → ℕ → Reader A → Part A
read_at text at r = read_part at r (drop at text)

-- It stops at a position,
pub record Stops {A : Type 0} (text : List ℕ) (at : ℕ) (r : Reader A) (position : ℕ) : Type 0 where
  pub reading : read_at text at r ≡ stop position

-- or it has read something, up to the position behind it.
pub record Reaches {A : Type 0} (text : List ℕ) (at : ℕ) (r : Reader A) (a : A) (behind : ℕ) : Type 0 where
  pub reading : read_at text at r ≡ got a behind (drop behind text)
  pub inside : behind ≤ length text

-- ---- The byte at a position.

module _ (text : List ℕ) (at : ℕ) where
  -- A byte other than 0 is one of the text.
  pub byte_inside : 0 < get_or text at 0 → at < length text
  byte_inside some = by (dec_lt at (length text))
    where
      by : Dec (at < length text) → at < length text
      by (yes h) = h
      by (no h) = absurd (omega (arith, some, get_or-eq_default text 0 {n = at} (omega (arith, h))))

module _ {A : Type 0} (text : List ℕ) (at : ℕ) where
  -- The byte there is taken,
  pub byte-on : (f : ℕ → Reader A) → at < length text → read_at text at (ask f) ≡ read_at text (at + 1) (f (get_or text at 0))
  unfolding read_part
  byte-on f h = rw (drop-cons text at 0 h, add-one at)

  -- or nothing goes on behind it, as at the end of the text.
  pub byte-stops : (f : ℕ → Reader A) → f (get_or text at 0) ≡ stuck → read_at text at (ask f) ≡ stop at
  unfolding read_part
  byte-stops f none = by (dec_lt at (length text))
    where
      by : Dec (at < length text) → read_at text at (ask f) ≡ stop at
      by (yes h) = let e : suc at - 1 ≡ at = omega arith in rw (drop-cons text at 0 h, none, e)
      by (no h) = rw (drop_of_length-le text {i = at} (omega (arith, h)))

-- ---- One part and then the next.

module _ {A B : Type 0} {text : List ℕ} {at : ℕ} {r : Reader A} where
  pub then-stops : (more : A → Reader B) {position : ℕ} → Stops text at r position → Stops text at (r then more) position
  unfolding and_then
  then-stops more h = record { reading = part_then at r more (drop at text) ∙ rw h.reading }

  pub then-on : (more : A → Reader B) {a : A} {behind : ℕ} → Reaches text at r a behind → read_at text at (r then more) ≡ read_at text behind (more a)
  unfolding and_then
  then-on more h = part_then at r more (drop at text) ∙ rw h.reading

-- ---- The same reading by another name.

module _ {A : Type 0} {text : List ℕ} {at at' : ℕ} {r r' : Reader A} (same : read_at text at r ≡ read_at text at' r') where
  pub stops_as : {position : ℕ} → Stops text at' r' position → Stops text at r position
  stops_as h = record { reading = same ∙ h.reading }

  pub reaches-as : {a : A} {behind : ℕ} → Reaches text at' r' a behind → Reaches text at r a behind
  reaches-as h = record { reading = same ∙ h.reading; inside = h.inside }
