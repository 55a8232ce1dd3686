-- Laws of `Reads`, what a step of the reader says: a step after another, and what was read made into something else.
-- The book joins its readings by `afterwards`; the code joins its steps by a `?` behind the first.
use mathlib.Core.Path.{◌≡◌, refl}
use mathlib.Core.Bool.{Bool, true, false}
use mathlib.Core.List.{List}
use Prim.Native.Nat.{ℕ, ◌+◌, ◌-◌, ◌*◌}
use native.Mathlib.Omega.{arith}
use lib.ListN.{length, take, drop, length-drop}
use Rattle.std.specs.Prelude.{Result, Ok, Err}
use Rattle.block.specs.Refusals.{number_of}
use Rattle.block.specs.declared.Refusal.{Refusal}
use Rattle.rules.specs.Bits.{value, unpack}
use Rattle.rules.specs.Block.{Stream, Reading, refused, read, require, afterwards}
use Rattle.bits.proofs.Bytes.{length-unpack}
use Rattle.block.specs.Steps.{stream_at, Inside, Does, Reads}
use Rattle.block.specs.declared.Place.{Place}

-- ---- places and fields

-- The field of k bits from a bit on.
abbrev pub field_at : List ℕ → ℕ → ℕ → ℕ
field_at bytes at k = value (take k (drop at (unpack bytes)))

-- The place so many bits on.
abbrev pub further : Place → ℕ → Place
further place bits = record { at = place.at + bits; allowed = place.allowed }

pub length-left : (bytes : List ℕ) (at : ℕ) → length (drop at (unpack bytes)) ≡ 8 * length bytes - at
length-left bytes at = rw (length-drop, length-unpack)

-- ---- a step

module _ {A : Type 0} {bytes : List ℕ} {reading : Reading A} {Stored : A → Place → Type 0} where
  -- A step that refuses with the book's number.
  pub refuses : {refusal : Refusal} → reading ≡ refused (number_of refusal) → Reads bytes reading Stored (Err refusal)
  unfolding Does
  refuses e = record { does = e }

  -- A step that reads what the book reads, and goes on where it goes on.
  pub reads : {place : Place} (a : A) → reading ≡ read a (stream_at bytes place) → Inside bytes place → Stored a place → Reads bytes reading Stored (Ok place)
  unfolding Does
  reads a e inside stored = record { does = (a, e, inside, stored) }

  -- The place behind what a step read is in the input.
  pub inside-after : {step : Result Place Refusal} {place : Place} → Reads bytes reading Stored step → step ≡ Ok place → Inside bytes place
  unfolding Does
  inside-after h e = (rw e at h).does.2

-- ---- a step after another

-- The same step of another reading that is the same.
pub same-reading : {A : Type 0} {bytes : List ℕ} {reading reading' : Reading A} {Stored : A → Place → Type 0} {step : Result Place Refusal}
    → reading ≡ reading' → Reads bytes reading' Stored step → Reads bytes reading Stored step
same-reading e h = rw e h

module _ {A B : Type 0} {bytes : List ℕ} {first : Reading A} {Stored₁ : A → Place → Type 0} {Stored : B → Place → Type 0} where
  -- What the first step refuses, is refused.
  pub refuses-first : {step : Result Place Refusal} {refusal : Refusal} (more : A → Stream → Reading B)
      → Reads bytes first Stored₁ step → step ≡ Err refusal → Reads bytes (afterwards first more) Stored (Err refusal)
  unfolding Does afterwards
  refuses-first more h e = record { does = rw (rw e at h).does }

  -- After a step that reads, what follows decides.
  pub follows : {step next : Result Place Refusal} {place : Place} (more : A → Stream → Reading B) → Reads bytes first Stored₁ step → step ≡ Ok place
      → ((a : A) → Stored₁ a place → Reads bytes (more a (stream_at bytes place)) Stored next) → Reads bytes (afterwards first more) Stored next
  unfolding Does afterwards
  follows more h e f =
      let d = (rw e at h).does in
      rw d.1 (f d.0 d.3)

-- A first reading that reads, and then what follows.
pub after_read : {A B : Type 0} {first : Reading A} {a : A} {s : Stream} (more : A → Stream → Reading B) → first ≡ read a s → afterwards first more ≡ more a s
unfolding afterwards
after_read more e = rw e

-- What was read, stored in other words.
pub stored-as : {A : Type 0} {bytes : List ℕ} {reading : Reading A} {Stored₁ Stored : A → Place → Type 0} {step : Result Place Refusal} → Reads bytes reading Stored₁ step
    → ((a : A) (place : Place) → reading ≡ read a (stream_at bytes place) → Stored₁ a place → Stored a place) → Reads bytes reading Stored step
unfolding Does
stored-as {step = Err refusal} h g = record { does = h.does }
stored-as {step = Ok place} h g =
    let d = h.does in
    record { does = (d.0, d.1, d.2, g d.0 place d.1 d.3) }

-- What was read, made into something else.
pub turned-into : {A B : Type 0} {bytes : List ℕ} {reading : Reading A} {Stored₁ : A → Place → Type 0} {Stored : B → Place → Type 0} (f : A → B) {step : Result Place Refusal}
    → Reads bytes reading Stored₁ step → ((a : A) (place : Place) → reading ≡ read a (stream_at bytes place) → Stored₁ a place → Stored (f a) place)
    → Reads bytes (afterwards reading (λ a s. read (f a) s)) Stored step
unfolding Does afterwards
turned-into f {step = Err refusal} h g = record { does = rw h.does }
turned-into f {step = Ok place} h g =
    let d = h.does in
    record { does = (f d.0, rw d.1, d.2, g d.0 place d.1 d.3) }

-- ---- what was read

-- What two readings read, one after the other, each of them read.
pub both_read : {A B : Type 0} (first : Reading A) (more : A → Stream → Reading B) (b : B) (s : Stream) → afterwards first more ≡ read b s
    → (a : A) × (s₁ : Stream) × (first ≡ read a s₁) × (more a s₁ ≡ read b s)
unfolding afterwards
both_read (refused number) more b s h = let never : ◌≡◌ {A = ℕ} 0 1 = cc in absurd (omega arith)
both_read (read a s₁) more b s h = (a, s₁, refl, h)

-- What is read behind a test has passed it.
pub required : {A : Type 0} (test : Bool) (number : ℕ) (reading : Reading A) (a : A) (s : Stream) → require test number reading ≡ read a s → (test ≡ true) ×
    (reading ≡ read a s)
unfolding require
required true number reading a s h = (refl, h)
required false number reading a s h = let never : ◌≡◌ {A = ℕ} 0 1 = cc in absurd (omega arith)
