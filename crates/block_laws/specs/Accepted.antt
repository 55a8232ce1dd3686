-- What an accepted reading says: each required test passed, each part was read, and over which bits and nodes the reader went.
-- The laws of the table, the tree and the block take a reader apart by these.
use Rattle.std.specs.Prelude.{Bool, true, false, List, [], ◌++◌, ◌≡◌, refl, ℕ, ◌+◌, ◌≤◌, length, take, drop}
use Rattle.std.proofs.Common.{append_assoc, sym, ap, ◌∙◌, subst, arith}
use Rattle.rules.specs.Bits.{field, value}
use Rattle.rules.specs.Block.{Stream, Reading, refused, read, require, afterwards}
use Rattle.block_laws.specs.Bits.{read-field}

-- ---- Tests and parts.

abbrev IsRead : {A : Type 0} → Reading A → Type 0
IsRead (refused number) = ⊥
IsRead (read a s) = Unit {0}

-- A refusal is no reading.
pub refused≢read : {A : Type 0} {number : ℕ} {a : A} {s : Stream} → refused number ≡ read a s → ⊥
refused≢read same = subst IsRead (sym same) tt

-- Where the reading was accepted, the required test passed, and what it guards was accepted.
pub require-read : {A : Type 0} {test : Bool} {reading : Reading A} (number : ℕ) {a : A} {s : Stream} → require test number reading ≡ read a s
    → (test ≡ true) × (reading ≡ read a s)
unfolding require
require-read {test = true} number accepted = (refl, accepted)
require-read {test = false} number accepted = absurd (refused≢read accepted)

-- What was read first, the stream behind it, and that the rest was read from there.
pub record ReadBoth {A B : Type 0} (first : Reading A) (more : A → Stream → Reading B) (b : B) (s : Stream) : Type 0 where
  pub part : A
  pub between : Stream
  pub first_read : first ≡ read part between
  pub then_read : more part between ≡ read b s

-- Where two readings in a row were accepted, each was.
pub afterwards-read : {A B : Type 0} (first : Reading A) (more : A → Stream → Reading B) {b : B} {s : Stream} → afterwards first more ≡ read b s → ReadBoth first more b s
unfolding afterwards
afterwards-read (refused number) more accepted = absurd (refused≢read accepted)
afterwards-read (read a s₁) more accepted = record { part = a; between = s₁; first_read = refl; then_read = accepted }

-- One reading gives one thing and leaves one stream.
pub same_read : {A : Type 0} {a b : A} {s t : Stream} → read a s ≡ read b t → (a ≡ b) × (s ≡ t)
same_read same = (cc, cc)

-- ---- The way of a reader.

-- So many nodes allowed, and these bits left.
abbrev pub stream : ℕ → List Bool → Stream
stream allowed bits = record { allowed = allowed; bits = bits }

-- The stream behind k bits.
abbrev pub behind : ℕ → Stream → Stream
behind k s = stream s.allowed (drop k s.bits)

-- From s to s₁ the reader went over these bits and so many nodes.
pub record Passed (bits : List Bool) (nodes : ℕ) (s s₁ : Stream) : Type 0 where
  pub over : s.bits ≡ bits ++ s₁.bits
  pub counted : s.allowed ≡ nodes + s₁.allowed

-- A reader that stands still went over nothing.
pub passed-nothing : (s : Stream) → Passed [] 0 s s
passed-nothing s = record { over = refl; counted = omega arith }

-- One way after the other is over both.
pub passed-both : {bits more : List Bool} {m n : ℕ} {s s₁ s₂ : Stream} → Passed bits m s s₁ → Passed more n s₁ s₂ → Passed (bits ++ more) (m + n) s s₂
passed-both {bits} {more} {s₂ = s₂} first second = record {
  over = first.over ∙ ap (λ (x : List Bool). bits ++ x) second.over ∙ sym (append_assoc bits more s₂.bits);
  counted = omega (arith, first.counted, second.counted);
}

-- To read a field is to go over the field of what was read.
pub passed-field : (k : ℕ) (s : Stream) → k ≤ length s.bits → Passed (field k (value (take k s.bits))) 0 s (behind k s)
passed-field k s long = record { over = sym (read-field k s.bits long); counted = omega arith }
