-- What starts. An area that starts is the front that its head says; with 255 in byte 3 nothing starts; where something starts, every other
-- value of byte 3 is refused.
use Rattle.std.specs.Prelude.{Bool, true, false, ◌&&◌, List, [], ◌++◌, ◌≡◌, refl, ℕ, ◌+◌, ◌-◌, ◌*◌, ◌%◌, ◌≤◌, ◌<◌, leb, length, take, drop, get_or, set}
use Rattle.std.proofs.Math.Bool.{and-eq-true_iff}
use Rattle.std.proofs.Common.{sym, ap, ◌∙◌, subst, mod-eq_of_lt, arith, length-set, length-append, length-take-le, take_at, drop-set-lt, get_or-set_same, get_or-set_other, le-leb, leb-true}
use Rattle.std.proofs.Math.Decide.{dec_lt, ℕ_discrete}
use Rattle.std.proofs.Math.Seq.{take-length}
use Rattle.std.proofs.lemmas.List.{take-set-le, set-get_or}
use Rattle.std.proofs.lemmas.Bool.{lt-leb}
use Rattle.rules.specs.Block.{Block, edition_number, Stream, Reading, refused, read, head_field, head_edition, read_block}
use Rattle.block_laws.specs.Head.{head-accepted, field-of-front, length-refused}
use Rattle.block_laws.specs.Blocks.{accepted-below-32768}
use Rattle.loading_laws.specs.Loading.{front_if, lent, Start, refusal, starts, start_from, start_of, started_part}
use Rattle.loading_laws.specs.Lengths.{length-said, one-front}
use Rattle.loading_laws.specs.Starts.{Refused, Only, one_starts, none_starts, Started}

-- ---- Refused or not.

-- What does not start is refused.
pub refused-unless : (start : Start) → ((bytes : List ℕ) → start ≡ starts bytes → ⊥) → Refused start
refused-unless (refusal number) never = (number, refl)
refused-unless (starts bytes) never = absurd (never bytes refl)

abbrev IsStart : Start → Type 0
IsStart (refusal number) = ⊥
IsStart (starts bytes) = Unit {0}

from-reading : (area bytes : List ℕ) (reading : Reading Block) → read_block area ≡ reading → start_from area reading ≡ starts bytes
    → (block : Block) × (stream : Stream) × (read_block bytes ≡ read block stream) × (area ≡ bytes)
unfolding start_from started_part
from-reading area bytes (refused number) is same = absurd (subst IsStart (sym same) tt)
from-reading area bytes (read block stream) is same =
    let bytes-are : area ≡ bytes = ap started_part same in
    (block, stream, subst (λ (x : List ℕ). read_block x ≡ read block stream) bytes-are is, bytes-are)

by_front : (area bytes : List ℕ) (fits : Bool) → (leb 5 (head_field area 24 16) && leb (head_field area 24 16) (length area)) ≡ fits
    → (block : Block) (stream : Stream) → read_block bytes ≡ read block stream → front_if fits (take (head_field area 24 16) area) area ≡ bytes
    → Started area bytes
unfolding front_if
by_front area bytes true fits block stream accepted bytes-are =
    let both = (and-eq-true_iff (leb 5 (head_field area 24 16)) (leb (head_field area 24 16) (length area))).0 fits in
    let long : head_field area 24 16 ≤ length area = leb-true _ _ both.1 in
    let said : head_field area 24 16 ≡ length bytes = sym (length-take-le (head_field area 24 16) area long) ∙ ap length bytes-are in
    record {
      block = block;
      stream = stream;
      accepted = accepted;
      said = said;
      front = sym bytes-are ∙ ap (λ (x : ℕ). take x area) said;
      five = (head-accepted bytes accepted).0.five;
      long = omega arith;
    }
by_front area bytes false fits block stream accepted bytes-are =
    let same_length : length area ≡ length bytes = ap length bytes-are in
    record {
      block = block;
      stream = stream;
      accepted = accepted;
      said = ap (λ (x : List ℕ). head_field x 24 16) bytes-are ∙ (head-accepted bytes accepted).0.whole;
      front = sym bytes-are ∙ sym (take-length area) ∙ ap (λ (x : ℕ). take x area) same_length;
      five = (head-accepted bytes accepted).0.five;
      long = omega arith;
    }

pub started : (area bytes : List ℕ) → start_of area ≡ starts bytes → Started area bytes
unfolding start_of lent
started area bytes same =
    let told = from-reading (lent area) bytes (read_block (lent area)) refl same in
    by_front area bytes (leb 5 (head_field area 24 16) && leb (head_field area 24 16) (length area)) refl told.0 told.1 told.2 told.3

-- The filled part is empty on a refusal, and else it is not.
pub no_part : (area : List ℕ) → Refused (start_of area) → started_part (start_of area) ≡ []
unfolding started_part
no_part area refused-by = rw refused-by.1

pub some-part : (area bytes : List ℕ) → start_of area ≡ starts bytes → (started_part (start_of area) ≡ bytes) × (5 ≤ length bytes)
unfolding started_part
some-part area bytes same = (rw same, (started area bytes same).five)

-- An area that begins with an accepted block starts it.
pub starts-front : (bytes more : List ℕ) {block : Block} {stream : Stream} → read_block bytes ≡ read block stream
    → start_of (bytes ++ more) ≡ starts bytes
unfolding start_of lent front_if start_from
starts-front bytes more {block} {stream} accepted =
    let head = (head-accepted bytes accepted).0 in
    let all : length (bytes ++ more) ≡ length bytes + length more = length-append bytes more in
    let said : head_field (bytes ++ more) 24 16 ≡ length bytes = field-of-front bytes more 24 16 (omega (arith, head.five)) ∙ head.whole in
    let front : take (length bytes) (bytes ++ more) ≡ bytes = take_at bytes more (length bytes) refl in
    rw (said, le-leb 5 (length bytes) head.five, le-leb (length bytes) (length (bytes ++ more)) (omega arith), front, accepted)

-- ---- The guard.

-- With 255 in byte 3 every area is refused, whatever else stands there.
pub guard : (area : List ℕ) → get_or area 3 0 ≡ 255 → Refused (start_of area)
guard area full = refused-unless (start_of area) (λ bytes same.
    let told = started area bytes same in
    let small = accepted-below-32768 bytes told.accepted in
    let said = length-said area (omega (arith, told.five, told.long)) in
    let high : get_or area 3 0 % 256 ≡ 255 = rw full in
    omega (arith, told.said))

-- The number, in an area shorter than that length: 4, if the edition is 1 or 2.
pub guard_number : (area : List ℕ) → 5 ≤ length area → length area < 65280 → get_or area 3 0 ≡ 255
    → head_field area 0 4 ≡ edition_number (head_edition area) → start_of area ≡ refusal 4
unfolding start_of lent front_if start_from
guard_number area five short full edition =
    let said = length-said area five in
    let high : get_or area 3 0 % 256 ≡ 255 = rw full in
    let none : (leb 5 (head_field area 24 16) && leb (head_field area 24 16) (length area)) ≡ false =
    rw (le-leb 5 (head_field area 24 16) (omega arith), lt-leb (head_field area 24 16) (length area) (omega arith)) in
    rw (none, length-refused area five edition (λ e. omega arith))

-- ---- One length byte.

-- Of two areas that differ in the bytes 3 and 4 alone, no two start blocks of different lengths.
not-longer : {area image bytes other : List ℕ} → Started area bytes → Started image other → take 3 image ≡ take 3 area → drop 5 image ≡ drop 5 area
    → length bytes < length other → ⊥
not-longer {area} {image} {bytes} {other} told told-other same-front same_back shorter =
    let five = told.five in
    let long = told.long in
    let long-other = told-other.long in
    let j : ℕ = length bytes - 5 in
    let d : ℕ = length other - length bytes in
    let bytes-long : length bytes ≡ 5 + j = omega arith in
    let other-long : length other ≡ 5 + (j + d) = omega arith in
    one-front area image j d same-front same_back (omega arith) (omega arith) (omega arith)
    (subst (λ (x : List ℕ). read_block x ≡ read told.block told.stream) (told.front ∙ ap (λ (x : ℕ). take x area) bytes-long) told.accepted)
    (subst (λ (x : List ℕ). read_block x ≡ read told-other.block told-other.stream) (told-other.front ∙ ap (λ (x : ℕ). take x image) other-long)
    told-other.accepted)

-- Where an area starts, every other value of byte 3 is refused.
pub one-length-byte : (area bytes : List ℕ) (v : ℕ) → start_of area ≡ starts bytes → get_or area 3 0 < 256 → v < 256 → (v ≡ get_or area 3 0 → ⊥)
    → Refused (start_of (set area 3 v))
one-length-byte area bytes v same is_byte_lem small differs =
    refused-unless (start_of (set area 3 v)) (λ other same-other. neither other (started _ _ same-other))
  where
    neither : (other : List ℕ) → Started (set area 3 v) other → ⊥
    neither other told-other =
        let told = started area bytes same in
        let five = told.five in
        let long = told.long in
        let same_length : length (set area 3 v) ≡ length area = length-set area 3 v in
        let front : take 3 (set area 3 v) ≡ take 3 area = take-set-le 3 area 3 v (omega arith) in
        let back : drop 5 (set area 3 v) ≡ drop 5 area = drop-set-lt 5 area 3 v (omega arith) in
        let said = sym told.said ∙ length-said area (omega arith) in
        let said-other = sym told-other.said ∙ length-said (set area 3 v) (omega arith) in
        let byte-3 : get_or (set area 3 v) 3 0 ≡ v = get_or-set_same area 3 v 0 (omega arith) in
        let byte-4 : get_or (set area 3 v) 4 0 ≡ get_or area 4 0 = get_or-set_other area 3 4 v 0 (λ e. omega arith) in
        let whole : length bytes ≡ get_or area 3 0 * 256 + get_or area 4 0 % 256 = rw (mod-eq_of_lt is_byte_lem) at said in
        let whole-other : length other ≡ v * 256 + get_or area 4 0 % 256 = rw (byte-3, byte-4, mod-eq_of_lt small) at said-other in
        elim (dec_lt (length bytes) (length other)) [
          | yes shorter ↦ not-longer told told-other front back shorter
          | no longer ↦ elim (dec_lt (length other) (length bytes)) [
            | yes shorter ↦ not-longer told-other told (sym front) (sym back) shorter
            | no equal ↦ differs (omega arith)
          ]
        ]

-- So with any value in byte 3 an area starts what it started before, or is refused.
pub any-byte-3 : {These : List ℕ → Type 0} (area bytes : List ℕ) (v : ℕ) → These bytes → start_of area ≡ starts bytes → get_or area 3 0 < 256 → v < 256
    → Only These (start_of (set area 3 v))
any-byte-3 area bytes v this same is_byte_lem small = elim (ℕ_discrete v (get_or area 3 0)) [
  | yes as_before ↦ one_starts bytes this (rw as_before (rw (set-get_or area 3 0) same))
  | no differs ↦ none_starts (one-length-byte area bytes v same is_byte_lem small differs)
]
