-- An erased area: write 0 is left out, each byte is written once, and only ones become zeros. And garbage before: what is promised then.
use Rattle.std.specs.Prelude.{List, ◌≡◌, refl, ℕ, zero, suc, ◌/◌, ◌%◌, ◌^◌, ◌≤◌, ◌<◌, length, get_or}
use Rattle.std.proofs.Common.{sym, ap, ◌∙◌, mod-lt, zero-lt-suc, arith, eq-eqb}
use Rattle.std.proofs.Math.Decide.{ℕ_discrete}
use Rattle.rules.specs.Block.{open_block}
use Rattle.rules.specs.Signs.{open_signs}
use Rattle.rules.specs.Bits.{open_bits}
use Rattle.loading_laws.specs.Loading.{either, place, value, write_of, first_write, refusal, starts, start_of, image_after, cut_at, open_loading}
use Rattle.loading_laws.proofs.Writes.{place-first, place-last, place_other, place-below, write-of-place, kept, guarded-between}
use Rattle.loading_laws.specs.Cuts.{Loadable}
use Rattle.loading_laws.proofs.Cuts.{head-room}
use Rattle.loading_laws.specs.Erased.{Erased, OnlyClears, garbage, nobodys}

-- Write 0 is left out.
pub first-left-out : (area : List ℕ) → Erased area → 3 < length area → first_write area ≡ 1
unfolding first_write either
first-left-out area erased long = rw (eq-eqb (get_or area 3 0) 255 (erased.full 3 long))

-- No two of the writes 1 to size are of one byte.
pub written_once : (size j k : ℕ) → 0 < j → j ≤ size → 0 < k → k ≤ size → place size j ≡ place size k → j ≡ k
written_once size j k some-j within-j some-k within-k same =
    sym (write-of-place size j some-j within-j) ∙ ap (write_of size) same ∙ write-of-place size k some-k within-k

-- The byte that a write is about to put is still 255.
pub still_full : (block area : List ℕ) (k : ℕ) → Loadable block area → Erased area → 0 < k → k ≤ length block
    → get_or (image_after block area k) (place (length block) k) 0 ≡ 255
still_full block area zero load erased some within = absurd (omega arith)
still_full block area (suc k) load erased some within =
    let five = head-room load in
    let room = load.room in
    let size = length block in
    let below = place-below size (suc k) (omega arith) within in
    elim (ℕ_discrete (suc k) size) [
      | yes last ↦ rw (ap (place size) last ∙ place-last size) (guarded-between block area k (omega arith) (omega arith))
      | no inner ↦
          let elsewhere : (j : ℕ) → j < suc k → place size j ≡ place size (suc k) → ⊥ = λ j before same.
          elim (ℕ_discrete j 0) [
            | yes first ↦ place_other size (suc k) some (omega arith) (sym same ∙ ap (place size) first ∙ place-first size)
            | no later ↦ let equal = written_once size j (suc k) (omega arith) (omega arith) some within same in omega arith
          ] in
          kept block area (place size (suc k)) (suc k) elsewhere ∙ erased.full (place size (suc k)) (omega arith)
    ]

full-bit : (i : ℕ) → i < 8 → 255 / 2 ^ i % 2 ≡ 1
full-bit zero small = refl
full-bit (suc zero) small = refl
full-bit (suc (suc zero)) small = refl
full-bit (suc (suc (suc zero))) small = refl
full-bit (suc (suc (suc (suc zero)))) small = refl
full-bit (suc (suc (suc (suc (suc zero))))) small = refl
full-bit (suc (suc (suc (suc (suc (suc zero)))))) small = refl
full-bit (suc (suc (suc (suc (suc (suc (suc zero))))))) small = refl
full-bit (suc (suc (suc (suc (suc (suc (suc (suc i)))))))) small = absurd (omega arith)

clears-full : (new : ℕ) → OnlyClears 255 new
clears-full new = record { bits = λ i small. rw (full-bit i small) (omega (arith, mod-lt (new / 2 ^ i) (zero-lt-suc 1))) }

pub only-clears : (block area : List ℕ) (k : ℕ) → Loadable block area → Erased area → 0 < k → k ≤ length block
    → OnlyClears (get_or (image_after block area k) (place (length block) k) 0) (value block k)
only-clears block area k load erased some within = rw (still_full block area k load erased some within) (clears-full (value block k))

pub exception : (block : List ℕ) → (start_of garbage ≡ refusal 4) × (start_of (cut_at block garbage 0 0) ≡ starts nobodys)
unfolding open_signs open_bits open_block open_loading
exception block = (refl, refl)
