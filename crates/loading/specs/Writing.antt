-- The order of the writes by cases, as the code tells them apart; and a whole load from its answer.
-- A write past the area's end changes nothing.
use Rattle.std.specs.Prelude.{Bool, true, false, Result, Ok, Err, List, [], ◌≡◌, ℕ, suc, ◌+◌, ◌-◌, ◌≤◌, ◌<◌, eqb, leb, get_or, set}
use Rattle.std.proofs.Common.{true≢false, ◌∙◌, add-one, arith, length-set}
use Rattle.std.proofs.Math.Path.{refl, sym, ap, subst}
use Rattle.std.proofs.Math.Decide.{ℕ_discrete}
use Rattle.std.proofs.Math.ListN.{length, get_or-eq_default}
use Rattle.std.proofs.Math.Seq.{set_out}
use borrow.Author.Tests.{le-leb, lt-leb, eq-eqb, ne_eqb}
use Rattle.rules.specs.Block.{Block, Stream, Reading, refused, read, read_block}
use Rattle.loading_laws.specs.Loading.{either, place, value, first_write, step, image_after, Start, refusal, starts, start_from, if_room, load_answer, area_after, load}
use Rattle.block_laws.specs.Head.{head-accepted}
use Rattle.loading_laws.proofs.Load.{load-refused, load-short, load-unchanged}
use Rattle.loading.specs.Started.{found, length_in, number_in}

-- ---- Which byte.
pub place-guard : (size k : ℕ) → k ≡ 0 → 3 ≡ place size k
unfolding place either
place-guard size k first = rw (eq-eqb k 0 first)

pub place-own : (size k : ℕ) → (k ≡ 0 → ⊥) → k ≡ size → 3 ≡ place size k
unfolding place either
place-own size k later last = rw (ne_eqb k 0 later, eq-eqb k size last)

pub place-before : (size k : ℕ) → (k ≡ 0 → ⊥) → (k ≡ size → ⊥) → k ≤ 3 → k - 1 ≡ place size k
unfolding place either
place-before size k later inner low = rw (ne_eqb k 0 later, ne_eqb k size inner, le-leb k 3 low)

pub place-from : (size k : ℕ) → (k ≡ 0 → ⊥) → (k ≡ size → ⊥) → 3 < k → k ≡ place size k
unfolding place either
place-from size k later inner high = rw (ne_eqb k 0 later, ne_eqb k size inner, lt-leb k 3 high)

-- ---- Which value.
pub value-guard : (block : List ℕ) (k : ℕ) → k ≡ 0 → 255 ≡ value block k
unfolding value either
value-guard block k first = rw (eq-eqb k 0 first)

pub value-own : (block : List ℕ) (k at : ℕ) → (k ≡ 0 → ⊥) → at ≡ place (length block) k → get_or block at 0 ≡ value block k
unfolding value either
value-own block k at later is = rw (ne_eqb k 0 later, is)

-- ---- The first write.
pub first-left-out : (area : List ℕ) → get_or area 3 0 ≡ 255 → 1 ≡ first_write area
unfolding first_write either
first-left-out area full = rw (eq-eqb (get_or area 3 0) 255 full)

pub first_made : (area : List ℕ) → (get_or area 3 0 ≡ 255 → ⊥) → 0 ≡ first_write area
unfolding first_write either
first_made area other = rw (ne_eqb (get_or area 3 0) 255 other)

pub first-outside : (area : List ℕ) → length area ≤ 3 → 0 ≡ first_write area
first-outside area short = first_made area (λ full. let none = get_or-eq_default area 0 short in absurd (omega (arith, full, none)))

pub first-within : (area : List ℕ) (first size : ℕ) → first ≡ first_write area → 5 ≤ size → first ≤ size
first-within area first size is five = elim (ℕ_discrete (get_or area 3 0) 255) [
  | yes full ↦ let one = first-left-out area full in omega (arith, is, one)
  | no other ↦ let none = first_made area other in omega (arith, is, none)
]

-- ---- One write, inside the area or past its end.
pub step-inside : (block area : List ℕ) (k at v : ℕ) → at ≡ place (length block) k → v ≡ value block k → set area at v ≡ step block area k
unfolding step
step-inside block area k at v at-is v-is = rw (at-is, v-is)

pub step-outside : (block area : List ℕ) (k at : ℕ) → at ≡ place (length block) k → length area ≤ at → area ≡ step block area k
unfolding step
step-outside block area k at at-is outside =
    sym (set_out area (place (length block) k) (value block k) (subst (λ (i : ℕ). length area ≤ i) at-is outside))

pub image-all : (block area image : List ℕ) (k : ℕ) → image ≡ image_after block area k → k ≡ length block
    → image ≡ image_after block area (length block)
image-all block area image k is all = is ∙ ap (image_after block area) all

pub image-next : (block area image : List ℕ) (k : ℕ) → image ≡ image_after block area k → step block image k ≡ image_after block area (k + 1)
unfolding image_after
image-next block area image k is = ap (λ (x : List ℕ). step block x k) is ∙ ap (image_after block area) (sym (add-one k))

pub length-step : (block area : List ℕ) (k : ℕ) → length (step block area k) ≡ length area
unfolding step
length-step block area k = length-set area (place (length block) k) (value block k)

-- ---- A whole load, from what was found of the block.
is_starts : Result ℕ ℕ → Bool
is_starts (Err number) = false
is_starts (Ok size) = true

record Read (block : List ℕ) (size : ℕ) : Type 0 where
  pub holds : Block
  pub stream : Stream
  pub accepted : read_block block ≡ read holds stream
  pub size_is : size ≡ length block

-- A refusal that was found is the block's own;
refusal-found : (block : List ℕ) (number : ℕ) (reading : Reading Block) → read_block block ≡ reading → Err number ≡ found (start_from block reading)
    → read_block block ≡ refused number
unfolding found start_from is_starts
refusal-found block number (refused other) is same = is ∙ ap refused (sym (ap number_in same))
refusal-found block number (read holds stream) is same = absurd (true≢false (sym (ap is_starts same)))

-- a length that was found is that of a block.
length_found : (block : List ℕ) (size : ℕ) (reading : Reading Block) → read_block block ≡ reading → Ok size ≡ found (start_from block reading)
    → Read block size
unfolding found start_from is_starts
length_found block size (refused other) is same = absurd (true≢false (ap is_starts same))
length_found block size (read holds stream) is same = record { holds = holds; stream = stream; accepted = is; size_is = ap length_in same }

module _ (block area : List ℕ) where
  pub refused-load : (number : ℕ) → Err number ≡ found (start_from block (read_block block))
      → (Err number ≡ found (load_answer block area)) × (area ≡ load block area)
  unfolding found
  refused-load number same =
      let answer = load-refused block area number (refusal-found block number (read_block block) refl same) in
      (sym (ap found answer), sym (load-unchanged block area number answer))

  pub short-load : (size : ℕ) → Ok size ≡ found (start_from block (read_block block)) → length area < size
      → (Err 1 ≡ found (load_answer block area)) × (area ≡ load block area)
  unfolding found
  short-load size same short =
      let known = length_found block size (read_block block) refl same in
      let answer = load-short block area known.accepted (subst (λ (n : ℕ). length area < n) known.size_is short) in
      (sym (ap found answer), sym (load-unchanged block area 1 answer))

  pub head-found : (size : ℕ) → Ok size ≡ found (start_from block (read_block block)) → 5 ≤ length block
  head-found size same = (head-accepted block (length_found block size (read_block block) refl same).accepted).0.five

  pub whole-load : (size : ℕ) → Ok size ≡ found (start_from block (read_block block)) → size ≤ length area
      → (Ok size ≡ found (load_answer block area)) × (image_after block area (length block + 1) ≡ load block area)
  unfolding found load area_after load_answer if_room start_from
  whole-load size same room =
      let known = length_found block size (read_block block) refl same in
      let enough : length block ≤ length area = subst (λ (n : ℕ). n ≤ length area) known.size_is room in
      let answer : load_answer block area ≡ starts block = rw (known.accepted, le-leb (length block) (length area) enough) in (
        ap Ok known.size_is ∙ sym (ap found answer),
        ap (image_after block area) (add-one (length block))
            ∙ sym (ap (λ (start : Start). area_after start area) answer),
      )
