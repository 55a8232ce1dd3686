-- What a power cut leaves: a cut in a load reads as what started before, as the new block, or is refused; and after all writes the new block starts.
use Rattle.std.specs.Prelude.{List, ◌≡◌, refl, ℕ, zero, suc, ◌≤◌, ◌<◌, length, drop, get_or, set}
use Rattle.std.proofs.Common.{sym, ap, ◌∙◌, arith, get_or-set_other}
use Rattle.std.proofs.Math.Decide.{ℕ_discrete}
use Rattle.block_laws.specs.Head.{head-accepted}
use Rattle.loading_laws.specs.Loading.{place, Start, starts, start_of, image_after, cut_at, loaded}
use Rattle.loading_laws.specs.Starts.{Refused, Only, one_starts, none_starts, Is, Either, the_old, the_new}
use Rattle.loading_laws.proofs.Starts.{starts-front, guard, any-byte-3}
use Rattle.loading_laws.proofs.Writes.{place-first, place-last, place_other, guarded-between, all-but-byte-3, all-written, loaded-front}
use Rattle.loading_laws.specs.Cuts.{Loadable}

pub head-room : {block area : List ℕ} → Loadable block area → 5 ≤ length block
head-room {block} load = (head-accepted block load.accepted).0.five

-- ---- Done.

-- An area with the block loaded starts the block.
pub loaded-starts : (block area : List ℕ) → Loadable block area → start_of (loaded block area) ≡ starts block
unfolding loaded
loaded-starts block area load = starts-front block (drop (length block) area) load.accepted

-- After all writes the new block starts.
pub done : (block area : List ℕ) → Loadable block area → start_of (image_after block area (suc (length block))) ≡ starts block
done block area load =
    let five = head-room load in
    ap start_of (all-written block area (omega arith) load.room) ∙ loaded-starts block area load

-- ---- Any cut.

-- A cut in the first write leaves what started before, or is refused.
pub cut-first : (block area bytes : List ℕ) (v : ℕ) → start_of area ≡ starts bytes → get_or area 3 0 < 256 → v < 256
    → Only (Is bytes) (start_of (cut_at block area 0 v))
unfolding cut_at image_after
cut-first block area bytes v same is_byte_lem small = rw (place-first (length block)) (any-byte-3 area bytes v refl same is_byte_lem small)

pub byte-3-between : (block area : List ℕ) (k v : ℕ) → 3 < length area → 0 < k → k < length block → get_or (cut_at block area k v) 3 0 ≡ 255
unfolding cut_at
byte-3-between block area zero v long some inner = absurd (omega arith)
byte-3-between block area (suc k) v long some inner =
    get_or-set_other (image_after block area (suc k)) (place (length block) (suc k)) 3 v 0 (λ e. place_other (length block) (suc k) some inner (sym e))
    ∙ guarded-between block area k long (omega arith)

-- A cut in a write between is refused, whatever stood there before.
pub cut-between : (block area : List ℕ) (k v : ℕ) → 3 < length area → 0 < k → k < length block → Refused (start_of (cut_at block area k v))
cut-between block area k v long some inner = guard (cut_at block area k v) (byte-3-between block area k v long some inner)

pub last-cut : (block area : List ℕ) (v : ℕ) → Loadable block area → cut_at block area (length block) v ≡ set (loaded block area) 3 v
unfolding cut_at
last-cut block area v load =
    let five = head-room load in
    rw (place-last (length block)) (all-but-byte-3 block area v (omega arith) load.room)

pub loaded-byte-3 : (block area : List ℕ) → Loadable block area → get_or (loaded block area) 3 0 < 256
loaded-byte-3 block area load =
    let five = head-room load in
    rw (loaded-front block area 3 (omega arith)) (load.bytes.below 3)

-- A cut in the last write is refused or leaves the new block, whatever stood there before.
pub cut-last : (block area : List ℕ) (v : ℕ) → Loadable block area → v < 256 → Only (Is block) (start_of (cut_at block area (length block) v))
cut-last block area v load small =
    rw (last-cut block area v load) (any-byte-3 (loaded block area) block v refl (loaded-starts block area load) (loaded-byte-3 block area load) small)

-- Whatever stood there before, garbage too: from write 1 on a cut leaves the new block or is refused.
pub later-cut : (block area : List ℕ) (k v : ℕ) → Loadable block area → 0 < k → k ≤ length block → v < 256
    → Only (Is block) (start_of (cut_at block area k v))
later-cut block area k v load some within small = elim (ℕ_discrete k (length block)) [
  | yes last ↦ rw last (cut-last block area v load small)
  | no inner ↦
      let five = head-room load in
      let room = load.room in
      none_starts (cut-between block area k v (omega arith) some (omega arith))
]

-- Between two writes it is refused.
pub image-between : (block area : List ℕ) (k : ℕ) → Loadable block area → k < length block → Refused (start_of (image_after block area (suc k)))
image-between block area k load within =
    let five = head-room load in
    let room = load.room in
    guard (image_after block area (suc k)) (guarded-between block area k (omega arith) within)

-- Any cut: what started before, the new block, or refused; and nothing else.
pub any-cut : (block area old : List ℕ) (k v : ℕ) → Loadable block area → start_of area ≡ starts old → get_or area 3 0 < 256 → k ≤ length block → v < 256
    → Only (Either old block) (start_of (cut_at block area k v))
any-cut block area old k v load same is_byte_lem within small = elim (ℕ_discrete k 0) [
  | yes first ↦ rw first (of-old (cut-first block area old v same is_byte_lem small))
  | no later ↦ of-new (later-cut block area k v load (omega arith) within small)
]
  where
    of-old : {start : Start} → Only (Is old) start → Only (Either old block) start
    of-old (one_starts bytes this same) = one_starts bytes (the_old this) same
    of-old (none_starts refused-by) = none_starts refused-by

    of-new : {start : Start} → Only (Is block) start → Only (Either old block) start
    of-new (one_starts bytes this same) = one_starts bytes (the_new this) same
    of-new (none_starts refused-by) = none_starts refused-by
