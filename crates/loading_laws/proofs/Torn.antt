-- Again and again: any number of cuts and new beginnings, of one block or of several. Nothing starts but what started before or was being loaded.
use Rattle.std.specs.Prelude.{List, ◌≡◌, refl, length, get_or, set}
use Rattle.std.proofs.Common.{sym, arith, set-set, eq-eqb}
use Prim.Native.Nat.{ℕ, zero, suc, ◌≤◌, ◌<◌}
use Rattle.std.proofs.Math.Decide.{ℕ_discrete}
use Rattle.std.proofs.lemmas.List.{set-get_or}
use Rattle.loading_laws.specs.Loading.{either, first_write, starts, start_of, image_after, cut_at, loaded}
use Rattle.loading_laws.specs.Starts.{Only, none_starts, Is, Either, the_old}
use Rattle.loading_laws.proofs.Starts.{guard, any-byte-3}
use Rattle.loading_laws.proofs.Writes.{place-first, guarded-between, all-written}
use Rattle.loading_laws.specs.Cuts.{Loadable}
use Rattle.loading_laws.proofs.Cuts.{head-room, byte-3-between, last-cut, loaded-byte-3, loaded-starts}
use Rattle.loading_laws.specs.Torn.{Torn, guarded, but_for_byte_3, Reached, at_first, cut-in, cut_between_writes}

-- A torn image reads as one of these blocks or is refused.
pub torn-reads : {These : List ℕ → Type 0} (image : List ℕ) → Torn These image → Only These (start_of image)
torn-reads image (guarded full) = none_starts (guard image full)
torn-reads image (but_for_byte_3 area bytes v this same is_byte_lem small image-is) = rw image-is (any-byte-3 area bytes v this same is_byte_lem small)

-- An area that starts one of these blocks is torn (in no byte).
pub starts-torn : {These : List ℕ → Type 0} (area bytes : List ℕ) → These bytes → start_of area ≡ starts bytes → get_or area 3 0 < 256 → Torn These area
starts-torn area bytes this same is_byte_lem = but_for_byte_3 area bytes (get_or area 3 0) this same is_byte_lem is_byte_lem (sym (set-get_or area 3 0))

-- Write 0 is not left out only where byte 3 is not 255.
later-if-guarded : (image : List ℕ) (k : ℕ) → get_or image 3 0 ≡ 255 → first_write image ≤ k → 0 < k
unfolding first_write either
later-if-guarded image k full from = omega (arith, rw (eq-eqb (get_or image 3 0) 255 full) at from)

module _ {These : List ℕ → Type 0} (block image : List ℕ) (this : These block) (load : Loadable block image) where
  loaded-torn : (v : ℕ) → v < 256 → (other : List ℕ) → other ≡ set (loaded block image) 3 v → Torn These other
  loaded-torn v small other is = but_for_byte_3 (loaded block image) block v this (loaded-starts block image load)
      (loaded-byte-3 block image load) small is

  later-torn : (k v : ℕ) → 0 < k → k ≤ length block → v < 256 → Torn These (cut_at block image k v)
  later-torn k v some within small = elim (ℕ_discrete k (length block)) [
    | yes last ↦ loaded-torn v small (cut_at block image k v) (rw last (last-cut block image v load))
    | no inner ↦
        let five = head-room load in
        let room = load.room in
        guarded (byte-3-between block image k v (omega arith) some (omega arith))
  ]

  first-torn : (v : ℕ) → v < 256 → Torn These image → (get_or image 3 0 ≡ 255 → ⊥) → Torn These (cut_at block image 0 v)
  unfolding cut_at image_after
  first-torn v small (guarded full) not_full = absurd (not_full full)
  first-torn v small (but_for_byte_3 area bytes w this-old same is_byte_lem small-old image-is) not_full =
      but_for_byte_3 area bytes v this-old same is_byte_lem small (rw (place-first (length block), image-is) (set-set area 3 w v))

  -- Each cut of a load that is begun on a torn image is torn.
  pub torn-cut : (k v : ℕ) → Torn These image → first_write image ≤ k → k ≤ length block → v < 256 → Torn These (cut_at block image k v)
  torn-cut k v torn from within small = elim (ℕ_discrete k 0) [
    | yes first ↦ rw first (first-torn v small torn (λ full. let later = later-if-guarded image k full from in omega arith))
    | no later ↦ later-torn k v (omega arith) within small
  ]

  -- And so is what the finished writes leave.
  pub image-torn : (k : ℕ) → k ≤ suc (length block) → Torn These image → Torn These (image_after block image k)
  unfolding image_after
  image-torn zero within torn = torn
  image-torn (suc k) within torn = elim (ℕ_discrete k (length block)) [
    | yes last ↦
        let five = head-room load in
        rw (last, all-written block image (omega arith) load.room)
        (starts-torn (loaded block image) block this (loaded-starts block image load) (loaded-byte-3 block image load))
    | no inner ↦
        let five = head-room load in
        let room = load.room in
        guarded (guarded-between block image k (omega arith) (omega arith))
  ]

reached-torn : {These : List ℕ → Type 0} (area : List ℕ) {image : List ℕ} → Torn These area → Reached These area image → Torn These image
reached-torn area torn at_first = torn
reached-torn area torn (cut-in {image = image} so_far block k v this load from within small) =
    torn-cut block image this load k v (reached-torn area torn so_far) from within small
reached-torn area torn (cut_between_writes {image = image} so_far block k this load within) =
    image-torn block image this load k within (reached-torn area torn so_far)

-- Begun on a torn image, whatever is reached reads as one of these blocks or is refused.
pub again-and-again : {These : List ℕ → Type 0} (area image : List ℕ) → Torn These area → Reached These area image → Only These (start_of image)
again-and-again area image torn reached = torn-reads image (reached-torn area torn reached)

-- ---- One load, begun again and again: the old block, the new one, or refused.

pub old-or-new : (old new area image : List ℕ) → start_of area ≡ starts old → get_or area 3 0 < 256 → Reached (Either old new) area image
    → Only (Either old new) (start_of image)
old-or-new old new area image same is_byte_lem reached = again-and-again area image (starts-torn area old (the_old refl) same is_byte_lem) reached

-- An area with 255 in byte 3, so an erased one: the new block or refused.
pub only-new : (new area image : List ℕ) → get_or area 3 0 ≡ 255 → Reached (Is new) area image → Only (Is new) (start_of image)
only-new new area image full reached = again-and-again area image (guarded full) reached
