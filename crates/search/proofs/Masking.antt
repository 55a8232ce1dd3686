-- The words of one atom are stored, those of the others stay; and the words of runs that are the places of a slot.
-- So after a walk over a list each of its atoms has its words.
use mathlib.Core.Path.{◌≡◌, sym, ap₂, ◌∙◌, subst}
use mathlib.Core.List.{List}
use Prim.Native.Nat.{ℕ, ◌+◌, ◌*◌, ◌<◌}
use native.Mathlib.Omega.{arith}
use borrow.Author.Count.{below_more}
use lib.IntN.{ℤ}
use lib.ListN.{length, get_or, set, length-set}
use lib.Seq.{get_or-set_same, get_or-set_other}
use Rattle.rules.specs.Signs.{SignSet}
use Rattle.deduce.specs.declared.Run.{Run}
use Rattle.masks.specs.declared.Mask.{Mask}
use Rattle.masks.specs.Masks.{MaskOf}
use Rattle.table.specs.declared.Atoms.{Atoms}
use Rattle.table.specs.Table.{many}
use Rattle.round.specs.Signing.{atom_slot}
use Rattle.sieve.specs.Rows.{Falls}
use Rattle.search.specs.Falling.{FallingSlot}
use Rattle.search.specs.Masked.{slot_run, SlotMask, mask_at, MaskedAtoms}

-- two words stored at i
abbrev stored : List ℕ → ℕ → Mask → List ℕ
stored ws i a = set (set ws (2 * i) a.negative) (2 * i + 1) a.positive

mask-equal : {a b c d : ℕ} → a ≡ c → b ≡ d → ◌≡◌ {A = Mask} (record { negative = a; positive = b }) (record { negative = c; positive = d })
mask-equal e f = ap₂ (λ (x y : ℕ). record { negative = x; positive = y }) e f

module _ (ws : List ℕ) (i : ℕ) (a : Mask) (low : i < 64) (words : length ws ≡ 128) where
  stored-own : mask_at (stored ws i a) i ≡ a
  stored-own =
      mask-equal (get_or-set_other (set ws (2 * i) a.negative) (2 * i + 1) (2 * i) a.positive 0 (λ e. omega arith)
      ∙ get_or-set_same ws (2 * i) a.negative 0 (omega arith))
      (get_or-set_same (set ws (2 * i) a.negative) (2 * i + 1) a.positive 0 (simp length-set (omega arith)))

  stored_other : (j : ℕ) → j < i → mask_at (stored ws i a) j ≡ mask_at ws j
  stored_other j n = mask-equal (kept (2 * j) (λ e. omega arith) (λ e. omega arith)) (kept (2 * j + 1) (λ e. omega arith) (λ e. omega arith))
    where
      kept : (j : ℕ) → (j ≡ 2 * i → ⊥) → (j ≡ 2 * i + 1 → ⊥) → get_or (stored ws i a) j 0 ≡ get_or ws j 0
      kept j f g = get_or-set_other (set ws (2 * i) a.negative) (2 * i + 1) j a.positive 0 g ∙ get_or-set_other ws (2 * i) j a.negative 0 f

-- ---- the words of a run that is the places of slot k

same-run : (ts : List ℕ) (k : ℕ) {run : Run} → run.from ≡ 16 * k → run.to ≡ 16 * k + get_or ts k 0 → run ≡ slot_run ts k
same-run ts k e f = ap₂ (λ (x y : ℕ). record { from = x; to = y }) e f

module _ {cs : List ℤ} {ms : List ℕ} {ss : List SignSet} (ts : List ℕ) (k : ℕ) {run : Run} {a : Mask} (e : run.from ≡ 16 * k)
    (f : run.to ≡ 16 * k + get_or ts k 0) where
  pub at_slot : MaskOf cs ms ss run a → SlotMask cs ms ts ss k a
  at_slot h = subst (λ (x : Run). MaskOf cs ms ss x a) (same-run ts k e f) h

  pub of-run : SlotMask cs ms ts ss k a → MaskOf cs ms ss run a
  of-run h = subst (λ (x : Run). MaskOf cs ms ss x a) (sym (same-run ts k e f)) h

-- ---- the words of the atoms so far, and of one atom more

pub more-masked : {cs : List ℤ} {ms : List ℕ} {ss : List SignSet} (ts numbers ws : List ℕ) (i : ℕ) {a : Mask} {after : List ℕ} → i < 64
    → length ws ≡ 128
    → SlotMask cs ms ts ss (atom_slot numbers i) a → after ≡ stored ws i a
    → ((j : ℕ) → j < i → SlotMask cs ms ts ss (atom_slot numbers j) (mask_at ws j))
    → (j : ℕ) → j < i + 1 → SlotMask cs ms ts ss (atom_slot numbers j) (mask_at after j)
more-masked {cs} {ms} {ss} ts numbers ws i {a} {after} low words h e so_far =
    below_more (λ (j : ℕ). SlotMask cs ms ts ss (atom_slot numbers j) (mask_at after j)) i
    (λ j l. rw e (subst (SlotMask cs ms ts ss (atom_slot numbers j)) (sym (stored_other ws i a low words j l)) (so_far j l)))
    (rw e (subst (SlotMask cs ms ts ss (atom_slot numbers i)) (sym (stored-own ws i a low words)) h))

-- ---- those of the atom at i, for a run that is the places of its slot

pub atom-mask : {cs : List ℤ} {ms ts : List ℕ} {ss : List SignSet} {a : Atoms} {ws : List ℕ} → MaskedAtoms cs ms ts ss a ws → (i : ℕ)
    → i < many a.count
    → {r : Mask} {run : Run} → r ≡ mask_at ws i → run.from ≡ 16 * atom_slot a.number i
    → run.to ≡ 16 * atom_slot a.number i + get_or ts (atom_slot a.number i) 0 → MaskOf cs ms ss run r
atom-mask {cs} {ms} {ts} {ss} {a} h i low e f g =
    of-run ts (atom_slot a.number i) f g (subst (SlotMask cs ms ts ss (atom_slot a.number i)) (sym e) (h.atoms i low))

-- ---- the monomials of a run that is the places of slot k fall

pub falls-run : {ms : List ℕ} (ts : List ℕ) (k : ℕ) {run : Run} → run.from ≡ 16 * k → run.to ≡ 16 * k + get_or ts k 0 → FallingSlot ms ts k
    → Falls ms run.from run.to
falls-run ts k e f h = rw (e, f) h

pub falls-slot : {ms : List ℕ} (ts : List ℕ) (k : ℕ) {run : Run} → run.from ≡ 16 * k → run.to ≡ 16 * k + get_or ts k 0 → Falls ms run.from run.to
    → FallingSlot ms ts k
falls-slot ts k e f h = rw (e, f) at h
