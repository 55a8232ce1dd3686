-- Request #113, what it means that a pool holds its release, in the request's words: exactly the forms of the blocks present, each with the number of
-- blocks that list it; full exactly as said; freed room is used again; and without a block the pool is the empty one.
use Rattle.std.specs.Prelude.{◌≡◌, refl, Bool, true, not, ◌&&◌, List, [], ◌∷◌, map, ◌⊎◌, ◌↔◌, ℕ, zero, suc, ◌<◌, ◌≤◌, leb, ltb, eqb, length, get_or, set, replicate}
use Rattle.std.proofs.Common.{sym, ◌∙◌, subst, true≢false, inl, inr, get_or-set_same, ltb-true, lt-ltb, leb-true, leb-false, le-leb, eq-eqb}
use Rattle.std.proofs.Math.Path.{ap}
use Rattle.std.proofs.Math.Bool.{false}
use mathlib.Core.List.Memᴰ.{head as here}
use mathlib.Core.List.Memᴰ.{tail as later}
use mathlib.Core.List.{Memᴰ as Member}
use Rattle.std.proofs.Math.Logic.{⊎_elim}
use Rattle.std.proofs.Math.Option.{Option, none, some}
use native.Mathlib.Omega.{arith}
use Rattle.std.proofs.lemmas.List.{length-map}
use Rattle.std.proofs.Math.ListN.{get_or-map}
use Rattle.rules.specs.Polynomial.{Polynomial}
use Rattle.rules.specs.Block.{Block}
use Rattle.rules.specs.Answer.{knows}
use Rattle.rules.specs.Pool.{together, forms_listed, Outcome, unless_refused, either, count, Slot, Pool, cleared, empty_pool, is_free, forms_in_use, slot_of}
use Rattle.rules.specs.Pool.{add_block, withdraw}
use Rattle.rules.specs.Pool.{Release, is_present, allows_all, listed_of, release_forms, lists, listings, release_block, withdrawn}
use Rattle.sign_laws.specs.Booleans.{or-second}
use Rattle.sign_laws.specs.Lists.{Every, every_none, every, every_set, every-get_d}
use Rattle.length_laws.specs.Pigeonhole.{Distinct, every-member}
use Rattle.pool_laws.specs.Known.{member-knows}
use Rattle.pool_laws.specs.Together.{no_longer, equally-long, together-distinct, together-first, together-second, together-cases}
use Rattle.pool_laws.specs.Rows.{no-marks, count-unmarked, count-some, map-set}
use Rattle.pool_laws.specs.Slots.{Marks, Kept, free, kept, Slots, cleared-free}
use Rattle.pool_laws.specs.Holds.{marks_of, HasVariables, absent, has, Holds, variables-test, release-once, release-lists, lists-release}
use Rattle.pool_laws.specs.Holds.{used-marked}
use Rattle.pool_laws.specs.Calls.{Follows, add-follows, withdraw-follows}

-- ---- "the pool holds exactly the forms of the blocks present, each with the number of blocks that list it"

-- A slot of the pool is cleared, or it has a form that some block lists, with the number of these blocks and their numbers.
pub data Stored (release : Release) : Slot → Type 0 where
  not_used : Stored release cleared
  used : {slot : Slot} → 0 < slot.uses → slot.uses ≡ listings slot.form release → slot.listed_by ≡ map (lists slot.form) release
      → Stored release slot

pub record Exactly (release : Release) (pool : Pool) : Type 0 where
  pub each : Every (Stored release) pool.slots
  pub once : Distinct (forms_in_use pool.slots)
  pub all : (p : Polynomial) → Member p (forms_in_use pool.slots) ↔ (0 < listings p release)

stored : {release : Release} {slots : List Slot} → Every (Kept (marks_of release)) slots → Every (Stored release) slots
unfolding slot_of marks_of listings
stored every_none = every_none
stored (every free hs) = every not_used (stored hs)
stored (every (kept p h) hs) = every (used h refl refl) (stored hs)

pub holds-exactly : {release : Release} {pool : Pool} → Holds release pool → Exactly release pool
unfolding marks_of listings
holds-exactly {release} {pool} h = record {
  each = stored h.slots.each;
  once = h.slots.once;
  all = λ p. (λ m. used-marked pool.slots h.slots.each m, λ k. h.slots.all p k);
}

-- ---- "full exactly as said"

-- However the different forms are counted that are in use or listed: a list of them without repeats is as long as the book's.
pub all-forms : (release : Release) (block : Block) {forms : List Polynomial} → Distinct forms
    → ((p : Polynomial) → Member p forms ↔ ((0 < listings p release) ⊎ Member p (forms_listed block)))
    → length forms ≡ length (together (release_forms release) (forms_listed block))
all-forms release block {forms} d h =
    equally-long d (together-distinct (forms_listed block) (release-once release))
    (λ p m. ⊎_elim (λ k. together-first (forms_listed block) (lists-release release p k)) (λ k. together-second (release_forms release) k) ((h p).0 m))
    (λ p m. ⊎_elim (λ k. (h p).1 (inl (release-lists release k))) (λ k. (h p).1 (inr k)) (together-cases (release_forms release) (forms_listed block) m))

-- With a number that is free and the right n an addition is refused by 28 if they are more than 128, and else accepted.
pub full-exactly : (release : Release) (pool : Pool) → Holds release pool → (number : ℕ) (block : Block)
    → number < 32 → is_present (get_or release number none) ≡ false → allows_all block.variables release ≡ true
    → (add_block number block pool).refusal ≡ either (leb (length (together (release_forms release) (forms_listed block))) 128) 0 28
unfolding release_block unless_refused either
full-exactly release pool h number block below out allowed =
    (add-follows release pool h number block).refusal ∙ rw (lt-ltb number 32 below, out, allowed)
    (by-test (leb (length (together (release_forms release) (forms_listed block))) 128))
  where
    by-test : (b : Bool) → (unless_refused b 28 release (record { refusal = 0; result = set release number (some block) })).refusal ≡ either b 0 28
    by-test true = refl
    by-test false = refl

-- ---- Without a block the pool is the empty one.

all-cleared : {marks : Marks} → ((p : Polynomial) → count (marks p) ≡ 0) → {slots : List Slot} → Every (Kept marks) slots
    → slots ≡ replicate (length slots) cleared
all-cleared unlisted every_none = refl
all-cleared unlisted (every free hs) = ap (λ (l : List Slot). cleared ∷ l) (all-cleared unlisted hs)
all-cleared unlisted (every (kept p h) hs) = absurd (omega (arith, unlisted p))

none-listed : (p : Polynomial) (release : Release) → count (map is_present release) ≡ 0 → listings p release ≡ 0
unfolding listings lists is_present listed_of count knows
none-listed p [] e = refl
none-listed p (none ∷ release) e = none-listed p release e
none-listed p (some block ∷ release) e = absurd (omega arith)

-- "so that equal histories give equal pools": when all blocks are withdrawn, the pool is as at first.
pub empty-again : {release : Release} {pool : Pool} → Holds release pool → count pool.present ≡ 0 → pool ≡ empty_pool
unfolding empty_pool marks_of listings
empty-again {release} {pool} h e =
    same-pool (h.none_kept e)
    (no-marks pool.present e ∙ ap (λ (k : ℕ). replicate k false) (ap length h.present ∙ length-map release is_present ∙ h.numbers))
    (all-cleared (λ p. none-listed p release (ap count (sym h.present) ∙ e)) h.slots.each ∙ ap (λ (k : ℕ). replicate k cleared) h.size)
  where
    same-pool : pool.variables ≡ 0 → pool.present ≡ replicate 32 false → pool.slots ≡ replicate 128 cleared → pool ≡ empty_pool
    same-pool a b c = λ i. record { variables = a i; present = b i; slots = c i }

-- ---- "freed room is used again"

-- The forms in use are no more than the slots.
use-within : (slots : List Slot) → length (forms_in_use slots) ≤ length slots
unfolding forms_in_use either
use-within [] = omega arith
use-within (slot ∷ slots) = by-test (is_free slot) (use-within slots)
  where
    by-test : (b : Bool) → length (forms_in_use slots) ≤ length slots
        → length (either b (forms_in_use slots) (slot.form ∷ forms_in_use slots)) ≤ suc (length slots)
    by-test true h = omega arith
    by-test false h = omega arith

not-present : is_present none ≡ false
unfolding is_present
not-present = refl

withdrawn-is : (release : Release) (number : ℕ) (block : Block) → number < 32 → get_or release number none ≡ some block
    → (withdrawn number release).result ≡ set release number none
unfolding withdrawn unless_refused is_present
withdrawn-is release number block below there = rw (lt-ltb number 32 below, there)

module _ (release : Release) (pool : Pool) (h : Holds release pool) (number : ℕ) (block : Block) (below : number < 32)
    (there : get_or release number none ≡ some block) where
  -- Nothing is listed after the withdrawal, or by the block, that was not in use before.
  no-new-forms : length (together (release_forms (set release number none)) (forms_listed block)) ≤ 128
  unfolding marks_of listings lists listed_of knows
  no-new-forms =
      let before = no_longer (together-distinct (forms_listed block) (release-once (set release number none))) among in
      omega (arith, before, use-within pool.slots, h.size)
    where
      among : (p : Polynomial) → Member p (together (release_forms (set release number none)) (forms_listed block))
          → Member p (forms_in_use pool.slots)
      among p m =
          ⊎_elim
          (λ k. h.slots.all p (omega (
            arith,
            release-lists (set release number none) k,
            ap count
                (map-set (lists p) release number none),
            count-unmarked (map (lists p) release) number,
          )))
          (λ k. h.slots.all p (count-some (map (lists p) release) number
          (get_or-map (lists p) release number none ∙ ap (lists p) there ∙ member-knows k)))
          (together-cases (release_forms (set release number none)) (forms_listed block) m)

  same-variables : block.variables ≡ pool.variables
  same-variables = elim (subst (HasVariables pool.variables) there (every-get_d number none absent h.variables)) [ has e ↦ e ]

  still-allowed : allows_all block.variables (set release number none) ≡ true
  still-allowed =
      sym (variables-test block.variables (every_set number none absent h.variables))
      ∙ or-second (eqb (count (map is_present (set release number none))) 0) (eq-eqb block.variables pool.variables same-variables)

  -- A block that is withdrawn can be added again.
  pub room-again : (add_block number block (withdraw number pool).result).refusal ≡ 0
  unfolding either
  room-again =
      full-exactly (set release number none) (withdraw number pool).result after number block below absent-then still-allowed
      ∙ rw (le-leb (length (together (release_forms (set release number none)) (forms_listed block))) 128 no-new-forms)
    where
      absent-then : is_present (get_or (set release number none) number none) ≡ false
      absent-then = ap is_present (get_or-set_same release number none none (omega (arith, h.numbers))) ∙ not-present

      after : Holds (set release number none) (withdraw number pool).result
      after = subst (λ (r : Release). Holds r (withdraw number pool).result) (withdrawn-is release number block below there)
          (withdraw-follows release pool h number).holds
