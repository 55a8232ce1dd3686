-- Request #113, the theorems: each call on a pool does what it does on the release that the pool holds, with the same refusal; so it is after any
-- sequence of additions and withdrawals, by induction. A refused call changes nothing.
use Rattle.std.specs.Prelude.{◌≡◌, ◌&&◌, ◌||◌, ℕ, zero, suc, ◌<◌, ◌≤◌, replicate}
use Rattle.std.proofs.Math.Path.{refl, sym, ap}
use Rattle.std.proofs.Common.{ap₂, ◌∙◌, subst, true≢false}
use Rattle.std.proofs.Math.Bool.{Bool, true, false, not}
use mathlib.Core.List.{List, [], ◌∷◌, map}
use mathlib.Core.List.{Memᴰ as Member}
use Rattle.std.proofs.Math.Option.{Option, none, some}
use native.Mathlib.Omega.{arith}
use Rattle.std.proofs.Math.Dec.{leb, ltb, eqb}
use Rattle.std.proofs.Math.ListN.{length, get_or, set, length-map, length-set, get_or-map}
use borrow.Author.Tests.{ltb-true, leb-true, not-true}
use Rattle.rules.specs.Polynomial.{Polynomial}
use Rattle.rules.specs.Block.{Block, Reading, refused, read, read_block}
use Rattle.rules.specs.Answer.{knows}
use Rattle.rules.specs.Pool.{together, forms_listed, Outcome, unless_refused, either, count, Slot, Pool, cleared, empty_pool, is_free, forms_in_use}
use Rattle.rules.specs.Pool.{list_forms, add_block, add_reading, add}
use Rattle.rules.specs.Pool.{unmarked, unless_none, withdraw, Release, empty_release, is_present, allows_all, listed_of, release_forms, lists, listings}
use Rattle.rules.specs.Pool.{release_block, release_reading, withdrawn, Call, addition, withdrawal, called, release_called, after_all, refusals}
use Rattle.sign_laws.specs.Booleans.{and_first, and_second}
use Rattle.sign_laws.specs.Lists.{Every, every_none, every, every_set, every-replicate}
use Rattle.length_laws.specs.Pigeonhole.{Distinct, none_distinct}
use Rattle.pool_laws.specs.Rows.{count-marked, map-set, set_same}
use Rattle.pool_laws.specs.Slots.{Marks, Kept, free, Slots, cleared-free, in-use-free, listed-all}
use Rattle.pool_laws.specs.Withdrawing.{all-unmarked}
use Rattle.pool_laws.specs.Holds.{marks_of, HasVariables, absent, has, Holds, present-at, variables-test, allowed_all, none-present, forms-test}

-- ---- The empty pool holds the empty release.

none-in-use : (n : ℕ) → forms_in_use (replicate n cleared) ≡ []
unfolding forms_in_use
none-in-use zero = refl
none-in-use (suc n) = in-use-free cleared (replicate n cleared) cleared-free ∙ none-in-use n

pub holds-empty : Holds empty_release empty_pool
unfolding empty_release empty_pool is_present marks_of lists listed_of knows count
holds-empty = record {
  numbers = refl;
  present = refl;
  variables = every-replicate 32 none absent;
  none_kept = λ e. refl;
  size = refl;
  slots = record {
    rows = λ p. refl;
    each = every-replicate 128 cleared free;
    once = rw (none-in-use 128) none_distinct;
    all = λ p h. absurd (omega arith);
  };
}

-- ---- Small facts.

absent-lists : (q : Polynomial) (one : Option Block) → is_present one ≡ false → lists q one ≡ false
unfolding is_present lists listed_of knows
absent-lists q none e = refl
absent-lists q (some block) e = absurd (true≢false e)

none_left : (n : ℕ) → unless_none 0 n ≡ 0
unfolding unless_none
none_left n = refl

variables-left : {n : ℕ} {release : Release} (k : ℕ) → (k ≡ 0 → Every (HasVariables 0) release) → Every (HasVariables n) release
    → Every (HasVariables (unless_none k n)) release
unfolding unless_none
variables-left zero h hs = h refl
variables-left (suc k) h hs = hs

-- ---- An addition that is not refused.
module _ (release : Release) (pool : Pool) (h : Holds release pool) (number : ℕ) (below : number < 32) where
  added-marks : (block : Block) → is_present (get_or release number none) ≡ false → (q : Polynomial)
      → marks_of (set release number (some block)) q ≡ either (knows (forms_listed block) q) (set (marks_of release q) number true) (marks_of release q)
  unfolding marks_of lists listed_of knows either
  added-marks block out q = map-set (lists q) release number (some block) ∙ by-test (knows (forms_listed block) q)
    where
      by-test : (b : Bool) → set (map (lists q) release) number b ≡ either b (set (map (lists q) release) number true) (map (lists q) release)
      by-test true = refl
      by-test false =
          set_same (map (lists q) release) number false false (omega (arith, length-map release (lists q), h.numbers))
          (get_or-map (lists q) release number none ∙ absent-lists q (get_or release number none) out)

  pub holds-added : (block : Block) → is_present (get_or release number none) ≡ false → allows_all block.variables release ≡ true
      → length (together (forms_in_use pool.slots) (forms_listed block)) ≤ 128
      → Holds (set release number (some block)) (record {
        variables = block.variables;
        present = set pool.present number true;
        slots = list_forms number pool.slots (forms_listed block);
      })
  unfolding is_present
  holds-added block out allowed room =
      let listed = listed-all number below (forms_listed block) {new = marks_of (set release number (some block))} pool.slots h.slots
      (omega (arith, h.size)) (added-marks block out) in
      record {
        numbers = length-set release number (some block) ∙ h.numbers;
        present = ap (λ (row : List Bool). set row number true) h.present ∙ sym (map-set is_present release number (some block));
        variables = every_set number (some block) (has refl) (allowed_all block.variables release allowed);
        none_kept = λ e. absurd (omega (
          arith,
          e,
          count-marked pool.present number
              (omega (arith, ap length h.present, length-map release is_present, h.numbers)),
        ));
        size = listed.1 ∙ h.size;
        slots = listed.0;
      }

  -- A withdrawal that is not refused.
  pub holds-withdrawn : Holds (set release number none) (record {
    variables = unless_none (count (set pool.present number false)) pool.variables;
    present = set pool.present number false;
    slots = map (unmarked number) pool.slots;
  })
  unfolding is_present marks_of lists listed_of knows
  holds-withdrawn =
      let left : set pool.present number false ≡ map is_present (set release number none) =
      ap (λ (row : List Bool). set row number false) h.present ∙ sym (map-set is_present release number none) in
      record {
        numbers = length-set release number none ∙ h.numbers;
        present = left;
        variables = variables-left (count (set pool.present number false))
            (λ e. none-present 0 (set release number none) (ap count (sym left) ∙ e))
            (every_set number none absent h.variables);
        none_kept = λ e. rw e (none_left pool.variables);
        size = length-map pool.slots (unmarked number) ∙ h.size;
        slots = all-unmarked (marks_of release) (marks_of (set release number none)) number (λ p. map-set (lists p) release number none) pool.slots
            h.slots;
      }

-- ---- Each call.

-- The outcome on the release and that on the pool: the same refusal, and the pool holds the release.
pub record Follows (of_release : Outcome Release) (of_pool : Outcome Pool) : Type 0 where
  pub refusal : of_pool.refusal ≡ of_release.refusal
  pub holds : Holds of_release.result of_pool.result

unless-follows : {release : Release} {pool : Pool} {of_release : Outcome Release} {of_pool : Outcome Pool} (a b : Bool) (number : ℕ)
    → Holds release pool → b ≡ a
    → (a ≡ true → Follows of_release of_pool) → Follows (unless_refused a number release of_release) (unless_refused b number pool of_pool)
unfolding unless_refused
unless-follows true true number h e follows = follows refl
unless-follows true false number h e follows = absurd (true≢false (sym e))
unless-follows false true number h e follows = absurd (true≢false e)
unless-follows false false number h e follows = record { refusal = refl; holds = h }

module _ (release : Release) (pool : Pool) (h : Holds release pool) where
  at-number : (number : ℕ) → get_or pool.present number false ≡ is_present (get_or release number none)
  at-number number = ap (λ (row : List Bool). get_or row number false) h.present ∙ present-at release number

  pub add-follows : (number : ℕ) (block : Block) → Follows (release_block number block release) (add_block number block pool)
  unfolding release_block add_block
  add-follows number block =
      let there : Bool = is_present (get_or release number none) in
      let many : length (together (forms_in_use pool.slots) (forms_listed block)) ≡ length (together (release_forms release) (forms_listed block)) =
      forms-test release pool.slots (forms_listed block) h.slots in
      unless-follows (ltb number 32 && not there) (ltb number 32 && not (get_or pool.present number false)) 26 h
      (ap (λ (b : Bool). ltb number 32 && not b) (at-number number))
      (λ free. unless-follows (allows_all block.variables release) (eqb (count pool.present) 0 || eqb block.variables pool.variables) 27 h
      (ap (λ (row : List Bool). eqb (count row) 0 || eqb block.variables pool.variables) h.present
      ∙ variables-test block.variables h.variables)
      (λ allowed. unless-follows (leb (length (together (release_forms release) (forms_listed block))) 128)
      (leb (length (together (forms_in_use pool.slots) (forms_listed block))) 128) 28 h
      (ap (λ (k : ℕ). leb k 128) many)
      (λ room. record {
        refusal = refl;
        holds = holds-added release pool h number (ltb-true number 32 (and_first (ltb number 32) (not there) free)) block
            (not-true there (and_second (ltb number 32) (not there) free)) allowed
            (omega (arith, many, leb-true (length (together (release_forms release) (forms_listed block))) 128 room));
      })))

  read-follows : (number : ℕ) (reading : Reading Block) → Follows (release_reading number reading release) (add_reading number reading pool)
  unfolding release_reading add_reading
  read-follows number (refused refusal) = record { refusal = refl; holds = h }
  read-follows number (read block stream) = add-follows number block

  pub withdraw-follows : (number : ℕ) → Follows (withdrawn number release) (withdraw number pool)
  unfolding withdrawn withdraw
  withdraw-follows number =
      let there : Bool = is_present (get_or release number none) in
      unless-follows (ltb number 32 && there) (ltb number 32 && get_or pool.present number false) 26 h
      (ap (λ (b : Bool). ltb number 32 && b) (at-number number))
      (λ present. record {
        refusal = refl;
        holds = holds-withdrawn release pool h number (ltb-true number 32 (and_first (ltb number 32) there present));
      })

  -- A call does on a pool what it does on the release that the pool holds.
  pub call-follows : (call : Call) → Follows (release_called call release) (called call pool)
  unfolding release_called called add
  call-follows (addition number bytes) = read-follows number (read_block bytes)
  call-follows (withdrawal number) = withdraw-follows number

-- ---- Any sequence.

-- From a pool that holds its release: afterwards it holds the release then, and each refusal was the release's.
pub sequence-follows : (calls : List Call) {release : Release} {pool : Pool} → Holds release pool
    → Holds (after_all release_called calls release) (after_all called calls pool) × (refusals called calls pool ≡ refusals release_called calls release)
unfolding after_all refusals
sequence-follows [] h = (h, refl)
sequence-follows (call ∷ calls) {release} {pool} h =
    let one = call-follows release pool h call in
    let others = sequence-follows calls one.holds in
    (others.0, ap₂ (λ (k : ℕ) (ks : List ℕ). k ∷ ks) one.refusal others.1)

-- "after any sequence of additions and withdrawals (each accepted or refused)", from the empty pool
pub always-holds : (calls : List Call) → Holds (after_all release_called calls empty_release) (after_all called calls empty_pool)
always-holds calls = (sequence-follows calls holds-empty).0

-- "A refused call gives back the pool as it was": whatever the pool is, also one that holds no release.
record Unchanged (pool : Pool) (outcome : Outcome Pool) : Type 0 where
  unchanged : (outcome.refusal ≡ 0 → ⊥) → outcome.result ≡ pool

unless-unchanged : {pool : Pool} {outcome : Outcome Pool} (b : Bool) (number : ℕ) → Unchanged pool outcome
    → Unchanged pool (unless_refused b number pool outcome)
unfolding unless_refused
unless-unchanged true number u = u
unless-unchanged false number u = record { unchanged = λ h. refl }

reading-unchanged : (number : ℕ) (reading : Reading Block) (pool : Pool) → Unchanged pool (add_reading number reading pool)
unfolding add_reading add_block
reading-unchanged number (refused refusal) pool = record { unchanged = λ h. refl }
reading-unchanged number (read block stream) pool =
    unless-unchanged (ltb number 32 && not (get_or pool.present number false)) 26
    (unless-unchanged (eqb (count pool.present) 0 || eqb block.variables pool.variables) 27
    (unless-unchanged (leb (length (together (forms_in_use pool.slots) (forms_listed block))) 128) 28 (record { unchanged = λ h. absurd (h refl) })))

pub refused-unchanged : (call : Call) (pool : Pool) → ((called call pool).refusal ≡ 0 → ⊥) → (called call pool).result ≡ pool
unfolding called add withdraw
refused-unchanged (addition number bytes) pool h = (reading-unchanged number (read_block bytes) pool).unchanged h
refused-unchanged (withdrawal number) pool h =
    (unless-unchanged (ltb number 32 && get_or pool.present number false) 26 (record { unchanged = λ h. absurd (h refl) })).unchanged h
