-- Request #113, the relation between a release and its pool: the pool holds exactly the forms of the blocks present, each in one slot with the
-- numbers of the blocks that list it. The three tests of an addition are then the release's own.
use Rattle.std.specs.Prelude.{◌≡◌, refl, Bool, true, false, not, ◌&&◌, ◌||◌, List, [], ◌∷◌, map, ℕ, zero, suc, ◌<◌, eqb, length, get_or, set, replicate}
use Rattle.std.proofs.Common.{sym, ap, ap₂, ◌∙◌, subst, ⊎_elim, arith, eqb-true}
use mathlib.Core.List.{Memᴰ as Member}
use Rattle.std.proofs.Math.Option.{Option, none, some}
use Rattle.std.proofs.Math.Dec.{eqb-suc-zero}
use Rattle.std.proofs.lemmas.List.{length-map}
use Rattle.std.proofs.Math.ListN.{get_or-map}
use Rattle.rules.specs.Polynomial.{Polynomial}
use Rattle.rules.specs.Block.{Block}
use Rattle.rules.specs.Answer.{knows}
use Rattle.rules.specs.Pool.{together, forms_listed, count, Slot, Pool, cleared, is_free, forms_in_use, slot_of}
use Rattle.rules.specs.Pool.{Release, is_present, allows, allows_all, listed_of, release_forms, lists, listings}
use Rattle.sign_laws.specs.Booleans.{and-true, and_first, and_second, or-true, never_both}
use Rattle.sign_laws.specs.Lists.{Every, every_none, every}
use Rattle.length_laws.specs.Pigeonhole.{Distinct, none_distinct}
use Rattle.pool_laws.specs.Known.{member-knows}
use Rattle.pool_laws.specs.Known.{knows-member}
use Rattle.pool_laws.specs.Together.{together-distinct, together-first, together-second, together-cases, together-size}
use Rattle.pool_laws.specs.Slots.{Marks, Kept, free, kept, Slots, cleared-free, use-cases}

-- For each form the numbers whose blocks list it.
unfoldable pub marks_of : Release → Marks
marks_of release p = map (lists p) release

-- "present .. fixes n"
pub data HasVariables (n : ℕ) : Option Block → Type 0 where
  absent : HasVariables n none
  has : {block : Block} → block.variables ≡ n → HasVariables n (some block)

pub record Holds (release : Release) (pool : Pool) : Type 0 where
  pub numbers : length release ≡ 32
  pub present : pool.present ≡ map is_present release
  pub variables : Every (HasVariables pool.variables) release
  pub none_kept : count pool.present ≡ 0 → pool.variables ≡ 0
  pub size : length pool.slots ≡ 128
  pub slots : Slots (marks_of release) pool.slots

-- ---- The number: 26.
pub present-at : (release : Release) (number : ℕ) → get_or (map is_present release) number false ≡ is_present (get_or release number none)
unfolding is_present
present-at release number = get_or-map is_present release number none

-- ---- The variables: 27.
pub variables-test : {v : ℕ} (n : ℕ) {release : Release} → Every (HasVariables v) release
    → eqb (count (map is_present release)) 0 || eqb n v ≡ allows_all n release
unfolding is_present allows_all allows count
variables-test n every_none = refl
variables-test n (every absent hs) = variables-test n hs
variables-test {v} n (every {l = release} (has {block} e) hs) = rw (e, ← variables-test n hs, eqb-suc-zero (count (map is_present release)))
    (by-test (eqb (count (map is_present release)) 0) (eqb n v))
  where
    by-test : (b c : Bool) → c ≡ c && (b || c)
    by-test true true = refl
    by-test true false = refl
    by-test false true = refl
    by-test false false = refl

pub allowed_all : (n : ℕ) (release : Release) → allows_all n release ≡ true → Every (HasVariables n) release
unfolding allows_all allows
allowed_all n [] e = every_none
allowed_all n (none ∷ release) e = every absent (allowed_all n release e)
allowed_all n (some block ∷ release) e =
    every (has (sym (eqb-true n block.variables (and_first (eqb n block.variables) (allows_all n release) e))))
    (allowed_all n release (and_second (eqb n block.variables) (allows_all n release) e))

-- Without a block any n is right.
pub none-present : (n : ℕ) (release : Release) → count (map is_present release) ≡ 0 → Every (HasVariables n) release
unfolding is_present count
none-present n [] e = every_none
none-present n (none ∷ release) e = every absent (none-present n release e)
none-present n (some block ∷ release) e = absurd (omega arith)

-- ---- The forms: 28.

-- A block lists each form once.
pub listed-once : (one : Option Block) → Distinct (listed_of one)
unfolding listed_of forms_listed
listed-once none = none_distinct
listed-once (some block) = together-distinct _ none_distinct

-- The forms of the release: each once, those that some block lists.
pub release-once : (release : Release) → Distinct (release_forms release)
unfolding release_forms
release-once [] = none_distinct
release-once (one ∷ others) = together-distinct (release_forms others) (listed-once one)

count-first : (b : Bool) (bs : List Bool) → b ≡ true → 0 < count (b ∷ bs)
unfolding count
count-first true bs e = omega arith
count-first false bs e = never_both e refl

count-later : (b : Bool) (bs : List Bool) → 0 < count bs → 0 < count (b ∷ bs)
unfolding count
count-later true bs h = omega arith
count-later false bs h = h

pub release-lists : (release : Release) {p : Polynomial} → Member p (release_forms release) → 0 < listings p release
unfolding release_forms listings lists
release-lists [] m = elim m [ ]
release-lists (one ∷ others) {p} m =
    ⊎_elim (λ h. count-first (lists p one) (map (lists p) others) (member-knows h))
    (λ h. count-later (lists p one) (map (lists p) others) (release-lists others h))
    (together-cases (listed_of one) (release_forms others) m)

pub lists-release : (release : Release) (p : Polynomial) → 0 < listings p release → Member p (release_forms release)
unfolding release_forms listings lists count
lists-release [] p h = absurd (omega arith)
lists-release (one ∷ others) p h = by-test (knows (listed_of one) p) refl h (lists-release others p)
  where
    by-test : (b : Bool) → knows (listed_of one) p ≡ b → 0 < count (b ∷ map (lists p) others)
        → (0 < listings p others → Member p (release_forms others))
        → Member p (together (listed_of one) (release_forms others))
    by-test true e h rest = together-first (release_forms others) (knows-member (listed_of one) p e)
    by-test false e h rest = together-second (listed_of one) (rest h)

-- A form in use has a mark.
pub used-marked : {marks : Marks} (slots : List Slot) → Every (Kept marks) slots → {p : Polynomial} → Member p (forms_in_use slots)
    → 0 < count (marks p)
unfolding forms_in_use slot_of
used-marked [] every_none m = elim m [ ]
used-marked {marks} (slot ∷ slots) (every k ks) {p} m = use-cases slot slots m (λ f e. own k f e) (λ h. used-marked slots ks h)
  where
    own : {slot : Slot} → Kept marks slot → is_free slot ≡ false → p ≡ slot.form → 0 < count (marks p)
    own free f e = never_both cleared-free f
    own (kept q h) f e = subst (λ (r : Polynomial). 0 < count (marks r)) (sym e) h

-- The forms in use with others are as many as the forms of the blocks present with these.
pub forms-test : (release : Release) (slots : List Slot) (forms : List Polynomial) → Slots (marks_of release) slots
    → length (together (forms_in_use slots) forms) ≡ length (together (release_forms release) forms)
unfolding marks_of listings
forms-test release slots forms h =
    together-size forms h.once (release-once release)
    (λ q m. lists-release release q (used-marked slots h.each m))
    (λ q m. h.all q (release-lists release m))
