-- The arrays of a block that was read: each polynomial of its table stands in the slot of its number.
-- This is what the working table asks of them.
use Rattle.std.specs.Prelude.{◌≡◌, ℤ, pos, length, get_or, set, replicate}
use Rattle.std.proofs.Math.Path.{refl}
use Rattle.std.proofs.Common.{ap₂, ◌∙◌, zero-add, add-zero, suc-add, add-suc, length-set, get_or-set_same, get_or-set_other}
use mathlib.Core.List.{List, [], ◌∷◌, map}
use Prim.Native.Nat.{ℕ, zero, suc, ◌+◌, ◌*◌, ◌<◌, ◌≤◌}
use native.Mathlib.Omega.{arith}
use Rattle.std.proofs.lemmas.List.{length-replicate, length-map}
use Rattle.std.proofs.Math.ListN.{get_or-map}
use Rattle.std.proofs.lemmas.List.Edits.{sets}
use Rattle.std.proofs.Math.Seq.{length-sets}
use Rattle.rules.specs.Polynomial.{Term, Polynomial}
use Rattle.rules.specs.Block.{Block, Stream, read, read_block}
use Rattle.rules.specs.Limits.{TableWithin, no_polynomials, polynomials, BlockWithin}
use Rattle.block_laws.specs.Blocks.{accepted-within}
use Rattle.terms.specs.View.{terms_from}
use Rattle.block.specs.Held.{slots, held_of}
use Rattle.forms.specs.Working.{TableRead}
use Rattle.forms.specs.Holding.{Holds, table-read}

-- ---- a run of stores

module _ {A : Type 0} where
  -- what stands before the run is kept
  kept-before : (vs array : List A) (i k : ℕ) (d : A) → k < i → get_or (sets array i vs) k d ≡ get_or array k d
  kept-before [] array i k d h = refl
  kept-before (v ∷ vs) array i k d h = kept-before vs (set array i v) (suc i) k d (omega arith) ∙ get_or-set_other array i k v d (λ e. omega arith)

  -- each value stands at its place
  stored_at : (vs array : List A) (i k : ℕ) (d : A) → i + length vs ≤ length array → k < length vs → get_or (sets array i vs) (i + k) d ≡ get_or vs k d
  stored_at [] array i k d room h = absurd (omega arith)
  stored_at (v ∷ vs) array i zero d room h =
      rw (add-zero i) (kept-before vs (set array i v) (suc i) i d (omega arith) ∙ get_or-set_same array i v d (omega arith))
  stored_at (v ∷ vs) array i (suc k) d room h =
      rw (add-suc i k, ← suc-add i k) (stored_at vs (set array i v) (suc i) k d (rw (length-set array i v) (omega arith)) (omega arith))

-- ---- the slots

-- Each polynomial has a slot's sixteen places at most.
abbrev pub AtMostSixteen : List Polynomial → Type 0
AtMostSixteen table = (j : ℕ) → length (get_or table j []) ≤ 16

pub table_fits : {n : ℕ} {table : List Polynomial} → TableWithin n table → AtMostSixteen table
table_fits no_polynomials j = omega arith
table_fits (polynomials first later) zero = first.at-most
table_fits (polynomials first later) (suc j) = table_fits later j

module _ {A : Type 0} (part : Term → A) (d : A) where
  pub length-slots : (table : List Polynomial) (i : ℕ) (array : List A) → length (slots part i table array) ≡ length array
  unfolding slots
  length-slots [] i array = refl
  length-slots (p ∷ ps) i array = length-slots ps (suc i) (sets array (16 * i) (map part p)) ∙ length-sets array (16 * i) (map part p)

  -- what stands before the first slot is kept
  slots-before : (table : List Polynomial) (i : ℕ) (array : List A) (k : ℕ) → k < 16 * i → get_or (slots part i table array) k d ≡ get_or array k d
  unfolding slots
  slots-before [] i array k h = refl
  slots-before (p ∷ ps) i array k h = slots-before ps (suc i) (sets array (16 * i) (map part p)) k (omega arith) ∙ kept-before (map part p) array (16 * i) k d h

  -- the part of term k of polynomial j
  slots_at : (table : List Polynomial) (i : ℕ) (array : List A) (j k : ℕ) → AtMostSixteen table → 16 * (i + length table) ≤ length array
      → j < length table → k < length (get_or table j []) → get_or (slots part i table array) (16 * (i + j) + k) d ≡ get_or (map part (get_or table j [])) k d
  unfolding slots
  slots_at [] i array j k few room h inside = absurd (omega arith)
  slots_at (p ∷ ps) i array zero k few room h inside =
      rw (add-zero i) (
      slots-before ps (suc i) (sets array (16 * i) (map part p)) (16 * i + k) (omega (arith, few 0))
      ∙ stored_at (map part p) array (16 * i) k d (rw (length-map p part) (omega (arith, few 0))) (rw (length-map p part) inside)
      )
  slots_at (p ∷ ps) i array (suc j) k few room h inside =
      let one_on : i + suc j ≡ suc i + j = omega arith in
      rw one_on (slots_at ps (suc i) (sets array (16 * i) (map part p)) j k (λ l. few (suc l)) (rw (length-sets array (16 * i) (map part p)) (omega arith)) (omega arith) inside)

-- A polynomial is what stands at its places.
terms-are : (cs : List ℤ) (ms : List ℕ) (p : Polynomial) (i : ℕ)
    → ((k : ℕ) → k < length p → get_or cs (i + k) (pos 0) ≡ get_or (map (λ (t : Term). t.coefficient) p) k (pos 0))
    → ((k : ℕ) → k < length p → get_or ms (i + k) 0 ≡ get_or (map (λ (t : Term). t.monomial) p) k 0) → terms_from cs ms i (length p) ≡ p
unfolding terms_from
terms-are cs ms [] i each-coefficient each-monomial = refl
terms-are cs ms (t ∷ ts) i each-coefficient each-monomial =
    let first-coefficient : get_or cs i (pos 0) ≡ t.coefficient = rw (add-zero i) at (each-coefficient 0 (omega arith)) in
    let first-monomial : get_or ms i 0 ≡ t.monomial = rw (add-zero i) at (each-monomial 0 (omega arith)) in
    ap₂ (λ (u : Term) (us : Polynomial). u ∷ us)
    (ap₂ (λ (c : ℤ) (m : ℕ). record { coefficient = c; monomial = m }) first-coefficient first-monomial)
    (terms-are cs ms ts (suc i)
    (λ k h. let later : i + suc k ≡ suc i + k = omega arith in rw later at (each-coefficient (suc k) (omega arith)))
    (λ k h. let later : i + suc k ≡ suc i + k = omega arith in rw later at (each-monomial (suc k) (omega arith))))

-- ---- what was read

module _ (table : List Polynomial) (few : AtMostSixteen table) (cs : List ℤ) (ms ts : List ℕ)
    (coefficients : 16 * length table ≤ length cs) (monomials : 16 * length table ≤ length ms) (counts : length table ≤ length ts) where
  count-stored : (i : ℕ) → i < length table → get_or (sets ts 0 (map length table)) i 0 ≡ length (get_or table i [])
  count-stored i h =
      let at = stored_at (map length table) ts 0 i 0 (rw (length-map table length) (omega arith)) (rw (length-map table length) h) in
      (rw (zero-add i) at at) ∙ get_or-map length table i []

  -- Arrays with room for a table have each polynomial in its slot, once the table is stored over them.
  pub slot-stored : (i : ℕ) → i < length table
      → terms_from (slots (λ t. t.coefficient) 0 table cs) (slots (λ t. t.monomial) 0 table ms) (16 * i) (get_or (sets ts 0 (map length table)) i 0) ≡ get_or table i []
  slot-stored i h =
      rw (count-stored i h) (
      terms-are (slots (λ t. t.coefficient) 0 table cs) (slots (λ t. t.monomial) 0 table ms) (get_or table i []) (16 * i)
      (λ k inside. let at = slots_at (λ (t : Term). t.coefficient) (pos 0) table 0 cs i k few (omega arith) h inside in rw (zero-add i) at at)
      (λ k inside. let at = slots_at (λ (t : Term). t.monomial) 0 table 0 ms i k few (omega arith) h inside in rw (zero-add i) at at)
      )

module _ (table : List Polynomial) (few : AtMostSixteen table) (most : length table ≤ 64) (cs : List ℤ) (ms ts : List ℕ)
    (coefficients : length cs ≡ 1024) (monomials : length ms ≡ 1024) (counts : length ts ≡ 64) where
  -- The arrays that a table is stored over hold it.
  pub arrays-hold : Holds (slots (λ t. t.coefficient) 0 table cs) (slots (λ t. t.monomial) 0 table ms) (sets ts 0 (map length table)) table
  arrays-hold = record {
    coefficients = length-slots (λ (t : Term). t.coefficient) (pos 0) table 0 cs ∙ coefficients;
    monomials = length-slots (λ (t : Term). t.monomial) 0 table 0 ms ∙ monomials;
    counts = length-sets ts 0 (map length table) ∙ counts;
    each = slot-stored table few cs ms ts (omega arith) (omega arith) (omega arith);
  }

module _ (given : Block) (within : BlockWithin given) where
  -- The arrays of a block within the limits hold its table.
  pub held-table : Holds (held_of given).coefficient (held_of given).monomial (held_of given).terms given.table
  unfolding held_of
  held-table =
      arrays-hold given.table (table_fits within.table) within.polynomials (replicate 1024 (pos 0)) (replicate 1024 0) (replicate 64 0)
      (length-replicate 1024 (pos 0)) (length-replicate {A = ℕ} 1024 0) (length-replicate {A = ℕ} 64 0)

  -- They are what the working table asks for.
  pub held-table-read : TableRead (held_of given).coefficient (held_of given).monomial (held_of given).terms (held_of given).polynomials (held_of given).variables
  unfolding held_of
  held-table-read =
      table-read (held_of given).coefficient (held_of given).monomial (held_of given).terms given.variables given.table held-table
      within.variables within.polynomials within.table

-- The arrays of an accepted block are what the working table asks for.
pub accepted-table-read : (bytes : List ℕ) {given : Block} {stream : Stream} → read_block bytes ≡ read given stream
    → TableRead (held_of given).coefficient (held_of given).monomial (held_of given).terms (held_of given).polynomials (held_of given).variables
accepted-table-read bytes {given} accepted = held-table-read given (accepted-within bytes accepted)
