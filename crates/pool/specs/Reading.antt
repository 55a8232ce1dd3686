-- The block that was read, as its arrays hold it, and the forms that it lists, as the working table holds them.
use Rattle.std.specs.Prelude.{◌≡◌, refl, Bool, false, eqb, ℤ, pos, length, get_or, replicate}
use Rattle.std.proofs.Math.Path.{sym, ap}
use Rattle.std.proofs.Common.{ap₂, ◌∙◌, zero-add, arith}
use mathlib.Core.List.{List, [], ◌∷◌, map}
use Prim.Native.Nat.{ℕ, zero, suc, ◌+◌, ◌*◌, ◌<◌, ◌≤◌}
use Rattle.rules.specs.Signs.{full, bit}
use Rattle.rules.specs.Polynomial.{Polynomial, Atom, same, constant}
use Rattle.rules.specs.Formula.{leaf}
use Rattle.rules.specs.Block.{Block}
use Rattle.sign_laws.specs.Lists.{Every, every_none, every}
use Rattle.rules.specs.Polynomial.{normal_form}
use Rattle.rules.specs.Pool.{forms_listed}
use Rattle.terms.specs.View.{numbers_from, terms_from}
use Rattle.table.specs.Table.{form_at}
use Rattle.forms.specs.declared.WorkingTable.{WorkingTable}
use Rattle.forms.specs.Slots.{slot_of}
use Rattle.forms.specs.Working.{working_by, blank, is_plain, Worked}
use Rattle.forms.specs.Holding.{Holds}
use Rattle.pool.specs.Calls.{Fits}
use Rattle.pool.specs.Listing.{is_some, constant_in, constant-in, Name, no_names, names, listing-forms, TableRoom, Numbers, Listed}

-- The polynomials of the k slots from i on.
unfoldable pub table_from : List ℤ → List ℕ → List ℕ → ℕ → ℕ → List Polynomial
table_from cs ms ts i zero = []
table_from cs ms ts i (suc k) = slot_of cs ms ts i ∷ table_from cs ms ts (suc i) k

-- The block with n variables and the first m polynomials. Of its tree nothing is asked.
unfoldable pub block_from : ℕ → List ℤ → List ℕ → List ℕ → ℕ → Block
block_from n cs ms ts m = record { variables = n; table = table_from cs ms ts 0 m; tree = leaf (record { number = 0; set = 0 }) }

-- The forms of some slots.
abbrev pub forms_in : List ℤ → List ℕ → List ℕ → List ℕ → List Polynomial
forms_in cs ms ts l = map (slot_of cs ms ts) l

-- The arrays that hold a table are read as that table.
pub table-held : (cs : List ℤ) (ms ts : List ℕ) (table : List Polynomial) → Holds cs ms ts table → table_from cs ms ts 0 (length table) ≡ table
unfolding table_from
table-held cs ms ts table holds = from table 0 (λ d h. rw (zero-add d) (holds.each d h))
  where
    from : (l : List Polynomial) (i : ℕ) → ((d : ℕ) → d < length l → slot_of cs ms ts (i + d) ≡ get_or l d []) → table_from cs ms ts i (length l) ≡ l
    from [] i each = refl
    from (p ∷ l) i each =
        let e : i + 0 ≡ i = omega arith in
        ap₂ (λ (q : Polynomial) (r : List Polynomial). q ∷ r) (rw e at (each 0 (omega arith)))
        (from l (suc i) (λ d h. let f : suc i + d ≡ i + suc d = omega arith in rw f (each (suc d) (omega arith))))

terms-long : (cs : List ℤ) (ms : List ℕ) (i k : ℕ) → length (terms_from cs ms i k) ≡ k
unfolding terms_from
terms-long cs ms i zero = refl
terms-long cs ms i (suc k) = ap suc (terms-long cs ms (suc i) k)

-- Forms of slots of at most sixteen terms.
pub forms-fit : (cs : List ℤ) (ms ts : List ℕ) → ((k : ℕ) → get_or ts k 0 ≤ 16) → (l : List ℕ) → Every Fits (forms_in cs ms ts l)
forms-fit cs ms ts few [] = every_none
forms-fit cs ms ts few (k ∷ l) = every {a = slot_of cs ms ts k} (rw (terms-long cs ms (16 * k) (get_or ts k 0)) (few k)) (forms-fit cs ms ts few l)

module _ {plain : Bool} (cs : List ℤ) (ms ts : List ℕ) (m n : ℕ) (w : WorkingTable) (worked : Worked plain cs ms ts m n w) where
  apart : (j k : ℕ) → j < 64 → k < 64 → same (slot_of w.coefficient w.monomial w.terms j) (slot_of w.coefficient w.monomial w.terms k) ≡ eqb j k
  unfolding form_at
  apart j k a b = worked.forms.distinct j k a b

  outs : (k : ℕ) → is_some (constant (slot_of w.coefficient w.monomial w.terms k)) ≡ constant_in w.monomial w.terms k
  unfolding constant_in
  outs k = constant-in w.coefficient w.monomial (16 * k) (get_or w.terms k 0)

  named : (i k : ℕ) → i + k ≤ m
      → Name (slot_of w.coefficient w.monomial w.terms) (constant_in w.monomial w.terms) apart outs (table_from cs ms ts i k) (numbers_from w.number i k)
  unfolding table_from numbers_from form_at normal_form
  named i zero h = no_names
  named i (suc k) h = names (own i (omega arith)) (worked.below i (omega arith)) (named (suc i) k (omega arith))
    where
      own : (i : ℕ) → i < m → slot_of w.coefficient w.monomial w.terms (get_or w.number i 0) ≡ normal_form (slot_of cs ms ts i)
      own i h = ap (λ (a : Atom). a.polynomial) (worked.atoms i full h)

  -- The slots that are listed hold the forms that the block lists.
  pub forms-listed : (order : List ℕ) (count : ℕ) → Listed w.monomial w.terms w.number m order count
      → forms_in w.coefficient w.monomial w.terms (numbers_from order 0 count) ≡ forms_listed (block_from n cs ms ts m)
  unfolding forms_listed block_from
  forms-listed order count h =
      ap (forms_in w.coefficient w.monomial w.terms) h.is
      ∙ sym (listing-forms (slot_of w.coefficient w.monomial w.terms) (constant_in w.monomial w.terms) apart outs [] every_none
      (named 0 m (omega arith)))

-- ---- What the walks over the listed forms ask.

pub record FormRoom (cs : List ℤ) (ms ts : List ℕ) : Type 0 where
  pub coefficients : 1024 ≤ length cs
  pub monomials : 1024 ≤ length ms
  pub counts : 64 ≤ length ts
  pub few : (k : ℕ) → get_or ts k 0 ≤ 16

pub record Order (order : List ℕ) (count : ℕ) : Type 0 where
  pub there : count ≤ length order
  pub below : (i : ℕ) → i < count → get_or order i 0 < 64

-- A table in normal form, with the slots of the listed forms: what the block lists.
pub record HoldsForms (cs : List ℤ) (ms ts order : List ℕ) (count : ℕ) (forms : List Polynomial) : Type 0 where
  pub room : FormRoom cs ms ts
  pub slots : Order order count
  pub most : count ≤ 64
  pub is : forms_in cs ms ts (numbers_from order 0 count) ≡ forms

-- The arrays before the forms are worked out.
pub record Blank (cs : List ℤ) (ms ts order : List ℕ) : Type 0 where
  pub coefficients : cs ≡ replicate 1280 (pos 0)
  pub monomials : ms ≡ replicate 1280 0
  pub counts : ts ≡ replicate 81 0
  pub slots : length order ≡ 64

pub blank-is : {cs : List ℤ} {ms ts order : List ℕ} → Blank cs ms ts order → working_by cs ms ts (replicate 64 0) (replicate 64 false) ≡ blank (is_plain ts)
unfolding blank bit
blank-is b = rw (b.coefficients, b.monomials, b.counts) refl

module _ {plain : Bool} (cs : List ℤ) (ms ts : List ℕ) (m n : ℕ) (few : m ≤ 64) (w : WorkingTable) (worked : Worked plain cs ms ts m n w) where
  pub worked-room : TableRoom w.monomial w.terms
  worked-room = record { monomials = omega (arith, worked.forms.monomials); counts = omega (arith, worked.forms.counts) }

  pub worked-numbers : length w.number ≡ 64 → Numbers w.number m
  worked-numbers e = record { there = omega arith; most = few; below = worked.below }

  pub holds-forms : (order : List ℕ) (count : ℕ) → length order ≡ 64 → Listed w.monomial w.terms w.number m order count
      → HoldsForms w.coefficient w.monomial w.terms order count (forms_listed (block_from n cs ms ts m))
  holds-forms order count e h = record {
    room = record {
      coefficients = omega (arith, worked.forms.coefficients);
      monomials = omega (arith, worked.forms.monomials);
      counts = omega (arith, worked.forms.counts);
      few = worked.forms.few;
    };
    slots = record { there = omega (arith, h.few); below = h.below };
    most = omega (arith, h.few);
    is = forms-listed cs ms ts m n w worked order count h;
  }
