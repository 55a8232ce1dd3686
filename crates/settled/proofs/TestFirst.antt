-- Whether an atom stays, by what its slot holds, and if that is a form by what the others say of it.
-- Step 5 with the test first is step 5.
use mathlib.Core.Path.{◌≡◌, sym, ◌∙◌}
use mathlib.Core.Bool.{Bool, false, not}
use mathlib.Core.List.{List, []}
use Prim.Native.Nat.{ℕ, max}
use native.Mathlib.Omega.{arith}
use Rattle.rules.specs.Signs.{inside}
use Rattle.rules.specs.Polynomial.{Atom, which}
use Rattle.rules.specs.Level.{Placed, plains, remove_implied}
use Rattle.rules.specs.Count.{removal_count}
use Rattle.removal_laws.specs.Said.{said_by_others}
use Rattle.removal_laws.specs.Staying.{no_variable, stays_by, remove_faster, removes-the-same}
use Rattle.count_laws.specs.Removal.{count_faster, counts-the-same}
use Rattle.table.specs.declared.Atoms.{Atoms}
use Rattle.table.specs.Table.{Table, atoms_of}
use Rattle.round.specs.declared.State.{State}
use Rattle.round.specs.declared.slots.Holds.{Holds}
use Rattle.round.specs.declared.slots.Holds.TheVariants.{Variable, Form}
use Rattle.round.specs.Views.{variable_of, state_of}
use Rattle.settled.specs.declared.removal.Remaining.{Remaining}
use Rattle.settled.specs.Remaining.{CarriedFrom, RemainingOf}

-- ---- whether an atom stays

module _ (t : Table) (st : State) (a : Atom) {holds : Holds} (is : variable_of holds ≡ which t.variables a.polynomial) where
  pub variable-goes : {i : ℕ} → holds ≡ Variable i → false ≡ stays_by t.variables (state_of t st) a
  unfolding stays_by no_variable
  variable-goes e = rw (sym is, e)

  pub form-stays : {lies : Bool} → holds ≡ Form → lies ≡ inside (said_by_others (state_of t st) a.polynomial) a.set
      → not lies ≡ stays_by t.variables (state_of t st) a
  unfolding stays_by no_variable
  form-stays e el = rw (sym is, e, el)

-- ---- step 5

-- with the test first it is step 5
pub test-first : {t : Table} {state : State} {list : Atoms} {r : Remaining} → CarriedFrom t state (atoms_of t list)
    → RemainingOf t list (remove_faster t.variables (state_of t state) []) r → RemainingOf t list (remove_implied t.variables []) r
test-first {t} from h = record { keep = λ l e. h.keep l e ∙ removes-the-same t.variables from.given from.settles from.distinct l (e ∙ from.atoms) }

-- and counts the same
pub count-first : {t : Table} {state : State} (list : Atoms) {k : ℕ} (largest : ℕ) → CarriedFrom t state (atoms_of t list)
    → k ≡ max largest (count_faster t.variables (state_of t state) [] (atoms_of t list))
    → (carrying : List Placed) → plains carrying ≡ atoms_of t list → k ≡ max largest (removal_count t.variables [] carrying)
count-first {t} {state} list largest from e carrying h =
    let same : count_faster t.variables (state_of t state) [] (atoms_of t list) ≡ removal_count t.variables [] carrying =
    rw (sym h) (counts-the-same t.variables from.given from.settles from.distinct carrying (h ∙ from.atoms)) in
    omega (arith, e, same)
