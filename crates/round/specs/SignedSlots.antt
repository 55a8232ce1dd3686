-- Laws about the signs of slots after they are worked out for a board: those of the slots are there, and those that were there stay.
-- So the signs that `sign_list` leaves are what a round asks, and a run of places is the slot's polynomial with its signs.
use Rattle.std.specs.Prelude.{◌≡◌, List, length, get_or}
use Rattle.std.proofs.Math.Path.{refl}
use Rattle.std.proofs.Common.{◌∙◌, eq-or-lt_of_le, arith}
use Rattle.std.proofs.Math.Logic.{⊎_elim}
use Prim.Native.Nat.{ℕ, zero, suc, ◌+◌, ◌-◌, ◌*◌, ◌<◌, ◌≤◌}
use Rattle.std.proofs.Math.Decide.{dec_lt}
use Rattle.std.proofs.Math.Seq.{length-sets}
use Rattle.rules.specs.Signs.{SignSet}
use Rattle.rules.specs.Polynomial.{Board, monomial_sign}
use Rattle.terms.specs.View.{sets_of, terms_of}
use Rattle.terms.specs.Signed.{Signed, Held, signed, signs_from, signed-there, signed-before, signed-past}
use Rattle.terms.specs.declared.Board.{Board as Sets}
use Rattle.table.specs.declared.Atoms.{Atoms}
use Rattle.table.specs.Table.{Table, Forms, form_at, many}
use Rattle.round.specs.Signing.{variable_slot, atom_slot, signed_slot, signed_slots, signed_list, signed_table, Slots, SignedSlot, SignedTable, Ready}

-- as many other signs serve as well
pub same-slots : {ms ts ss us : List ℕ} → Slots ms ts ss → length us ≡ length ss → Slots ms ts us
same-slots slots e = record { monomials = slots.monomials; counts = slots.counts; few = slots.few; signs = e ∙ slots.signs }

-- a table of forms has the slots
pub form-slots : {t : Table} {ss : List SignSet} → Forms t → length ss ≡ 1280 → Slots t.monomial t.terms ss
form-slots forms places = record { monomials = forms.monomials; counts = forms.counts; few = forms.few; signs = places }

-- ---- the signs after they are worked out

module _ {board : Board} {ms : List ℕ} {ss : List SignSet} {from to : ℕ} (a b : ℕ) (ordered : a ≤ b) (inside : b ≤ length ss)
    (there : Signed board ms ss from to) where
  kept_at : (i : ℕ) → from ≤ i → i < to → Dec (i < a) → Dec (i < b) → get_or (signed board ms ss a b) i 0 ≡ monomial_sign board (get_or ms i 0)
  kept_at i f t (yes before) q = signed-before board ms ss a b i before ∙ there.at i f t
  kept_at i f t (no p) (yes within) = (signed-there board ms ss a b inside).at i (omega arith) within
  kept_at i f t (no p) (no q) = signed-past board ms ss a b i ordered (omega arith) ∙ there.at i f t

  -- signs of a board that are there stay there when more are worked out for it
  signed-keeps : Signed board ms (signed board ms ss a b) from to
  signed-keeps = record { at = λ i f t. kept_at i f t (dec_lt i a) (dec_lt i b) }

module _ (board : Board) (ms ts : List ℕ) where
  pub length-slot : (ss : List SignSet) (k : ℕ) → length (signed_slot board ms ts ss k) ≡ length ss
  length-slot ss k = length-sets ss (16 * k) (signs_from board ms (16 * k) (16 * k + get_or ts k 0 - 16 * k))

  -- working out the signs of slots keeps the number of places
  pub length-slots : (slot : ℕ → ℕ) (ss : List SignSet) (i k : ℕ) → length (signed_slots board ms ts slot ss i k) ≡ length ss
  unfolding signed_slots
  length-slots slot ss i zero = refl
  length-slots slot ss i (suc k) = length-slots slot (signed_slot board ms ts ss (slot i)) (suc i) k ∙ length-slot ss (slot i)

  slot-slots : {ss : List SignSet} → Slots ms ts ss → (k : ℕ) → Slots ms ts (signed_slot board ms ts ss k)
  slot-slots {ss} slots k = same-slots slots (length-slot ss k)

  module _ {ss : List SignSet} (slots : Slots ms ts ss) (k : ℕ) (low : k < 80) where
    within : 16 * k + get_or ts k 0 ≤ length ss
    within = omega (arith, slots.few k, slots.signs)

    -- working out one slot keeps the signs of the board that are there
    pub slot-keeps : {from to : ℕ} → Signed board ms ss from to → Signed board ms (signed_slot board ms ts ss k) from to
    slot-keeps s = signed-keeps (16 * k) (16 * k + get_or ts k 0) (omega arith) within s

    -- and its own are there
    pub slot-there : Signed board ms (signed_slot board ms ts ss k) (16 * k) (16 * k + get_or ts k 0)
    slot-there = signed-there board ms ss (16 * k) (16 * k + get_or ts k 0) within

  module _ (slot : ℕ → ℕ) where
    -- working out several keeps the signs of the board that are there
    slots-keep : {ss : List SignSet} {from to : ℕ} (i k : ℕ) → Slots ms ts ss → ((j : ℕ) → j < i + k → slot j < 80)
        → Signed board ms ss from to → Signed board ms (signed_slots board ms ts slot ss i k) from to
    unfolding signed_slots
    slots-keep i zero slots low s = s
    slots-keep {ss} {from} {to} i (suc k) slots low s =
        slots-keep {ss = signed_slot board ms ts ss (slot i)} {from = from} {to = to} (suc i) k (slot-slots slots (slot i)) (λ j h. low j (omega arith)) (slot-keeps slots (slot i) (low i (omega arith)) s)

    -- and their own are there
    slots-there : {ss : List SignSet} (i k : ℕ) → Slots ms ts ss → ((j : ℕ) → j < i + k → slot j < 80) → (j : ℕ) → i ≤ j → j < i + k
        → Signed board ms (signed_slots board ms ts slot ss i k) (16 * slot j) (16 * slot j + get_or ts (slot j) 0)
    unfolding signed_slots
    slots-there i zero slots low j l m = absurd (omega arith)
    slots-there {ss} i (suc k) slots low j l m = ⊎_elim
        (λ (e : i ≡ j).
        rw (← e) (slots-keep (suc i) k (slot-slots slots (slot i)) (λ p h. low p (omega arith)) (slot-there slots (slot i) (low i (omega arith)))))
        (λ (n : i < j). slots-there {ss = signed_slot board ms ts ss (slot i)} (suc i) k (slot-slots slots (slot i)) (λ p h. low p (omega arith)) j n (omega arith))
        (eq-or-lt_of_le l)

-- The signs of the variables and of the atoms, worked out for a board of the table's variables, are what a round asks.
pub list-ready : {t : Table} (b : Sets) (a : Atoms) (ss : List SignSet) → Forms t → b.variables ≡ t.variables → length ss ≡ 1280
    → Ready t (sets_of b) a (signed_list b t.monomial t.terms a ss)
list-ready {t} b a ss forms same places =
    let board = sets_of b in
    let ms = t.monomial in
    let ts = t.terms in
    let few : b.variables ≤ 16 = omega (arith, forms.variables) in
    let before : Slots ms ts ss = form-slots forms places in
    let between : Slots ms ts (signed_slots board ms ts variable_slot ss 0 b.variables) =
    same-slots before (length-slots board ms ts variable_slot ss 0 b.variables) in
    let atoms-low : (j : ℕ) → j < 0 + many a.count → atom_slot a.number j < 80 = λ j h. omega arith in
    let variables-low : (j : ℕ) → j < 0 + b.variables → variable_slot j < 80 = λ j h. omega arith in
    record {
      forms = forms;
      places = length-slots board ms ts (atom_slot a.number) _ 0 (many a.count) ∙ between.signs;
      variables = λ i h.
          slots-keep board ms ts (atom_slot a.number) 0 (many a.count) between atoms-low
          (slots-there board ms ts variable_slot 0 b.variables before variables-low i (omega arith) (omega arith));
      atoms = λ i h. slots-there board ms ts (atom_slot a.number) 0 (many a.count) between atoms-low i (omega arith) (omega arith);
    }

-- The signs of another list's atoms, worked out for the board too, keep them so.
pub list-keeps : {t : Table} (b : Sets) {a : Atoms} {ss : List SignSet} (more : Atoms) → b.variables ≡ t.variables → Ready t (sets_of b) a ss
    → Ready t (sets_of b) a (signed_list b t.monomial t.terms more ss)
list-keeps {t} b {a} {ss} more same ready =
    let board = sets_of b in
    let ms = t.monomial in
    let ts = t.terms in
    let after = list-ready b more ss ready.forms same ready.places in
    let before : Slots ms ts ss = form-slots ready.forms ready.places in
    let between : Slots ms ts (signed_slots board ms ts variable_slot ss 0 b.variables) =
    same-slots before (length-slots board ms ts variable_slot ss 0 b.variables) in
    let few : b.variables ≤ 16 = omega (arith, ready.forms.variables) in
    record {
      forms = ready.forms;
      places = after.places;
      variables = after.variables;
      atoms = λ i h.
          slots-keep board ms ts (atom_slot more.number) 0 (many more.count) between (λ j l. omega arith)
          (slots-keep board ms ts variable_slot 0 b.variables before (λ j l. omega arith) (ready.atoms i h));
    }

-- One slot more, worked out for the board, keeps them so.
pub slot-ready : {t : Table} {board : Board} {a : Atoms} {ss : List SignSet} (k : ℕ) → k < 80 → Ready t board a ss
    → Ready t board a (signed_slot board t.monomial t.terms ss k)
slot-ready {t} {board} {a} {ss} k h ready =
    let slots = form-slots ready.forms ready.places in
    record {
      forms = ready.forms;
      places = length-slot board t.monomial t.terms ss k ∙ ready.places;
      variables = λ i low. slot-keeps board t.monomial t.terms slots k h (ready.variables i low);
      atoms = λ i low. slot-keeps board t.monomial t.terms slots k h (ready.atoms i low);
    }

-- ---- a run that is the places of a slot

-- it is the slot's polynomial
pub run-form : (t : Table) (k : ℕ) {from to : ℕ} → from ≡ 16 * k → to ≡ 16 * k + get_or t.terms k 0
    → terms_of t.coefficient t.monomial from to ≡ form_at t k
unfolding form_at
run-form t k {from} {to} f g = let count : to - from ≡ get_or t.terms k 0 = omega arith in rw (count, f)

-- with the board's signs, if they are there
pub run-held : {t : Table} {board : Board} {ss : List SignSet} {from to : ℕ} (k : ℕ) → Forms t → length ss ≡ 1280 → k < 80
    → from ≡ 16 * k → to ≡ 16 * k + get_or t.terms k 0 → SignedSlot t board ss k → Held board t.coefficient t.monomial ss from to
run-held {t} {board} {ss} {from} {to} k forms places low f g s =
    let within : to ≤ 1280 = omega (arith, forms.few k) in
    record {
      ordered = omega arith;
      coefficients = omega (arith, forms.coefficients);
      monomials = omega (arith, forms.monomials);
      signs = omega arith;
      signed = rw (f, g) s;
    }

-- ---- signs that are worked out in every slot

-- are there
pub table-signed : {t : Table} (board : Board) (ss : List SignSet) → Forms t → length ss ≡ 1280
    → SignedTable t board (signed_table board t.monomial t.terms ss)
table-signed {t} board ss forms places =
    λ k h. slots-there board t.monomial t.terms (λ j. j) 0 80 (form-slots forms places) (λ j l. omega arith) k (omega arith) (omega arith)

-- and are what a round asks
pub table-ready : {t : Table} {board : Board} {ss : List SignSet} (a : Atoms) → Forms t → length ss ≡ 1280 → SignedTable t board ss → Ready t board a ss
table-ready a forms places s = record {
  forms = forms;
  places = places;
  variables = λ i h. s (variable_slot i) (omega (arith, forms.variables));
  atoms = λ i h. s (atom_slot a.number i) (omega arith);
}
