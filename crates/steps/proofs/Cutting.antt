-- Steps 3 and 5: the cut sets go back into the tokens, and the marked tokens remain.
use mathlib.Core.Path.{◌≡◌, refl, sym, ◌∙◌, ap, ap₂}
use mathlib.Core.Bool.{Bool, true, false}
use mathlib.Core.List.{List, [], ◌∷◌, ◌++◌, map, append_assoc, append-nil}
use Prim.Native.Nat.{ℕ, suc, ◌+◌, ◌*◌, ◌/◌, ◌%◌, ◌≤◌, max}
use native.Mathlib.Numerals.{add-one}
use native.Mathlib.Omega.{arith}
use lib.ListN.{length, get_or}
use Rattle.rules.specs.Polynomial.{Atom}
use Rattle.rules.specs.Rounds.{run, settled, carried}
use Rattle.rules.specs.Level.{Placed, plains, carry, remove_implied}
use Rattle.rules.specs.Count.{run_count, removal_count}
use Rattle.sign_laws.specs.Lists.{every_none, every}
use Rattle.length_laws.specs.RoundsKeep.{AllSmall, carried-small}
use Rattle.terms.specs.View.{sets_of}
use Rattle.table.specs.declared.Atoms.{Atoms}
use Rattle.table.specs.Table.{Table, many, atoms_from, atoms_of}
use Rattle.tape.specs.declared.rows.Row.{Row}
use Rattle.rounds.specs.declared.Largest.{Largest}
use Rattle.tape.specs.Row.{Lists}
use Rattle.tape.specs.Token.{slot, place, atom_of, atoms_in}
use Rattle.tape.specs.Entering.{same_place}
use Rattle.round.specs.Views.{state_of}
use Rattle.settled.specs.declared.removal.Remaining.{Remaining}
use Rattle.rounds.specs.Views.{ending}
use Rattle.rounds.specs.Run.{LargestRun}
use Rattle.settled.specs.Carried.{Carried}
use Rattle.settled.specs.Remaining.{kept_when, remaining, RemainingOf}
use Rattle.steps.specs.Carried.{with_sets, Carries, Remains}
use Rattle.steps.proofs.SmallSets.{tokens-small}

-- ---- tokens with other sets

-- the tokens passed and the rest, each with its set, are all with their sets
pub record Setting (sets all : List ℕ) (row : Row) (i : ℕ) (rest : List ℕ) : Type 0 where
  pub list : List ℕ
  pub lists : Lists row list
  pub is : list ++ with_sets sets i rest ≡ with_sets sets 0 all

pub set-start : (sets all : List ℕ) (row : Row) → Lists row [] → Setting sets all row 0 all
set-start sets all row h = record { list = []; lists = h; is = refl }

pub set-turn : {sets all : List ℕ} {row longer : Row} {i x v : ℕ} {rest : List ℕ} (s : Setting sets all row i (x ∷ rest)) → v ≡ x / 8 * 8 + get_or sets i 0 % 8
    → ((l : List ℕ) → Lists row l → Lists longer (l ++ (v ∷ []))) → Setting sets all longer (i + 1) rest
unfolding with_sets
set-turn {sets} {i} {v} {rest} s e h = record {
  list = s.list ++ (v ∷ []);
  lists = h s.list s.lists;
  is = rw (add-one i) (append_assoc s.list (v ∷ []) (with_sets sets (suc i) rest) ∙ ap (λ (w : ℕ). s.list ++ (w ∷ with_sets sets (suc i) rest)) e ∙ s.is);
}

pub set-end : {sets all : List ℕ} {row : Row} {i : ℕ} → Setting sets all row i [] → Lists row (with_sets sets 0 all)
unfolding with_sets
set-end s = rw (sym s.is, append-nil s.list) s.lists

pub length-with_sets : (sets : List ℕ) (i : ℕ) (l : List ℕ) → length (with_sets sets i l) ≡ length l
unfolding with_sets
length-with_sets sets i [] = refl
length-with_sets sets i (x ∷ l) = ap suc (length-with_sets sets (suc i) l)

-- tokens with small sets are the atoms that carry these sets, at their places
carry-are : (t : Table) (l numbers sets : List ℕ) (i : ℕ) → AllSmall (atoms_from t numbers sets i (length l))
    → carry (atoms_in t l) (atoms_from t numbers sets i (length l)) ≡ atoms_in t (with_sets sets i l)
unfolding with_sets atoms_from atom_of carry
carry-are t [] numbers sets i every_none = refl
carry-are t (x ∷ l) numbers sets i (every h hs) =
    let v = x / 8 * 8 + get_or sets i 0 % 8 in
    let same-slot : slot v ≡ slot x = omega arith in
    let new-set : v % 8 ≡ get_or sets i 0 = omega (arith, h.bits) in
    let same-origin : place v ≡ place x = same_place x (get_or sets i 0 % 8) (omega arith) in
    ap₂ (λ (a : Placed) (m : List Placed). a ∷ m) (rw (same-slot, new-set, same-origin)) (carry-are t l numbers sets (suc i) hs)

-- ---- step 3

module _ {t : Table} (l : List ℕ) {list : Atoms} (n : list.count ≡ length l) (few : length l ≤ 64) (same : atoms_of t list ≡ plains (atoms_in t l)) (largest : ℕ) {ran : Largest}
    (o : LargestRun t list largest ran) where
  ran-is : run t.variables (plains (atoms_in t l)) ≡ ending ran.contradiction (state_of t ran.state)
  ran-is = ap (run t.variables) (sym same) ∙ sym o.outcome

  counts-are : ran.largest ≡ max largest (run_count t.variables (plains (atoms_in t l)))
  counts-are = rw same at o.counts

  settled_is : ran.contradiction ≡ false → run t.variables (atoms_of t list) ≡ settled (state_of t ran.state)
  settled_is e = sym o.outcome ∙ rw e

  pub contradicts : ran.contradiction ≡ true → (row : Row) → Lists row l → Carries t l largest row (record { contradiction = true; state = ran.state; rounds = ran.largest })
  contradicts e row h = record {
    is = rw e at ran-is;
    counts = counts-are;
    variables = o.variables;
    list = l;
    lists = h;
    same = refl;
    carries = λ z. let y : ◌≡◌ {A = ℕ} 0 1 = cc in absurd (omega arith);
  }

  pub carries-on : ran.contradiction ≡ false → {cut : Atoms} → Carried t list (carried t.variables (sets_of ran.state.board) (atoms_of t list) (atoms_of t ran.state.atoms)) cut
      → (row : Row) → Lists row (with_sets cut.set 0 l) → Carries t l largest row (record { contradiction = false; state = ran.state; rounds = ran.largest })
  carries-on e {cut} c row h =
      let many-cut : many cut.count ≡ length l = omega (arith, c.count) in
      let small : AllSmall (atoms_of t cut) = rw c.atoms (carried-small t.variables (settled_is e) (rw same (tokens-small t l))) in
      record {
        is = rw e at ran-is;
        counts = counts-are;
        variables = o.variables;
        list = with_sets cut.set 0 l;
        lists = h;
        same = length-with_sets cut.set 0 l;
        carries = λ z.
            ap (λ (m : List Atom). carry (atoms_in t l) (carried t.variables (sets_of ran.state.board) m (atoms_of t ran.state.atoms))) (sym same)
            ∙ ap (carry (atoms_in t l)) (sym c.atoms) ∙ rw many-cut (carry-are t l cut.number cut.set 0 (rw many-cut at small));
      }

-- ---- step 5

pub record Leaving (keep : List Bool) (all : List ℕ) (row : Row) (i : ℕ) (rest : List ℕ) : Type 0 where
  pub list : List ℕ
  pub lists : Lists row list
  pub is : list ++ remaining keep i rest ≡ remaining keep 0 all

pub leave-start : (keep : List Bool) (all : List ℕ) (row : Row) → Lists row [] → Leaving keep all row 0 all
leave-start keep all row h = record { list = []; lists = h; is = refl }

pub leave-end : {keep : List Bool} {all : List ℕ} {row : Row} {i : ℕ} → Leaving keep all row i [] → Lists row (remaining keep 0 all)
unfolding remaining
leave-end s = rw (sym s.is, append-nil s.list) s.lists

module _ {keep : List Bool} {all : List ℕ} {row : Row} {i x : ℕ} {rest : List ℕ} (s : Leaving keep all row i (x ∷ rest)) where
  pub leave-kept : get_or keep i false ≡ true → (longer : Row) → ((l : List ℕ) → Lists row l → Lists longer (l ++ (x ∷ []))) → Leaving keep all longer (i + 1) rest
  unfolding remaining kept_when
  leave-kept e longer h = record {
    list = s.list ++ (x ∷ []);
    lists = h s.list s.lists;
    is = rw (add-one i) (append_assoc s.list (x ∷ []) (remaining keep (suc i) rest) ∙ (rw e at s.is));
  }

  pub leave-removed : get_or keep i false ≡ false → Leaving keep all row (i + 1) rest
  unfolding remaining kept_when
  leave-removed e = record { list = s.list; lists = s.lists; is = rw (add-one i) (rw e at s.is) }

map-kept : {A B : Type 0} (f : A → B) (b : Bool) (a : A) (l : List A) (m : List B) → map f l ≡ m → map f (kept_when b a l) ≡ kept_when b (f a) m
unfolding kept_when
map-kept f true a l m e = ap (λ (z : List _). f a ∷ z) e
map-kept f false a l m e = e

map-remaining : {A B : Type 0} (f : A → B) (keep : List Bool) (i : ℕ) (l : List A) → map f (remaining keep i l) ≡ remaining keep i (map f l)
unfolding remaining
map-remaining f keep i [] = refl
map-remaining f keep i (a ∷ l) = map-kept f (get_or keep i false) a (remaining keep (suc i) l) (remaining keep (suc i) (map f l)) (map-remaining f keep (suc i) l)

length-kept : (b : Bool) (x : ℕ) (l : List ℕ) → length (kept_when b x l) ≤ suc (length l)
unfolding kept_when
length-kept true x l = omega arith
length-kept false x l = omega arith

length-remaining : (keep : List Bool) (i : ℕ) (l : List ℕ) → length (remaining keep i l) ≤ length l
unfolding remaining
length-remaining keep i [] = omega arith
length-remaining keep i (x ∷ l) = omega (arith, length-kept (get_or keep i false) x (remaining keep (suc i) l), length-remaining keep (suc i) l)

pub remains : {t : Table} {l : List ℕ} (list : Atoms) → atoms_of t list ≡ plains (atoms_in t l) → {kept : Remaining} → RemainingOf t list (remove_implied t.variables []) kept
    → {k largest : ℕ} → ((carrying : List Placed) → plains carrying ≡ atoms_of t list → k ≡ max largest (removal_count t.variables [] carrying))
    → (row : Row) → Lists row (remaining kept.keep 0 l) → Remains t l largest row k
remains {t} {l} list same {kept} r counted row h = record {
  counts = counted (atoms_in t l) (sym same);
  list = remaining kept.keep 0 l;
  lists = h;
  small = length-remaining kept.keep 0 l;
  is = sym (map-remaining (atom_of t) kept.keep 0 l ∙ r.keep (atoms_in t l) (sym same));
}
