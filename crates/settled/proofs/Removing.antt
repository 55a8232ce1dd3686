-- Step 5 of a level, atom by atom: an atom that does not stay and that the others imply is passed over, any other joins those that remain.
-- The marks tell the same: at each index passed, whether its atom remains, whatever its place.
use mathlib.Core.Path.{◌≡◌, refl, sym, ◌∙◌, ap, ap₂}
use mathlib.Core.Bool.{Bool, true, false, not, ◌&&◌}
use mathlib.Core.List.{List, [], ◌∷◌, ◌++◌, map, map-append, append-nil}
use mathlib.Core.Option.{none}
use Prim.Native.Nat.{ℕ, zero, suc, ◌+◌, ◌-◌, ◌<◌, ◌≤◌, max}
use native.Mathlib.Nat.{sub-zero, add-zero, zero-add}
use native.Mathlib.Numerals.{add-one}
use native.Mathlib.Omega.{arith}
use lib.ListN.{length, get_or, set, take, drop, length-set, length-map, drop_of_length-le, get_or-map}
use lib.Seq.{get_or-set_same, get_or-set_other, take-suc, take_all, drop-cons, length-take-le}
use Rattle.rules.specs.Signs.{SignSet, empty, inside}
use Rattle.rules.specs.Polynomial.{Atom}
use Rattle.rules.specs.Rounds.{unless_variable, State, run, says, says_in}
use Rattle.rules.specs.Level.{Placed, plain, plains, kept_unless, implied}
use Rattle.rules.specs.Count.{run_count}
use Rattle.removal_laws.specs.Staying.{stays_by, remove_faster, kept-plain}
use Rattle.count_laws.specs.Removal.{count_faster}
use Rattle.turn_laws.specs.Some.{Some, all_there, some-without, some_next}
use Rattle.table.specs.declared.Atoms.{Atoms}
use Rattle.table.specs.Table.{Table, atom_at, atoms_from, atoms_of, many}
use Rattle.round.specs.declared.State.{State as Left}
use Rattle.round.specs.Views.{state_of, rest}
use Rattle.round.specs.Listed.{Listed}
use Rattle.round.specs.Walks.{rest-cons, rest-nil}
use Rattle.rounds.specs.declared.Ran.{Ran}
use Rattle.settled.specs.declared.removal.Remaining.{Remaining}
use Rattle.rounds.specs.Views.{outcome_of}
use Rattle.rounds.specs.Afresh.{AfreshFrom}
use Rattle.common_run.specs.declared.run.Common.{Common}
use Rattle.common_run.specs.Known.{Known}
use Rattle.settled.specs.Remaining.{CarriedFrom, kept_when, remaining, KeptUnless, RemainingOf}

-- ---- one atom

-- what the others say of it, after a run that found a contradiction, and after any other
module _ (t : Table) (others : List Atom) (a : Atom) (r : Ran) (is_run : outcome_of t r ≡ run t.variables others) where
  pub implied-by-contradiction : r.contradiction ≡ true → inside empty a.set ≡ implied t.variables others a
  unfolding implied says
  implied-by-contradiction e = rw (← is_run, e)

  pub implied-by-state : r.contradiction ≡ false → inside (says_in t.variables (state_of t r.state) a.polynomial) a.set ≡ implied t.variables others a
  unfolding implied says
  implied-by-state e = rw (← is_run, e)

module _ {out : Bool} (kept : Remaining) (list : Atoms) (i : ℕ) where
  pub removed-one : out ≡ true → KeptUnless out kept list i (record { atoms = kept.atoms; keep = set kept.keep i (not out) })
  unfolding kept_unless
  removed-one e = record { count = omega arith; atoms = λ t. rw e; keep = refl }

  pub kept-one : {more : Atoms} → out ≡ false → Listed none (get_or list.number i 0) (get_or list.set i 0) kept.atoms more
      → KeptUnless out kept list i (record { atoms = more; keep = set kept.keep i (not out) })
  unfolding kept_unless unless_variable
  kept-one {more} e listed = record { count = listed.count; atoms = λ t. rw e (sym (append-nil (atoms_of t more)) ∙ listed.atoms t []); keep = refl }

-- ---- the marks

module _ {A : Type 0} where
  marks-before : (keep : List Bool) (c : ℕ) (b : Bool) (i : ℕ) (l : List A) → i + length l ≤ c → remaining (set keep c b) i l ≡ remaining keep i l
  unfolding remaining
  marks-before keep c b i [] h = refl
  marks-before keep c b i (a ∷ l) h = rw (get_or-set_other keep c i b false (λ (e : i ≡ c). omega arith), marks-before keep c b (suc i) l (omega arith))

  one-more : (b : Bool) (a : A) (l m : List A) → kept_when b a (l ++ m) ≡ kept_when b a l ++ m
  unfolding kept_when
  one-more true a l m = refl
  one-more false a l m = refl

  marks-snoc : (keep : List Bool) (i : ℕ) (l : List A) (a : A) → remaining keep i (l ++ (a ∷ [])) ≡ remaining keep i l ++ kept_when (get_or keep (i + length l) false) a []
  unfolding remaining
  marks-snoc keep i [] a = rw (add-zero i)
  marks-snoc keep i (x ∷ l) a =
      let e : i + suc (length l) ≡ suc i + length l = omega arith in
      rw (e, marks-snoc keep (suc i) l a) (one-more (get_or keep i false) x _ _)

  -- a mark stored at i
  stored-mark : (keep : List Bool) (i : ℕ) (b : Bool) (l : List A) (a : A) → length l ≡ i → i < length keep
      → remaining (set keep i b) 0 (l ++ (a ∷ [])) ≡ remaining keep 0 l ++ kept_when b a []
  stored-mark keep i b l a long h =
      let here : 0 + length l ≡ i = omega arith in
      let snoc = marks-snoc (set keep i b) 0 l a in
      rw (snoc, here, marks-before keep i b 0 l (omega arith), get_or-set_same keep i b false h)

  kept-unless-is : (out : Bool) (a : A) (kept : List A) → kept_unless out a kept ≡ kept ++ kept_when (not out) a []
  unfolding kept_unless kept_when
  kept-unless-is true a kept = sym (append-nil kept)
  kept-unless-is false a kept = refl

map-drop : {A B : Type 0} (f : A → B) (i : ℕ) (l : List A) → map f (drop i l) ≡ drop i (map f l)
map-drop f zero l = refl
map-drop f (suc i) [] = refl
map-drop f (suc i) (a ∷ l) = map-drop f i l

-- ---- the atoms of the list, at whatever places

module _ (t : Table) (numbers : List ℕ) (sets : List SignSet) where
  atoms-many : (i k : ℕ) → length (atoms_from t numbers sets i k) ≡ k
  unfolding atoms_from
  atoms-many i zero = refl
  atoms-many i (suc k) = ap suc (atoms-many (suc i) k)

  atom-there : (i k j : ℕ) (d : Atom) → j < k → get_or (atoms_from t numbers sets i k) j d ≡ atom_at t numbers sets (i + j)
  unfolding atoms_from
  atom-there i zero j d h = absurd (omega arith)
  atom-there i (suc k) zero d h = rw (add-zero i)
  atom-there i (suc k) (suc j) d h = let e : i + suc j ≡ suc i + j = omega arith in rw e (atom-there (suc i) k j d (omega arith))

  drop-atoms : (i k j : ℕ) → drop j (atoms_from t numbers sets i k) ≡ atoms_from t numbers sets (i + j) (k - j)
  unfolding atoms_from
  drop-atoms i k zero = rw (add-zero i, sub-zero)
  drop-atoms i zero (suc j) = let e : 0 - suc j ≡ 0 = omega arith in rw e
  drop-atoms i (suc k) (suc j) =
      let e : i + suc j ≡ suc i + j = omega arith in
      let f : suc k - suc j ≡ k - j = omega arith in
      rw (e, f) (drop-atoms (suc i) k j)

filler : Placed
filler = record { polynomial = []; set = 0; place = 0 }

module _ (t : Table) (list : Atoms) (i : ℕ) (l : List Placed) (e : plains l ≡ atoms_of t list) where
  long : length l ≡ many list.count
  long = sym (length-map l plain) ∙ ap length e ∙ atoms-many t list.number list.set 0 (many list.count)

  plain-there : i < many list.count → plain (get_or l i filler) ≡ atom_at t list.number list.set i
  plain-there h =
      sym (get_or-map plain l i filler) ∙ ap (λ (m : List Atom). get_or m i (plain filler)) e
      ∙ (rw (zero-add i) at (atom-there t list.number list.set 0 (many list.count) i (plain filler) h))

  plain-rest : plains (drop i l) ≡ rest t list i
  plain-rest = map-drop plain i l ∙ ap (drop i) e ∙ (rw (zero-add i) at (drop-atoms t list.number list.set 0 (many list.count) i))

-- ---- all atoms

-- Of the first i atoms of the list those of r remain, which are those that are marked; what is left of the list goes on from them.
pub record Removing (t : Table) (st : State) (list : Atoms) (i : ℕ) (r : Remaining) : Type 0 where
  pub count : r.atoms.count ≤ i
  pub places : length r.keep ≡ 64
  pub kept : (l : List Placed) → plains l ≡ atoms_of t list → plains (remaining r.keep 0 (take i l)) ≡ atoms_of t r.atoms
  pub removes : (l : List Placed) → plains l ≡ atoms_of t list
      → remove_faster t.variables st (remaining r.keep 0 (take i l)) (drop i l) ≡ remove_faster t.variables st [] l

pub removing-first : (t : Table) (st : State) (list : Atoms) (numbers : List ℕ) (sets : List SignSet) (keep : List Bool) → length keep ≡ 64
    → Removing t st list 0 (record { atoms = record { count = 0; number = numbers; set = sets }; keep = keep })
unfolding remaining atoms_from
removing-first t st list numbers sets keep e = record { count = omega arith; places = e; kept = λ l h. refl; removes = λ l h. refl }

pub removing-next : {t : Table} {st : State} {list : Atoms} {i : ℕ} {kept r : Remaining} {out : Bool} → Removing t st list i kept → i < many list.count
    → let a = atom_at t list.number list.set i in
    out ≡ not (stays_by t.variables st a) && implied t.variables (atoms_of t kept.atoms ++ rest t list (i + 1)) a → KeptUnless out kept list i r
    → Removing t st list (i + 1) r
unfolding remove_faster
removing-next {t} {st} {list} {i} {kept} {r} {out} removing low e one = record {
  count = omega (arith, one.count, removing.count);
  places = ap length one.keep ∙ (length-set {A = Bool} kept.keep i (not out) ∙ removing.places);
  kept = λ l h. ap plains (marked l h) ∙ kept-plain out (get_or l i filler) (remaining kept.keep 0 (take i l))
      ∙ ap₂ (kept_unless out) (plain-there t list i l h low) (removing.kept l h) ∙ sym (one.atoms t);
  removes = λ l h. ap (λ (m : List Placed). remove_faster t.variables st m (drop (i + 1) l)) (marked l h)
      ∙ ap (λ (b : Bool). remove_faster t.variables st (kept_unless b (get_or l i filler) (remaining kept.keep 0 (take i l))) (drop (i + 1) l)) (tested l h)
      ∙ sym (ap (remove_faster t.variables st (remaining kept.keep 0 (take i l))) (split l h)) ∙ removing.removes l h;
}
  where
    -- the marks, with the one that was stored
    marked : (l : List Placed) → plains l ≡ atoms_of t list → remaining r.keep 0 (take (i + 1) l) ≡ kept_unless out (get_or l i filler) (remaining kept.keep 0 (take i l))
    marked l h =
        rw (one.keep, add-one i, take-suc l i filler (omega (arith, long t list i l h)))
        (stored-mark kept.keep i (not out) (take i l) (get_or l i filler) (length-take-le i l (omega (arith, long t list i l h))) (omega (arith, removing.places))
        ∙ sym (kept-unless-is out (get_or l i filler) (remaining kept.keep 0 (take i l))))

    split : (l : List Placed) → plains l ≡ atoms_of t list → drop i l ≡ get_or l i filler ∷ drop (i + 1) l
    split l h = rw (add-one i) (drop-cons l i filler (omega (arith, long t list i l h)))

    -- the test, as it is of the atoms with their places
    tested : (l : List Placed) → plains l ≡ atoms_of t list
        → out ≡ not (stays_by t.variables st (plain (get_or l i filler)))
        && implied t.variables (plains (remaining kept.keep 0 (take i l) ++ drop (i + 1) l)) (plain (get_or l i filler))
    tested l h = rw (plain-there t list i l h low, map-append plain (remaining kept.keep 0 (take i l)) (drop (i + 1) l), removing.kept l h, plain-rest t list (i + 1) l h) e

pub removing-last : {t : Table} {st : State} {list : Atoms} {i : ℕ} {r : Remaining} → Removing t st list i r → i ≡ many list.count
    → RemainingOf t list (remove_faster t.variables st []) r
unfolding remove_faster
removing-last {t} {st} {list} {i} {r} removing e = record {
  keep = λ l h. rw (take_all i l (omega (arith, long t list i l h)), drop_of_length-le l {i = i} (omega (arith, long t list i l h))) at (removing.removes l h);
}

-- ---- the rounds

-- with the largest number so far, what is left of the list counts what all of it counts with the first one
pub record Counting (t : Table) (st : State) (list : Atoms) (largest i : ℕ) (r : Remaining) (rounds : ℕ) : Type 0 where
  pub counts : max rounds (count_faster t.variables st (atoms_of t r.atoms) (rest t list i)) ≡ max largest (count_faster t.variables st [] (atoms_of t list))

pub counting-first : (t : Table) (st : State) (list : Atoms) (largest : ℕ) (numbers : List ℕ) (sets : List SignSet) (keep : List Bool)
    → Counting t st list largest 0 (record { atoms = record { count = 0; number = numbers; set = sets }; keep = keep }) largest
unfolding atoms_from
counting-first t st list largest numbers sets keep = record { counts = rw sub-zero }

pub counting-next : {t : Table} {st : State} {list : Atoms} {largest i rounds more : ℕ} {kept r : Remaining} {out : Bool} → Counting t st list largest i kept rounds
    → i < many list.count
    → let a = atom_at t list.number list.set i in
    out ≡ not (stays_by t.variables st a) && implied t.variables (atoms_of t kept.atoms ++ rest t list (i + 1)) a
    → more ≡ max rounds (run_count t.variables (atoms_of t kept.atoms ++ rest t list (i + 1))) → KeptUnless out kept list i r
    → Counting t st list largest (i + 1) r more
unfolding count_faster
counting-next {t} {st} {list} {i} counting low e counted one =
    record { counts = rw (one.atoms t, e) (omega (arith, counted, rw (rest-cons t list i low) at counting.counts)) }

pub counting-last : {t : Table} {st : State} {list : Atoms} {largest i rounds : ℕ} {r : Remaining} → Counting t st list largest i r rounds → i ≡ many list.count
    → rounds ≡ max largest (count_faster t.variables st [] (atoms_of t list))
unfolding count_faster
counting-last {t} {list} {i} counting e = omega (arith, rw (rest-nil t list i (omega arith)) at counting.counts)

-- ---- the others

-- of the list those that remain so far and those to come are some of its atoms; without the one at hand too, so that rounds over them are run afresh
pub afresh-others : {t : Table} {state : Left} (list : Atoms) (kept : List Atom) {i : ℕ} {others : List Atom} → CarriedFrom t state (atoms_of t list)
    → i < many list.count → Some (atoms_of t list) (kept ++ rest t list i) → others ≡ kept ++ rest t list (i + 1) → AfreshFrom t state others
afresh-others {t} list kept {i} from low some e = record {
  given = from.given;
  settles = from.settles;
  variables = from.variables;
  some = rw (from.atoms, ← e) at (some-without kept (atom_at t list.number list.set i) (rest t list (i + 1)) (rw (rest-cons t list i low) at some));
}

-- with it too
pub afresh-remaining : {t : Table} {state : Left} (list : Atoms) {remaining : List Atom} → CarriedFrom t state (atoms_of t list) → Some (atoms_of t list) remaining
    → AfreshFrom t state remaining
afresh-remaining list from some = record { given = from.given; settles = from.settles; variables = from.variables; some = rw from.atoms at some }

-- what is known of the common run, of the atoms that remain after one more
pub known_next : (t : Table) {state : Left} (list : Atoms) {i : ℕ} (kept : Remaining) {r : Remaining} {out : Bool} {c : Common} → KeptUnless out kept list i r
    → Known t state (kept_unless out (atom_at t list.number list.set i) (atoms_of t kept.atoms) ++ rest t list (i + 1)) c
    → Known t state (atoms_of t r.atoms ++ rest t list (i + 1)) c
known_next t list kept one known = rw (one.atoms t) known

pub some_first : (t : Table) (list : Atoms) (numbers : List ℕ) (sets : List SignSet)
    → Some (atoms_of t list) (atoms_of t (record { count = 0; number = numbers; set = sets }) ++ rest t list 0)
unfolding atoms_from
some_first t list numbers sets = rw sub-zero (all_there (atoms_of t list))

pub some_more : (t : Table) {list : Atoms} {i : ℕ} {kept r : Remaining} {out : Bool} → i < many list.count
    → Some (atoms_of t list) (atoms_of t kept.atoms ++ rest t list i) → KeptUnless out kept list i r
    → Some (atoms_of t list) (atoms_of t r.atoms ++ rest t list (i + 1))
some_more t {list} {i} {kept} {out} low some one =
    rw (one.atoms t) (some_next out (atoms_of t kept.atoms) (atom_at t list.number list.set i) (rest t list (i + 1))
    (rw (rest-cons t list i low) at some))
