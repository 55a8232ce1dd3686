-- All records, one after the other; the place of an atom that another is merged into fits a byte.
use mathlib.Core.Path.{◌≡◌, refl, sym, ap, ap₂, ◌∙◌, subst}
use mathlib.Core.Bool.{Bool, true, false}
use mathlib.Core.List.{List, [], ◌∷◌, ◌++◌, map, map-append}
use Prim.Native.Nat.{ℕ, zero, suc, ◌+◌, ◌<◌, ◌≤◌}
use native.Mathlib.Numerals.{add-one}
use native.Mathlib.Omega.{arith}
use lib.Dec.{eqb}
use lib.ListN.{length, get_or, set, take, length-map, length-set, get_or-map}
use lib.Seq.{take-suc, take-suc-set, take_all}
use Rattle.rules.specs.Signs.{SignSet}
use Rattle.rules.specs.Polynomial.{Atom}
use Rattle.rules.specs.Deduce.{any_empty}
use Rattle.rules.specs.Rounds.{sets_of, Outcome, contradiction, settled, run}
use Rattle.rules.specs.Level.{Placed, plains, placed_at, normal_placed}
use Rattle.sign_laws.specs.Lists.{Every, every_none, every}
use Rattle.table.specs.Table.{Table}
use Rattle.tape.specs.declared.rows.Row.{Row}
use Rattle.tape.specs.Row.{Lists}
use Rattle.tape.specs.Listing.{held_at}
use Rattle.tape.specs.Token.{atom_of, atoms_in}
use Rattle.fates.specs.declared.Fates.{Fates}
use Rattle.fates.specs.Fated.{FatesOf, all_false, each_told}
use Rattle.rules.specs.Reasons.{Reason as Why, all_false_by, stays, goes, Fate, Told, clauses_from, joined, merged_list, places_of, told_from}
use Rattle.rules.specs.Reasons.{kept_or_narrowed, reason_of, or_reason}
use Rattle.rules.specs.Reasons.{reason_at, place_of, unless_merged, reason_for, each_reason, each_false, reasons_after, reasons}
use Rattle.reason_laws.specs.Firsts.{NoLater, no-later}
use Rattle.reason_laws.specs.Names.{Rising, given-rises}
use Rattle.reason_laws.specs.Sooner.{reasons_of, reasons-of}
use Rattle.reasons.specs.declared.Reason.{Reason}
use Rattle.reasons.specs.declared.Found.{Found}
use Rattle.reasons.specs.Records.{made, Clauses, Tells}
use Rattle.reasons.specs.Told.{clauses-long}
use Rattle.reasons.specs.Telling.{told, LowPlace, Explains}

-- ---- Places that are told.

record Low (r : Why) : Type 0 where
  low : LowPlace r

record Below (m : ℕ) (c : Placed) : Type 0 where
  below : c.place < m

below_all : (m i : ℕ) (l : List Atom) → i + length l ≤ m → Every (Below m) (clauses_from i l)
unfolding clauses_from normal_placed
below_all m i [] h = every_none
below_all m i (a ∷ l) h = every {a = normal_placed (placed_at i a)} (record { below = omega arith }) (below_all m (suc i) l (omega arith))

-- What step 5 tells has no such place.
low-kept : (b : Bool) (s : SignSet) → LowPlace (kept_or_narrowed b s)
unfolding kept_or_narrowed
low-kept true s = tt
low-kept false s = tt

low-at : (i : ℕ) (own : SignSet) (l : List Told) → LowPlace (reason_at i own l)
unfolding reason_at or_reason reason_of
low-at i own [] = tt
low-at i own (t ∷ l) = by-test (eqb i t.clause.place) t.fate (low-at i own l)
  where
    by-test : (b : Bool) (f : Fate) → LowPlace (reason_at i own l) → LowPlace (or_reason b (reason_of f t.clause.set own) (reason_at i own l))
    by-test true stays rest = low-kept (eqb t.clause.set own) t.clause.set
    by-test true (goes named) rest = tt
    by-test false f rest = rest

low-each : (all : List Placed) (l : List Told) {given : List Placed} → Every (NoLater all) given → Every (Below 256) given
    → Every Low (each_reason all l given)
unfolding each_reason reason_for unless_merged
low-each all l every_none every_none = every_none
low-each all l (every {a = c} h hs) (every k ks) = every (record { low = by-test (eqb (place_of c.polynomial all c.place) c.place) })
    (low-each all l hs ks)
  where
    by-test : (b : Bool) → LowPlace (unless_merged b (place_of c.polynomial all c.place) (reason_at c.place c.set l))
    by-test true = low-at c.place c.set l
    by-test false = omega (arith, h.soon, k.below)

low-false : (named : List ℕ) (given : List Placed) → Every Low (each_false named given)
unfolding each_false
low-false named [] = every_none
low-false named (c ∷ l) = every (record { low = tt }) (low-false named l)

low-reasons : (n : ℕ) (l : List Atom) → length l ≤ 255 → Every Low (reasons n l)
unfolding reasons reasons_after
low-reasons n l few = by-test (any_empty (sets_of (plains (merged_list l)))) refl (run n (plains (merged_list l)))
  where
    by-test : (b : Bool) → any_empty (sets_of (plains (merged_list l))) ≡ b → (o : Outcome)
        → Every Low (reasons_after b o n (joined l) (merged_list l) (clauses_from 0 l))
    by-test true e o = low-false _ _
    by-test false e contradiction = low-false _ _
    by-test false e (settled st) = low-each _ _ (no-later l e) (below_all 256 0 l (omega arith))

-- ---- What is told of each atom.

all-false-told : (named : List ℕ) (given : List Placed) → each_false named given ≡ map (λ (c : Placed). all_false_by named) given
unfolding each_false
all-false-told named [] = refl
all-false-told named (c ∷ l) = ap (λ (m : List Why). all_false_by named ∷ m) (all-false-told named l)

each-told-so : (all : List Placed) (l : List Told) (given : List Placed) → each_reason all l given ≡ map (reason_for all l) given
unfolding each_reason
each-told-so all l [] = refl
each-told-so all l (c ∷ given) = ap (λ (m : List Why). reason_for all l c ∷ m) (each-told-so all l given)

all_told : {t : Table} {l : List ℕ} {fates : Fates} (f : FatesOf t l fates) → reasons_of t.variables (atoms_in t l) ≡ map (told f) (atoms_in t l)
unfolding told
all_told {t} {l} (all_false f) = f.is ∙ all-false-told (places_of (atoms_in t f.named)) (atoms_in t l)
all_told {t} {l} (each_told f) = f.is ∙ each-told-so (atoms_in t f.merged) (told_from t.variables [] (atoms_in t f.carrying)) (atoms_in t l)

every-there : {A : Type 0} {P : A → Type 0} {l : List A} → Every P l → (i : ℕ) (d : A) → i < length l → P (get_or l i d)
every-there every_none i d h = absurd (omega arith)
every-there (every k ks) zero d h = k
every-there (every k ks) (suc i) d h = every-there ks i d (omega arith)

-- ---- One after the other.

module _ (t : Table) (given : Row) (fates : Fates) where
  pub record Telling (found : Found) (i : ℕ) : Type 0 where
    pub clauses : Clauses t given
    pub fate : FatesOf t clauses.tokens fates
    pub most : i ≤ length clauses.tokens
    pub refusal : found.refusal ≡ 0
    pub room : length found.records ≡ 255
    pub count : found.count ≡ i
    pub is : take i found.records ≡ map made (map (told fate) (atoms_in t (take i clauses.tokens)))

  pub telling-first : (clauses : Clauses t given) → FatesOf t clauses.tokens fates → {found : Found} → found.count ≡ 0 → found.refusal ≡ 0
      → length found.records ≡ 255 → Telling found 0
  telling-first clauses fate e f g = record {
    clauses = clauses;
    fate = fate;
    most = omega arith;
    refusal = f;
    room = g;
    count = e;
    is = refl;
  }

  module _ {found : Found} {i : ℕ} (v : Telling found i) where
    abbrev tokens : List ℕ
    tokens = v.clauses.tokens

    pub telling-explains : Explains t fates
    telling-explains = record { tokens = tokens; fates = v.fate; rises = subst Rising (sym v.clauses.is) (given-rises v.clauses.atoms 0) }

    all-reasons : reasons t.variables v.clauses.atoms ≡ map (told v.fate) (atoms_in t tokens)
    all-reasons = reasons-of t.variables v.clauses.atoms ∙ ap (reasons_of t.variables) (sym v.clauses.is) ∙ all_told v.fate

    few-atoms : length v.clauses.atoms ≤ 255
    few-atoms = omega (arith, clauses-long 0 v.clauses.atoms, ap length v.clauses.is, length-map tokens (atom_of t), v.clauses.few)

    -- The place that it tells fits a byte.
    pub telling-low : i < length v.clauses.tokens → LowPlace (told v.fate (atom_of t (get_or given.token i 0)))
    telling-low h =
        let every-low : Every Low (map (told v.fate) (atoms_in t tokens)) =
        subst (Every Low) all-reasons (low-reasons t.variables v.clauses.atoms few-atoms) in
        let one = every-there every-low i (told v.fate (atom_of t 0))
        (omega (arith, length-map (atoms_in t tokens) (told v.fate), length-map tokens (atom_of t))) in
        let same : get_or (map (told v.fate) (atoms_in t tokens)) i (told v.fate (atom_of t 0))
        ≡ told v.fate (atom_of t (get_or given.token i 0)) =
        get_or-map (told v.fate) (atoms_in t tokens) i (atom_of t 0)
        ∙ ap (told v.fate) (get_or-map (atom_of t) tokens i 0 ∙ ap (atom_of t) (sym (held_at v.clauses.lists i h))) in
        (subst Low same one).low

    pub telling-next : {more : Found} {r : Reason} → i < length v.clauses.tokens → r ≡ made (told v.fate (atom_of t (get_or given.token i 0)))
        → more.records ≡ set found.records i r → more.count ≡ i + 1 → more.refusal ≡ found.refusal → Telling more (i + 1)
    telling-next {more} {r} h e stored counted same = record {
      clauses = v.clauses;
      fate = v.fate;
      most = omega arith;
      refusal = same ∙ v.refusal;
      room = ap length stored ∙ length-set found.records i r ∙ v.room;
      count = counted;
      is = rw (
        stored,
        add-one i,
        take-suc-set found.records i r (omega (arith, v.room, v.clauses.few)),
        take-suc tokens i 0 h,
        ← held_at v.clauses.lists i h,
      )
          (ap₂ (λ (l : List Reason) (x : Reason). l ++ (x ∷ [])) v.is e
          ∙ sym (ap (λ (l : List Placed). map made (map (told v.fate) l)) (map-append (atom_of t) (take i tokens) (x ∷ []))
          ∙ ap (map made) (map-append (told v.fate) (atoms_in t (take i tokens)) (atom_of t x ∷ []))
          ∙ map-append made (map (told v.fate) (atoms_in t (take i tokens))) (told v.fate (atom_of t x) ∷ [])));
    }
      where
        x : ℕ
        x = get_or given.token i 0

    pub telling-last : length v.clauses.tokens ≤ i → (atoms : List Atom) (l : List ℕ) → Lists given l → atoms_in t l ≡ clauses_from 0 atoms
        → Tells found (reasons t.variables atoms)
    telling-last over atoms l h e =
        let same : tokens ≡ l = sym v.clauses.lists.is ∙ h.is in
        let all : reasons t.variables atoms ≡ map (told v.fate) (atoms_in t tokens) =
        reasons-of t.variables atoms ∙ ap (reasons_of t.variables) (sym (ap (atoms_in t) same ∙ e)) ∙ all_told v.fate in
        record {
          refusal = v.refusal;
          is = rw (v.count, all) (v.is ∙ ap (λ (k : List ℕ). map made (map (told v.fate) (atoms_in t k))) (take_all i tokens over));
          size = rw all (omega (arith, v.count, v.most, length-map (atoms_in t tokens) (told v.fate), length-map tokens (atom_of t)));
        }
