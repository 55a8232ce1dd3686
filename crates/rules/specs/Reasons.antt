-- 02, #106: "Why is the clause gone?" For each atom of an AND of atoms, in order, a record: it is kept, narrowed, merged into another, removed by
-- others, or the whole is false by some. Atoms are named by their places (#105).
use Rattle.std.specs.Prelude.{Bool, true, false, ◌||◌, List, [], ◌∷◌, ◌++◌, map, ℕ, suc, eqb, leb, ℤ, length, drop}
use Rattle.std.proofs.Math.Option.{Option, none, some}
use Rattle.rules.specs.Signs.{SignSet, empty, full, sign_of, has}
use Rattle.rules.specs.Polynomial.{Polynomial, Atom, same, constant}
use Rattle.rules.specs.Deduce.{any_empty}
use Rattle.rules.specs.Rounds.{State, sets_of, Outcome, contradiction, settled, run, carried}
use Rattle.rules.specs.Formula.{Parts, end, atom, and, or, Node, leaf, all_of, any_of}
use Rattle.rules.specs.Level.{Placed, plain, plains, with_set, placed_at, normal_placed, merge_into, kept_unless, implied, carry}
use Rattle.rules.specs.Block.{Block, Reading, refused, read, read_block}
use Rattle.rules.specs.Answer.{formula_of}

-- The atoms as read, in normal form, from a place on. An atom's *own set* is its set there: "(mirrored)" if the normal form is negated.
unfoldable pub clauses_from : ℕ → List Atom → List Placed
clauses_from i [] = []
clauses_from i (a ∷ l) = normal_placed (placed_at i a) ∷ clauses_from (suc i) l

-- ---- "the merged list": all atoms through step 2's merging, nothing cut short.

-- A true constant is not in it; "a false constant counts as one" with the empty set, at its own place; constants are never merged.
unfoldable pub join_constant : Bool → Placed → List Placed → List Placed
join_constant true c l = l
join_constant false c l = l ++ (with_set c empty ∷ [])

unfoldable pub join_normal : Option ℤ → Placed → List Placed → List Placed
join_normal none c l = merge_into c l
join_normal (some z) c l = join_constant (has (sign_of z) c.set) c l

unfoldable pub join_all : List Placed → List Placed → List Placed
join_all l [] = l
join_all l (c ∷ later) = join_all (join_normal (constant c.polynomial) c l) later

-- Then full sets are taken out.
unfoldable pub unless_full : Bool → Placed → List Placed → List Placed
unless_full true c rest = rest
unless_full false c rest = c ∷ rest

unfoldable pub not_full : List Placed → List Placed
not_full [] = []
not_full (c ∷ l) = unless_full (eqb c.set full) c (not_full l)

unfoldable pub joined : List Atom → List Placed
joined l = join_all [] (clauses_from 0 l)

unfoldable pub merged_list : List Atom → List Placed
merged_list l = not_full (joined l)

-- ---- "go through them in order, and leave out each without which the rest still says enough": from the first to the last, one goes if the list as
-- it then is, without it, is still enough.

unfoldable pub leave_out_from : {A : Type 0} → (List A → Bool) → List A → List A → List A
leave_out_from enough kept [] = kept
leave_out_from enough kept (c ∷ later) = leave_out_from enough (kept_unless (enough (kept ++ later)) c kept) later

unfoldable pub leave_out : {A : Type 0} → (List A → Bool) → List A → List A
leave_out enough l = leave_out_from enough [] l

-- ---- What is enough.

unfoldable pub has_contradiction : Outcome → Bool
has_contradiction contradiction = true
has_contradiction (settled st) = false

-- "For a false whole do the same from the merged list, "enough" being a contradiction or an atom with the empty set"
unfoldable pub fails : ℕ → List Atom → Bool
fails n l = any_empty (sets_of l) || has_contradiction (run n l)

unfoldable pub failing : ℕ → List Placed → List Placed
failing n l = leave_out (λ (m : List Placed). fails n (plains m)) l

-- "For another removed atom start from the atoms that remained then, with their carried sets": of these others, those on account of which the atom
-- goes: what they say of its polynomial, rounds run afresh, lies inside its set.
unfoldable pub implying : ℕ → List Placed → Atom → List Placed
implying n others a = leave_out (λ (m : List Placed). implied n (plains m) a) others

-- ---- Step 5, with what becomes of each.

pub data Fate : Type 0 where
  stays : Fate
  goes : List Placed → Fate

-- An atom with its carried set, and its fate.
pub record Told : Type 0 where
  pub clause : Placed
  pub fate : Fate

unfoldable pub fate_if : Bool → List Placed → Fate
fate_if true named = goes named
fate_if false named = stays

unfoldable pub told_from : ℕ → List Placed → List Placed → List Told
told_from n kept [] = []
told_from n kept (c ∷ later) =
    let gone = implied n (plains (kept ++ later)) (plain c) in
    record { clause = c; fate = fate_if gone (implying n (kept ++ later) (plain c)) } ∷ told_from n (kept_unless gone c kept) later

-- The atoms of a list with the sets that they carry after the rounds.
unfoldable pub carried_clauses : ℕ → State → List Placed → List Placed
carried_clauses n st l = carry l (carried n st.board (plains l) st.atoms)

-- ---- The records.

-- "A record says: kept with its (mirrored) set; kept and narrowed; merged, with the place; removed, with a set of places; or that the whole is false,
-- with a set of places". A removed one tells the set that it carried too, so that the set of each named atom stands in that atom's own record.
pub data Reason : Type 0 where
  kept_with : SignSet → Reason
  narrowed_to : SignSet → Reason
  merged_into : ℕ → Reason
  removed_by : SignSet → List ℕ → Reason
  all_false_by : List ℕ → Reason

unfoldable pub places_of : List Placed → List ℕ
places_of l = map (λ (a : Placed). a.place) l

unfoldable pub kept_or_narrowed : Bool → SignSet → Reason
kept_or_narrowed true s = kept_with s
kept_or_narrowed false s = narrowed_to s

-- For an atom with this carried set and this own set.
unfoldable pub reason_of : Fate → SignSet → SignSet → Reason
reason_of stays s own = kept_or_narrowed (eqb s own) s
reason_of (goes named) s own = removed_by s (places_of named)

unfoldable pub or_reason : Bool → Reason → Reason → Reason
or_reason true r other = r
or_reason false r other = other

-- By its place. "one true, or full after merging, is removed with the empty set of places": it is in no list any more.
unfoldable pub reason_at : ℕ → SignSet → List Told → Reason
reason_at i own [] = removed_by full []
reason_at i own (t ∷ l) = or_reason (eqb i t.clause.place) (reason_of t.fate t.clause.set own) (reason_at i own l)

-- The place where a polynomial stands, else the one given.
unfoldable pub or_place : Bool → ℕ → ℕ → ℕ
or_place true i other = i
or_place false i other = other

unfoldable pub place_of : Polynomial → List Placed → ℕ → ℕ
place_of p [] i = i
place_of p (c ∷ l) i = or_place (same p c.polynomial) c.place (place_of p l i)

-- "an atom merged into another is always told as merged": whatever becomes of that one.
unfoldable pub unless_merged : Bool → ℕ → Reason → Reason
unless_merged true i r = r
unless_merged false i r = merged_into i

unfoldable pub reason_for : List Placed → List Told → Placed → Reason
reason_for all told c =
    let first = place_of c.polynomial all c.place in
    unless_merged (eqb first c.place) first (reason_at c.place c.set told)

unfoldable pub each_reason : List Placed → List Told → List Placed → List Reason
each_reason all told [] = []
each_reason all told (c ∷ l) = reason_for all told c ∷ each_reason all told l

-- "the same in every record"
unfoldable pub each_false : List ℕ → List Placed → List Reason
each_false named [] = []
each_false named (c ∷ l) = all_false_by named ∷ each_false named l

unfoldable pub reasons_after : Bool → Outcome → ℕ → List Placed → List Placed → List Placed → List Reason
reasons_after true o n all these given = each_false (places_of (failing n these)) given
reasons_after false contradiction n all these given = each_false (places_of (failing n these)) given
reasons_after false (settled st) n all these given = each_reason all (told_from n [] (carried_clauses n st these)) given

-- For n variables and the atoms of an AND: "one for each input atom in order".
unfoldable pub reasons : ℕ → List Atom → List Reason
reasons n l =
    let all = joined l in
    let these = merged_list l in
    let atoms = plains these in
    reasons_after (any_empty (sets_of atoms)) (run n atoms) n all these (clauses_from 0 l)

-- ---- The block. "takes a block whose root is an AND of atoms only (a root atom is one)"

unfoldable pub with_first : Atom → Option (List Atom) → Option (List Atom)
with_first a none = none
with_first a (some l) = some (a ∷ l)

unfoldable pub only_atoms : Parts Atom → Option (List Atom)
only_atoms end = some []
only_atoms (atom a rest) = with_first a (only_atoms rest)
only_atoms (and kids rest) = none
only_atoms (or kids rest) = none

unfoldable pub atoms_of_and : Node Atom → Option (List Atom)
atoms_of_and (leaf a) = some (a ∷ [])
atoms_of_and (all_of kids) = only_atoms kids
atoms_of_and (any_of kids) = none

-- "Refusals: 19 if the root is not an AND of atoms, after 15; 20 if the list has fewer records than atoms, after 19."
pub data Why : Type 0 where
  refusal : ℕ → Why
  explained : List Reason → Why

unfoldable pub unless_fewer : Bool → Why → Why
unless_fewer true why = why
unless_fewer false why = refusal 20

unfoldable pub why_atoms : ℕ → ℕ → Option (List Atom) → Why
why_atoms room n none = refusal 19
why_atoms room n (some l) = unless_fewer (leb (length l) room) (explained (reasons n l))

unfoldable pub why_of : ℕ → Reading Block → Why
why_of room (refused number) = refusal number
why_of room (read given stream) = why_atoms room given.variables (atoms_of_and (formula_of given))

-- For a list of so many records.
unfoldable pub why : ℕ → List ℕ → Why
why room bytes = why_of room (read_block bytes)

-- "Further records, and all on refusal, keep their contents": the lent list afterwards, given what a record of each reason is.
unfoldable pub records_written : {R : Type 0} → (Reason → R) → Why → List R → List R
records_written made (refusal number) before = before
records_written made (explained rs) before = map made rs ++ drop (length rs) before

-- To unfold this is to unfold every definition of this file.
unfoldable pub open_reasons : Unit {0}
unfolding clauses_from join_constant join_normal join_all unless_full not_full joined merged_list leave_out_from leave_out has_contradiction fails failing implying fate_if told_from carried_clauses places_of kept_or_narrowed reason_of or_reason reason_at or_place place_of unless_merged reason_for each_reason each_false reasons_after reasons with_first only_atoms atoms_of_and unless_fewer why_atoms why_of why records_written
open_reasons = tt
