-- The places: the merged list, and its clauses with the sets that they carry, are some of the atoms as read, in order.
use Rattle.std.specs.Prelude.{◌≡◌, refl, Bool, true, false, List, [], ◌∷◌, ◌++◌, ℕ, eqb, ℤ}
use Rattle.std.proofs.Common.{sym, ◌∙◌, subst, append_assoc, append-nil}
use Rattle.std.proofs.Math.Option.{Option, none, some}
use Rattle.rules.specs.Signs.{full, sign_of, has}
use Rattle.rules.specs.Polynomial.{Atom, same, constant}
use Rattle.rules.specs.Rounds.{State, carried}
use Rattle.rules.specs.Level.{Placed, plains, merged_if, merge_into, carry}
use Rattle.rules.specs.Reasons.{clauses_from, join_constant, join_normal, join_all, unless_full, not_full, joined, merged_list}
use Rattle.rules.specs.Reasons.{carried_clauses}

-- ---- Some of the given clauses, in order, with their places and polynomials; the sets may be others.

pub data Among : List Placed → List Placed → Type 0 where
  none_among : Among [] []
  not_among : {c : Placed} {given l : List Placed} → Among given l → Among (c ∷ given) l
  is_among : {c d : Placed} {given l : List Placed} → c.place ≡ d.place → c.polynomial ≡ d.polynomial → Among given l
      → Among (c ∷ given) (d ∷ l)

last-not-among : {given l : List Placed} (c : Placed) → Among given l → Among (given ++ (c ∷ [])) l
last-not-among c none_among = not_among none_among
last-not-among c (not_among f) = not_among (last-not-among c f)
last-not-among c (is_among p q f) = is_among p q (last-not-among c f)

last-among : {given l : List Placed} (c d : Placed) → c.place ≡ d.place → c.polynomial ≡ d.polynomial → Among given l
    → Among (given ++ (c ∷ [])) (l ++ (d ∷ []))
last-among c d p q none_among = is_among p q none_among
last-among c d p q (not_among f) = not_among (last-among c d p q f)
last-among c d p q (is_among r s f) = is_among r s (last-among c d p q f)

join-among : (c : Placed) {given l : List Placed} → Among given l → Among (given ++ (c ∷ [])) (merge_into c l)
unfolding merge_into merged_if
join-among c none_among = is_among refl refl none_among
join-among c (not_among f) = not_among (join-among c f)
join-among c (is_among {c = g} {d = first} {given} {l = later} p q f) = by-test (same c.polynomial first.polynomial) (join-among c f)
  where
    by-test : (b : Bool) → Among (given ++ (c ∷ [])) (merge_into c later)
        → Among (g ∷ (given ++ (c ∷ []))) (merged_if b c first later (merge_into c later))
    by-test true rest = is_among p q (last-not-among c f)
    by-test false rest = is_among p q rest

join_normal-among : (o : Option ℤ) (c : Placed) {given l : List Placed} → Among given l → Among (given ++ (c ∷ [])) (join_normal o c l)
unfolding join_normal join_constant
join_normal-among none c f = join-among c f
join_normal-among (some z) c {given} {l} f = by-truth (has (sign_of z) c.set)
  where
    by-truth : (b : Bool) → Among (given ++ (c ∷ [])) (join_constant b c l)
    by-truth true = last-not-among c f
    by-truth false = last-among c _ refl refl f

join_all-among : (more : List Placed) {given l : List Placed} → Among given l → Among (given ++ more) (join_all l more)
unfolding join_all
join_all-among [] {given} {l} f = subst (λ (k : List Placed). Among k l) (sym (append-nil given)) f
join_all-among (c ∷ more) {given} {l} f =
    subst (λ (k : List Placed). Among k (join_all (join_normal (constant c.polynomial) c l) more)) (append_assoc given (c ∷ []) more)
    (join_all-among more (join_normal-among (constant c.polynomial) c f))

not_full-among : {given l : List Placed} → Among given l → Among given (not_full l)
unfolding not_full unless_full
not_full-among none_among = none_among
not_full-among (not_among f) = not_among (not_full-among f)
not_full-among (is_among {c} {d} {given} {l} p q f) = by-test (eqb d.set full) (not_full-among f)
  where
    by-test : (b : Bool) → Among given (not_full l) → Among (c ∷ given) (unless_full b d (not_full l))
    by-test true rest = not_among rest
    by-test false rest = is_among p q rest

carry-among : {given l : List Placed} (cut : List Atom) → Among given l → Among given (carry l cut)
unfolding carry
carry-among cut none_among = none_among
carry-among cut (not_among f) = not_among (carry-among cut f)
carry-among [] (is_among p q f) = is_among p q f
carry-among (c ∷ cut) (is_among p q f) = is_among p q (carry-among cut f)

-- The merged list, and its clauses with the sets that they carry.
merged-among : (l : List Atom) → Among (clauses_from 0 l) (merged_list l)
unfolding merged_list joined
merged-among l = not_full-among (join_all-among (clauses_from 0 l) none_among)

pub carried_clauses-among : (n : ℕ) (l : List Atom) (st : State) → Among (clauses_from 0 l) (carried_clauses n st (merged_list l))
unfolding carried_clauses
carried_clauses-among n l st = carry-among (carried n st.board (plains (merged_list l)) st.atoms) (merged-among l)

-- The same of any list that is merged, whatever sets its atoms then carry.
pub all_among : (given : List Placed) (cut : List Atom) → Among given (carry (not_full (join_all [] given)) cut)
all_among given cut = carry-among cut (not_full-among (join_all-among given none_among))
