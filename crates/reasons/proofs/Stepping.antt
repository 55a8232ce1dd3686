-- Step 5 on the way to an atom: what is told of it, by the tokens kept so far and those to come.
use mathlib.Core.Path.{◌≡◌, refl, sym, ap, ◌∙◌, subst}
use mathlib.Core.Bool.{Bool, true, false, not, false≢true, true≢false}
use mathlib.Core.List.{List, [], ◌∷◌, ◌++◌, map-append}
use Prim.Native.Nat.{ℕ, ◌+◌, ◌%◌, ◌<◌, ◌≤◌}
use native.Mathlib.Numerals.{add-one}
use native.Mathlib.Omega.{arith}
use lib.Dec.{eqb}
use lib.ListN.{length, get_or, take, drop, length-drop, length-append, length-map}
use lib.Seq.{take-suc, drop-cons, length-take-le}
use borrow.Author.Tests.{eq-eqb, ne_eqb}
use Rattle.rules.specs.Signs.{full}
use Rattle.rules.specs.Polynomial.{Atom}
use Rattle.rules.specs.Level.{Placed, plain, plains, kept_unless, implied}
use Rattle.removal_laws.specs.Apart.{Apart, carries-apart}
use Rattle.removal_laws.specs.Starts.{run-carries}
use Rattle.turn_laws.specs.Some.{Some, some-fewer, all_there, some-without, some_next}
use Rattle.table.specs.Table.{Table}
use Rattle.tape.specs.declared.rows.Row.{Row}
use Rattle.tape.specs.Row.{Lists}
use Rattle.tape.specs.Listing.{rest-next, rest-none}
use Rattle.tape.specs.Token.{place, atom_of, atoms_in}
use Rattle.settled.specs.Remaining.{CarriedFrom}
use Rattle.leaving.specs.Enough.{enough_if, enough_for, AsksAll}
use Rattle.round.specs.declared.State.{State}
use Rattle.rules.specs.Reasons.{Reason as Why, removed_by, places_of, implying, stays, goes, Told, fate_if, told_from, kept_or_narrowed, reason_of}
use Rattle.rules.specs.Reasons.{or_reason, reason_at}
use Rattle.reason_laws.specs.Named.{unless_gone, staying, staying-is-kept}
use Rattle.reason_laws.specs.SaysLess.{fewer-apart}
use Rattle.reason_laws.specs.Names.{Rising, rising}
use Rattle.reason_laws.specs.Sooner.{first_is, stays-first}
use Rattle.reasons.specs.Telling.{asking, is_first, Sifted}
use Rattle.reasons.proofs.Tokens.{first-is}

-- ---- One atom.

module _ (n : ℕ) (kept : List Placed) (c : Placed) (later : List Placed) where
  abbrev pub gone : Bool
  gone = implied n (plains (kept ++ later)) (plain c)

  told-stays : gone ≡ false → told_from n kept (c ∷ later) ≡ record { clause = c; fate = stays } ∷ told_from n (kept ++ (c ∷ [])) later
  unfolding told_from fate_if kept_unless
  told-stays e = rw e

  told-goes : gone ≡ true → told_from n kept (c ∷ later)
      ≡ record { clause = c; fate = goes (implying n (kept ++ later) (plain c)) } ∷ told_from n kept later
  unfolding told_from fate_if kept_unless
  told-goes e = rw e

rises-after : {c : Placed} {l : List Placed} → Rising (c ∷ l) → Rising l
rises-after (rising h hs) = hs

not-true : (b : Bool) → not b ≡ true → b ≡ false
not-true true e = absurd (false≢true e)
not-true false e = refl

not-false : (b : Bool) → not b ≡ false → b ≡ true
not-false true e = refl
not-false false e = absurd (true≢false e)

-- ---- On the way.

module _ (t : Table) where
  -- The next of those that are left is this one.
  record NextLeft (left : List ℕ) (kept : ℕ) (c : Placed) (after : List Placed) : Type 0 where
    more : kept < length left
    longer : atoms_in t (take (kept + 1) left) ≡ atoms_in t (take kept left) ++ (c ∷ [])
    rest : after ≡ atoms_in t (drop (kept + 1) left)

  next_of : (left : List ℕ) (kept : ℕ) {c : Placed} {rest : List Placed} → c ∷ rest ≡ atoms_in t (drop kept left) → NextLeft left kept c rest
  next_of left kept {c} {rest} e =
      let long : kept < length left = omega (arith, ap length e, length-map (drop kept left) (atom_of t), length-drop kept left) in
      let y : ℕ = get_or left kept 0 in
      let cut : drop kept left ≡ y ∷ drop (kept + 1) left = rw (add-one kept) (drop-cons left kept 0 long) in
      let f : c ∷ rest ≡ atom_of t y ∷ atoms_in t (drop (kept + 1) left) = e ∙ ap (atoms_in t) cut in
      let same : atom_of t y ≡ c = sym (ap (λ (l : List Placed). get_or l 0 c) f) in
      record {
        more = long;
        longer = rw (add-one kept, take-suc left kept 0 long)
            (map-append (atom_of t) (take kept left) (y ∷ []) ∙ ap (λ (d : Placed). atoms_in t (take kept left) ++ (d ∷ [])) same);
        rest = ap (drop 1) f;
      }

module _ (t : Table) (list rest : Row) (state : State) (token : ℕ) where
  abbrev n : ℕ
  n = t.variables

  -- What is told of the token's atom.
  abbrev pub reason : List Told → Why
  reason l = reason_at (place token) (token % 8) l

  -- So many of those that stay are passed, and so many of those that carry their sets.
  pub record Way (kept i : ℕ) : Type 0 where
    pub carrying : List ℕ
    pub left : List ℕ
    pub lists : Lists list carrying
    pub rest_lists : Lists rest left
    pub few : length carrying ≤ 64
    pub from : CarriedFrom t state (plains (atoms_in t carrying))
    pub rises : Rising (atoms_in t (drop i carrying))
    pub some : Some (plains (atoms_in t carrying)) (plains (atoms_in t (take kept left)) ++ plains (atoms_in t (drop i carrying)))
    pub back : kept ≤ i
    pub low : kept ≤ length left
    pub stay : staying (told_from t.variables (atoms_in t (take kept left)) (atoms_in t (drop i carrying))) ≡ atoms_in t (drop kept left)
    pub is : reason_at (place token) (token % 8) (told_from t.variables (atoms_in t (take kept left)) (atoms_in t (drop i carrying)))
        ≡ reason_at (place token) (token % 8) (told_from t.variables [] (atoms_in t carrying))

  pub way-first : Sifted t list rest state → Way 0 0
  way-first s = record {
    carrying = s.carrying;
    left = s.staying;
    lists = s.lists;
    rest_lists = s.rest_lists;
    few = s.few;
    from = s.from;
    rises = s.rises;
    some = all_there (plains (atoms_in t s.carrying));
    back = omega arith;
    low = omega arith;
    stay = staying-is-kept n (atoms_in t s.carrying) ∙ s.left;
    is = refl;
  }

  -- The tokens kept so far and those to come are apart, as all are.
  apart-all : {kept i : ℕ} (w : Way kept i) → Apart (plains (atoms_in t w.carrying))
  apart-all w = subst Apart (sym w.from.atoms) (carries-apart (run-carries n w.from.given w.from.settles) w.from.distinct).1

  module _ {kept i : ℕ} (w : Way kept i) (x : ℕ) (cons : drop i w.carrying ≡ x ∷ drop (i + 1) w.carrying) where
    abbrev before : List Placed
    before = atoms_in t (take kept w.left)

    abbrev later : List Placed
    later = atoms_in t (drop (i + 1) w.carrying)

    abbrev pub goes-here : Bool
    goes-here = implied t.variables (plains (atoms_in t (take kept w.left) ++ atoms_in t (drop (i + 1) w.carrying))) (plain (atom_of t x))

    there : atoms_in t (drop i w.carrying) ≡ atom_of t x ∷ later
    there = ap (atoms_in t) cons

    -- Whether it goes, by the next of those that stay.
    pub next-tells : is_first (place x) (drop kept w.left) ≡ not goes-here
    unfolding atom_of
    next-tells =
        sym (first-is t (place x) (drop kept w.left)) ∙ ap (first_is (place x)) (sym w.stay)
        ∙ ap (λ (l : List Placed). first_is (place x) (staying (told_from n before l))) there
        ∙ stays-first n before (atom_of t x) later (subst Rising there w.rises)

    stays-told : goes-here ≡ false → told_from n before (atoms_in t (drop i w.carrying))
        ≡ record { clause = atom_of t x; fate = stays } ∷ told_from n (before ++ (atom_of t x ∷ [])) later
    stays-told e = ap (told_from n before) there ∙ told-stays n before (atom_of t x) later e

    goes-told : goes-here ≡ true → told_from n before (atoms_in t (drop i w.carrying))
        ≡ record { clause = atom_of t x; fate = goes (implying n (before ++ later) (plain (atom_of t x))) } ∷ told_from n before later
    goes-told e = ap (told_from n before) there ∙ told-goes n before (atom_of t x) later e

    -- ---- It is the token's atom.
    pub here-stays : goes-here ≡ false → place token ≡ place x
        → kept_or_narrowed (eqb (x % 8) (token % 8)) (x % 8) ≡ reason (told_from t.variables [] (atoms_in t w.carrying))
    unfolding reason_at or_reason reason_of atom_of
    here-stays e p = sym (ap reason (stays-told e) ∙ rw (eq-eqb (place token) (place x) p)) ∙ w.is

    pub here-goes : goes-here ≡ true → place token ≡ place x
        → removed_by (x % 8) (places_of (implying t.variables (atoms_in t (take kept w.left ++ drop (i + 1) w.carrying))
        (plain (atom_of t x)))) ≡ reason (told_from t.variables [] (atoms_in t w.carrying))
    unfolding reason_at or_reason reason_of atom_of
    here-goes e p =
        ap (λ (l : List Placed). removed_by (x % 8) (places_of (implying n l (plain (atom_of t x)))))
        (map-append (atom_of t) (take kept w.left) (drop (i + 1) w.carrying))
        ∙ sym (ap reason (goes-told e) ∙ rw (eq-eqb (place token) (place x) p)) ∙ w.is

    -- The others are asked.
    others-plain : plains (atoms_in t (take kept w.left ++ drop (i + 1) w.carrying)) ≡ plains before ++ plains later
    others-plain = ap plains (map-append (atom_of t) (take kept w.left) (drop (i + 1) w.carrying)) ∙ map-append plain before later

    some-here : Some (plains (atoms_in t w.carrying)) (plains before ++ (plain (atom_of t x) ∷ plains later))
    some-here = subst (λ (l : List Placed). Some (plains (atoms_in t w.carrying)) (plains before ++ plains l)) there w.some

    some-others : Some (plains (atoms_in t w.carrying)) (plains (atoms_in t (take kept w.left ++ drop (i + 1) w.carrying)))
    some-others = subst (Some (plains (atoms_in t w.carrying))) (sym others-plain)
        (some-without (plains before) (plain (atom_of t x)) (plains later) some-here)

    pub others-asked : goes-here ≡ true → i < length w.carrying → {others : Row}
        → Lists others (take kept w.left ++ drop (i + 1) w.carrying) → AsksAll t (asking state x) others
    unfolding enough_for enough_if
    others-asked e some_left h = record {
      tokens = take kept w.left ++ drop (i + 1) w.carrying;
      lists = h;
      few = omega (
        arith,
        length-append (take kept w.left) (drop (i + 1) w.carrying),
        length-take-le kept w.left w.low,
        length-drop (i + 1) w.carrying,
        w.few,
        w.back,
      );
      proper = record {
        apart = fewer-apart (some-fewer some-others) (apart-all w);
        afresh = λ z. record {
          given = w.from.given;
          settles = w.from.settles;
          variables = w.from.variables;
          some = subst (λ (l : List Atom). Some l (plains (atoms_in t (take kept w.left ++ drop (i + 1) w.carrying))))
              w.from.atoms some-others;
        };
      };
      enough = ap (λ (l : List Placed). implied n (plains l) (plain (atom_of t x)))
          (map-append (atom_of t) (take kept w.left) (drop (i + 1) w.carrying)) ∙ e;
    }

    -- ---- It is another.
    pub way-goes : goes-here ≡ true → (place token ≡ place x → ⊥) → Way kept (i + 1)
    unfolding reason_at or_reason atom_of staying unless_gone
    way-goes e p = record {
      carrying = w.carrying;
      left = w.left;
      lists = w.lists;
      rest_lists = w.rest_lists;
      few = w.few;
      from = w.from;
      rises = rises-after (subst Rising there w.rises);
      some = some-without (plains before) (plain (atom_of t x)) (plains later) some-here;
      back = omega (arith, w.back);
      low = w.low;
      stay = sym (ap staying (goes-told e)) ∙ w.stay;
      is = sym (ap reason (goes-told e) ∙ rw (ne_eqb (place token) (place x) p)) ∙ w.is;
    }

    next-left : goes-here ≡ false → NextLeft t w.left kept (atom_of t x) (staying (told_from n (before ++ (atom_of t x ∷ [])) later))
    unfolding staying unless_gone
    next-left e = next_of t w.left kept (sym (ap staying (stays-told e)) ∙ w.stay)

    pub way-stays : goes-here ≡ false → (place token ≡ place x → ⊥) → Way (kept + 1) (i + 1)
    unfolding reason_at or_reason atom_of kept_unless
    way-stays e p =
        let next = next-left e in
        record {
          carrying = w.carrying;
          left = w.left;
          lists = w.lists;
          rest_lists = w.rest_lists;
          few = w.few;
          from = w.from;
          rises = rises-after (subst Rising there w.rises);
          some = rw (next.longer, map-append plain before (atom_of t x ∷ []))
              (some_next false (plains before) (plain (atom_of t x)) (plains later) some-here);
          back = omega (arith, w.back);
          low = omega (arith, next.more);
          stay = rw next.longer next.rest;
          is = rw next.longer (sym (ap reason (stays-told e) ∙ rw (ne_eqb (place token) (place x) p)) ∙ w.is);
        }

  -- ---- It is none of them.
  pub way-last : {kept i : ℕ} (w : Way kept i) → length w.carrying ≤ i
      → removed_by full [] ≡ reason (told_from t.variables [] (atoms_in t w.carrying))
  unfolding reason_at told_from
  way-last {kept} {i} w over =
      sym (ap (λ (l : List ℕ). reason (told_from n (atoms_in t (take kept w.left)) (atoms_in t l))) (rest-none w.carrying i over)) ∙ w.is

  -- ---- By what is found out: whether the token at hand is the next of those that stay.
  module _ {kept i : ℕ} (w : Way kept i) (below : i < list.count) {next : Bool}
      (tells : (l : List ℕ) → Lists rest l → next ≡ is_first (place (get_or list.token i 0)) (drop kept l)) where
    abbrev y : ℕ
    y = get_or list.token i 0

    within : i < length w.carrying
    within = omega (arith, w.lists.size)

    cut : drop i w.carrying ≡ y ∷ drop (i + 1) w.carrying
    cut = rest-next w.lists within

    found : next ≡ not (goes-here w y cut)
    found = tells w.left w.rest_lists ∙ next-tells w y cut

    it_stays : next ≡ true → goes-here w y cut ≡ false
    it_stays e = not-true (goes-here w y cut) (sym found ∙ e)

    it-goes : next ≡ false → goes-here w y cut ≡ true
    it-goes e = not-false (goes-here w y cut) (sym found ∙ e)

    same-list : {l : List ℕ} → Lists list l → w.carrying ≡ l
    same-list h = sym w.lists.is ∙ h.is

    pub tells-staying : next ≡ true → place token ≡ place (get_or list.token i 0) → {l : List ℕ} → Lists list l
        → kept_or_narrowed (eqb (get_or list.token i 0 % 8) (token % 8)) (get_or list.token i 0 % 8)
        ≡ reason (told_from t.variables [] (atoms_in t l))
    tells-staying e p h = here-stays w y cut (it_stays e) p ∙ ap (λ (l : List ℕ). reason (told_from t.variables [] (atoms_in t l))) (same-list h)

    pub others-here : {others : Row} → ((k l : List ℕ) → Lists rest k → Lists list l → Lists others (take kept k ++ drop (i + 1) l)) → next ≡ false
        → AsksAll t (asking state (get_or list.token i 0)) others
    others-here lists e = others-asked w y cut (it-goes e) within (lists w.left w.carrying w.rest_lists w.lists)

    pub tells-going : next ≡ false → place token ≡ place (get_or list.token i 0) → {l : List ℕ} → Lists list l
        → removed_by (get_or list.token i 0 % 8) (places_of (implying t.variables (atoms_in t (take kept w.left ++ drop (i + 1) w.carrying))
        (plain (atom_of t (get_or list.token i 0)))))
        ≡ reason (told_from t.variables [] (atoms_in t l))
    tells-going e p h = here-goes w y cut (it-goes e) p ∙ ap (λ (l : List ℕ). reason (told_from t.variables [] (atoms_in t l))) (same-list h)

    pub one-stays : next ≡ true → (place token ≡ place (get_or list.token i 0) → ⊥) → Way (kept + 1) (i + 1)
    one-stays e p = way-stays w y cut (it_stays e) p

    pub one-goes : next ≡ false → (place token ≡ place (get_or list.token i 0) → ⊥) → Way kept (i + 1)
    one-goes e p = way-goes w y cut (it-goes e) p

  pub tells_none : {kept i : ℕ} (w : Way kept i) → list.count ≤ i → {l : List ℕ} → Lists list l
      → removed_by full [] ≡ reason (told_from t.variables [] (atoms_in t l))
  tells_none w over h = way-last w (omega (arith, w.lists.size))
      ∙ ap (λ (l : List ℕ). reason (told_from t.variables [] (atoms_in t l))) (sym w.lists.is ∙ h.is)
