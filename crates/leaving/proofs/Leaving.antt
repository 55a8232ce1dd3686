-- The search for the last index that is enough, and the way through the list, over tokens.
use mathlib.Core.Path.{◌≡◌, refl, sym, ap, ◌∙◌, subst}
use mathlib.Core.Bool.{Bool, true, false}
use mathlib.Core.List.{List, [], ◌∷◌, ◌++◌, append-nil, append_assoc}
use mathlib.Core.Logic.{dite}
use Prim.Native.Nat.{ℕ, ◌+◌, ◌-◌, ◌<◌, ◌≤◌}
use native.Mathlib.Decide.{dec_lt}
use native.Mathlib.Numerals.{add-one}
use native.Mathlib.Omega.{arith}
use lib.ListN.{length, get_or, take, drop, length-drop, length-append, take-append-drop}
use lib.Seq.{take_all, drop-drop, drop-cons}
use Rattle.table.specs.Table.{Table}
use Rattle.tape.specs.declared.rows.Row.{Row}
use Rattle.tape.specs.Row.{Lists}
use Rattle.tape.specs.Listing.{rest-next, rest-none}
use Rattle.rules.specs.Reasons.{leave_out_from, leave_out}
use Rattle.reason_laws.specs.LeaveOut.{all-later-go, next-stays, proper-later, leave_out-short}
use Rattle.leaving.specs.declared.Question.{Question}
use Rattle.leaving.specs.Enough.{enough_for, Proper, Asks, AsksEnough, AsksAll, LastEnough, LeavesOut}
use Rattle.leaving.proofs.Less.{less}

-- ---- Rows and their lists.

pub one_list : {row : Row} {k l : List ℕ} → Lists row k → Lists row l → k ≡ l
one_list h g = sym h.is ∙ g.is

-- The rest from an index on is a part of it and the rest from a later one on.
drop-later : (from to : ℕ) (l : List ℕ) → from ≤ to → drop from l ≡ take (to - from) (drop from l) ++ drop to l
drop-later from to l h =
    let e : from + (to - from) ≡ to = omega arith in
    sym (take-append-drop (to - from) (drop from l)) ∙ ap (λ (m : List ℕ). take (to - from) (drop from l) ++ m) (drop-drop (to - from) from l ∙ ap (λ (i : ℕ). drop i l) e)

-- The tokens of one row and those of another from an index on.
pub appended : {row : Row} (k l : List ℕ) (from to : ℕ) → to ≡ length l → Lists row (k ++ take (to - from) (drop from l)) → Lists row (k ++ drop from l)
appended {row} k l from to e h =
    subst (λ (m : List ℕ). Lists row (k ++ m)) (take_all (to - from) (drop from l) (omega (arith, length-drop from l))) h

-- One token more.
pub one-more : {row list : Row} (k l : List ℕ) (at : ℕ) → Lists list l → at < length l → Lists row (k ++ (get_or list.token at 0 ∷ []))
    → Lists row (k ++ take 1 (drop at l))
one-more {row} k l at h low w = subst (λ (m : List ℕ). Lists row (k ++ take 1 m)) (sym (rest-next h low)) w

pub no_more : {row : Row} (k l : List ℕ) {count at : ℕ} → count ≤ at → count ≡ length l → Lists row k → Lists row (k ++ take 1 (drop at l))
no_more {row} k l {at = at} over size w =
    subst (λ (m : List ℕ). Lists row (k ++ take 1 m)) (sym (rest-none l at (omega arith))) (subst (Lists row) (sym (append-nil k)) w)

module _ (t : Table) (q : Question) where
  -- What is asked from an index on is asked from a later one on.
  pub asks-later : {kept list : Row} {from : ℕ} (to : ℕ) → (a : Asks t q kept list from) → from ≤ to → to ≤ length a.tokens → Asks t q kept list to
  asks-later {from = from} to a h k = record {
    before = a.before;
    tokens = a.tokens;
    kept_lists = a.kept_lists;
    lists = a.lists;
    low = k;
    short = a.short;
    few = omega (arith, a.few);
    proper = proper-later (enough_for t q) (less t q) a.before (take (to - from) (drop from a.tokens)) (drop to a.tokens)
        (subst (λ (m : List ℕ). Proper t q (a.before ++ m)) (drop-later from to a.tokens h) a.proper);
  }

  -- ---- The search: from low on they are enough, from high on they are not.
  pub record Search (kept list : Row) (from low high : ℕ) : Type 0 where
    pub asks : Asks t q kept list from
    pub least : from ≤ low
    pub most : low ≤ length asks.tokens
    pub below : low < high
    pub top : high ≤ length asks.tokens + 1
    pub enough : enough_for t q (asks.before ++ drop low asks.tokens) ≡ true
    pub not-enough : high ≤ length asks.tokens → enough_for t q (asks.before ++ drop high asks.tokens) ≡ false

  pub search-start : {kept list : Row} {from : ℕ} (a : AsksEnough t q kept list from) → (high : ℕ) → high ≡ list.count + 1 → Search kept list from from high
  search-start {from = from} a high e =
      let size = a.asks.lists.size in
      record {
        asks = a.asks;
        least = omega arith;
        most = a.asks.low;
        below = omega (arith, a.asks.low, size);
        top = omega (arith, size);
        enough = a.enough;
        not-enough = λ h. absurd (omega (arith, size));
      }

  module _ {kept list : Row} {from low high middle : ℕ} (s : Search kept list from low high) (above : low < middle) (under : middle < high) where
    pub search-asks : Asks t q kept list middle
    search-asks = asks-later middle s.asks (omega (arith, s.least)) (omega (arith, s.top))

    pub search-up : enough_for t q (s.asks.before ++ drop middle s.asks.tokens) ≡ true → Search kept list from middle high
    search-up e = record {
      asks = s.asks;
      least = omega (arith, s.least);
      most = omega (arith, s.top);
      below = under;
      top = s.top;
      enough = e;
      not-enough = s.not-enough;
    }

    pub search-down : enough_for t q (s.asks.before ++ drop middle s.asks.tokens) ≡ false → Search kept list from low middle
    search-down e = record {
      asks = s.asks;
      least = s.least;
      most = s.most;
      below = above;
      top = omega (arith, s.top);
      enough = s.enough;
      not-enough = λ h. e;
    }

  pub search-end : {kept list : Row} {from low high : ℕ} → Search kept list from low high → high ≤ low + 1 → (k l : List ℕ) → Lists kept k → Lists list l
      → LastEnough t q k l from low
  search-end {low = low} {high} s over k l hk hl =
      let same-k : s.asks.before ≡ k = one_list s.asks.kept_lists hk in
      let same-l : s.asks.tokens ≡ l = one_list s.asks.lists hl in
      let next : high ≡ low + 1 = omega (arith, s.below) in
      record {
        least = s.least;
        most = rw same-l at s.most;
        enough = rw (same-k, same-l) at s.enough;
        last = λ h. let long : length s.asks.tokens ≡ length l = ap length same-l in rw (same-k, same-l, next) at (s.not-enough (omega (arith, next, long)));
      }

  -- ---- The way through the list.
  pub record Leaving (list kept : Row) (i : ℕ) : Type 0 where
    pub before : List ℕ
    pub tokens : List ℕ
    pub kept_lists : Lists kept before
    pub lists : Lists list tokens
    pub short : length before + (length tokens - i) ≤ length tokens
    pub few : length tokens ≤ 64
    pub proper : Proper t q (before ++ drop i tokens)
    pub enough : enough_for t q (before ++ drop i tokens) ≡ true
    pub is : leave_out_from (enough_for t q) before (drop i tokens) ≡ leave_out (enough_for t q) tokens

  pub leaving-start : {list kept : Row} → AsksAll t q list → Lists kept [] → Leaving list kept 0
  unfolding leave_out
  leaving-start a h = record {
    before = [];
    tokens = a.tokens;
    kept_lists = h;
    lists = a.lists;
    short = omega arith;
    few = a.few;
    proper = a.proper;
    enough = a.enough;
    is = refl;
  }

  pub leaving-asks : {list kept : Row} {i : ℕ} (v : Leaving list kept i) → i ≤ length v.tokens → AsksEnough t q kept list i
  leaving-asks v h = record {
    asks = record {
      before = v.before;
      tokens = v.tokens;
      kept_lists = v.kept_lists;
      lists = v.lists;
      low = h;
      short = v.few;
      few = omega (arith, v.short, v.few);
      proper = v.proper;
    };
    enough = v.enough;
  }

  module _ {list kept : Row} {i at : ℕ} (v : Leaving list kept i) (h : LastEnough t q v.before v.tokens i at) where
    abbrev e : List ℕ → Bool
    e = enough_for t q

    front : drop i v.tokens ≡ take (at - i) (drop i v.tokens) ++ drop at v.tokens
    front = drop-later i at v.tokens h.least

    proper-front : Proper t q (v.before ++ (take (at - i) (drop i v.tokens) ++ drop at v.tokens))
    proper-front = subst (λ (m : List ℕ). Proper t q (v.before ++ m)) front v.proper

    -- All later ones go.
    pub leaving-over : length v.tokens ≤ at → Leaving list kept (at + 1)
    unfolding leave_out_from
    leaving-over over =
        let none : drop at v.tokens ≡ [] = rest-none v.tokens at over in
        let none-too : drop (at + 1) v.tokens ≡ [] = rest-none v.tokens (at + 1) (omega arith) in
        let kept-enough : e v.before ≡ true = ap e (sym (append-nil v.before)) ∙ (rw none at h.enough) in
        record {
          before = v.before;
          tokens = v.tokens;
          kept_lists = v.kept_lists;
          lists = v.lists;
          short = omega (arith, v.short);
          few = v.few;
          proper = rw (none-too) (rw none at (proper-later e (less t q) v.before (take (at - i) (drop i v.tokens)) (drop at v.tokens) proper-front));
          enough = rw (none-too) (rw none at h.enough);
          is = rw none-too (sym (all-later-go e (less t q) v.before (drop i v.tokens) v.proper kept-enough) ∙ v.is);
        }

    -- One more stays.
    pub leaving-one : {longer : Row} (x : ℕ) → at < length v.tokens → drop at v.tokens ≡ x ∷ drop (at + 1) v.tokens
        → Lists longer (v.before ++ (x ∷ [])) → Leaving list longer (at + 1)
    leaving-one x low cons lists =
        let back = drop (at + 1) v.tokens in
        let begins = take (at - i) (drop i v.tokens) in
        let proper-all : Proper t q (v.before ++ (begins ++ (x ∷ back))) = rw cons at proper-front in
        let whole : (v.before ++ (x ∷ [])) ++ back ≡ v.before ++ (x ∷ back) = append_assoc v.before (x ∷ []) back in
        record {
          before = v.before ++ (x ∷ []);
          tokens = v.tokens;
          kept_lists = lists;
          lists = v.lists;
          short = omega (arith, v.short, length-append v.before (x ∷ []), h.least);
          few = v.few;
          proper = rw whole (proper-later e (less t q) v.before begins (x ∷ back) proper-all);
          enough = rw whole (rw cons at h.enough);
          is = sym (next-stays e (less t q) v.before begins x back proper-all (rw cons at h.enough) (h.last low))
              ∙ ap (leave_out_from e v.before) (sym (front ∙ ap (λ (m : List ℕ). begins ++ m) cons)) ∙ v.is;
        }

  -- So with the one at the index, if there is one.
  pub leaving-next : {list kept longer : Row} {i at : ℕ} (v : Leaving list kept i) → LastEnough t q v.before v.tokens i at
      → Lists longer (v.before ++ take 1 (drop at v.tokens)) → Leaving list longer (at + 1)
  leaving-next {list} {longer = longer} {at = at} v h w = dite (dec_lt at (length v.tokens))
      (λ low. let cons : drop at v.tokens ≡ get_or v.tokens at 0 ∷ drop (at + 1) v.tokens = rw (add-one) (drop-cons v.tokens at 0 low) in
      leaving-one v h (get_or v.tokens at 0) low cons (rw cons at w))
      (λ high. let none : drop at v.tokens ≡ [] = rest-none v.tokens at (omega arith) in
      let same : Lists longer v.before = rw (none, append-nil v.before) at w in
      leaving-over {kept = longer} (record {
        before = v.before;
        tokens = v.tokens;
        kept_lists = same;
        lists = v.lists;
        short = v.short;
        few = v.few;
        proper = v.proper;
        enough = v.enough;
        is = v.is;
      }) h (omega arith))

  pub leaving-end : {list kept : Row} {i : ℕ} (v : Leaving list kept i) → length v.tokens ≤ i → (l : List ℕ) → Lists list l → LeavesOut t q l kept
  unfolding leave_out_from
  leaving-end {i = i} v over l h =
      let same : v.tokens ≡ l = one_list v.lists h in
      let all : v.before ≡ leave_out (enough_for t q) l = rw (rest-none v.tokens i over, same) at v.is in
      record { lists = rw all at v.kept_lists; small = leave_out-short (enough_for t q) l }
