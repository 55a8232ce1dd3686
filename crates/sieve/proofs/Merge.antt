-- The merge of three forms whose monomials fall: the coefficients of the greatest monomial left are those at the heads that have it.
use mathlib.Core.Path.{◌≡◌, refl, sym, ap, subst, ◌∙◌}
use mathlib.Core.Bool.{Bool, true, false, cond}
use mathlib.Core.List.{List, [], ◌∷◌}
use Prim.Native.Nat.{ℕ, zero, suc, ◌+◌, ◌-◌, ◌<◌, ◌≤◌}
use native.Mathlib.Omega.{arith}
use borrow.Author.Count.{below_more}
use borrow.Author.Tests.{eq-eqb, ne_eqb, ltb-true, ltb-false}
use lib.Dec.{ltb}
use lib.IntN.{ℤ, pos, one, ◌+ℤ◌, ◌*ℤ◌, +ℤ_idl, +ℤ_idr, *ℤ-one, *ℤ-zero}
use lib.ListN.{length, get_or, set}
use lib.Seq.{get_or-set_same, get_or-set_other}
use Rattle.rules.specs.Signs.{SignSet}
use Rattle.rules.specs.Polynomial.{Term, Polynomial, Board, monomial_sign}
use Rattle.rules.specs.Meaning.{value_by}
use Rattle.sign_laws.specs.Sets.{PartOf, part-refl, in-empty}
use Rattle.removal_laws.specs.AskedTerms.{coefficient_at}
use Rattle.terms.specs.View.{term_at, terms_of, terms-cons, terms-nil}
use Rattle.terms.specs.Signed.{Signed}
use Rattle.two_atoms.specs.declared.pair.Pair.{Pair}
use Rattle.two_atoms.specs.Tries.{PlacesOf, SignedOn}
use Rattle.sieve.specs.declared.rows.Share.{Share}
use Rattle.sieve.specs.declared.rows.Row.{Row}
use Rattle.sieve.specs.Rows.{Falls, FallsOf, HeadOf, Larger, TakenAt, own, other, OneOf, first, second, third, NextRow, rows, RowOf}
use Rattle.sieve.specs.Rows.{RowAt}

-- ---- the coefficient of a monomial in a run

other-term : (x : ℕ) (t : Term) (ts : Polynomial) → (t.monomial ≡ x → ⊥) → coefficient_at x (t ∷ ts) ≡ coefficient_at x ts
unfolding value_by
other-term x t ts f =
    ap (λ (b : Bool). t.coefficient *ℤ cond b (pos 1) (pos 0) +ℤ coefficient_at x ts) (ne_eqb t.monomial x f)
    ∙ ap (λ (z : ℤ). z +ℤ coefficient_at x ts) (*ℤ-zero t.coefficient) ∙ +ℤ_idl (coefficient_at x ts)

own-term : (x : ℕ) (t : Term) (ts : Polynomial) → t.monomial ≡ x → coefficient_at x ts ≡ pos 0 → coefficient_at x (t ∷ ts) ≡ t.coefficient +ℤ pos 0
unfolding value_by one
own-term x t ts e f =
    ap (λ (b : Bool). t.coefficient *ℤ cond b (pos 1) (pos 0) +ℤ coefficient_at x ts) (eq-eqb t.monomial x e)
    ∙ ap (λ (z : ℤ). z +ℤ coefficient_at x ts) (*ℤ-one t.coefficient) ∙ ap (λ (z : ℤ). t.coefficient +ℤ z) f

plus_none : (z : ℤ) → z +ℤ pos 0 ≡ z
plus_none z = +ℤ_idr z

none_left : (x : ℕ) → coefficient_at x [] ≡ pos 0
unfolding value_by
none_left x = refl

module _ (cs : List ℤ) (ms : List ℕ) (x : ℕ) where
  skip-head : (i to : ℕ) → i < to → (get_or ms i 0 ≡ x → ⊥) → coefficient_at x (terms_of cs ms i to) ≡ coefficient_at x (terms_of cs ms (i + 1) to)
  skip-head i to h f = ap (coefficient_at x) (terms-cons cs ms i to h) ∙ other-term x (term_at cs ms i) (terms_of cs ms (i + 1) to) f

  -- above the first monomial
  absent : (n i to : ℕ) → to - i ≡ n → ((j : ℕ) → i ≤ j → j + 1 < to → get_or ms (j + 1) 0 < get_or ms j 0) → (i < to → get_or ms i 0 < x)
      → coefficient_at x (terms_of cs ms i to) ≡ pos 0
  absent zero i to e f h = ap (coefficient_at x) (terms-nil cs ms i to (omega arith)) ∙ none_left x
  absent (suc n) i to e f h =
      let l : i < to = omega arith in
      let head = h l in
      skip-head i to l (λ d. omega (arith, d, head))
      ∙ absent n (i + 1) to (omega arith) (λ j a b. f j (omega arith) b) (λ m. let next = f i (omega arith) m in omega (arith, next, head))

  -- at it
  at_head : (i to : ℕ) → i < to → ((j : ℕ) → i ≤ j → j + 1 < to → get_or ms (j + 1) 0 < get_or ms j 0) → get_or ms i 0 ≡ x
      → coefficient_at x (terms_of cs ms i to) ≡ get_or cs i (pos 0)
  at_head i to l f e =
      ap (coefficient_at x) (terms-cons cs ms i to l)
      ∙ own-term x (term_at cs ms i) (terms_of cs ms (i + 1) to) e
      (absent (to - (i + 1)) (i + 1) to refl (λ j a b. f j (omega arith) b) (λ m. let next = f i (omega arith) m in omega (arith, next, e)))
      ∙ plus_none (get_or cs i (pos 0))

-- ---- one run

-- its terms from i on are below the bound, and have all of it that is
pub record RunLeft (cs : List ℤ) (ms : List ℕ) (from to i bound : ℕ) : Type 0 where
  pub on : from ≤ i
  pub within : i ≤ to
  pub head : i < to → get_or ms i 0 < bound
  pub kept : (x : ℕ) → x < bound → coefficient_at x (terms_of cs ms from to) ≡ coefficient_at x (terms_of cs ms i to)

apart : {x y : ℕ} → x ≤ y → (x ≡ y → ⊥) → x < y
apart {x} {y} a d = by (ltb x y) refl
  where
    by : (q : Bool) → ltb x y ≡ q → x < y
    by true e = ltb-true x y e
    by false e = absurd (d (omega (arith, a, ltb-false x y e)))

module _ {cs : List ℤ} {ms : List ℕ} {from to i bound : ℕ} (f : Falls ms from to) (h : RunLeft cs ms from to i bound) where
  falls-on : (j : ℕ) → i ≤ j → j + 1 < to → get_or ms (j + 1) 0 < get_or ms j 0
  falls-on j a m = f.each j (omega (arith, h.on, a)) m

  run_past : {top : ℕ} → top < bound → i < to → get_or ms i 0 ≡ top → RunLeft cs ms from to (i + 1) top
  run_past b m e = record {
    on = omega (arith, h.on);
    within = omega (arith, m);
    head = λ n. let next = falls-on i (omega arith) n in omega (arith, next, e);
    kept = λ x d. h.kept x (omega (arith, d, b)) ∙ skip-head cs ms x i to m (λ g. omega (arith, g, d, e));
  }

  run-stays : {top : ℕ} → (i < to → get_or ms i 0 ≤ top) → top < bound → (i < to → get_or ms i 0 ≡ top → ⊥) → RunLeft cs ms from to i top
  run-stays l b lacks = record {
    on = h.on;
    within = h.within;
    head = λ m. apart (l m) (lacks m);
    kept = λ x d. h.kept x (omega (arith, d, b));
  }

module _ {cs : List ℤ} {ms : List ℕ} {ss : List SignSet} {from to i bound top : ℕ} (f : Falls ms from to) (h : RunLeft cs ms from to i bound)
    (l : i < to → get_or ms i 0 ≤ top) (b : top < bound) {r : Share} where
  pub share-is : TakenAt cs ms ss i to top r → coefficient_at top (terms_of cs ms from to) ≡ r.c
  share-is (own m e c s n) = h.kept top b ∙ at_head cs ms top i to m (falls-on f h) e ∙ sym c
  share-is (other lacks c s n) =
      h.kept top b ∙ absent cs ms top (to - i) i to refl (falls-on f h) (λ m. apart (l m) (lacks m)) ∙ sym c

  pub run_on : TakenAt cs ms ss i to top r → RunLeft cs ms from to r.i top
  run_on (own m e c s n) = subst (λ (k : ℕ). RunLeft cs ms from to k top) (sym n) (run_past f h b m e)
  run_on (other lacks c s n) = subst (λ (k : ℕ). RunLeft cs ms from to k top) (sym n) (run-stays f h l b lacks)

  pub share-sign : {board : Board} → Signed board ms ss from to → TakenAt cs ms ss i to top r → PartOf r.s (monomial_sign board top)
  share-sign {board} g (own m e c s n) =
      let same : r.s ≡ monomial_sign board top = s ∙ g.at i h.on m ∙ ap (monomial_sign board) e in
      subst (λ (t : SignSet). PartOf t (monomial_sign board top)) (sym same) (part-refl (monomial_sign board top))
  share-sign {board} g (other lacks c s n) =
      subst (λ (t : SignSet). PartOf t (monomial_sign board top)) (sym s) (record { each = λ z k. in-empty k })

-- ---- the monomials so far fall

pub record FallsTo (ms : List ℕ) (from to i : ℕ) : Type 0 where
  pub each : (j : ℕ) → from ≤ j → j < i → j + 1 < to → get_or ms (j + 1) 0 < get_or ms j 0

pub falls-end : {ms : List ℕ} {from to i : ℕ} → FallsTo ms from to i → to ≤ i → Falls ms from to
falls-end h l = record { each = λ j a d. h.each j a (omega (arith, d, l)) d }

-- ---- the walk

pub record Merged (cs : List ℤ) (ms : List ℕ) (ss : List SignSet) (x : Pair) (i j k : ℕ) : Type 0 where
  pub bound : ℕ
  pub p : RunLeft cs ms x.p.from x.p.to i bound
  pub q1 : RunLeft cs ms x.q1.from x.q1.to j bound
  pub q2 : RunLeft cs ms x.q2.from x.q2.to k bound

pub merge-begun : {cs : List ℤ} {ms : List ℕ} {ss : List SignSet} {x : Pair} → PlacesOf cs ms ss x
    → Merged cs ms ss x x.p.from x.q1.from x.q2.from
merge-begun {ms = ms} {x = x} h =
    let a = get_or ms x.p.from 0 in
    let b = get_or ms x.q1.from 0 in
    let c = get_or ms x.q2.from 0 in
    record {
      bound = suc (a + b + c);
      p = record { on = omega arith; within = h.p.ordered; head = λ l. omega arith; kept = λ y l. refl };
      q1 = record { on = omega arith; within = h.q1.ordered; head = λ l. omega arith; kept = λ y l. refl };
      q2 = record { on = omega arith; within = h.q2.ordered; head = λ l. omega arith; kept = λ y l. refl };
    }

module _ {cs : List ℤ} {ms : List ℕ} {ss : List SignSet} {x : Pair} {i j k : ℕ} {r : Row} (f : FallsOf ms x) (h : Merged cs ms ss x i j k)
    (t : NextRow cs ms ss x i j k r) where
  lower : t.top < h.bound
  lower = t.below h.bound h.p.head h.q1.head h.q2.head

  pub merge_on : Merged cs ms ss x r.i r.j r.k
  merge_on = record {
    bound = t.top;
    p = run_on f.p h.p t.above1 lower t.p;
    q1 = run_on f.q1 h.q1 t.above2 lower t.q1;
    q2 = run_on f.q2 h.q2 t.above3 lower t.q2;
  }

  pub merged-row : RowOf cs ms ss x r.a r.b r.c r.s
  merged-row = record {
    monomial = t.top;
    p = share-is f.p h.p t.above1 lower t.p;
    q1 = share-is f.q1 h.q1 t.above2 lower t.q1;
    q2 = share-is f.q2 h.q2 t.above3 lower t.q2;
    sign = λ {board} signed. by board signed t.sign;
  }
    where
      by : (board : Board) → SignedOn board ms ss x → OneOf t.s1 t.s2 t.s3 r.s → PartOf r.s (monomial_sign board t.top)
      by board g (first e) = subst (λ (s : SignSet). PartOf s (monomial_sign board t.top)) (sym e)
          (share-sign f.p h.p t.above1 lower g.p t.p)
      by board g (second e) = subst (λ (s : SignSet). PartOf s (monomial_sign board t.top)) (sym e)
          (share-sign f.q1 h.q1 t.above2 lower g.q1 t.q1)
      by board g (third e) = subst (λ (s : SignSet). PartOf s (monomial_sign board t.top)) (sym e)
          (share-sign f.q2 h.q2 t.above3 lower g.q2 t.q2)

-- ---- one row more is stored

module _ {cs : List ℤ} {ms : List ℕ} {ss : List SignSet} {x : Pair} where
  rows-equal : {a b c d e f : ℤ} {s t : SignSet} → a ≡ d → b ≡ e → c ≡ f → s ≡ t → RowOf cs ms ss x d e f t → RowOf cs ms ss x a b c s
  rows-equal e1 e2 e3 e4 h = rw (e1, e2, e3, e4) h

  pub more_rows : (a b c : List ℤ) (s : List SignSet) (n : ℕ) {u v w : ℤ} {z : SignSet} → n < length a → n < length b → n < length c → n < length s
      → RowOf cs ms ss x u v w z → ((i : ℕ) → i < n → RowAt cs ms ss x (rows a b c s) i)
      → (i : ℕ) → i < n + 1 → RowAt cs ms ss x (rows (set a n u) (set b n v) (set c n w) (set s n z)) i
  more_rows a b c s n {u} {v} {w} {z} la lb lc ls h so_far =
      below_more (λ (i : ℕ). RowAt cs ms ss x (rows (set a n u) (set b n v) (set c n w) (set s n z)) i) n
      (λ i l. rows-equal (get_or-set_other a n i u (pos 0) (λ e. omega (arith, e, l))) (get_or-set_other b n i v (pos 0) (λ e. omega (arith, e, l)))
      (get_or-set_other c n i w (pos 0) (λ e. omega (arith, e, l))) (get_or-set_other s n i z 0 (λ e. omega (arith, e, l))) (so_far i l))
      (rows-equal (get_or-set_same a n u (pos 0) la) (get_or-set_same b n v (pos 0) lb) (get_or-set_same c n w (pos 0) lc) (get_or-set_same s n z 0 ls) h)

-- ---- the greatest head

module _ {ms : List ℕ} {i m j n k o a b c d top : ℕ} (h : HeadOf ms i (m) a) (h1 : HeadOf ms j (n) b) (h2 : HeadOf ms k (o) c)
    (f : Larger a b d) (g : Larger d c top) where
  pub top-above1 : i < m → get_or ms i 0 ≤ top
  top-above1 l = omega (arith, sym (h.there l), f.first, g.first)

  pub top-above2 : j < n → get_or ms j 0 ≤ top
  top-above2 l = omega (arith, sym (h1.there l), f.second, g.first)

  pub top-above3 : k < o → get_or ms k 0 ≤ top
  top-above3 l = omega (arith, sym (h2.there l), g.second)

  pub top_below : i + j + k < m + n + o → (y : ℕ) → (i < m → get_or ms i 0 < y) → (j < n → get_or ms j 0 < y)
      → (k < o → get_or ms k 0 < y) → top < y
  top_below l y p q1 q2 = by (ltb 0 y) refl
    where
      head-below : {q to r : ℕ} → HeadOf ms q to r → 0 < y → (q < to → get_or ms q 0 < y) → r < y
      head-below {q} {to} {r} hq z w = go (ltb q to) refl
        where
          go : (t : Bool) → ltb q to ≡ t → r < y
          go true e = let n' = ltb-true q to e in let w' = w n' in omega (arith, hq.there n', w')
          go false e = omega (arith, hq.none (ltb-false q to e), z)

      ended : {q to : ℕ} → y ≤ 0 → (q < to → get_or ms q 0 < y) → to ≤ q
      ended {q} {to} z w = go (ltb q to) refl
        where
          go : (t : Bool) → ltb q to ≡ t → to ≤ q
          go true e = let w' = w (ltb-true q to e) in absurd (omega (arith, w', z))
          go false e = ltb-false q to e

      by : (t : Bool) → ltb 0 y ≡ t → top < y
      by true e = let z = ltb-true 0 y e in g.below y (f.below y (head-below h z p) (head-below h1 z q1)) (head-below h2 z q2)
      by false e = let z = ltb-false 0 y e in absurd (omega (arith, l, ended z p, ended z q1, ended z q2))
