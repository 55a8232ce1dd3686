-- Step 1 for both rules, over the polarity: what is left of a node's parts on the tape, and what a turn of the loop does to it.
-- b is true for the AND rule and false for the OR rule.
use mathlib.Core.Path.{◌≡◌, refl, sym, ◌∙◌, ap, ap₂}
use mathlib.Core.Bool.{Bool, true, false, not}
use mathlib.Core.List.{List, [], ◌∷◌, ◌++◌, append_assoc, append-nil}
use Prim.Native.Nat.{ℕ, zero, suc, ◌+◌, ◌-◌, ◌<◌, ◌≤◌, max}
use native.Mathlib.Nat.{add-zero}
use native.Mathlib.Omega.{arith}
use lib.ListN.{length, drop, get_or, length-append, length-drop}
use lib.Seq.{get_or-drop, drop-drop, drop_at}
use Rattle.rules.specs.Formula.{atom, or}
use Rattle.rules.specs.Level.{Placed, Formula, dual, atoms_of, ors_of, Entry, fails, joins, stays, enter, Walk, falls, still, moved, add, gather, after_gather, and_rule, or_rule}
use Rattle.rules.specs.Count.{unless_fails, gather_count, gathered_count, rule_count}
use Rattle.table.specs.Table.{Table}
use Rattle.tape.specs.declared.rows.Row.{Row}
use Rattle.tape.specs.declared.walks.Level.{Level}
use Rattle.tape.specs.declared.walks.Walked.{Walked}
use Rattle.level.specs.declared.nesting.Found.{Found}
use Rattle.tape.specs.Row.{Lists}
use Rattle.tape.specs.Token.{atom_of, atoms_in}
use Rattle.tape.specs.Walked.{walk_of, Shows, Stands, afterwards, Goes, room, size_of}
use Rattle.level.specs.Settled.{Gathered, FinishIs}
use Rattle.level.specs.Source.{Forest, nothing, leaf, branch, count, size, flat, taken, seen, Shaped, Holds, Stood, Done}
use Rattle.tape.specs.Entering.{map-append, complemented-twice}
use Rattle.tape.specs.Further.{further, further-start, further-end, further-child}

-- ---- the tape

-- the token at a place, and what comes after it
pub token-at : (token : List ℕ) (place x : ℕ) (l : List ℕ) → drop place token ≡ x ∷ l → (get_or token place 0 ≡ x) × (place < length token)
token-at token place x l e =
    (sym (rw (add-zero place) at (get_or-drop place token 0 0)) ∙ ap (λ (m : List ℕ). get_or m 0 0) e, omega (arith, ap length e, length-drop place token))

pub token-past : (token : List ℕ) (place x : ℕ) (l : List ℕ) → drop place token ≡ x ∷ l → drop (place + 1) token ≡ l
token-past token place x l e = sym (drop-drop 1 place token) ∙ ap (drop 1) e

pub flat-length : (f : Forest) → length (flat f) ≡ size f
flat-length nothing = refl
flat-length (leaf x f) = ap suc (flat-length f)
flat-length (branch kids f) = omega (arith, length-append (flat kids) (flat f), flat-length kids, flat-length f)

pub count-size : (f : Forest) → count f ≤ size f
count-size nothing = omega arith
count-size (leaf x f) = omega (arith, count-size f)
count-size (branch kids f) = omega (arith, count-size f)

-- ---- what the book gathers from a node's parts

seen_twice : (t : Table) (b : Bool) (f : Forest) → dual (dual (seen t b f)) ≡ seen t b f
unfolding seen dual
seen_twice t b nothing = refl
seen_twice t b (leaf x f) = ap₂ atom (complemented-twice t (taken b x)) (seen_twice t b f)
seen_twice t b (branch kids f) = ap₂ or (ap dual (seen_twice t (not b) kids)) (seen_twice t b f)

-- the walk over the OR children, with d nestings left
unfoldable found : Table → Bool → ℕ → Forest → Walk
found t b d f = gather (or_rule t.variables (d - 1)) (ors_of (seen t b f))

found_none : (t : Table) (b : Bool) (d : ℕ) → found t b d nothing ≡ still []
unfolding found gather ors_of seen
found_none t b d = refl

found-leaf : (t : Table) (b : Bool) (d x : ℕ) (f : Forest) → found t b d (leaf x f) ≡ found t b d f
unfolding found gather ors_of seen
found-leaf t b d x f = refl

found-branch : (t : Table) (b : Bool) (d : ℕ) (kids f : Forest)
    → found t b d (branch kids f) ≡ add (enter (dual (and_rule t.variables (d - 1) (seen t (not b) kids)))) (found t b d f)
unfolding found gather ors_of seen or_rule
found-branch t b d kids f = rw (seen_twice t (not b) kids)

-- what their runs count
unfoldable found_count : Table → Bool → ℕ → Forest → ℕ
found_count t b d f = gather_count (λ (child : Formula). rule_count t.variables (d - 1) (dual child)) (or_rule t.variables (d - 1)) (ors_of (seen t b f))

count_none : (t : Table) (b : Bool) (d : ℕ) → found_count t b d nothing ≡ 0
unfolding found_count gather_count ors_of seen
count_none t b d = refl

count-leaf : (t : Table) (b : Bool) (d x : ℕ) (f : Forest) → found_count t b d (leaf x f) ≡ found_count t b d f
unfolding found_count gather_count ors_of seen
count-leaf t b d x f = refl

count-branch : (t : Table) (b : Bool) (d : ℕ) (kids f : Forest)
    → found_count t b d (branch kids f)
    ≡ max (rule_count t.variables (d - 1) (seen t (not b) kids)) (unless_fails (enter (dual (and_rule t.variables (d - 1) (seen t (not b) kids)))) (found_count t b d f))
unfolding found_count gather_count ors_of seen or_rule
count-branch t b d kids f = rw (seen_twice t (not b) kids)

-- a walk that has fallen counts nothing more
unfoldable unless_fallen : Walk → ℕ → ℕ
unless_fallen falls k = 0
unless_fallen (still ors) k = k
unless_fallen (moved new ors) k = k

-- the direct atoms
unfoldable direct : Table → Bool → Forest → List Placed
direct t b f = atoms_of (seen t b f)

direct-none : (t : Table) (b : Bool) → direct t b nothing ≡ []
unfolding direct atoms_of seen
direct-none t b = refl

direct-leaf : (t : Table) (b : Bool) (x : ℕ) (f : Forest) → direct t b (leaf x f) ≡ atom_of t (taken b x) ∷ direct t b f
unfolding direct atoms_of seen
direct-leaf t b x f = refl

direct-branch : (t : Table) (b : Bool) (kids f : Forest) → direct t b (branch kids f) ≡ direct t b f
unfolding direct atoms_of seen
direct-branch t b kids f = refl

rule-is : (t : Table) (b : Bool) (d : ℕ) (f : Forest) → 0 < d → after_gather t.variables (direct t b f) (found t b d f) ≡ and_rule t.variables d (seen t b f)
unfolding direct found and_rule or_rule
rule-is t b zero f h = absurd (omega arith)
rule-is t b (suc d) f h = let e : suc d - 1 ≡ d = omega arith in rw e

count_is : (t : Table) (b : Bool) (d : ℕ) (f : Forest) → 0 < d
    → max (found_count t b d f) (gathered_count t.variables (direct t b f) (found t b d f)) ≡ rule_count t.variables d (seen t b f)
unfolding direct found found_count rule_count
count_is t b zero f h = absurd (omega arith)
count_is t b (suc d) f h = let e : suc d - 1 ≡ d = omega arith in rw e

-- ---- the loop over the parts: what the rows hold and what is left give all

record Left (t : Table) (token : List ℕ) (b : Bool) (at d : ℕ) (kids : Forest) (rest : List ℕ) (largest : ℕ) (atoms : Row) (w : Walked) (rounds place i : ℕ) (more : Forest) : Type 0 where
  ahead : drop place token ≡ flat more ++ rest
  shape : Shaped d more
  passed : i + count more ≡ count kids
  next : place + size more ≡ at + suc (size kids)
  list : List ℕ
  lists : Lists atoms list
  direct_are : atoms_in t list ++ direct t b more ≡ direct t b kids
  walk : Walk
  stands : Stands t w walk
  is : further walk (found t b d more) ≡ found t b d kids
  counts : max rounds (unless_fallen walk (found_count t b d more)) ≡ max largest (found_count t b d kids)
  fits : atoms.count + room w + size more ≤ size kids

pub record Going (t : Table) (token : List ℕ) (b : Bool) (at d : ℕ) (kids : Forest) (rest : List ℕ) (largest : ℕ) (atoms : Row) (w : Walked) (rounds place i : ℕ) : Type 0 where
  more : Forest
  left : Left t token b at d kids rest largest atoms w rounds place i more

-- a walk that has fallen stays so
fallen-stays : {t : Table} {w : Walked} {walk : Walk} → Stands t w walk → w.falls ≡ true → (entry : Entry) → Stands t w (afterwards walk entry)
unfolding walk_of afterwards
fallen-stays s e entry =
    let x = rw e at s.is in
    record { new = s.new; children = s.children; lists = s.lists; lies = s.lies; is = rw (e, sym x); quiet = s.quiet }

fallen-counts : {t : Table} {w : Walked} {walk : Walk} → Stands t w walk → w.falls ≡ true → (entry : Entry) (k j : ℕ)
    → unless_fallen (afterwards walk entry) k ≡ unless_fallen walk j
unfolding walk_of afterwards unless_fallen
fallen-counts s e entry k j = let x = rw e at s.is in rw (sym x)

-- and one that has not goes on, unless the next child fails
on-walk : (m : Bool) (new : List Placed) (ors : List Formula) (entry : Entry) (k j : ℕ)
    → (unless_fallen (afterwards (walk_of false m new ors) entry) k ≡ unless_fails entry k) × (unless_fallen (walk_of false m new ors) j ≡ j)
unfolding walk_of afterwards unless_fallen unless_fails
on-walk true new ors fails k j = (refl, refl)
on-walk true new ors (joins l more) k j = (refl, refl)
on-walk true new ors (stays child) k j = (refl, refl)
on-walk false new ors fails k j = (refl, refl)
on-walk false new ors (joins l more) k j = (refl, refl)
on-walk false new ors (stays child) k j = (refl, refl)

on-counts : {t : Table} {w : Walked} {walk : Walk} → Stands t w walk → w.falls ≡ false → (entry : Entry) (k j : ℕ)
    → (unless_fallen (afterwards walk entry) k ≡ unless_fails entry k) × (unless_fallen walk j ≡ j)
on-counts {w} s e entry k j = let x = rw e at s.is in rw (sym x) (on-walk w.moved _ _ entry k j)

fallen-none : (walk : Walk) → unless_fallen walk 0 ≡ 0
unfolding unless_fallen
fallen-none falls = refl
fallen-none (still ors) = refl
fallen-none (moved new ors) = refl

-- a level of at most k tokens, or of one, has at most m
pub one-or-few : (n k m : ℕ) → (1 < n → n ≤ k) → k ≤ m → 1 ≤ m → n ≤ m
one-or-few zero k m h i j = omega arith
one-or-few (suc zero) k m h i j = omega arith
one-or-few (suc (suc n)) k m h i j = omega (arith, h (omega arith))

module _ {token : List ℕ} {at d : ℕ} {kids : Forest} {rest : List ℕ} (h : Holds token at d kids rest) where
  first : (get_or token at 0 ≡ 16777216 + count kids) × (at < length token)
  first = token-at token at (16777216 + count kids) (flat kids ++ rest) h.here

  go-start : (t : Table) (b : Bool) (largest : ℕ) (atoms : Row) (w : Walked) → atoms.count ≡ 0 → Lists atoms [] → room w ≡ 0 → Stands t w (still [])
      → Going t token b at d kids rest largest atoms w largest (at + 1) 0
  unfolding unless_fallen
  go-start t b largest atoms w x y z s = record {
    more = kids;
    left = record {
      ahead = token-past token at _ _ h.here;
      shape = h.shape;
      passed = omega arith;
      next = omega arith;
      list = [];
      lists = y;
      direct_are = refl;
      walk = still [];
      stands = s;
      is = further-start _;
      counts = refl;
      fits = omega arith;
    };
  }

  module _ {t : Table} {b : Bool} {largest : ℕ} {atoms : Row} {w : Walked} {rounds place i : ℕ} where
    go-small : Going t token b at d kids rest largest atoms w rounds place i → atoms.count + room w ≤ 254
    go-small g = omega (arith, g.left.fits, h.few)

    go-gathered : Going t token b at d kids rest largest atoms w rounds place i → Gathered atoms w
    go-gathered g = record { table = t; list = g.left.list; walk = g.left.walk; lists = g.left.lists; stands = g.left.stands; fits = omega (arith, g.left.fits, h.few) }

    end-in : (more : Forest) → Left t token b at d kids rest largest atoms w rounds place i more → count kids ≤ i → (r : Level) (taken : ℕ)
        → ((l : List ℕ) (walk : Walk) → Lists atoms l → Stands t w walk → FinishIs t l walk (atoms.count + room w) rounds r taken)
        → Done t b at d kids largest (record { at = place; level = r; rounds = taken })
    end-in nothing g e r taken f =
        let x : atoms_in t g.list ≡ direct t b kids = sym (append-nil _) ∙ rw (direct-none t b) at g.direct_are in
        let y : g.walk ≡ found t b d kids = sym (further-end g.walk) ∙ (rw (found_none t b d) at g.is) in
        let q = f g.list g.walk g.lists g.stands in
        let so_far = rw (count_none t b d, fallen-none g.walk) at g.counts in
        record {
          next = omega (arith, g.next);
          shows = rw (sym (rule-is t b d kids h.deep), sym x, sym y) q.shows;
          counts = omega (arith, so_far, count_is t b d kids h.deep, rw (x, y) at q.counts);
          small = λ k. omega (arith, q.small k, g.fits);
        }
    end-in (leaf x f) g e r taken k = absurd (omega (arith, g.passed))
    end-in (branch c f) g e r taken k = absurd (omega (arith, g.passed))

    go-end : Going t token b at d kids rest largest atoms w rounds place i → count kids ≤ i → (r : Level) (taken : ℕ)
        → ((l : List ℕ) (walk : Walk) → Lists atoms l → Stands t w walk → FinishIs t l walk (atoms.count + room w) rounds r taken)
        → Done t b at d kids largest (record { at = place; level = r; rounds = taken })
    go-end g e r taken f = end-in g.more g.left e r taken f

    module _ (k : i < count kids) where
      inside-in : (more : Forest) → Left t token b at d kids rest largest atoms w rounds place i more → place < length token
      inside-in nothing g = absurd (omega (arith, g.passed))
      inside-in (leaf x f) g = (token-at token place _ _ g.ahead).1
      inside-in (branch c f) g = (token-at token place _ _ g.ahead).1

      go-inside : Going t token b at d kids rest largest atoms w rounds place i → place < length token
      go-inside g = inside-in g.more g.left

      -- an atom
      leaf-in : (more : Forest) → Left t token b at d kids rest largest atoms w rounds place i more → get_or token place 0 < 16777216 → (longer : Row) → longer.count ≡ atoms.count + 1
          → ((l : List ℕ) → Lists atoms l → Lists longer (l ++ (taken b (get_or token place 0) ∷ []))) → Going t token b at d kids rest largest longer w rounds (place + 1) (i + 1)
      unfolding Shaped
      leaf-in nothing g a longer x y = absurd (omega (arith, g.passed))
      leaf-in (leaf p f) g a longer x y = record {
        more = f;
        left = record {
          ahead = token-past token place _ _ g.ahead;
          shape = g.shape.1;
          passed = omega (arith, g.passed);
          next = omega (arith, g.next);
          list = g.list ++ (taken b p ∷ []);
          lists = rw (token-at token place _ _ g.ahead).0 at (y g.list g.lists);
          direct_are =
              ap (λ (z : List Placed). z ++ direct t b f) (map-append (atom_of t) g.list (taken b p ∷ []))
              ∙ append_assoc (atoms_in t g.list) (atom_of t (taken b p) ∷ []) (direct t b f)
              ∙ ap (λ (z : List Placed). atoms_in t g.list ++ z) (sym (direct-leaf t b p f)) ∙ g.direct_are;
          walk = g.walk;
          stands = g.stands;
          is = ap (further g.walk) (sym (found-leaf t b d p f)) ∙ g.is;
          counts = ap (λ (k : ℕ). max rounds (unless_fallen g.walk k)) (sym (count-leaf t b d p f)) ∙ g.counts;
          fits = omega (arith, g.fits);
        };
      }
      leaf-in (branch c f) g a longer x y = absurd (omega (arith, (token-at token place _ _ g.ahead).0))

      go-leaf : Going t token b at d kids rest largest atoms w rounds place i → get_or token place 0 < 16777216 → (longer : Row) → longer.count ≡ atoms.count + 1
          → ((l : List ℕ) → Lists atoms l → Lists longer (l ++ (taken b (get_or token place 0) ∷ []))) → Going t token b at d kids rest largest longer w rounds (place + 1) (i + 1)
      go-leaf g a longer x y = leaf-in g.more g.left a longer x y

      -- a node, which stands on the tape for the other rule
      under : (c f : Forest) → Left t token b at d kids rest largest atoms w rounds place i (branch c f) → Holds token place (d - 1) c (flat f ++ rest)
      unfolding Shaped
      under c f g = record {
        here = g.ahead ∙ ap (λ (l : List ℕ). (16777216 + count c) ∷ l) (append_assoc (flat c) (flat f) rest);
        deep = omega (arith, g.shape.0);
        shape = g.shape.1.0;
        few = omega (arith, g.fits, h.few);
      }

      ready-in : (more : Forest) → Left t token b at d kids rest largest atoms w rounds place i more → 16777216 ≤ get_or token place 0 → (1 < d) × Stood token place (d - 1)
      unfolding Shaped
      ready-in nothing g a = absurd (omega (arith, g.passed))
      ready-in (leaf p f) g a = absurd (omega (arith, (token-at token place _ _ g.ahead).0, g.shape.0))
      ready-in (branch c f) g a = (g.shape.0, (c, (flat f ++ rest, under c f g)))

      go-ready : Going t token b at d kids rest largest atoms w rounds place i → 16777216 ≤ get_or token place 0 → (1 < d) × Stood token place (d - 1)
      go-ready g a = ready-in g.more g.left a

      -- past the node, whatever has become of it
      past : (c f : Forest) (g : Left t token b at d kids rest largest atoms w rounds place i (branch c f)) (after : Walked) (counted q : ℕ) → q ≡ place + suc (size c)
          → max counted (unless_fallen (afterwards g.walk (enter (dual (and_rule t.variables (d - 1) (seen t (not b) c))))) (found_count t b d f))
          ≡ max rounds (unless_fallen g.walk (found_count t b d (branch c f))) → Stands t after (afterwards g.walk (enter (dual (and_rule t.variables (d - 1) (seen t (not b) c))))) → room after ≤ room w + (size c + 1)
          → Going t token b at d kids rest largest atoms after counted q (i + 1)
      unfolding Shaped
      past c f g after counted q e goes s r = record {
        more = f;
        left = record {
          ahead =
              rw e
              (sym (drop-drop (suc (size c)) place token) ∙ ap (drop (suc (size c))) (under c f g).here
              ∙ drop_at ((16777216 + count c) ∷ flat c) (flat f ++ rest) (suc (size c)) (ap suc (flat-length c)));
          shape = g.shape.1.1;
          passed = omega (arith, g.passed);
          next = omega (arith, g.next, e);
          list = g.list;
          lists = g.lists;
          direct_are = ap (λ (l : List Placed). atoms_in t g.list ++ l) (sym (direct-branch t b c f)) ∙ g.direct_are;
          walk = afterwards g.walk (enter (dual (and_rule t.variables (d - 1) (seen t (not b) c))));
          stands = s;
          is = further-child g.walk _ _ ∙ ap (further g.walk) (sym (found-branch t b d c f)) ∙ g.is;
          counts = goes ∙ g.counts;
          fits = omega (arith, r, g.fits);
        };
      }

      -- what the other rule gives, and what the walk makes of it
      node_in : (more : Forest) → Left t token b at d kids rest largest atoms w rounds place i more → 16777216 ≤ get_or token place 0 → w.falls ≡ false → (r : Found)
          → ((c : Forest) (rest' : List ℕ) → Holds token place (d - 1) c rest' → Done t (not b) place (d - 1) c rounds r)
          → (w.new.count + w.ors.count + r.level.atoms.count + r.level.ors.count + 1 ≤ 256)
          × ((after : Walked) → ((walk : Walk) (c : Formula) → Stands t w walk → Shows t r.level c → Goes t w walk (size_of r.level) after (enter (dual c)))
          → Going t token b at d kids rest largest atoms after r.rounds r.at (i + 1))
      unfolding Shaped
      node_in nothing g a z r u = absurd (omega (arith, g.passed))
      node_in (leaf p f) g a z r u = absurd (omega (arith, (token-at token place _ _ g.ahead).0, g.shape.0))
      node_in (branch c f) g a z r u =
          let e = u c (flat f ++ rest) (under c f g) in
          let more = found_count t b d f in
          let child = count-branch t b d c f in
          let (after_is, before-is) = on-counts g.stands z (enter (dual (and_rule t.variables (d - 1) (seen t (not b) c)))) more (found_count t b d (branch c f)) in (
            omega (arith, one-or-few (size_of r.level) (size c) (size c + 1) e.small (omega arith) (omega arith), g.fits, h.few),
            λ after x.
                let y = x g.walk _ g.stands e.shows in
                past c f g after r.rounds r.at e.next (omega (arith, e.counts, child, after_is, before-is)) y.stands (y.fits (size c) e.small),
          )

      go-node : Going t token b at d kids rest largest atoms w rounds place i → 16777216 ≤ get_or token place 0 → w.falls ≡ false → (r : Found)
          → ((c : Forest) (rest' : List ℕ) → Holds token place (d - 1) c rest' → Done t (not b) place (d - 1) c rounds r)
          → (w.new.count + w.ors.count + r.level.atoms.count + r.level.ors.count + 1 ≤ 256)
          × ((after : Walked) → ((walk : Walk) (c : Formula) → Stands t w walk → Shows t r.level c → Goes t w walk (size_of r.level) after (enter (dual c)))
          → Going t token b at d kids rest largest atoms after r.rounds r.at (i + 1))
      go-node g a z r u = node_in g.more g.left a z r u

      skip-in : (more : Forest) → Left t token b at d kids rest largest atoms w rounds place i more → 16777216 ≤ get_or token place 0 → w.falls ≡ true → (q : ℕ)
          → ((d' : ℕ) (c : Forest) (rest' : List ℕ) → Holds token place d' c rest' → q ≡ place + suc (size c)) → Going t token b at d kids rest largest atoms w rounds q (i + 1)
      unfolding Shaped
      skip-in nothing g a z q u = absurd (omega (arith, g.passed))
      skip-in (leaf p f) g a z q u = absurd (omega (arith, (token-at token place _ _ g.ahead).0, g.shape.0))
      skip-in (branch c f) g a z q u =
          past c f g w rounds q (u (d - 1) c (flat f ++ rest) (under c f g)) (ap (max rounds) (fallen-counts g.stands z _ _ _)) (fallen-stays g.stands z _) (omega arith)

      go-skip : Going t token b at d kids rest largest atoms w rounds place i → 16777216 ≤ get_or token place 0 → w.falls ≡ true → (q : ℕ)
          → ((d' : ℕ) (c : Forest) (rest' : List ℕ) → Holds token place d' c rest' → q ≡ place + suc (size c)) → Going t token b at d kids rest largest atoms w rounds q (i + 1)
      go-skip g a z q u = skip-in g.more g.left a z q u

-- ---- the same for what the functions have: a node that is there, whichever it is

abbrev pub Runs : Table → List ℕ → Bool → ℕ → ℕ → ℕ → Row → Walked → ℕ → ℕ → ℕ → Type 0
Runs t token b at d largest atoms w rounds place i = (kids : Forest) (rest : List ℕ) → Holds token at d kids rest → Going t token b at d kids rest largest atoms w rounds place i

pub stood-first : {token : List ℕ} {at d : ℕ} → Stood token at d → (at < length token) × (16777216 ≤ get_or token at 0)
stood-first s = ((first s.1.1).1, omega (arith, (first s.1.1).0))

pub runs-start : {t : Table} {token : List ℕ} {b : Bool} {at d largest : ℕ} {atoms : Row} {w : Walked} → atoms.count ≡ 0 → Lists atoms [] → room w ≡ 0 → Stands t w (still [])
    → Runs t token b at d largest atoms w largest (at + 1) 0
runs-start {t} {token} {b} {at} {d} {largest} {atoms} {w} x y z s kids rest h = go-start h t b largest atoms w x y z s

module _ {t : Table} {token : List ℕ} {b : Bool} {at d largest : ℕ} {atoms : Row} {w : Walked} {rounds place i : ℕ} (g : Runs t token b at d largest atoms w rounds place i) where
  pub runs-gathered : Stood token at d → Gathered atoms w
  runs-gathered (kids, (rest, h)) = go-gathered h (g kids rest h)

  pub runs-end : (k : ℕ) → k ≡ get_or token at 0 - 16777216 → k ≤ i → (r : Level) (taken : ℕ)
      → ((l : List ℕ) (walk : Walk) → Lists atoms l → Stands t w walk → FinishIs t l walk (atoms.count + room w) rounds r taken)
      → (kids : Forest) (rest : List ℕ) → Holds token at d kids rest → Done t b at d kids largest (record { at = place; level = r; rounds = taken })
  runs-end k e u r taken f kids rest h = go-end h (g kids rest h) (omega (arith, (first h).0)) r taken f

  module _ (k : ℕ) (e : k ≡ get_or token at 0 - 16777216) (u : i < k) where
    less : {kids : Forest} {rest : List ℕ} → Holds token at d kids rest → i < count kids
    less h = omega (arith, (first h).0)

    pub runs-inside : Stood token at d → (place < length token) × ((atoms.count < 256) × (i < 256))
    runs-inside (kids, (rest, h)) = (go-inside h (less h) (g kids rest h), (omega (arith, go-small h (g kids rest h)), omega (arith, less h, h.few, count-size kids)))

    pub runs-leaf : get_or token place 0 < 16777216 → (longer : Row) → longer.count ≡ atoms.count + 1
        → ((l : List ℕ) → Lists atoms l → Lists longer (l ++ (taken b (get_or token place 0) ∷ []))) → Runs t token b at d largest longer w rounds (place + 1) (i + 1)
    runs-leaf a longer x y kids rest h = go-leaf h (less h) (g kids rest h) a longer x y

    pub runs-ready : Stood token at d → 16777216 ≤ get_or token place 0 → (1 < d) × Stood token place (d - 1)
    runs-ready (kids, (rest, h)) a = go-ready h (less h) (g kids rest h) a

    pub runs_skip : 16777216 ≤ get_or token place 0 → w.falls ≡ true → (q : ℕ)
        → ((d' : ℕ) (c : Forest) (rest' : List ℕ) → Holds token place d' c rest' → q ≡ place + suc (size c)) → Runs t token b at d largest atoms w rounds q (i + 1)
    runs_skip a z q f kids rest h = go-skip h (less h) (g kids rest h) a z q f

    module _ (a : 16777216 ≤ get_or token place 0) (z : w.falls ≡ false) (r : Found)
        (f : (c : Forest) (rest' : List ℕ) → Holds token place (d - 1) c rest' → Done t (not b) place (d - 1) c rounds r) where
      pub runs-room : Stood token at d → w.new.count + w.ors.count + r.level.atoms.count + r.level.ors.count + 1 ≤ 256
      runs-room (kids, (rest, h)) = (go-node h (less h) (g kids rest h) a z r f).0

      pub runs-node : (after : Walked) → ((walk : Walk) (c : Formula) → Stands t w walk → Shows t r.level c → Goes t w walk (size_of r.level) after (enter (dual c)))
          → Runs t token b at d largest atoms after r.rounds r.at (i + 1)
      runs-node after x kids rest h = (go-node h (less h) (g kids rest h) a z r f).1 after x
