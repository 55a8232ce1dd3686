-- The working tape written out, from left to right: atoms, the marks of nodes, and the children one after the other.
use mathlib.Core.Path.{◌≡◌, refl, sym, ◌∙◌, ap}
use mathlib.Core.Bool.{Bool, false, not}
use mathlib.Core.List.{List, [], ◌∷◌, ◌++◌, map, append_assoc, append-nil}
use Prim.Native.Nat.{ℕ, suc, ◌+◌, ◌-◌, ◌*◌, ◌/◌, ◌%◌, ◌<◌, ◌≤◌}
use native.Mathlib.Nat.{add-zero}
use native.Mathlib.Numerals.{add-one}
use native.Mathlib.Omega.{arith}
use lib.ListN.{length, take, drop, get_or, set, length-append, length-drop}
use lib.Seq.{take-suc, get_or-drop, get_or-set_same, get_or-set_other}
use Rattle.tape.specs.declared.rows.Row.{Row}
use Rattle.tape.specs.Row.{Lists}
use Rattle.tape.specs.Tape.{Children, none, child, laid, ChildAt}
use Rattle.level.specs.Source.{Forest, count, flat}
use Rattle.level.specs.Written.{told, leaves, forest, how_many, Between, Heads, MarksIs}
use Rattle.tape.specs.Listing.{held_at}
use Rattle.tape.specs.Entering.{map-append, head_of}
use Rattle.tape.specs.Placed.{past-atoms, past-child, child-ends}

-- ---- atoms

-- one atom more is told
pub tell-turn : {row : Row} (b : Bool) (l m : List ℕ) (i v : ℕ) → v ≡ told b (get_or m i 0) → i < length m
    → Lists row ((l ++ map (told b) (take i m)) ++ (v ∷ [])) → Lists row (l ++ map (told b) (take (i + 1) m))
tell-turn b l m i v e k w =
    rw (add-one, take-suc m i 0 k, map-append (told b) (take i m) (get_or m i 0 ∷ []), sym e, sym (append_assoc l (map (told b) (take i m)) (v ∷ []))) w

pub flat-leaves : (b : Bool) (l : List ℕ) (f : Forest) → flat (leaves b l f) ≡ map (told b) l ++ flat f
flat-leaves b [] f = refl
flat-leaves b (x ∷ l) f = ap (λ (m : List ℕ). told b x ∷ m) (flat-leaves b l f)

pub count-leaves : (b : Bool) (l : List ℕ) (f : Forest) → count (leaves b l f) ≡ length l + count f
count-leaves b [] f = omega arith
count-leaves b (x ∷ l) f = omega (arith, count-leaves b l f)

pub count-forest : (b : Bool) (children : Children) → count (forest b children) ≡ how_many children
count-forest b none = refl
count-forest b (child l own later) = ap suc (count-forest b later)

-- ---- a child at a place of a row, and the first of the children between two places

child-length : (l : List ℕ) (own later : Children) → length (laid (child l own later)) ≡ 1 + (length l + length (laid own)) + length (laid later)
child-length l own later = omega (arith, length-append l (laid own ++ laid later), length-append (laid own) (laid later))

-- a child whose head tells a and e
pub record ChildHere (row : Row) (all rest : List ℕ) (place a e : ℕ) (l : List ℕ) (own later : Children) : Type 0 where
  pub at : ChildAt all place a e l own (laid later ++ rest)
  pub inner : Between row (place + 1 + a) (place + 1 + a + e) own

child-here : {row : Row} {all rest : List ℕ} {place : ℕ} {l : List ℕ} {own later : Children} (a e : ℕ) → a ≡ get_or row.token place 0 / 65536 → e ≡ get_or row.token place 0 % 65536
    → Lists row all → drop place all ≡ laid (child l own later) ++ rest → length (laid (child l own later)) ≤ 256 → ChildHere row all rest place a e l own later
child-here {row} {all} {rest} {place} {l} {own} {later} a e x y h d fit =
    let v : place < length all = omega (arith, length-drop place all, ap length d) in
    let first : get_or row.token place 0 ≡ length l * 65536 + length (laid own) =
    held_at h place v ∙ sym (rw (add-zero place) at (get_or-drop place all 0 0)) ∙ ap (λ (m : List ℕ). get_or m 0 0) d in
    let counts = head_of (get_or row.token place 0) l own first (omega (arith, child-length l own later, fit)) in
    let q : ChildAt all place a e l own (laid later ++ rest) = record {
      head = length l * 65536 + length (laid own);
      here =
          d ∙ ap (λ (m : List ℕ). (length l * 65536 + length (laid own)) ∷ m)
          (append_assoc l (laid own ++ laid later) rest ∙ ap (λ (m : List ℕ). l ++ m) (append_assoc (laid own) (laid later) rest));
      count = x ∙ counts.atoms;
      size = y ∙ counts.inner;
    } in
    record { at = q; inner = record { all = all; rest = laid later ++ rest; lists = h; here = past-atoms q; ends = omega (arith, q.size) } }

pub record Next (row : Row) (place to : ℕ) (children : Children) (a e : ℕ) : Type 0 where
  pub atoms : List ℕ
  pub own : Children
  pub later : Children
  pub is : children ≡ child atoms own later
  pub count : a ≡ length atoms
  pub size : e ≡ length (laid own)
  pub after : Between row (place + 1 + a + e) to later

pub next-child : {row : Row} {place to : ℕ} {children : Children} (a e : ℕ) → a ≡ get_or row.token place 0 / 65536 → e ≡ get_or row.token place 0 % 65536
    → Between row place to children → place < to → to ≤ 256 → Next row place to children a e
next-child {row} {place} {to} {children} a e x y q u fit = next-in children q.here q.ends
  where
    next-in : (children : Children) → drop place q.all ≡ laid children ++ q.rest → to ≡ place + length (laid children) → Next row place to children a e
    next-in none d z = absurd (omega arith)
    next-in (child l own later) d z =
        let c = child-here {l = l} {own = own} {later = later} a e x y q.lists d (omega arith) in
        record {
          atoms = l;
          own = own;
          later = later;
          is = refl;
          count = c.at.count;
          size = c.at.size;
          after = record {
            all = q.all;
            rest = q.rest;
            lists = q.lists;
            here = past-child c.at;
            ends = omega (arith, c.at.count, c.at.size, child-length l own later, z);
          };
        }

pub next-ends : {row : Row} {place to : ℕ} {children : Children} {a e : ℕ} → Next row place to children a e → place + 1 + a + e ≤ to
next-ends n = omega (arith, n.after.ends)

-- ---- marks

-- the children that are left to mark; those before hold their marks in every array that has what is marked so far
pub record Marking (row : Row) (from to : ℕ) (b : Bool) (marks : List Bool) (children : Children) (marked : List Bool) (counted place : ℕ) : Type 0 where
  pub more : Children
  pub between : Between row place to more
  pub count_is : counted + how_many more ≡ how_many children
  pub heads : (m : List Bool) → ((j : ℕ) → j < place → get_or m j false ≡ get_or marked j false) → Heads m place b more → Heads m from b children
  pub others : (j : ℕ) → to ≤ j → get_or marked j false ≡ get_or marks j false

pub mark-start : {row : Row} {from to : ℕ} {children : Children} (b : Bool) (marks : List Bool) → Between row from to children → Marking row from to b marks children marks 0 from
mark-start {children} b marks q = record { more = children; between = q; count_is = omega arith; heads = λ m same h. h; others = λ j h. refl }

module _ {row : Row} {from to : ℕ} {b : Bool} {marks : List Bool} {children : Children} {marked : List Bool} {counted place : ℕ}
    (g : Marking row from to b marks children marked counted place) where
  pub mark-turn : {a e : ℕ} → place < length marked → place < to → (n : Next row place to g.more a e)
      → Marking row from to b marks children (set marked place b) (counted + 1) (place + 1 + a + e)
  unfolding Heads
  mark-turn {a} {e} long inside n = record {
    more = n.later;
    between = n.after;
    count_is = let z : how_many g.more ≡ suc (how_many n.later) = ap how_many n.is in omega (arith, g.count_is);
    heads = λ m same later.
        let here : get_or m place false ≡ b = same place (omega arith) ∙ get_or-set_same marked place b false long in
        let step : place + (1 + (length n.atoms + length (laid n.own))) ≡ place + 1 + a + e = omega (arith, n.count, n.size) in
        g.heads m (λ j h. same j (omega arith) ∙ get_or-set_other marked place j b false (λ z. absurd (omega arith)))
        (rw n.is (here, rw step later));
    others = λ j h. get_or-set_other marked place j b false (λ z. absurd (omega arith)) ∙ g.others j h;
  }

  pub mark-end : to ≤ place → (counted ≡ how_many children) × (Heads marked from b children × ((j : ℕ) → to ≤ j → get_or marked j false ≡ get_or marks j false))
  unfolding Heads
  mark-end u = end-in g.more g.between.ends g.count_is (g.heads marked (λ j h. refl))
    where
      end-in : (more : Children) → to ≡ place + length (laid more) → counted + how_many more ≡ how_many children → (Heads marked place b more → Heads marked from b children)
          → (counted ≡ how_many children) × (Heads marked from b children × ((j : ℕ) → to ≤ j → get_or marked j false ≡ get_or marks j false))
      end-in none z y h = (omega arith, (h tt, g.others))
      end-in (child l own later) z y h = absurd (omega arith)

-- ---- the children, one after the other

-- what is left to tell: rows of children, each of one kind
pub data Pending : Type 0 where
  done : Pending
  these : Bool → Children → Pending → Pending

-- their tokens, and what is to be told of them
pub left : Pending → List ℕ
left done = []
left (these b children more) = laid children ++ left more

pub tells : Pending → List ℕ
tells done = []
tells (these b children more) = flat (forest b children) ++ tells more

-- each is marked
pub MarkedAt : List Bool → ℕ → Pending → Type 0
MarkedAt marks place done = Unit {0}
MarkedAt marks place (these b children more) = Heads marks place b children × MarkedAt marks (place + length (laid children)) more

heads-kept : (marks later : List Bool) (place : ℕ) (b : Bool) (children : Children) (from : ℕ) → from ≤ place → ((j : ℕ) → from ≤ j → get_or later j false ≡ get_or marks j false)
    → Heads marks place b children → Heads later place b children
unfolding Heads
heads-kept marks later place b none from h same m = tt
heads-kept marks later place b (child l own more) from h same m = (same place h ∙ m.0, heads-kept marks later (place + (1 + (length l + length (laid own)))) b more from (omega arith) same m.1)

marked-kept : (marks later : List Bool) (place : ℕ) (pending : Pending) (from : ℕ) → from ≤ place → ((j : ℕ) → from ≤ j → get_or later j false ≡ get_or marks j false)
    → MarkedAt marks place pending → MarkedAt later place pending
unfolding MarkedAt
marked-kept marks later place done from h same m = tt
marked-kept marks later place (these b children more) from h same m =
    (heads-kept marks later place b children from h same m.0, marked-kept marks later (place + length (laid children)) more from (omega arith) same m.1)

-- the first child that is left to tell
pub record First (marks : List Bool) (place : ℕ) (pending : Pending) : Type 0 where
  pub kind : Bool
  pub atoms : List ℕ
  pub own : Children
  pub later : Children
  pub more : Pending
  tokens_are : left pending ≡ laid (child atoms own later) ++ left more
  tells_are : tells pending ≡ flat (forest kind (child atoms own later)) ++ tells more
  marked : MarkedAt marks place (these kind (child atoms own later) more)

first-left : (marks : List Bool) (place : ℕ) (pending : Pending) → 0 < length (left pending) → MarkedAt marks place pending → First marks place pending
unfolding left tells MarkedAt Heads
first-left marks place done h m = absurd (omega arith)
first-left marks place (these b none more) h m =
    let f = first-left marks place more h (rw (add-zero place) at m.1) in
    record { kind = f.kind; atoms = f.atoms; own = f.own; later = f.later; more = f.more; tokens_are = f.tokens_are; tells_are = f.tells_are; marked = f.marked }
first-left marks place (these b (child l own later) more) h m =
    record { kind = b; atoms = l; own = own; later = later; more = more; tokens_are = refl; tells_are = refl; marked = m }

pub record Telling (children : Children) (b : Bool) (before : List ℕ) (marks : List Bool) (longer : Row) (place : ℕ) : Type 0 where
  pub pending : Pending
  ahead : drop place (laid children) ≡ left pending
  ends : place + length (left pending) ≡ length (laid children)
  marked : MarkedAt marks place pending
  pub list : List ℕ
  pub lists : Lists longer list
  is : list ++ tells pending ≡ before ++ flat (forest b children)

pub told-start : (children : Children) (b : Bool) (before : List ℕ) (marks : List Bool) (out : Row) → Heads marks 0 b children → Lists out before → Telling children b before marks out 0
unfolding left tells MarkedAt
told-start children b before marks out m h = record {
  pending = these b children done;
  ahead = sym (append-nil (laid children));
  ends = omega (arith, length-append (laid children) []);
  marked = (m, tt);
  list = before;
  lists = h;
  is = ap (λ (l : List ℕ). before ++ l) (append-nil (flat (forest b children)));
}

pub told-end : {children : Children} {b : Bool} {before : List ℕ} {marks : List Bool} {longer : Row} {place : ℕ} → Telling children b before marks longer place
    → length (laid children) ≤ place → Lists longer (before ++ flat (forest b children))
unfolding left tells
told-end g u = rw (sym g.is, none_left g.pending (omega (arith, g.ends)), append-nil g.list) g.lists
  where
    none_left : (pending : Pending) → length (left pending) ≡ 0 → tells pending ≡ []
    none_left done e = refl
    none_left (these b none more) e = none_left more e
    none_left (these b (child l own later) more) e = absurd (omega arith)

-- a head, its atoms and then its own children are the child
child-told : (before : List ℕ) (h : ℕ) (kind : Bool) (l : List ℕ) (own later : Children) (rest : List ℕ) → h ≡ 16777216 + count (leaves kind l (forest (not kind) own))
    → ((before ++ (h ∷ [])) ++ map (told kind) l) ++ (flat (forest (not kind) own) ++ (flat (forest kind later) ++ rest)) ≡ before ++ (flat (forest kind (child l own later)) ++ rest)
child-told before h kind l own later rest e = rw (e, flat-leaves kind l (forest (not kind) own)) (simp append_assoc)

-- the child that stands here, and its kind
pub record Here (row : Row) {children : Children} {b : Bool} {before : List ℕ} {marks : List Bool} {longer : Row} {place : ℕ} (g : Telling children b before marks longer place) (a e : ℕ) : Type 0 where
  pub first : First marks place g.pending
  pub here : ChildHere row (laid children) (left first.more) place a e first.atoms first.own first.later
  pub kind : get_or marks place false ≡ first.kind
  pub ends : place + 1 + a + e ≤ length (laid children)

module _ {row : Row} {children : Children} {b : Bool} {before : List ℕ} {marks : List Bool} {longer : Row} {place : ℕ} (g : Telling children b before marks longer place) where
  pub told_here : (a e : ℕ) → Lists row (laid children) → a ≡ get_or row.token place 0 / 65536 → e ≡ get_or row.token place 0 % 65536
      → place < length (laid children) → length (laid children) ≤ 256 → Here row g a e
  unfolding MarkedAt Heads
  told_here a e h x y u fit =
      let f = first-left marks place g.pending (omega (arith, g.ends)) g.marked in
      let long : length (left g.pending) ≡ length (laid (child f.atoms f.own f.later)) + length (left f.more) =
      ap length f.tokens_are ∙ length-append (laid (child f.atoms f.own f.later)) (left f.more) in
      let c = child-here {l = f.atoms} {own = f.own} {later = f.later} a e x y h (g.ahead ∙ f.tokens_are) (omega (arith, g.ends, long)) in
      record { first = f; here = c; kind = f.marked.0.0; ends = child-ends c.at }

  -- told with its atoms, its own children are next
  pub told-turn : {a e : ℕ} (q : Here row g a e) (many : ℕ) (marked : List Bool) → MarksIs (place + 1 + a) (place + 1 + a + e) (not q.first.kind) marks q.first.own many marked → (h : ℕ)
      → h ≡ 16777216 + a + many → (told-row : Row) → Lists told-row ((g.list ++ (h ∷ [])) ++ map (told q.first.kind) q.first.atoms)
      → Telling children b before marked told-row (place + 1 + a)
  unfolding left tells MarkedAt Heads
  told-turn {a} {e} q many marked m h z told-row w =
      let f = q.first in
      let kind = f.kind in
      let l = f.atoms in
      let own = f.own in
      let later = f.later in
      let inner : length (laid own) ≡ e = sym q.here.at.size in
      let count_is : a ≡ length l = q.here.at.count in
      let at_later : place + (1 + (length l + length (laid own))) ≡ place + 1 + a + length (laid own) = omega arith in
      let at_more : place + length (laid (child l own later)) ≡ place + 1 + a + length (laid own) + length (laid later) = omega (arith, child-length l own later) in
      let head-is : h ≡ 16777216 + count (leaves kind l (forest (not kind) own)) =
      omega (arith, z, m.count, count-leaves kind l (forest (not kind) own), count-forest (not kind) own) in
      record {
        pending = these (not kind) own (these kind later f.more);
        ahead = past-atoms q.here.at;
        ends = omega (
          arith,
          g.ends,
          ap length f.tokens_are,
          length-append (laid (child l own later)) (left f.more),
          child-length l own later,
          length-append (laid own) (laid later ++ left f.more),
          length-append (laid later) (left f.more),
        );
        marked = (
          m.heads,
          (
            heads-kept marks _ _ kind later (place + 1 + a + e) (omega arith) m.others (rw at_later at f.marked.0.1),
            marked-kept marks _ _ f.more (place + 1 + a + e) (omega arith) m.others (rw at_more at f.marked.1),
          ),
        );
        list = (g.list ++ (h ∷ [])) ++ map (told kind) l;
        lists = w;
        is = child-told g.list h kind l own later (tells f.more) head-is ∙ ap (λ (x : List ℕ). g.list ++ x) (sym f.tells_are) ∙ g.is;
      }
