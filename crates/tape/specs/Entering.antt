-- How a child's level enters its AND, and what that does to a walk: it falls, an atom joins, an AND is spliced, or the child stays.
use Rattle.std.specs.Prelude.{◌≡◌, Bool, not, ℕ, zero, suc, ◌+◌, ◌-◌, ◌*◌, ◌/◌, ◌%◌, ◌<◌, ◌≤◌, take, drop, get_or}
use Rattle.std.proofs.Math.Path.{refl, sym, ap}
use Rattle.std.proofs.Common.{◌∙◌, ap₂, subst, arith, take_at, drop_at, take_all, drop-drop}
use Rattle.std.proofs.Math.Bool.{true, false}
use mathlib.Core.List.{List, [], ◌∷◌, ◌++◌, map, append-nil}
use Rattle.std.proofs.Math.ListN.{length, length-append}
use Rattle.rules.specs.Signs.{Sign, negative, nought, positive, SignSet, has, set_of, complement}
use Rattle.rules.specs.Formula.{atom, or, is_end}
use Rattle.rules.specs.Level.{Placed, Formula, complemented, dual, atoms_of, ors_of, or_parts, parts, Entry, fails, joins, stays, joins_if, enter, Walk, falls, still}
use Rattle.sign_laws.specs.Booleans.{not-not}
use Rattle.sign_laws.specs.Sets.{set_of-has, has-complement, complement-below}
use Rattle.table.specs.Table.{Table}
use Rattle.tape.specs.declared.rows.Row.{Row}
use Rattle.tape.specs.declared.walks.Level.{Level}
use Rattle.tape.specs.declared.walks.Walked.{Walked}
use Rattle.tape.specs.Row.{Lists}
use Rattle.tape.specs.Token.{place, atom_of, atoms_in, opposite}
use Rattle.tape.specs.Tape.{Children, none, child, laid, also, ors_in}
use Rattle.tape.specs.Walked.{Shows, walk_of, Stands, afterwards, Goes, one_if, size_of}
use Rattle.tape.specs.Listing.{held_at, laid-also, laid-child}

pub map-append : {A B : Type 0} (f : A → B) (l m : List A) → map f (l ++ m) ≡ map f l ++ map f m
map-append f [] m = refl
map-append f (x ∷ l) m = ap (λ (z : List _). f x ∷ z) (map-append f l m)

pub ors-also : (t : Table) (earlier more : Children) → ors_in t (also earlier more) ≡ ors_in t earlier ++ ors_in t more
unfolding ors_in
ors-also t none more = refl
ors-also t (child l own later) more = ap (λ (z : List Formula). dual (parts (atoms_in t l) (ors_in t own)) ∷ z) (ors-also t later more)

-- ---- complemented and exchanged twice

-- the complement's complement is the set, if it has three bits
pub complement-twice : (s : SignSet) → s < 8 → complement (complement s) ≡ s
unfolding complement set_of
complement-twice s h = rw (back negative, back nought, back positive) (set_of-has s h)
  where
    back : (x : Sign) → not (has x (complement s)) ≡ has x s
    back x = ap not (has-complement x s) ∙ not-not (has x s)

-- another set leaves the place as it is
pub same_place : (x s : ℕ) → s < 8 → place (x / 8 * 8 + s) ≡ place x
same_place x s h = let e : (x / 8 * 8 + s) / 512 ≡ x / 512 = omega arith in rw e

-- the opposite token is the complemented atom, and that complemented the atom again
pub opposite-is : (t : Table) (x : ℕ) → atom_of t (opposite x) ≡ complemented (atom_of t x)
unfolding atom_of complemented
opposite-is t x =
    let small : complement (x % 8) < 8 = complement-below (x % 8) in
    let a : opposite x / 8 % 64 ≡ x / 8 % 64 = omega arith in
    let b : opposite x % 8 ≡ complement (x % 8) = omega arith in
    let c : place (opposite x) ≡ place x = same_place x (complement (x % 8)) small in
    rw (a, b, c)

pub complemented-twice : (t : Table) (x : ℕ) → complemented (complemented (atom_of t x)) ≡ atom_of t x
unfolding atom_of complemented
complemented-twice t x = rw (complement-twice (x % 8) (omega arith))

atoms-twice : (t : Table) (l : List ℕ) (ors : List Formula) → dual (dual (or_parts ors)) ≡ or_parts ors
    → dual (dual (parts (atoms_in t l) ors)) ≡ parts (atoms_in t l) ors
unfolding dual parts
atoms-twice t [] ors h = h
atoms-twice t (x ∷ l) ors h = ap₂ atom (complemented-twice t x) (atoms-twice t l ors h)

ors-twice : (t : Table) (children : Children) → dual (dual (or_parts (ors_in t children))) ≡ or_parts (ors_in t children)
unfolding dual or_parts ors_in
ors-twice t none = refl
ors-twice t (child l own later) = ap₂ or (ap dual (atoms-twice t l (ors_in t own) (ors-twice t own))) (ors-twice t later)

-- so a level's parts are their own dual's dual
pub dual-twice : (t : Table) (l : List ℕ) (children : Children) → dual (dual (parts (atoms_in t l) (ors_in t children))) ≡ parts (atoms_in t l) (ors_in t children)
dual-twice t l children = atoms-twice t l (ors_in t children) (ors-twice t children)

-- ---- the parts of a level, taken apart again

ors-of-parts : (l : List Placed) (ors : List Formula) → ors_of (parts l ors) ≡ ors
unfolding ors_of parts or_parts
ors-of-parts [] [] = refl
ors-of-parts [] (kids ∷ ors) = ap (λ (z : List Formula). kids ∷ z) (ors-of-parts [] ors)
ors-of-parts (a ∷ l) ors = ors-of-parts l ors

atoms-of-parts : (l : List Placed) (ors : List Formula) → atoms_of (parts l ors) ≡ l
unfolding atoms_of parts or_parts
atoms-of-parts [] [] = refl
atoms-of-parts [] (kids ∷ ors) = atoms-of-parts [] ors
atoms-of-parts (a ∷ l) ors = ap (λ (z : List Placed). a ∷ z) (atoms-of-parts l ors)

-- ---- which entry a level is

unfoldable enter_of : Table → List ℕ → Children → Entry
enter_of t l children = enter (dual (parts (atoms_in t l) (ors_in t children)))

enter-none : (t : Table) → enter_of t [] none ≡ fails
unfolding enter_of enter dual parts or_parts ors_in
enter-none t = refl

enter-atom : (t : Table) (x : ℕ) → enter_of t (x ∷ []) none ≡ joins (complemented (atom_of t x) ∷ []) []
unfolding enter_of enter dual parts or_parts ors_in is_end joins_if
enter-atom t x = refl

enter-child : (t : Table) (l : List ℕ) (own : Children) → enter_of t [] (child l own none) ≡ joins (atoms_in t l) (ors_in t own)
unfolding enter_of enter dual parts or_parts ors_in is_end joins_if
enter-child t l own =
    ap₂ joins (ap atoms_of (dual-twice t l own) ∙ atoms-of-parts (atoms_in t l) (ors_in t own)) (ap ors_of (dual-twice t l own) ∙ ors-of-parts (atoms_in t l) (ors_in t own))

-- two parts or more
data More : List ℕ → Children → Type 0 where
  two-atoms : (x y : ℕ) (l : List ℕ) (children : Children) → More (x ∷ y ∷ l) children
  both_kinds : (x : ℕ) (l m : List ℕ) (own later : Children) → More (x ∷ l) (child m own later)
  two_children : (l m : List ℕ) (own other later : Children) → More [] (child l own (child m other later))

enter-more : (t : Table) {l : List ℕ} {children : Children} → More l children → enter_of t l children ≡ stays (dual (parts (atoms_in t l) (ors_in t children)))
unfolding enter_of enter dual parts or_parts ors_in is_end joins_if
enter-more t (two-atoms x y l children) = refl
enter-more t (both_kinds x [] m own later) = refl
enter-more t (both_kinds x (y ∷ l) m own later) = refl
enter-more t (two_children l m own other later) = refl

more-size : {l : List ℕ} {children : Children} → More l children → 1 < length l + length (laid children)
more-size (two-atoms x y l children) = omega arith
more-size (both_kinds x l m own later) = omega arith
more-size (two_children l m own other later) = omega (arith, length-append l (laid own ++ laid (child m other later)), length-append (laid own) (laid (child m other later)))

-- ---- a child alone in its row

child-atoms : (l : List ℕ) (own : Children) (a : ℕ) → a ≡ length l → take (a + 1 - 1) (drop 1 (laid (child l own none))) ≡ l
child-atoms l own a e = let z : a + 1 - 1 ≡ a = omega arith in rw z (take_at l (laid own ++ []) a (sym e))

child-own : (l : List ℕ) (own : Children) (a n : ℕ) → a ≡ length l → n ≡ length (laid (child l own none))
    → take (n - (a + 1)) (drop (a + 1) (laid (child l own none))) ≡ laid own
child-own l own a n p q =
    let z : a + 1 ≡ 1 + a = omega arith in
    let d : drop (a + 1) (laid (child l own none)) ≡ laid own =
    rw z (sym (drop-drop a 1 (laid (child l own none))) ∙ drop_at l (laid own ++ []) a (sym p) ∙ append-nil (laid own)) in
    rw d (take_all (n - (a + 1)) (laid own) (omega (arith, laid-child l own)))

-- a head tells the two counts of its child
pub record HeadOf (head : ℕ) (l : List ℕ) (own : Children) : Type 0 where
  pub atoms : head / 65536 ≡ length l
  pub inner : head % 65536 ≡ length (laid own)

pub head_of : (head : ℕ) (l : List ℕ) (own : Children) → head ≡ length l * 65536 + length (laid own) → length (laid own) < 65536 → HeadOf head l own
head_of head l own e h = record { atoms = omega arith; inner = omega arith }

-- ---- a walk and an entry

module _ (new l : List Placed) (ors more : List Formula) where
  walk-fails : (f m : Bool) → afterwards (walk_of f m new ors) fails ≡ falls
  unfolding afterwards walk_of
  walk-fails true m = refl
  walk-fails false true = refl
  walk-fails false false = refl

  walk-stays : (f m : Bool) (kids : Formula) → afterwards (walk_of f m new ors) (stays kids) ≡ walk_of f m new (ors ++ (kids ∷ []))
  unfolding afterwards walk_of
  walk-stays true m kids = refl
  walk-stays false true kids = refl
  walk-stays false false kids = refl

  walk-joins : (f m : Bool) → (m ≡ false → new ≡ []) → afterwards (walk_of f m new ors) (joins l more) ≡ walk_of f true (new ++ l) (ors ++ more)
  unfolding afterwards walk_of
  walk-joins true m q = refl
  walk-joins false true q = refl
  walk-joins false false q = rw (q refl)

abbrev walked : Bool → Bool → Row → Row → Walked
walked f m new ors = record { falls = f; moved = m; new = new; ors = ors }

one-or-none : (b : Bool) → one_if b ≤ 1
one-or-none true = omega arith
one-or-none false = omega arith

-- a walk with no child
pub begins : (t : Table) (new ors : Row) → Lists new [] → Lists ors [] → Stands t (walked false false new ors) (still [])
unfolding walk_of ors_in
begins t new ors h k = record { new = []; children = none; lists = h; lies = k; is = refl; quiet = λ e. refl }

-- the same entry, and the same number of tokens, said in other words
pub goes-as : {t : Table} {w after : Walked} {walk : Walk} {n m : ℕ} {e f : Entry} → n ≡ m → e ≡ f → Goes t w walk n after e → Goes t w walk m after f
goes-as {t} {w} {after} {walk} {n} {m} {e} {f} p q g = subst (λ (k : ℕ). Goes t w walk k after f) p (subst (Goes t w walk n after) q g)

module _ {t : Table} {w : Walked} {walk : Walk} (s : Stands t w walk) where
  pub goes-fails : Goes t w walk 0 (walked true w.moved w.new w.ors) fails
  unfolding walk_of
  goes-fails = record {
    stands = record { new = s.new; children = s.children; lists = s.lists; lies = s.lies; is = sym (rw (sym s.is) (walk-fails _ [] _ [] w.falls w.moved)); quiet = s.quiet };
    grows = omega arith;
    fits = λ k h. omega arith;
  }

  -- atoms and children join: no more tokens than the level has, and no more than the rows have room for
  goes-joins : (l : List ℕ) (more : Children) (n : ℕ) (new ors : Row) → Lists new (s.new ++ l) → Lists ors (laid (also s.children more))
      → length l + length (laid more) ≤ n → ((k : ℕ) → (1 < n → n ≤ k) → length l + length (laid more) ≤ k + 1)
      → Goes t w walk n (walked w.falls true new ors) (joins (atoms_in t l) (ors_in t more))
  goes-joins l more n new ors a b h fit =
      let x = length-append s.new l in
      let y = ap length (laid-also s.children more) ∙ length-append (laid s.children) (laid more) in
      record {
        stands = record {
          new = s.new ++ l;
          children = also s.children more;
          lists = a;
          lies = b;
          is = rw (map-append (atom_of t) s.new l, ors-also t s.children more)
              (sym (rw (sym s.is) (walk-joins _ (atoms_in t l) _ (ors_in t more) w.falls w.moved (λ e. rw (s.quiet e)))));
          quiet = λ e. let z : ◌≡◌ {A = ℕ} 0 1 = cc in absurd (omega arith);
        };
        grows = omega (arith, a.size, b.size, s.lists.size, s.lies.size);
        fits = λ k i. omega (arith, a.size, b.size, s.lists.size, s.lies.size, fit k i);
      }

  pub goes-stays : (l : List ℕ) (own : Children) (n : ℕ) (ors : Row) → Lists ors (laid (also s.children (child l own none)))
      → n ≡ length l + length (laid own) → 1 < n
      → Goes t w walk n (walked w.falls w.moved w.new ors) (stays (dual (parts (atoms_in t l) (ors_in t own))))
  unfolding ors_in
  goes-stays l own n ors b e more =
      let y = ap length (laid-also s.children (child l own none)) ∙ length-append (laid s.children) (laid (child l own none)) in
      let z : length (laid (child l own none)) ≡ length l + length (laid own) + 1 = laid-child l own in
      record {
        stands = record {
          new = s.new;
          children = also s.children (child l own none);
          lists = s.lists;
          lies = b;
          is = rw (ors-also t s.children (child l own none)) (sym (rw (sym s.is) (walk-stays _ [] _ [] w.falls w.moved _)));
          quiet = s.quiet;
        };
        grows = omega (arith, b.size, s.lies.size);
        fits = λ k i. omega (arith, b.size, s.lies.size, i more);
      }

  -- a child that is one atom, and a child that is one AND
  pub goes-atom : (x : ℕ) (new : Row) → Lists new (s.new ++ (opposite x ∷ [])) → Goes t w walk 1 (walked w.falls true new w.ors) (joins (complemented (atom_of t x) ∷ []) [])
  unfolding ors_in
  goes-atom x new h =
      goes-as refl (ap (λ (a : Placed). joins (a ∷ []) []) (opposite-is t x))
      (goes-joins (opposite x ∷ []) none 1 new w.ors h (rw (laid-also s.children none, append-nil (laid s.children)) s.lies) (omega arith) (λ k i. omega arith))

  pub goes-spliced : (l : List ℕ) (own : Children) (row : Row) → Lists row (laid (child l own none)) → (a : ℕ) → a ≡ length l → (new ors : Row)
      → Lists new (s.new ++ take (a + 1 - 1) (drop 1 (laid (child l own none))))
      → Lists ors (laid s.children ++ take (row.count - (a + 1)) (drop (a + 1) (laid (child l own none))))
      → Goes t w walk row.count (walked w.falls true new ors) (joins (atoms_in t l) (ors_in t own))
  goes-spliced l own row h a e new ors x y =
      goes-joins l own _ new ors (rw (child-atoms l own a e) at x) (rw (laid-also s.children own) (rw (child-own l own a row.count e h.size) at y))
      (omega (arith, h.size, laid-child l own)) (λ k i. splice-fits _ k row.count (omega (arith, h.size, laid-child l own)) i)
    where
      splice-fits : (m k n : ℕ) → n ≡ m + 1 → (1 < n → n ≤ k) → m ≤ k + 1
      splice-fits zero k n z i = omega arith
      splice-fits (suc m) k n z i = omega (arith, i (omega arith))

-- ---- which entry the counts of a level tell

module _ {t : Table} {level : Level} {kids : Formula} (s : Shows t level kids) where
  entry : enter_of t s.list s.children ≡ enter (dual kids)
  unfolding enter_of
  entry = ap (λ (z : Formula). enter (dual z)) s.is

  none_in : (l : List ℕ) (children : Children) → length l ≡ 0 → length (laid children) ≡ 0 → enter_of t l children ≡ fails
  none_in [] none a b = enter-none t
  none_in [] (child l own later) a b = absurd (omega arith)
  none_in (x ∷ l) children a b = absurd (omega arith)

  pub tells_none : level.atoms.count ≡ 0 → level.ors.count ≡ 0 → fails ≡ enter (dual kids)
  tells_none a b = sym (none_in s.list s.children (omega (arith, s.lists.size)) (omega (arith, s.lies.size))) ∙ entry

  atom-in : (l : List ℕ) (children : Children) → length l ≡ 1 → length (laid children) ≡ 0
      → enter_of t l children ≡ joins (complemented (atom_of t (get_or l 0 0)) ∷ []) []
  atom-in (x ∷ []) none a b = enter-atom t x
  atom-in [] children a b = absurd (omega arith)
  atom-in (x ∷ y ∷ l) children a b = absurd (omega arith)
  atom-in (x ∷ []) (child l own later) a b = absurd (omega arith)

  pub tells-atom : level.atoms.count ≡ 1 → level.ors.count ≡ 0
      → joins (complemented (atom_of t (get_or level.atoms.token 0 0)) ∷ []) [] ≡ enter (dual kids)
  tells-atom a b =
      rw (held_at s.lists 0 (omega (arith, s.lists.size)))
      (sym (atom-in s.list s.children (omega (arith, s.lists.size)) (omega (arith, s.lies.size))) ∙ entry)

  -- the first child's two counts, from its head
  counts-in : (children : Children) → children ≡ s.children → (length (laid children) ≡ 0 → ⊥) → level.ors.count ≤ 256
      → (m : List ℕ) × ((own : Children) × ((later : Children) × ((children ≡ child m own later) × HeadOf (get_or level.ors.token 0 0) m own)))
  counts-in none e b fit = absurd (b refl)
  counts-in (child m own later) e b fit =
      let sized : level.ors.count ≡ length (laid (child m own later)) = s.lies.size ∙ ap (λ (z : Children). length (laid z)) (sym e) in
      let first : get_or level.ors.token 0 0 ≡ length m * 65536 + length (laid own) =
      held_at s.lies 0 (omega (arith, sized, s.lies.size)) ∙ ap (λ (z : Children). get_or (laid z) 0 0) (sym e) in
      let parts-length = length-append m (laid own ++ laid later) ∙ ap (λ (n : ℕ). length m + n) (length-append (laid own) (laid later)) in
      (m, (own, (later, (refl, head_of (get_or level.ors.token 0 0) m own first (omega (arith, sized, parts-length, fit))))))

  pub tells-child : (a b : ℕ) → a ≡ get_or level.ors.token 0 0 / 65536 → b ≡ get_or level.ors.token 0 0 % 65536 → level.ors.count ≤ 256
      → level.atoms.count ≡ 0 → (level.ors.count ≡ 0 → ⊥) → a + b + 1 ≡ level.ors.count
      → (m : List ℕ) × ((own : Children) × (Lists level.ors (laid (child m own none)) × ((a ≡ length m) × (joins (atoms_in t m) (ors_in t own) ≡ enter (dual kids)))))
  tells-child a b p q fit x y e =
      let c = counts-in s.children refl (λ z. y (omega (arith, s.lies.size))) fit in
      child-in s.list c.0 c.1.0 c.1.1.0 c.1.1.1.0 c.1.1.1.1 (omega (arith, x, s.lists.size)) refl
    where
      child-in : (l m : List ℕ) (own later : Children) → s.children ≡ child m own later → HeadOf (get_or level.ors.token 0 0) m own → length l ≡ 0 → l ≡ s.list
          → (m : List ℕ) × ((own : Children) × (Lists level.ors (laid (child m own none)) × ((a ≡ length m) × (joins (atoms_in t m) (ors_in t own) ≡ enter (dual kids)))))
      child-in [] m own none z h u v =
          (m, (own, (rw (ap laid z) at s.lies, (p ∙ h.atoms, sym (enter-child t m own) ∙ ap₂ (enter_of t) v (sym z) ∙ entry))))
      child-in [] m own (child l' own' later) z h u v =
          absurd (omega (
            arith,
            e,
            p,
            q,
            h.atoms,
            h.inner,
            s.lies.size,
            ap (λ (w : Children). length (laid w)) z,
            length-append m (laid own ++ laid (child l' own' later)),
            length-append (laid own) (laid (child l' own' later)),
          ))
      child-in (o ∷ l) m own later z h u v = absurd (omega arith)

  more-in : (l : List ℕ) (children : Children)
      → (length l ≡ 0 → (length (laid children) ≡ 0 → ⊥) × ((m : List ℕ) (own : Children) → children ≡ child m own none → ⊥))
      → (length l ≡ 1 → length (laid children) ≡ 0 → ⊥) → More l children
  more-in [] none a b = absurd ((a refl).0 refl)
  more-in [] (child m own none) a b = absurd ((a refl).1 m own refl)
  more-in [] (child m own (child m' own' later)) a b = two_children m m' own own' later
  more-in (x ∷ []) none a b = absurd (b refl refl)
  more-in (x ∷ []) (child m own later) a b = both_kinds x [] m own later
  more-in (x ∷ y ∷ l) children a b = two-atoms x y l children

  pub tells_more : level.ors.count ≤ 256
      → (level.atoms.count ≡ 0 → (level.ors.count ≡ 0 → ⊥) × (get_or level.ors.token 0 0 / 65536 + get_or level.ors.token 0 0 % 65536 + 1 ≡ level.ors.count → ⊥))
      → (level.atoms.count ≡ 1 → level.ors.count ≡ 0 → ⊥)
      → (1 < size_of level) × (stays (dual (parts (atoms_in t s.list) (ors_in t s.children))) ≡ enter (dual kids))
  tells_more fit a b = (omega (arith, more-size more, s.lists.size, s.lies.size), sym (enter-more t more) ∙ entry)
    where
      more : More s.list s.children
      more = more-in s.list s.children
          (λ z.
          let f = a (omega (arith, s.lists.size)) in (
            λ y. f.0 (omega (arith, s.lies.size)),
            λ m own e.
                let sized : level.ors.count ≡ length (laid (child m own none)) = s.lies.size ∙ ap (λ (w : Children). length (laid w)) e in
                let first : get_or level.ors.token 0 0 ≡ length m * 65536 + length (laid own) =
                held_at s.lies 0 (omega (arith, sized, s.lies.size)) ∙ ap (λ (w : Children). get_or (laid w) 0 0) e in
                let h = head_of (get_or level.ors.token 0 0) m own first (omega (arith, sized, laid-child m own, fit)) in
                f.1 (omega (arith, h.atoms, h.inner, sized, laid-child m own)),
          ))
          (λ z y. b (omega (arith, s.lists.size)) (omega (arith, s.lies.size)))
