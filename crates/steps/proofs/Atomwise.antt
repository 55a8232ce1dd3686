-- Step 4, atom by atom: one atom of a child against what the list says, and the loop over the child's atoms.
use mathlib.Core.Path.{◌≡◌, refl, sym, ◌∙◌, ap}
use mathlib.Core.Bool.{Bool, true, false}
use mathlib.Core.List.{List, [], ◌∷◌, ◌++◌}
use mathlib.Core.Option.{Option, none, some}
use Prim.Native.Nat.{ℕ, ◌+◌, ◌-◌, ◌*◌, ◌/◌, ◌%◌, ◌<◌, ◌≤◌}
use native.Mathlib.Numerals.{add-one}
use native.Mathlib.Omega.{arith}
use lib.Dec.{eqb}
use lib.ListN.{length, take, drop, get_or, length-append}
use lib.Seq.{drop-cons}
use Rattle.rules.specs.Signs.{empty, complement, intersect, inside}
use Rattle.rules.specs.Formula.{atom}
use Rattle.rules.specs.Level.{Formula, complemented, dual, or_parts, parts, unless_dropped, pruned_if, prune}
use Rattle.sign_laws.specs.Sets.{intersect-below, complement-below}
use Rattle.table.specs.Table.{Table}
use Rattle.tape.specs.declared.rows.Row.{Row}
use Rattle.round.specs.declared.State.{State}
use Rattle.steps.specs.declared.sweeping.Cut.{Cut}
use Rattle.tape.specs.Row.{Lists}
use Rattle.tape.specs.Token.{place, atom_of, atoms_in}
use Rattle.tape.specs.Tape.{Children, ors_in}
use Rattle.round.specs.Views.{state_of}
use Rattle.steps.specs.Swept.{said, CutIs, unless_so, PruneIs}
use Rattle.std.proofs.lemmas.List.{drop_all}
use Rattle.tape.specs.Listing.{part_held}
use Rattle.tape.specs.Entering.{complement-twice, same_place}

-- ---- one atom

pub cut-is : (t : Table) (state : State) (token heard set cut kept left : ℕ) (implied gone : Bool) → heard ≡ said t state token → set ≡ complement (token % 8)
    → implied ≡ inside heard set → cut ≡ intersect set heard → gone ≡ eqb cut empty → kept ≡ complement cut → left ≡ token / 8 * 8 + kept % 8
    → CutIs t state token (record { implied = implied; gone = gone; token = left })
unfolding complemented atom_of
cut-is t state token heard set cut kept left implied gone p q a b g k e =
    let small : cut < 8 = rw b (intersect-below set heard) in
    let kept_small : kept < 8 = rw k (complement-below cut) in
    let same-slot : left / 8 % 64 ≡ token / 8 % 64 = omega arith in
    let new-set : left % 8 ≡ complement cut = omega (arith, k) in
    let same-origin : place left ≡ place token = ap place e ∙ same_place token (kept % 8) (omega arith) in
    record {
      implied = rw (sym p, sym q, a);
      gone = rw (sym p, sym q, sym b, g);
      keeps = rw (same-slot, new-set, same-origin, complement-twice cut small, sym q, sym p, sym b);
    }

-- ---- the loop over a child's atoms

pruned : Table → State → List ℕ → Children → Option Formula
pruned t state l own = prune t.variables (state_of t state) (dual (parts (atoms_in t l) (ors_in t own)))

-- the atoms that are kept so far, before the rest
front : Table → List ℕ → Formula → Formula
front t [] rest = rest
front t (x ∷ l) rest = atom (complemented (atom_of t x)) (front t l rest)

pub record Pruning (t : Table) (state : State) (all : List ℕ) (row : Row) (rest : List ℕ) : Type 0 where
  list : List ℕ
  lists : Lists row list
  small : length list + length rest ≤ length all
  is : (own : Children) → unless_dropped (front t list) (pruned t state rest own) ≡ pruned t state all own

dropped-is : (f : Formula → Formula) → unless_dropped f none ≡ none
unfolding unless_dropped
dropped-is f = refl

unchanged : (o : Option Formula) (f : Formula → Formula) → ((kids : Formula) → f kids ≡ kids) → unless_dropped f o ≡ o
unfolding unless_dropped
unchanged none f h = refl
unchanged (some kids) f h = ap some (h kids)

both-before : (o : Option Formula) (f g h : Formula → Formula) → ((kids : Formula) → f (g kids) ≡ h kids) → unless_dropped f (unless_dropped g o) ≡ unless_dropped h o
unfolding unless_dropped
both-before none f g h e = refl
both-before (some kids) f g h e = ap some (e kids)

front-more : (t : Table) (l : List ℕ) (x : ℕ) (rest : Formula) → front t l (atom (complemented (atom_of t x)) rest) ≡ front t (l ++ (x ∷ [])) rest
unfolding front
front-more t [] x rest = refl
front-more t (y ∷ l) x rest = ap (atom (complemented (atom_of t y))) (front-more t l x rest)

front-all : (t : Table) (l : List ℕ) (ors : List Formula) → front t l (dual (or_parts ors)) ≡ dual (parts (atoms_in t l) ors)
unfolding front dual parts
front-all t [] ors = refl
front-all t (x ∷ l) ors = ap (atom (complemented (atom_of t x))) (front-all t l ors)

-- the ANDs of a child are left alone
prune-ors : (t : Table) (state : State) (ors : List Formula) → prune t.variables (state_of t state) (dual (or_parts ors)) ≡ some (dual (or_parts ors))
unfolding prune dual or_parts unless_dropped
prune-ors t state [] = refl
prune-ors t state (kids ∷ ors) = rw (prune-ors t state ors)

pruned-cons : (t : Table) (state : State) (x : ℕ) (l : List ℕ) (own : Children) (cut : Cut) → CutIs t state x cut
    → pruned t state (x ∷ l) own ≡ pruned_if cut.implied cut.gone (complemented (atom_of t cut.token)) (pruned t state l own)
unfolding pruned prune dual parts complemented atom_of
pruned-cons t state x l own cut c = rw (c.implied, c.gone, c.keeps)

module _ {t : Table} {state : State} {all : List ℕ} {row : Row} where
  pub prune-end : Pruning t state all row [] → PruneIs t state all (record { dropped = false; list = row })
  unfolding unless_so unless_dropped pruned parts
  prune-end p = record {
    list = p.list;
    lists = p.lists;
    small = omega (arith, p.small);
    is = λ own. sym (p.is own) ∙ rw (prune-ors t state (ors_in t own)) (ap some (front-all t p.list (ors_in t own)));
  }

  module _ {x : ℕ} {l : List ℕ} (p : Pruning t state all row (x ∷ l)) (cut : Cut) (c : CutIs t state x cut) where
    pub prune-drop : cut.implied ≡ true → PruneIs t state all (record { dropped = true; list = row })
    unfolding unless_so pruned_if pruned
    prune-drop e = record {
      list = p.list;
      lists = p.lists;
      small = omega (arith, p.small);
      is = λ own. sym (p.is own) ∙ ap (unless_dropped (front t p.list)) (rw e at (pruned-cons t state x l own cut c)) ∙ dropped-is _;
    }

    pub prune-gone : cut.implied ≡ false → cut.gone ≡ true → Pruning t state all row l
    unfolding pruned_if
    prune-gone e g = record {
      list = p.list;
      lists = p.lists;
      small = omega (arith, p.small);
      is = λ own. ap (unless_dropped (front t p.list)) (sym (rw (e, g) at (pruned-cons t state x l own cut c))) ∙ p.is own;
    }

    pub prune-keep : cut.implied ≡ false → cut.gone ≡ false → (longer : Row) → ((m : List ℕ) → Lists row m → Lists longer (m ++ (cut.token ∷ []))) → Pruning t state all longer l
    unfolding pruned_if
    prune-keep e g longer h = record {
      list = p.list ++ (cut.token ∷ []);
      lists = h p.list p.lists;
      small = omega (arith, p.small, length-append p.list (cut.token ∷ []));
      is = λ own.
          sym (ap (unless_dropped (front t p.list)) (rw (e, g) at (pruned-cons t state x l own cut c)) ∙ both-before _ _ _ _ (front-more t p.list cut.token)) ∙ p.is own;
    }

pub prune-start : (t : Table) (state : State) (all : List ℕ) (row : Row) → Lists row [] → Pruning t state all row all
unfolding front
prune-start t state all row h = record { list = []; lists = h; small = omega arith; is = λ own. unchanged _ _ (λ kids. refl) }

-- ---- what is left of a part of a row

module _ {row : Row} {l : List ℕ} (from to i : ℕ) (h : Lists row l) (m : to ≤ length l) where
  abbrev all : List ℕ
  all = take (to - from) (drop from l)

  pub part-next : i < length (take (to - from) (drop from row.token)) → drop i all ≡ get_or (take (to - from) (drop from row.token)) i 0 ∷ drop (i + 1) all
  part-next k = let e = part_held from to h m in rw (e, add-one) (drop-cons all i 0 (rw e at k))

  pub part-done : length (take (to - from) (drop from row.token)) ≤ i → drop i all ≡ []
  part-done k = drop_all i all (rw (part_held from to h m) at k)
