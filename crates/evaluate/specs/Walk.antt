-- The walk over a node's children: the first of those that are left and the others, one child more, and the end.
use Rattle.std.specs.Prelude.{◌≡◌, Bool, ◌&&◌, ◌||◌, List, ℕ, zero, suc, ◌+◌, ◌-◌, ◌*◌, ◌/◌, ◌%◌, ◌<◌, ◌≤◌, eqb, ℤ}
use Rattle.std.proofs.Math.Path.{refl, sym, ap}
use Rattle.std.proofs.Common.{ap₂, ◌∙◌, subst, true≢false, add-one, arith, eq-eqb, ne_eqb}
use Rattle.std.proofs.Math.Bool.{true, false}
use Rattle.std.proofs.Math.Option.{Option, none, some}
use Rattle.std.proofs.Math.ListN.{length, get_or}
use Rattle.rules.specs.Signs.{Sign, SignSet, sign_of, has}
use Rattle.rules.specs.Polynomial.{Polynomial, Atom}
use Rattle.rules.specs.Formula.{Parts, end, atom, and, or, Node, leaf, all_of, any_of, before, each_atom, each_atom_of, alone, children, nodes, open_formula}
use Rattle.rules.specs.Block.{NumberedAtom}
use Rattle.rules.specs.Meaning.{monomial_at, value_by, sign_at, atom_holds, all_hold, some_hold, holds}
use Rattle.rules.specs.Evaluate.{steps, all_fit, parts_fit, fits64}
use Rattle.sign_laws.specs.Booleans.{and_first, and_second}
use Rattle.terms.specs.View.{terms_from, terms_of}
use Rattle.writer.specs.Written.{PartsHeld}
use Rattle.arithmetic.specs.declared.Number.{Number}
use Rattle.arithmetic.specs.Checked.{kept_if, is_some, value_from, all-fit, value-is}
use Rattle.arithmetic.specs.Numbers.{value_of, meaning, both}
use Rattle.evaluate.specs.declared.Truth.{Truth}
use Rattle.evaluate.specs.declared.Seen.{Seen}
use Rattle.evaluate.specs.Tree.{behind_of, stored, stored_at, Says, AtomIs, HeldAt, SomeNode, NodeIs, joined, truth_of, Runs}

-- ---- An atom.

some-if-fits : (v : Number) → is_some (meaning v) ≡ v.fits
unfolding meaning is_some kept_if
some-if-fits v = by v.fits
  where
    by : (b : Bool) → is_some (kept_if b (value_of v.negative v.magnitude)) ≡ b
    by true = refl
    by false = refl

its-number : (v : Number) → v.fits ≡ true → meaning v ≡ some (value_of v.negative v.magnitude)
unfolding meaning kept_if
its-number v e = ap (λ (b : Bool). kept_if b (value_of v.negative v.magnitude)) e

-- The value of its polynomial, and its sign, say of an atom what the book does.
pub atom-says : (readings : List ℤ) (p : Polynomial) (set : SignSet) (v : Number) {told : Bool} → meaning v ≡ value_from readings p
    → ((z : ℤ) → meaning v ≡ some z → told ≡ has (sign_of z) set)
    → Says (all_fit fits64 (steps readings p)) (atom_holds (sign_at readings) (record { polynomial = p; set = set })) v.fits told
unfolding atom_holds sign_at
atom-says readings p set v e sign =
    let fit : v.fits ≡ all_fit fits64 (steps readings p) = sym (some-if-fits v) ∙ ap is_some e ∙ all-fit readings p in
    record {
      fit = fit;
      truth = λ h.
          let number = its-number v (fit ∙ h) in
          sign (value_of v.negative v.magnitude) number
          ∙ ap (λ (z : ℤ). has (sign_of z) set) (value-is readings p (value_of v.negative v.magnitude) (sym e ∙ number));
    }

-- The places of a slot are its polynomial, and lie in the arrays.
pub in-slot : (cs : List ℤ) (ms : List ℕ) (i count : ℕ) {to : ℕ} → to ≡ behind_of i count → terms_of cs ms i to ≡ terms_from cs ms i count
unfolding behind_of
in-slot cs ms i zero e = let none : 0 - i ≡ 0 = omega arith in rw (e, none)
in-slot cs ms i (suc count) e = let less : i + suc count - i ≡ suc count = omega arith in rw (e, less)

pub slot-inside : (i count most : ℕ) → (0 < count → i + count ≤ most) → behind_of i count ≤ most
unfolding behind_of
slot-inside i zero most h = omega arith
slot-inside i (suc count) most h = h (omega arith)

pub behind-is : (i count : ℕ) → (count ≡ 0 → ⊥) → i + count ≡ behind_of i count
unfolding behind_of
behind-is i zero h = absurd (h refl)
behind-is i (suc count) h = refl

-- ---- A node before others.

and-true : (b : Bool) → b && true ≡ b
and-true true = refl
and-true false = refl

module _ (f : NumberedAtom → Atom) (readings : List ℤ) where
  fit-before : (node : Node NumberedAtom) (rest : Parts NumberedAtom) → parts_fit fits64 readings (each_atom f (before node rest))
      ≡ parts_fit fits64 readings (alone (each_atom_of f node)) && parts_fit fits64 readings (each_atom f rest)
  unfolding open_formula parts_fit
  fit-before (leaf a) rest = ap (λ (b : Bool). b && parts_fit fits64 readings (each_atom f rest)) (sym (and-true (all_fit fits64 (steps readings (f a).polynomial))))
  fit-before (all_of kids) rest = ap (λ (b : Bool). b && parts_fit fits64 readings (each_atom f rest)) (sym (and-true (parts_fit fits64 readings (each_atom f kids))))
  fit-before (any_of kids) rest = ap (λ (b : Bool). b && parts_fit fits64 readings (each_atom f rest)) (sym (and-true (parts_fit fits64 readings (each_atom f kids))))

  truth-before : (all : Bool) (sign : Polynomial → Sign) (node : Node NumberedAtom) (rest : Parts NumberedAtom)
      → truth_of all sign (each_atom f (before node rest)) ≡ joined all (holds sign (each_atom_of f node)) (truth_of all sign (each_atom f rest))
  unfolding open_formula truth_of joined all_hold some_hold holds
  truth-before true sign (leaf a) rest = refl
  truth-before true sign (all_of kids) rest = refl
  truth-before true sign (any_of kids) rest = refl
  truth-before false sign (leaf a) rest = refl
  truth-before false sign (all_of kids) rest = refl
  truth-before false sign (any_of kids) rest = refl

-- The first of the parts on the tape, and the others behind it.
pub record First (token : List ℕ) (kind k : ℕ) (parts : Parts NumberedAtom) : Type 0 where
  pub node : Node NumberedAtom
  pub others : Parts NumberedAtom
  pub is : parts ≡ before node others
  pub held : HeldAt token kind k node
  pub later : PartsHeld token kind (k + nodes (alone node)) others
  pub counted : children parts ≡ 1 + children others
  pub all : nodes parts ≡ nodes (alone node) + nodes others

first : (token : List ℕ) (kind k : ℕ) (parts : Parts NumberedAtom) → PartsHeld token kind k parts → 0 < children parts → First token kind k parts
unfolding PartsHeld open_formula
first token kind k end h left = absurd (omega arith)
first token kind k (atom a rest) h left =
    record {
      node = leaf a;
      others = rest;
      is = refl;
      held = record { held = (h.0, h.1, h.2, h.3, tt) };
      later = rw add-one h.4;
      counted = refl;
      all = refl;
    }
first token kind k (and kids rest) h left =
    let one : k + (1 + nodes kids + 0) ≡ suc k + nodes kids = omega arith in
    record {
      node = all_of kids;
      others = rest;
      is = refl;
      held = record { held = (h.0, h.1, h.2, h.3, tt) };
      later = rw one h.4;
      counted = refl;
      all = ap (λ (n : ℕ). n + nodes rest) (sym (none (nodes kids)));
    }
  where
    none : (n : ℕ) → 1 + n + 0 ≡ 1 + n
    none n = omega arith
first token kind k (or kids rest) h left =
    let one : k + (1 + nodes kids + 0) ≡ suc k + nodes kids = omega arith in
    record {
      node = any_of kids;
      others = rest;
      is = refl;
      held = record { held = (h.0, h.1, h.2, h.3, tt) };
      later = rw one h.4;
      counted = refl;
      all = ap (λ (n : ℕ). n + nodes rest) (sym (none (nodes kids)));
    }
  where
    none : (n : ℕ) → 1 + n + 0 ≡ 1 + n
    none n = omega arith

-- ---- The walk.

and_both : (a b c : Bool) → a && (b && c) ≡ both a b && c
unfolding both
and_both true b c = refl
and_both false b c = refl

both-second : (a b c : Bool) → both a b && c ≡ true → b ≡ true
unfolding both
both-second true b c e = and_first b c e
both-second false b c e = absurd (true≢false (sym e))

joined-both : (all a b c : Bool) → joined all a (joined all b c) ≡ joined all (joined all a b) c
unfolding joined
joined-both true true b c = refl
joined-both true false b c = refl
joined-both false true b c = refl
joined-both false false b c = refl

joined-start : (all t : Bool) → joined all all t ≡ t
unfolding joined
joined-start true t = refl
joined-start false t = refl

joined-none : (all sofar : Bool) → joined all sofar all ≡ sofar
unfolding joined
joined-none true true = refl
joined-none true false = refl
joined-none false true = refl
joined-none false false = refl

module _ (cs : List ℤ) (ms ts : List ℕ) (readings : List ℤ) (all : Bool) where
  abbrev fit_of : Parts NumberedAtom → Bool
  fit_of parts = parts_fit fits64 readings (each_atom (stored cs ms ts) parts)

  abbrev truth_in : Parts NumberedAtom → Bool
  truth_in parts = truth_of all (sign_at readings) (each_atom (stored cs ms ts) parts)

  module _ (token : List ℕ) (kind start : ℕ) (kids : Parts NumberedAtom) where
    -- No child yet.
    pub runs-start : PartsHeld token kind start kids → Runs cs ms ts readings token kind start all kids 0 start true all
    runs-start h = record {
      rest = kids;
      held = h;
      counted = omega arith;
      behind = refl;
      further = omega arith;
      fit = refl;
      truth = λ e. joined-start all (truth_in kids);
    }

    module _ {i next : ℕ} {fits sofar : Bool} (r : Runs cs ms ts readings token kind start all kids i next fits sofar) where
      -- A child is left: it is on the tape.
      pub runs-first : i < children kids → First token kind next r.rest
      runs-first h = first token kind next r.rest r.held (omega (arith, r.counted))

      -- One child more.
      pub runs-more : i < children kids → {seen : Seen} {fits' sofar' : Bool}
          → ((tree : Node NumberedAtom) → HeldAt token kind next tree → NodeIs cs ms ts readings next tree seen)
          → fits' ≡ both fits seen.fits → sofar' ≡ joined all sofar seen.holds → Runs cs ms ts readings token kind start all kids (i + 1) seen.next fits' sofar'
      runs-more h {seen} {fits'} {sofar'} said e g =
          let f = runs-first h in
          let child = said f.node f.held in
          let child_fit = parts_fit fits64 readings (alone (each_atom_of (stored cs ms ts) f.node)) in
          let child_holds = holds (sign_at readings) (each_atom_of (stored cs ms ts) f.node) in
          let split : fits && fit_of r.rest ≡ both fits child_fit && fit_of f.others =
          ap (λ (p : Parts NumberedAtom). fits && fit_of p) f.is ∙ ap (λ (b : Bool). fits && b) (fit-before (stored cs ms ts) readings f.node f.others)
          ∙ and_both fits child_fit (fit_of f.others) in
          record {
            rest = f.others;
            held = rw child.next f.later;
            counted = omega (arith, r.counted, f.counted);
            behind = omega (arith, r.behind, f.all, child.next);
            further = omega (arith, r.further, child.next);
            fit = ap (λ (b : Bool). b && fit_of f.others) (e ∙ ap (both fits) child.says.fit) ∙ sym split ∙ r.fit;
            truth = λ fit.
                ap (λ (b : Bool). joined all b (truth_in f.others))
                (g ∙ ap (joined all sofar) (child.says.truth (both-second fits child_fit (fit_of f.others) (sym split ∙ r.fit ∙ fit))))
                ∙ sym (joined-both all sofar child_holds (truth_in f.others))
                ∙ ap (joined all sofar) (sym (truth-before (stored cs ms ts) readings all (sign_at readings) f.node f.others))
                ∙ ap (λ (p : Parts NumberedAtom). joined all sofar (truth_in p)) (sym f.is) ∙ r.truth fit;
          }

      -- No child is left: the children are all seen.
      pub runs-end : children kids ≤ i → (next ≡ start + nodes kids) × Says (fit_of kids) (truth_in kids) fits sofar
      unfolding open_formula parts_fit truth_of all_hold some_hold
      runs-end h = by r.rest r.counted r.behind r.fit r.truth
        where
          truth-none : (all : Bool) → truth_of all (sign_at readings) (each_atom (stored cs ms ts) end) ≡ all
          truth-none true = refl
          truth-none false = refl

          by : (rest : Parts NumberedAtom) → i + children rest ≡ children kids → next + nodes rest ≡ start + nodes kids → fits && fit_of rest ≡ fit_of kids
              → (fit_of kids ≡ true → joined all sofar (truth_in rest) ≡ truth_in kids) → (next ≡ start + nodes kids) × Says (fit_of kids) (truth_in kids) fits sofar
          by end c b f t = (omega (arith, b), record { fit = sym (and-true fits) ∙ f; truth = λ e. sym (joined-none all sofar) ∙ ap (joined all sofar) (sym (truth-none all)) ∙ t e })
          by (atom a rest) c b f t = absurd (omega (arith, c, h))
          by (and kids' rest) c b f t = absurd (omega (arith, c, h))
          by (or kids' rest) c b f t = absurd (omega (arith, c, h))

-- ---- A node.

module _ (cs : List ℤ) (ms ts : List ℕ) (readings : List ℤ) (token : List ℕ) (kind at : ℕ) where
  -- Its token is there.
  pub node-there : SomeNode token kind at → at < length token
  unfolding PartsHeld open_formula
  node-there s = by s.tree s.held.held
    where
      by : (tree : Node NumberedAtom) → PartsHeld token kind at (alone tree) → at < length token
      by (leaf a) h = h.0
      by (all_of kids) h = h.0
      by (any_of kids) h = h.0

  -- An atom's names a slot; what is said of it is said of the node.
  pub atom-small : SomeNode token kind at → get_or token at 0 < 16777216 → get_or token at 0 < 512
  unfolding PartsHeld open_formula
  atom-small s low = by s.tree s.held.held
    where
      by : (tree : Node NumberedAtom) → PartsHeld token kind at (alone tree) → get_or token at 0 < 512
      by (leaf a) h = omega (arith, h.1, h.2, h.3)
      by (all_of kids) h = absurd (omega (arith, h.1, low))
      by (any_of kids) h = absurd (omega (arith, h.1, low))

  pub node-atom : get_or token at 0 < 16777216 → {r : Truth} → AtomIs readings (stored_at cs ms ts (get_or token at 0 / 8) (get_or token at 0 % 8)) r
      → (tree : Node NumberedAtom) → HeldAt token kind at tree → NodeIs cs ms ts readings at tree (record { next = at + 1; fits = r.fits; holds = r.holds })
  unfolding PartsHeld open_formula parts_fit holds
  node-atom low {r} is (leaf a) held =
      let h = held.held in
      let number : get_or token at 0 / 8 ≡ a.number = omega (arith, h.1, h.2, h.3) in
      let set : get_or token at 0 % 8 ≡ a.set = omega (arith, h.1, h.2, h.3) in
      let said = rw (number, set) at is.says in
      record { next = refl; says = record { fit = said.fit ∙ sym (and-true _); truth = λ e. said.truth (and_first _ true e) } }
  node-atom low is (all_of kids) held = absurd (omega (arith, held.held.1, low))
  node-atom low is (any_of kids) held = absurd (omega (arith, held.held.1, low))

-- The parts of an AND or an OR, and its kind.
pub record Children (token : List ℕ) (kind at : ℕ) (kids : Parts NumberedAtom) : Type 0 where
  pub held : PartsHeld token (3 - kind) (at + 1) kids
  pub counted : children kids ≡ get_or token at 0 - 16777216
  pub small : kind ≤ 3

pub some-children : (token : List ℕ) (kind at : ℕ) → 16777216 ≤ get_or token at 0 → SomeNode token kind at → (kids : Parts NumberedAtom) × Children token kind at kids
unfolding PartsHeld open_formula
some-children token kind at high s = by s.tree s.held.held
  where
    by : (tree : Node NumberedAtom) → PartsHeld token kind at (alone tree) → (kids : Parts NumberedAtom) × Children token kind at kids
    by (leaf a) h = absurd (omega (arith, h.1, h.2, h.3, high))
    by (all_of kids) h = let other : 3 - kind ≡ 2 = omega (arith, h.2) in
        (kids, record { held = rw (other, add-one) h.3; counted = omega (arith, h.1); small = omega (arith, h.2) })
    by (any_of kids) h = let other : 3 - kind ≡ 1 = omega (arith, h.2) in
        (kids, record { held = rw (other, add-one) h.3; counted = omega (arith, h.1); small = omega (arith, h.2) })

-- What its children have said is said of the node.
module _ (cs : List ℤ) (ms ts : List ℕ) (readings : List ℤ) (token : List ℕ) (kind at : ℕ) where
  pub node-join : 16777216 ≤ get_or token at 0 → {seen : Seen}
      → ((kids : Parts NumberedAtom) → Children token kind at kids
      → (seen.next ≡ at + 1 + nodes kids) × Says (fit_of cs ms ts readings (eqb kind 1) kids) (truth_in cs ms ts readings (eqb kind 1) kids) seen.fits seen.holds)
      → (tree : Node NumberedAtom) → HeldAt token kind at tree → NodeIs cs ms ts readings at tree seen
  unfolding PartsHeld open_formula parts_fit holds truth_of
  node-join high said (leaf a) held = let h = held.held in absurd (omega (arith, h.1, h.2, h.3, high))
  node-join high said (all_of kids) held =
      let h = held.held in
      let other : 3 - kind ≡ 2 = omega (arith, h.2) in
      let s = rw (eq-eqb kind 1 h.2) at (said kids (record { held = rw (other, add-one) h.3; counted = omega (arith, h.1); small = omega (arith, h.2) })) in
      record { next = omega (arith, s.0); says = record { fit = s.1.fit ∙ sym (and-true _); truth = λ e. s.1.truth (and_first _ true e) } }
  node-join high said (any_of kids) held =
      let h = held.held in
      let other : 3 - kind ≡ 1 = omega (arith, h.2) in
      let s = rw (ne_eqb kind 1 (λ e. omega (arith, h.2))) at (said kids (record { held = rw (other, add-one) h.3; counted = omega (arith, h.1); small = omega (arith, h.2) })) in
      record { next = omega (arith, s.0); says = record { fit = s.1.fit ∙ sym (and-true _); truth = λ e. s.1.truth (and_first _ true e) } }
