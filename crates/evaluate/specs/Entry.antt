-- The entry: what was read, held in arrays that were blank, run on the readings, is the book's evaluation.
use Rattle.std.specs.Prelude.{◌≡◌, refl, Bool, true, false, Option, Some, Result, Ok, Err, List, [], ◌∷◌, map, ℕ, zero, suc, ◌+◌, ◌-◌, ◌*◌, ◌<◌, ◌≤◌, eqb, ℤ, pos, length, get_or, set, replicate}
use Rattle.std.proofs.Math.Path.{sym, ap}
use Rattle.std.proofs.Common.{ap₂, ◌∙◌, subst, arith, eq-eqb, ne_eqb, get_or-set_other}
use Rattle.std.proofs.Math.Option.{none, some}
use Rattle.std.proofs.Math.Decide.{dec_lt}
use Rattle.std.proofs.lemmas.List.{length-replicate}
use Rattle.std.proofs.lemmas.List.Edits.{sets}
use Rattle.std.proofs.Math.Seq.{length-sets}
use Rattle.rules.specs.Polynomial.{Term, Polynomial, Atom}
use Rattle.rules.specs.Formula.{Parts, end, atom, and, or, Node, leaf, all_of, any_of, each_atom, each_atom_of, alone, open_formula}
use Rattle.rules.specs.Block.{NumberedAtom, Block, Stream, Reading, refused, read, read_block}
use Rattle.rules.specs.Limits.{PartsWithin, BlockWithin}
use Rattle.rules.specs.Answer.{looked_up, formula_of}
use Rattle.rules.specs.Meaning.{sign_at, holds, holds_at}
use Rattle.rules.specs.Evaluate as book
use Rattle.rules.specs.Evaluate.{parts_fit, fits64, some_if, evaluate_by, permit_if, if_many, evaluate_read, evaluate}
use Rattle.block_laws.specs.Blocks.{accepted-within}
use Rattle.terms.specs.View.{terms_from}
use Rattle.block.specs.declared.Held.{Held}
use Rattle.block.specs.declared.Contents.{Contents}
use Rattle.block.specs.declared.Refusal.{Refusal as BlockRefusal}
use Rattle.block.specs.Refusals as block
use Rattle.block.specs.Held.{held_by, held_over}
use Rattle.block.specs.Steps.{ContentsOf, ContentsFound, AtMost, HasAtMost, FewOf, FewFound}
use Rattle.writer.specs.Written.{PartsHeld}
use Rattle.array_laws.specs.Arrays.{AtMostSixteen, table_fits, length-slots, slot-stored}
use Rattle.array_laws.specs.Writing.{tree-stored}
use Rattle.evaluate.specs.declared.Verdict.{Verdict}
use Rattle.evaluate.specs.declared.Verdict.TheVariants.{Deny, Permit}
use Rattle.evaluate.specs.declared.Refusal.{Refusal}
use Rattle.evaluate.specs.declared.Refusal.TheVariants.{ReadingsCount, Overflow}
use Rattle.evaluate.specs.Refusals.{by_number}
use Rattle.evaluate.specs.declared.Seen.{Seen}
use Rattle.evaluate.specs.Tree.{stored, TableRoom, Says, HeldAt, SomeNode, NodeIs}

-- The book's evaluation as the code returns it, by the refusal's number; and as the number for C.
unfoldable pub evaluation_of : book.Evaluation → Result Verdict ℕ
evaluation_of book.permit = Ok Permit
evaluation_of book.deny = Ok Deny
evaluation_of (book.refused_by number) = Err number

abbrev pub number_told : Result Verdict ℕ → ℕ
number_told (Err number) = number
number_told (Ok Deny) = 256
number_told (Ok Permit) = 257

pub number-exported : (e : book.Evaluation) → number_told (evaluation_of e) ≡ book.evaluation_number e
unfolding evaluation_of book.evaluation_number
number-exported book.permit = refl
number-exported book.deny = refl
number-exported (book.refused_by number) = refl

unfoldable pub verdict_of : Bool → Bool → Result Verdict Refusal
verdict_of true true = Ok Permit
verdict_of true false = Ok Deny
verdict_of false holds = Err Overflow

verdict-says : (fits truth told-fits told-holds : Bool) → Says fits truth told-fits told-holds → by_number (verdict_of told-fits told-holds) ≡ evaluation_of (permit_if (some_if fits truth))
unfolding verdict_of evaluation_of permit_if some_if
verdict-says true truth told-fits told-holds says = ap₂ (λ (f h : Bool). by_number (verdict_of f h)) says.fit (says.truth refl) ∙ by truth
  where
    by : (b : Bool) → by_number (verdict_of true b) ≡ evaluation_of (permit_if (some b))
    by true = refl
    by false = refl
verdict-says false truth told-fits told-holds says = ap (λ (b : Bool). by_number (verdict_of b told-holds)) says.fit

-- ---- The arrays.

-- Counts of at most sixteen stay so, and none is none.
set-few : (ts : List ℕ) (k v : ℕ) → v ≤ 16 → ((j : ℕ) → get_or ts j 0 ≤ 16) → (j : ℕ) → get_or (set ts k v) j 0 ≤ 16
set-few [] k v h each j = each j
set-few (t ∷ ts) zero v h each zero = h
set-few (t ∷ ts) zero v h each (suc j) = each (suc j)
set-few (t ∷ ts) (suc k) v h each zero = each 0
set-few (t ∷ ts) (suc k) v h each (suc j) = set-few ts k v h (λ i. each (suc i)) j

counts-few : (table : List Polynomial) → AtMostSixteen table → (ts : List ℕ) (k : ℕ) → ((j : ℕ) → get_or ts j 0 ≤ 16) → (j : ℕ) → get_or (sets ts k (map length table)) j 0 ≤ 16
counts-few [] few ts k each j = each j
counts-few (p ∷ ps) few ts k each j = counts-few ps (λ i. few (suc i)) (set ts k (length p)) (suc k) (set-few ts k (length p) (few 0) each) j

blank : (n j : ℕ) → get_or (replicate n 0) j 0 ≤ 16
blank zero j = omega arith
blank (suc n) zero = omega arith
blank (suc n) (suc j) = blank n j

none_there : (n j : ℕ) → get_or {A = ℕ} (replicate n 0) j 0 ≡ 0
none_there zero j = refl
none_there (suc n) zero = refl
none_there (suc n) (suc j) = none_there n j

-- Behind the counts of a table's polynomials there is none where there was none.
none-behind : (table : List Polynomial) (ts : List ℕ) (k : ℕ) → ((j : ℕ) → k + length table ≤ j → get_or ts j 0 ≡ 0) → (j : ℕ) → k + length table ≤ j
    → get_or (sets ts k (map length table)) j 0 ≡ 0
none-behind [] ts k each j h = each j h
none-behind (p ∷ ps) ts k each j h =
    none-behind ps (set ts k (length p)) (suc k) (λ i more. get_or-set_other ts k i (length p) 0 (λ e. omega arith) ∙ each i (omega arith)) j (omega arith)

-- The parts of a tree within the limits name polynomials of the table.
same_parts : (cs : List ℤ) (ms ts : List ℕ) (table : List Polynomial) → ((i : ℕ) → i < length table → terms_from cs ms (16 * i) (get_or ts i 0) ≡ get_or table i [])
    → (d parent : ℕ) (parts : Parts NumberedAtom) → PartsWithin d (length table) parent parts → each_atom (stored cs ms ts) parts ≡ each_atom (looked_up table) parts
unfolding PartsWithin open_formula looked_up
same_parts cs ms ts table each d parent end h = refl
same_parts cs ms ts table each d parent (atom a rest) h =
    ap₂ (λ (p : Polynomial) (r : Parts Atom). atom (record { polynomial = p; set = a.set }) r) (each a.number h.0) (same_parts cs ms ts table each d parent rest h.2)
same_parts cs ms ts table each d parent (and kids rest) h =
    ap₂ (λ (k r : Parts Atom). and k r) (same_parts cs ms ts table each (d - 1) 1 kids h.2) (same_parts cs ms ts table each d parent rest h.3)
same_parts cs ms ts table each d parent (or kids rest) h =
    ap₂ (λ (k r : Parts Atom). or k r) (same_parts cs ms ts table each (d - 1) 2 kids h.2) (same_parts cs ms ts table each d parent rest h.3)

same-tree : (cs : List ℤ) (ms ts : List ℕ) (table : List Polynomial) → ((i : ℕ) → i < length table → terms_from cs ms (16 * i) (get_or ts i 0) ≡ get_or table i [])
    → (tree : Node NumberedAtom) → PartsWithin 6 (length table) 0 (alone tree) → each_atom_of (stored cs ms ts) tree ≡ each_atom_of (looked_up table) tree
unfolding PartsWithin open_formula looked_up
same-tree cs ms ts table each (leaf a) h = ap (λ (p : Polynomial). leaf (record { polynomial = p; set = a.set })) (each a.number h.0)
same-tree cs ms ts table each (all_of kids) h = ap (λ (k : Parts Atom). all_of k) (same_parts cs ms ts table each 5 1 kids h.2)
same-tree cs ms ts table each (any_of kids) h = ap (λ (k : Parts Atom). any_of k) (same_parts cs ms ts table each 5 2 kids h.2)

-- ---- What the reader finds.

-- A block that was read, held in arrays that were blank and have room for its table.
pub record Taken (bytes : List ℕ) (held : Held) : Type 0 where
  pub given : Block
  pub stream : Stream
  pub accepted : read_block bytes ≡ read given stream
  pub places : ℕ
  pub room : 16 * length given.table ≤ places
  pub is : held ≡ held_over (replicate places (pos 0)) (replicate places 0) (replicate 64 0) (replicate 255 0) given

unfoldable pub StandsAs : List ℕ → List ℤ → List ℕ → List ℕ → List ℕ → Result Contents BlockRefusal → Type 0
StandsAs bytes cs ms ts token (Err refusal) = read_block bytes ≡ refused (block.number_of refusal)
StandsAs bytes cs ms ts token (Ok given) = Taken bytes (held_by given.variables given.polynomials given.root given.tokens cs ms ts token)

-- What the reader says of the bytes and has stored in the arrays.
pub record Stands (bytes : List ℕ) (cs : List ℤ) (ms ts token : List ℕ) (contents : Result Contents BlockRefusal) : Type 0 where
  pub holds_as : StandsAs bytes cs ms ts token contents

pub record SomeStand (cs : List ℤ) (ms ts token : List ℕ) (contents : Result Contents BlockRefusal) : Type 0 where
  pub bytes : List ℕ
  pub stands : Stands bytes cs ms ts token contents

module _ {bytes : List ℕ} {cs : List ℤ} {ms ts token : List ℕ} {contents : Result Contents BlockRefusal} (s : Stands bytes cs ms ts token contents) where
  pub stand-refused : {refusal : BlockRefusal} → contents ≡ Err refusal → read_block bytes ≡ refused (block.number_of refusal)
  unfolding StandsAs
  stand-refused e = (rw e at s).holds_as

  pub stand-taken : {given : Contents} → contents ≡ Ok given
      → Taken bytes (held_by given.variables given.polynomials given.root given.tokens cs ms ts token)
  unfolding StandsAs
  stand-taken e = (rw e at s).holds_as

-- Where the arrays have room for every block,
pub any-stands : {bytes : List ℕ} {cs : List ℤ} {ms ts token : List ℕ} {contents : Result Contents BlockRefusal}
    → ContentsFound bytes (replicate 1024 (pos 0)) cs (replicate 1024 0) ms (replicate 64 0) ts (replicate 255 0) token contents
    → Stands bytes cs ms ts token contents
unfolding ContentsOf StandsAs
any-stands {contents = Err refusal} found = record { holds_as = found.found }
any-stands {bytes} {contents = Ok given} found =
    let stored = found.found in
    record {
      holds_as = record {
        given = stored.block;
        stream = stored.rest;
        accepted = stored.reading;
        places = 1024;
        room = omega (arith, (accepted-within bytes stored.reading).polynomials);
        is = stored.stored;
      };
    }

-- and where they have room for sixteen polynomials and there are no more.
pub few-stands : {bytes : List ℕ} {cs : List ℤ} {ms ts token : List ℕ} {contents : Result Contents BlockRefusal}
    → ContentsFound bytes (replicate 256 (pos 0)) cs (replicate 256 0) ms (replicate 64 0) ts (replicate 255 0) token contents → HasAtMost 16 contents
    → Stands bytes cs ms ts token contents
unfolding ContentsOf StandsAs AtMost
few-stands {contents = Err refusal} found few = record { holds_as = found.found }
few-stands {contents = Ok given} found few =
    let stored = found.found in
    record {
      holds_as = record {
        given = stored.block;
        stream = stored.rest;
        accepted = stored.reading;
        places = 256;
        room = omega (arith, ap (λ (h : Held). h.polynomials) stored.stored, few.has);
        is = stored.stored;
      };
    }

pub few-read : {bytes : List ℕ} {cs : List ℤ} {ms ts token : List ℕ} {few : Option (Result Contents BlockRefusal)} {contents : Result Contents BlockRefusal}
    → FewFound bytes (replicate 256 (pos 0)) cs (replicate 256 0) ms (replicate 64 0) ts (replicate 255 0) token few → few ≡ Some contents
    → Stands bytes cs ms ts token contents
unfolding FewOf
few-read found e = let read = (rw e at found).found in few-stands read.0 read.1

-- ---- The three cases.

pub entry-refused : (bytes : List ℕ) (readings : List ℤ) {number : ℕ} → read_block bytes ≡ refused number → Err number ≡ evaluation_of (evaluate bytes readings)
unfolding evaluate evaluate_read evaluation_of
entry-refused bytes readings e = sym (ap (λ (r : Reading Block). evaluation_of (evaluate_read readings r)) e)

module _ (bytes : List ℕ) (readings : List ℤ) {variables polynomials root count : ℕ} {cs : List ℤ} {ms ts token : List ℕ}
    (taken : Taken bytes (held_by variables polynomials root count cs ms ts token)) where
  within : BlockWithin taken.given
  within = accepted-within bytes taken.accepted

  its-variables : variables ≡ taken.given.variables
  its-variables = ap (λ (h : Held). h.variables) taken.is

  as_read : evaluation_of (evaluate bytes readings)
      ≡ evaluation_of (if_many (eqb (length readings) taken.given.variables) (permit_if (evaluate_by fits64 readings (formula_of taken.given))))
  unfolding evaluate evaluate_read
  as_read = ap (λ (r : Reading Block). evaluation_of (evaluate_read readings r)) taken.accepted

  pub entry-many : (length readings ≡ variables → ⊥) → by_number (Err ReadingsCount) ≡ evaluation_of (evaluate bytes readings)
  unfolding if_many evaluation_of
  entry-many h = sym (as_read ∙ ap (λ (b : Bool). evaluation_of (if_many b (permit_if (evaluate_by fits64 readings (formula_of taken.given)))))
      (ne_eqb (length readings) taken.given.variables (λ e. h (e ∙ sym its-variables))))

  pub few-readings : length readings ≡ variables → length readings ≤ 16
  few-readings e = omega (arith, within.variables, its-variables)

  -- The arrays hold the table and the tree.
  long-coefficients : length cs ≡ taken.places
  long-coefficients =
      ap (λ (l : Held). length l.coefficient) taken.is
      ∙ length-slots (λ (t : Term). t.coefficient) (pos 0) taken.given.table 0 (replicate taken.places (pos 0)) ∙ length-replicate taken.places (pos 0)

  long-monomials : length ms ≡ taken.places
  long-monomials =
      ap (λ (l : Held). length l.monomial) taken.is
      ∙ length-slots (λ (t : Term). t.monomial) 0 taken.given.table 0 (replicate taken.places 0) ∙ length-replicate {A = ℕ} taken.places 0

  counts-are : ts ≡ sets (replicate 64 0) 0 (map length taken.given.table)
  counts-are = ap (λ (l : Held). l.terms) taken.is

  each-stored : (i : ℕ) → i < length taken.given.table → terms_from cs ms (16 * i) (get_or ts i 0) ≡ get_or taken.given.table i []
  each-stored i h = subst (λ (l : Held). terms_from l.coefficient l.monomial (16 * i) (get_or l.terms i 0) ≡ get_or taken.given.table i []) (sym taken.is)
      (slot-stored taken.given.table (table_fits within.table) (replicate taken.places (pos 0)) (replicate taken.places 0) (replicate 64 0)
      (rw (length-replicate taken.places (pos 0)) taken.room) (rw (length-replicate {A = ℕ} taken.places 0) taken.room) within.polynomials i h)

  tree-held : HeldAt token root 0 taken.given.tree
  tree-held = record {
    held = subst (λ (l : Held). PartsHeld l.token l.root 0 (alone taken.given.tree)) (sym taken.is)
        (tree-stored taken.given within (replicate 255 0) (length-replicate {A = ℕ} 255 0));
  }

  few-terms : (number : ℕ) → get_or ts number 0 ≤ 16
  few-terms number = subst (λ (l : List ℕ). get_or l number 0 ≤ 16) (sym counts-are)
      (counts-few taken.given.table (table_fits within.table) (replicate 64 0) 0 (blank 64) number)

  -- A slot that has terms is one of the table's.
  slot-used : (number : ℕ) → 0 < get_or ts number 0 → number < length taken.given.table
  slot-used number used = by (dec_lt number (length taken.given.table))
    where
      by : Dec (number < length taken.given.table) → number < length taken.given.table
      by (yes h) = h
      by (no beyond) =
          let none : get_or ts number 0 ≡ 0 = subst (λ (l : List ℕ). get_or l number 0 ≡ 0) (sym counts-are)
          (none-behind taken.given.table (replicate 64 0) 0 (λ j h. none_there 64 j) number (omega arith)) in
          absurd (omega (arith, none, used))

  pub table-room : TableRoom cs ms ts
  table-room = record {
    coefficients = λ number used. omega (arith, slot-used number used, few-terms number, long-coefficients, taken.room);
    monomials = λ number used. omega (arith, slot-used number used, few-terms number, long-monomials, taken.room);
    counts = omega (arith, ap length counts-are, length-sets (replicate 64 0) 0 (map length taken.given.table), length-replicate {A = ℕ} 64 0);
    few = few-terms;
  }

  pub some-node : SomeNode token root 0
  some-node = record { tree = taken.given.tree; held = tree-held }

  pub entry-answer : length readings ≡ variables → {seen : Seen} → ((tree : Node NumberedAtom) → HeldAt token root 0 tree → NodeIs cs ms ts readings 0 tree seen)
      → by_number (verdict_of seen.fits seen.holds) ≡ evaluation_of (evaluate bytes readings)
  unfolding evaluate_by holds_at formula_of if_many
  entry-answer e {seen} said =
      verdict-says (parts_fit fits64 readings (alone (formula_of taken.given))) (holds_at readings (formula_of taken.given)) seen.fits seen.holds
      (subst (λ (tree : Node Atom). Says (parts_fit fits64 readings (alone tree)) (holds (sign_at readings) tree) seen.fits seen.holds)
      (same-tree cs ms ts taken.given.table each-stored taken.given.tree within.tree) (said taken.given.tree tree-held).says)
      ∙ sym (as_read ∙ ap (λ (b : Bool). evaluation_of (if_many b (permit_if (evaluate_by fits64 readings (formula_of taken.given)))))
      (eq-eqb (length readings) taken.given.variables (e ∙ its-variables)))
