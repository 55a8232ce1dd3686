-- The records that are told of an accepted block whose root is an AND of atoms: they are true, and the kept and narrowed ones are exactly the atoms
-- and places of the answer (#105).
use Rattle.std.specs.Prelude.{◌≡◌, refl, Bool, true, false, List, [], ◌∷◌, ◌++◌, map, ℕ, suc, ◌+◌, ◌<◌, length}
use Rattle.std.proofs.Common.{sym, ◌∙◌, subst, append-nil, arith}
use Rattle.std.proofs.Math.Path.{ap}
use mathlib.Core.List.{Memᴰ as Member}
use Rattle.std.proofs.Math.Option.{Option, none, some, some-injective, none-ne-some}
use Rattle.rules.specs.Polynomial.{Polynomial, Atom}
use Rattle.rules.specs.Formula.{Parts, end, atom, and, or, Node, leaf, all_of, any_of, is_end, each_atom, each_atom_of, in_order, alone, before}
use Rattle.rules.specs.Level.{Placed, plains, placed_at, placed_from, placed_tree, places, parts, or_parts, never, node_if, as_node, simplify}
use Rattle.rules.specs.Block.{NumberedAtom, Block, Stream, read, read_block}
use Rattle.rules.specs.Limits.{PartsWithin, BlockWithin}
use Rattle.rules.specs.Answer.{Verdict, formula, always, unsatisfiable, if_end, verdict_of, looked_up, formula_of, simplified, new_places}
use Rattle.rules.specs.Meaning.{Choice, atom_holds}
use Rattle.sign_laws.specs.Lists.{Every, every_none, every}
use Rattle.block_laws.specs.Blocks.{accepted-within}
use Rattle.level_laws.specs.Holding.{atoms_hold}
use Rattle.removal_laws.specs.Rounds.{LowAtoms}
use Rattle.rules.specs.Reasons.{places_of, clauses_from, joined, merged_list, fails, failing, carried_clauses, Reason, each_false, reasons}
use Rattle.rules.specs.Reasons.{with_first, only_atoms, atoms_of_and}
use Rattle.reason_laws.specs.Named.{JustFails}
use Rattle.reason_laws.specs.Merged.{as_read}
use Rattle.reason_laws.specs.Explained.{and_of, answer_to, root-atom, root-and, whole-false, explained}
use Rattle.reason_laws.specs.Records.{kept_by_records}
use Rattle.reason_laws.specs.Holding.{at, exclude-over}
use Rattle.reason_laws.specs.Answered.{kept-is-answer, false-keeps-none, TrueRecords, reasons-true, failing-of-merged, some-named}

-- ---- An AND of atoms is one of the atoms as read.

with-first : (a : Atom) (o : Option (List Atom)) {l : List Atom} → with_first a o ≡ some l → (rest : List Atom) × ((o ≡ some rest) × (l ≡ a ∷ rest))
unfolding with_first
with-first a none {l} e = absurd (none-ne-some l e)
with-first a (some rest) {l} e = (rest, (refl, some-injective l (a ∷ rest) (sym e)))

placed-only : (k : ℕ) (kids : Parts Atom) {l : List Atom} → only_atoms kids ≡ some l → placed_from k kids ≡ and_of (as_read k l)
unfolding only_atoms placed_from and_of parts or_parts as_read
placed-only k end {l} e = rw (some-injective l [] (sym e))
placed-only k (atom a rest) {l} e =
    let more = with-first a (only_atoms rest) e in
    let next : 1 + k ≡ suc k = omega arith in
    rw more.1.1 (ap (λ (i : ℕ). atom (placed_at k a) (placed_from i rest)) next ∙ ap (atom (placed_at k a)) (placed-only (suc k) rest more.1.0))
placed-only k (and kids rest) {l} e = absurd (none-ne-some l e)
placed-only k (or kids rest) {l} e = absurd (none-ne-some l e)

-- So is the answer that to these atoms.
answered-so : (n : ℕ) (tree : Node Atom) {l : List Atom} → atoms_of_and tree ≡ some l → simplify n (placed_tree tree) ≡ as_node (answer_to n l)
unfolding atoms_of_and placed_tree
answered-so n (leaf a) {l} e = rw (some-injective l (a ∷ []) (sym e)) (root-atom n a)
answered-so n (all_of kids) {l} e = rw (placed-only 0 kids e) (root-and n l)
answered-so n (any_of kids) {l} e = absurd (none-ne-some l e)

-- ---- The atoms of an answer, in reading order.

in-order-and : (l : List Placed) → in_order (and_of l) ≡ l
unfolding and_of parts or_parts in_order
in-order-and [] = refl
in-order-and (a ∷ l) = ap (λ (k : List Placed). a ∷ k) (in-order-and l)

alone-and : (l : List Placed) → in_order (alone (as_node (and_of l))) ≡ l
unfolding and_of parts or_parts as_node node_if is_end alone before in_order
alone-and [] = refl
alone-and (a ∷ []) = refl
alone-and (a ∷ b ∷ l) = append-nil _ ∙ ap (λ (k : List Placed). a ∷ b ∷ k) (in-order-and l)

alone-never : in_order (alone (as_node never)) ≡ []
unfolding never as_node node_if is_end alone before in_order
alone-never = refl

-- ---- What the head line tells.

-- UNSATISFIABLE if the whole is false, else ALWAYS if nothing is kept.
unfoldable pub told_verdict : Bool → List Placed → Verdict
told_verdict true l = unsatisfiable
told_verdict false [] = always
told_verdict false (a ∷ l) = formula

verdict-and : (l : List Placed) → verdict_of (as_node (and_of l)) ≡ told_verdict false l
unfolding and_of parts or_parts as_node node_if is_end verdict_of if_end told_verdict
verdict-and [] = refl
verdict-and (a ∷ []) = refl
verdict-and (a ∷ b ∷ l) = refl

verdict-never : (l : List Placed) → verdict_of (as_node never) ≡ told_verdict true l
unfolding never as_node node_if is_end verdict_of if_end told_verdict
verdict-never l = refl

-- ---- The records of atoms with sets below 8.

-- The whole is false: the same record for each atom, by atoms of the merged list that just fail, at least one, and hold together at no choice of
-- readings. Or each record is true.
pub data Truly (n : ℕ) (l : List Atom) : Type 0 where
  truly_false : {named : List Placed} → reasons n l ≡ each_false (places_of named) (clauses_from 0 l)
      → Every (λ (d : Placed). Member d (merged_list l)) named
      → JustFails n named → (named ≡ [] → ⊥) → ((choice : Choice n) → atoms_hold (at choice) (plains named) ≡ false) → Truly n l
  truly_each : {carry : List Placed}
      → TrueRecords n (joined l) carry (kept_by_records (clauses_from 0 l) (reasons n l)) (clauses_from 0 l) (reasons n l) → Truly n l

pub record Asked (n : ℕ) (l : List Atom) : Type 0 where
  pub verdict : verdict_of (as_node (answer_to n l)) ≡ told_verdict (fails n (plains (merged_list l))) (kept_by_records (clauses_from 0 l) (reasons n l))
  pub kept : in_order (alone (as_node (answer_to n l))) ≡ kept_by_records (clauses_from 0 l) (reasons n l)
  pub truly : Truly n l

pub asked : (n : ℕ) (l : List Atom) → LowAtoms l → Asked n l
asked n l low = by-test (fails n (plains (merged_list l))) refl
  where
    named : List Placed
    named = failing n (merged_list l)

    by-test : (b : Bool) → fails n (plains (merged_list l)) ≡ b → Asked n l
    by-test true e =
        let x = whole-false n l low e in
        record {
          verdict = rw (e, x.answered) (verdict-never _);
          kept = rw (x.answered, false-keeps-none n l low e) alone-never;
          truly = truly_false x.records (failing-of-merged n (merged_list l)) x.just (λ none. some-named n (subst (JustFails n) none x.just))
              (λ choice. exclude-over choice x.just);
        }
    by-test false e = record {
      verdict = rw (e, kept-is-answer n l e) (verdict-and _);
      kept = rw (kept-is-answer n l e) (alone-and _);
      truly = truly_each (reasons-true n l e);
    }

-- ---- The records of an accepted block.

low_parts : (d m parent : ℕ) (table : List Polynomial) (kids : Parts NumberedAtom) → PartsWithin d m parent kids → {l : List Atom}
    → only_atoms (each_atom (looked_up table) kids) ≡ some l → LowAtoms l
unfolding PartsWithin each_atom only_atoms looked_up
low_parts d m parent table end w {l} e = rw (some-injective l [] (sym e)) every_none
low_parts d m parent table (atom a rest) w {l} e =
    let more = with-first (looked_up table a) (only_atoms (each_atom (looked_up table) rest)) e in
    rw more.1.1 (every w.1 (low_parts d m parent table rest w.2 more.1.0))
low_parts d m parent table (and kids rest) w {l} e = absurd (none-ne-some l e)
low_parts d m parent table (or kids rest) w {l} e = absurd (none-ne-some l e)

module _ (bytes : List ℕ) {given : Block} {stream : Stream} (accepted : read_block bytes ≡ read given stream)
    {l : List Atom} (only : atoms_of_and (formula_of given) ≡ some l) where
  -- Its sets are below 8.
  pub asked_low : LowAtoms l
  unfolding formula_of atoms_of_and each_atom_of alone before PartsWithin looked_up
  asked_low = by-tree given.tree (accepted-within bytes accepted).tree only
    where
      by-tree : (tree : Node NumberedAtom) → PartsWithin 6 (length given.table) 0 (alone tree)
          → atoms_of_and (each_atom_of (looked_up given.table) tree) ≡ some l → LowAtoms l
      by-tree (leaf a) w e = rw (some-injective l (looked_up given.table a ∷ []) (sym e)) (every w.1 every_none)
      by-tree (all_of kids) w e = low_parts _ _ _ given.table kids w.2 e
      by-tree (any_of kids) w e = absurd (none-ne-some l e)

  -- So its records are true.
  pub records-true : Asked given.variables l
  records-true = asked given.variables l asked_low

  -- The kept and narrowed records are exactly the atoms and places of the answer.
  pub kept-placed : in_order (alone (simplified given)) ≡ kept_by_records (clauses_from 0 l) (reasons given.variables l)
  unfolding simplified
  kept-placed = ap (λ (t : Node Placed). in_order (alone t)) (answered-so given.variables (formula_of given) only) ∙ records-true.kept

  pub kept-places : new_places given ≡ places_of (kept_by_records (clauses_from 0 l) (reasons given.variables l))
  unfolding new_places places places_of
  kept-places = ap (map (λ (a : Placed). a.place)) kept-placed

  -- And the verdict is the answer's.
  pub verdict-told : verdict_of (simplified given)
      ≡ told_verdict (fails given.variables (plains (merged_list l))) (kept_by_records (clauses_from 0 l) (reasons given.variables l))
  unfolding simplified
  verdict-told = ap verdict_of (answered-so given.variables (formula_of given) only) ∙ records-true.verdict
