-- The root by its token: an atom, an AND or OR of none, or one with children; and the whole script.
use mathlib.Core.Bool.{Bool, true, false}
use mathlib.Core.Path.{◌≡◌, refl, sym, ap, ◌∙◌}
use mathlib.Core.List.{List, [], ◌∷◌, ◌++◌}
use Prim.Native.Nat.{ℕ, ◌+◌, ◌-◌, ◌*◌, ◌/◌, ◌%◌, ◌≤◌, ◌<◌}
use native.Mathlib.Omega.{arith}
use lib.IntN.{ℤ}
use lib.ListN.{length, get_or}
use Rattle.rules.specs.Polynomial.{Polynomial}
use Rattle.rules.specs.Formula.{Parts, end, atom, and, or, Node, leaf, all_of, any_of, each_atom, each_atom_of, is_end, alone, children, open_formula}
use Rattle.rules.specs.Block.{NumberedAtom, Block}
use Rattle.rules.specs.Limits.{PartsWithin}
use Rattle.rules.specs.Answer.{looked_up, formula_of}
use Rattle.ending_laws.specs.Shapes.{is-end-each}
use Rattle.writer.specs.Written.{PartsHeld}
use Rattle.lines.specs.Written.{Wrote, wrote_as}
use Rattle.rules.specs.Text.{bytes, if_so, parts_text, node_text, root_text, declarations, formula_text, script_of}
use Rattle.script_laws.specs.Length.{script-length}
use Rattle.script_text.specs.Runs.{Fits, Split, two_runs, fits-as, fits-first, fits-second, wrote-split}
use Rattle.script_text.specs.Tree.{stored_at, Terms, Table, Named, join_text, none_text, Ahead, SomeAhead, text_of, Stands, SomeRoot}
use Rattle.script_text.specs.declared.Spot.{Spot}
use Rattle.script_text.proofs.Parts.{slot-inside, slot-terms, Puts}

named-parts : (d m parent : ℕ) (parts : Parts NumberedAtom) → PartsWithin d m parent parts → Named m parts
unfolding PartsWithin Named
named-parts d m parent end h = tt
named-parts d m parent (atom a rest) h = (h.0, named-parts d m parent rest h.2)
named-parts d m parent (and kids rest) h = (named-parts (d - 1) m 1 kids h.2, named-parts d m parent rest h.3)
named-parts d m parent (or kids rest) h = (named-parts (d - 1) m 2 kids h.2, named-parts d m parent rest h.3)

-- No parts, or some.
none_end : {A : Type 0} (kids : Parts A) → children kids ≡ 0 → is_end kids ≡ true
unfolding open_formula
none_end end z = refl
none_end (atom a rest) z = absurd (omega (arith, z))
none_end (and kids rest) z = absurd (omega (arith, z))
none_end (or kids rest) z = absurd (omega (arith, z))

some_end : {A : Type 0} (kids : Parts A) → (children kids ≡ 0 → ⊥) → is_end kids ≡ false
unfolding open_formula
some_end end h = absurd (h refl)
some_end (atom a rest) h = refl
some_end (and kids rest) h = refl
some_end (or kids rest) h = refl

record RootAtom (n : ℕ) (cs : List ℤ) (ms ts token : List ℕ) (table : List Polynomial) (tree : Node NumberedAtom) : Type 0 where
  pub is : node_text n (leaf (stored_at cs ms ts (get_or token 0 0 / 8) (get_or token 0 0 % 8))) ≡ root_text n (each_atom_of (looked_up table) tree)
  pub inside : get_or token 0 0 / 8 < length table

record RootJoin (n root : ℕ) (cs : List ℤ) (ms ts token : List ℕ) (table : List Polynomial) (tree : Node NumberedAtom) : Type 0 where
  pub kids : Parts NumberedAtom
  pub split : Split (root_text n (each_atom_of (looked_up table) tree)) (join_text root) (text_of n table kids ++ bytes ")")
  pub ahead : Ahead n cs ms ts token (3 - root) 1 (get_or token 0 0 - 16777216) table kids
  pub kind_small : root ≤ 3

module _ (n root : ℕ) (cs : List ℤ) (ms ts token : List ℕ) (table : List Polynomial) (stored : Table n cs ms ts table) where
  tree-there : (tree : Node NumberedAtom) → PartsHeld token root 0 (alone tree) → 0 < length token
  unfolding PartsHeld open_formula
  tree-there (leaf a) h = h.0
  tree-there (all_of kids) h = h.0
  tree-there (any_of kids) h = h.0

  tree-atom : (tree : Node NumberedAtom) → PartsHeld token root 0 (alone tree) → Named (length table) (alone tree) → get_or token 0 0 < 16777216
      → RootAtom n cs ms ts token table tree
  unfolding PartsHeld Named open_formula root_text looked_up
  tree-atom (leaf a) h named low =
      let number : get_or token 0 0 / 8 ≡ a.number = omega (arith, h.1, h.2, h.3) in
      let set : get_or token 0 0 % 8 ≡ a.set = omega (arith, h.1, h.2, h.3) in
      record { is = rw (number, set, stored.holds.each a.number named.0) refl; inside = rw number named.0 }
  tree-atom (all_of kids) h named low = absurd (omega (arith, h.1))
  tree-atom (any_of kids) h named low = absurd (omega (arith, h.1))

  tree-none : (tree : Node NumberedAtom) → PartsHeld token root 0 (alone tree) → 16777216 ≤ get_or token 0 0 → get_or token 0 0 - 16777216 ≡ 0
      → none_text root ≡ root_text n (each_atom_of (looked_up table) tree)
  unfolding PartsHeld open_formula root_text none_text if_so
  tree-none (leaf a) h high z = absurd (omega (arith, h.1, h.2, h.3))
  tree-none (all_of kids) h high z =
      let none = none_end kids (omega (arith, h.1, z)) in
      rw (h.2, is-end-each (looked_up table) kids, none) refl
  tree-none (any_of kids) h high z =
      let none = none_end kids (omega (arith, h.1, z)) in
      rw (h.2, is-end-each (looked_up table) kids, none) refl

  tree-join : (tree : Node NumberedAtom) → PartsHeld token root 0 (alone tree) → Named (length table) (alone tree) → 16777216 ≤ get_or token 0 0
      → (get_or token 0 0 - 16777216 ≡ 0 → ⊥) → RootJoin n root cs ms ts token table tree
  unfolding PartsHeld Named open_formula root_text node_text join_text if_so
  tree-join (leaf a) h named high some = absurd (omega (arith, h.1, h.2, h.3))
  tree-join (all_of kids) h named high some =
      let c : get_or token 0 0 - 16777216 ≡ children kids = omega (arith, h.1) in
      let more = some_end kids (λ z. some (c ∙ z)) in
      let other : 3 - root ≡ 2 = omega (arith, h.2) in
      record {
        kids = kids;
        split = record { whole_is = rw (h.2, is-end-each (looked_up table) kids, more) refl };
        ahead = record { stored = stored; named = named.0; held = rw other h.3; counted = sym c };
        kind_small = omega (arith, h.2);
      }
  tree-join (any_of kids) h named high some =
      let c : get_or token 0 0 - 16777216 ≡ children kids = omega (arith, h.1) in
      let more = some_end kids (λ z. some (c ∙ z)) in
      let other : 3 - root ≡ 1 = omega (arith, h.2) in
      record {
        kids = kids;
        split = record { whole_is = rw (h.2, is-end-each (looked_up table) kids, more) refl };
        ahead = record { stored = stored; named = named.0; held = rw other h.3; counted = sym c };
        kind_small = omega (arith, h.2);
      }

module _ {n root : ℕ} {cs : List ℤ} {ms ts token : List ℕ} {block : Block} (stands : Stands n root cs ms ts token block) where
  named : Named (length block.table) (alone block.tree)
  named = named-parts 6 (length block.table) 0 (alone block.tree) stands.within.tree

  pub root-there : 0 < length token
  root-there = tree-there n root cs ms ts token block.table stands.stored block.tree stands.held

  its-atom : get_or token 0 0 < 16777216 → RootAtom n cs ms ts token block.table block.tree
  its-atom low = tree-atom n root cs ms ts token block.table stands.stored block.tree stands.held named low

  its-join : 16777216 ≤ get_or token 0 0 → (get_or token 0 0 - 16777216 ≡ 0 → ⊥) → RootJoin n root cs ms ts token block.table block.tree
  its-join high some = tree-join n root cs ms ts token block.table stands.stored block.tree stands.held named high some

  pub root_none : 16777216 ≤ get_or token 0 0 → get_or token 0 0 - 16777216 ≡ 0 → none_text root ≡ root_text n (formula_of block)
  unfolding formula_of
  root_none high z = tree-none n root cs ms ts token block.table stands.stored block.tree stands.held high z

  pub root-atom : get_or token 0 0 < 16777216 → node_text n (leaf (stored_at cs ms ts (get_or token 0 0 / 8) (get_or token 0 0 % 8))) ≡ root_text n (formula_of block)
  unfolding formula_of
  root-atom low = (its-atom low).is

  pub atom-asks : {at : ℕ} → Fits at (root_text n (formula_of block)) → get_or token 0 0 < 16777216
      → (n ≤ 16) × (get_or token 0 0 / 8 < length ts) × Terms cs ms (16 * (get_or token 0 0 / 8)) (get_or ts (get_or token 0 0 / 8) 0)
      × Fits at (node_text n (leaf (stored_at cs ms ts (get_or token 0 0 / 8) (get_or token 0 0 % 8))))
  atom-asks fits low = (
    stands.stored.variables,
    slot-inside stands.stored (get_or token 0 0 / 8) (its-atom low).inside,
    slot-terms stands.stored (get_or token 0 0 / 8) (its-atom low).inside,
    fits-as (root-atom low) fits,
  )

  module _ (high : 16777216 ≤ get_or token 0 0) (some : get_or token 0 0 - 16777216 ≡ 0 → ⊥) where
    root-split : Split (root_text n (formula_of block)) (join_text root) (text_of n block.table (its-join high some).kids ++ bytes ")")
    unfolding formula_of
    root-split = (its-join high some).split

    pub kind_fits : root ≤ 3
    kind_fits = (its-join high some).kind_small

    module _ {at : ℕ} (fits : Fits at (root_text n (formula_of block))) where
      pub fits-join : Fits at (join_text root)
      fits-join = fits-first root-split fits

      module _ {before between : List ℕ} {first : ℕ} (join : Wrote before between at (join_text root) first) where
        pub inside-join : SomeAhead n cs ms ts token (3 - root) 1 (get_or token 0 0 - 16777216) first
        inside-join =
            record {
              table = block.table;
              parts = (its-join high some).kids;
              ahead = (its-join high some).ahead;
              fits = fits-first two_runs (fits-second root-split fits join);
            }

        pub fits-end : {after : List ℕ} {spot : Spot} → Puts n cs ms ts token (3 - root) 1 (get_or token 0 0 - 16777216) between after first spot
            → Fits spot.at (bytes ")")
        fits-end put =
            fits-second two_runs (fits-second root-split fits join) (put block.table (its-join high some).kids (its-join high some).ahead).wrote

    pub root-join : {before between inner after : List ℕ} {at first next : ℕ} {spot : Spot} → Wrote before between at (join_text root) first
        → Puts n cs ms ts token (3 - root) 1 (get_or token 0 0 - 16777216) between inner first spot → Wrote inner after spot.at (bytes ")") next
        → Wrote before after at (root_text n (formula_of block)) next
    root-join join put close =
        wrote-split root-split join
        (wrote-split two_runs (put block.table (its-join high some).kids (its-join high some).ahead).wrote close)

  -- ---- the script

  pub script-split : Split (script_of block) (bytes "(set-logic QF_NIA)\n") (declarations 0 n ++ (bytes "(assert " ++ (root_text n (formula_of block) ++ bytes ")\n")))
  unfolding script_of formula_text
  script-split = record { whole_is = rw stands.variables refl }

  pub script-fits : Fits 0 (script_of block)
  script-fits = record { short = omega (arith, script-length block stands.within) }
