-- The parts from a token on, by that token: an atom and the others, or an AND or OR, its children and the others. What is ahead, and what is written.
use mathlib.Core.Path.{◌≡◌, refl, sym, ap, ◌∙◌}
use mathlib.Core.List.{List, [], ◌∷◌, ◌++◌, append_assoc}
use Prim.Native.Nat.{ℕ, zero, suc, ◌+◌, ◌-◌, ◌*◌, ◌/◌, ◌%◌, ◌≤◌, ◌<◌}
use native.Mathlib.Decide.{dec_lt}
use native.Mathlib.Nat.{add-zero}
use native.Mathlib.Numerals.{add-one}
use native.Mathlib.Omega.{arith}
use lib.IntN.{ℤ}
use lib.ListN.{length, get_or}
use Rattle.rules.specs.Polynomial.{Polynomial, Atom}
use Rattle.rules.specs.Formula.{Parts, end, atom, and, or, leaf, each_atom, children, nodes}
use Rattle.rules.specs.Block.{NumberedAtom}
use Rattle.rules.specs.Answer.{looked_up}
use Rattle.terms.specs.View.{terms_from}
use Rattle.writer.specs.Written.{PartsHeld}
use Rattle.lines.specs.Written.{Wrote, wrote_nothing}
use Rattle.rules.specs.Text.{bytes, if_so, opening, closing, polynomial_text, parts_text, node_text}
use Rattle.script_laws.specs.PlainBlocks.{every-loaded, table-every}
use Rattle.script_text.specs.Runs.{Fits, Split, two_runs, fits-first, fits-second, wrote-split}
use Rattle.script_text.specs.Tree.{stored_at, Terms, Table, Named, join_text, Ahead, SomeAhead, text_of, PartsPut}
use Rattle.script_text.specs.declared.Spot.{Spot}

length-terms : (cs : List ℤ) (ms : List ℕ) (k count : ℕ) → length (terms_from cs ms k count) ≡ count
unfolding terms_from
length-terms cs ms k zero = refl
length-terms cs ms k (suc count) = ap suc (length-terms cs ms (suc k) count)

module _ {n : ℕ} {cs : List ℤ} {ms ts : List ℕ} {table : List Polynomial} (stored : Table n cs ms ts table) where
  -- A polynomial of the table stands in its slot, which lies in the arrays.
  pub slot-inside : (i : ℕ) → i < length table → i < length ts
  slot-inside i h = omega (arith, h, stored.polynomials, stored.holds.counts)

  pub slot-terms : (i : ℕ) → i < length table → Terms cs ms (16 * i) (get_or ts i 0)
  slot-terms i h =
      let few = (every-loaded i h (table-every stored.within)).at-most in
      let count : get_or ts i 0 ≡ length (get_or table i []) = sym (length-terms cs ms (16 * i) (get_or ts i 0)) ∙ ap length (stored.holds.each i h) in
      record {
        coefficients = omega (arith, few, count, h, stored.polynomials, stored.holds.coefficients);
        monomials = omega (arith, few, count, h, stored.polynomials, stored.holds.monomials);
      }

-- An atom and the other parts.
record AtomFirst (n : ℕ) (cs : List ℤ) (ms ts token : List ℕ) (kind k count : ℕ) (table : List Polynomial) (parts : Parts NumberedAtom) : Type 0 where
  pub others : Parts NumberedAtom
  pub split : Split (text_of n table parts) (bytes " ") (node_text n (leaf (stored_at cs ms ts (get_or token k 0 / 8) (get_or token k 0 % 8))) ++ text_of n table others)
  pub ahead : Ahead n cs ms ts token kind (k + 1) (count - 1) table others
  pub all : nodes parts ≡ 1 + nodes others
  pub inside : get_or token k 0 / 8 < length table

-- An AND or OR, its children and the other parts.
record JoinFirst (n : ℕ) (cs : List ℤ) (ms ts token : List ℕ) (kind k count : ℕ) (table : List Polynomial) (parts : Parts NumberedAtom) : Type 0 where
  pub kids : Parts NumberedAtom
  pub others : Parts NumberedAtom
  pub split : Split (text_of n table parts) (bytes " ") (join_text kind ++ (text_of n table kids ++ (bytes ")" ++ text_of n table others)))
  pub kids_ahead : Ahead n cs ms ts token (3 - kind) (k + 1) (get_or token k 0 - 16777216) table kids
  pub ahead : Ahead n cs ms ts token kind (k + 1 + nodes kids) (count - 1) table others
  pub all : nodes parts ≡ 1 + nodes kids + nodes others
  pub kind_small : kind ≤ 3

-- An atom's text before others.
atom-text : (n : ℕ) (a : Atom) (rest : List ℕ)
    → bytes " " ++ (node_text n (leaf a) ++ rest) ≡ bytes " " ++ (opening a.set ++ (polynomial_text n a.polynomial ++ (bytes " " ++ (closing a.set ++ rest))))
unfolding node_text
atom-text n a rest = simp append_assoc

module _ {n : ℕ} {cs : List ℤ} {ms ts token : List ℕ} {kind k count : ℕ} {table : List Polynomial} where
  token-there : (parts : Parts NumberedAtom) → Ahead n cs ms ts token kind k count table parts → (count ≡ 0 → ⊥) → k < length token
  unfolding PartsHeld children
  token-there end h some = absurd (some (sym h.counted))
  token-there (atom a rest) h some = h.held.0
  token-there (and kids rest) h some = h.held.0
  token-there (or kids rest) h some = h.held.0

  atom-first : (parts : Parts NumberedAtom) → Ahead n cs ms ts token kind k count table parts → (count ≡ 0 → ⊥) → get_or token k 0 < 16777216
      → AtomFirst n cs ms ts token kind k count table parts
  unfolding PartsHeld children nodes Named parts_text each_atom looked_up
  atom-first end h some low = absurd (some (sym h.counted))
  atom-first (atom a rest) h some low =
      let f = h.held in
      let number : get_or token k 0 / 8 ≡ a.number = omega (arith, f.1, f.2, f.3) in
      let set : get_or token k 0 % 8 ≡ a.set = omega (arith, f.1, f.2, f.3) in
      record {
        others = rest;
        split = record { whole_is = rw (number, set, h.stored.holds.each a.number h.named.0) (atom-text n (looked_up table a) (text_of n table rest)) };
        ahead = record { stored = h.stored; named = h.named.1; held = rw add-one f.4; counted = omega (arith, h.counted) };
        all = refl;
        inside = rw number h.named.0;
      }
  atom-first (and kids rest) h some low = absurd (omega (arith, h.held.1))
  atom-first (or kids rest) h some low = absurd (omega (arith, h.held.1))

  join_first : (parts : Parts NumberedAtom) → Ahead n cs ms ts token kind k count table parts → (count ≡ 0 → ⊥) → 16777216 ≤ get_or token k 0
      → JoinFirst n cs ms ts token kind k count table parts
  unfolding PartsHeld children nodes Named parts_text each_atom join_text if_so
  join_first end h some high = absurd (some (sym h.counted))
  join_first (atom a rest) h some high = absurd (omega (arith, h.held.1, h.held.2, h.held.3))
  join_first (and kids rest) h some high =
      let f = h.held in
      let c : get_or token k 0 - 16777216 ≡ children kids = omega (arith, f.1) in
      let other : 3 - kind ≡ 2 = omega (arith, f.2) in
      record {
        kids = kids;
        others = rest;
        split = record { whole_is = rw f.2 refl };
        kids_ahead = record { stored = h.stored; named = h.named.0; held = rw (other, add-one) f.3; counted = sym c };
        ahead = record { stored = h.stored; named = h.named.1; held = rw add-one f.4; counted = omega (arith, h.counted) };
        all = refl;
        kind_small = omega (arith, f.2);
      }
  join_first (or kids rest) h some high =
      let f = h.held in
      let c : get_or token k 0 - 16777216 ≡ children kids = omega (arith, f.1) in
      let other : 3 - kind ≡ 1 = omega (arith, f.2) in
      record {
        kids = kids;
        others = rest;
        split = record { whole_is = rw f.2 refl };
        kids_ahead = record { stored = h.stored; named = h.named.0; held = rw (other, add-one) f.3; counted = sym c };
        ahead = record { stored = h.stored; named = h.named.1; held = rw add-one f.4; counted = omega (arith, h.counted) };
        all = refl;
        kind_small = omega (arith, f.2);
      }

-- What a call of `put_parts` says.
abbrev pub Puts : ℕ → List ℤ → List ℕ → List ℕ → List ℕ → ℕ → ℕ → ℕ → List ℕ → List ℕ → ℕ → Spot → Type 0
Puts n cs ms ts token kind k count before after at spot =
    (table : List Polynomial) (parts : Parts NumberedAtom) → Ahead n cs ms ts token kind k count table parts → PartsPut n table before after at parts k spot

-- ---- what is ahead

module _ {n : ℕ} {cs : List ℤ} {ms ts token : List ℕ} {kind k count at : ℕ} (ahead : SomeAhead n cs ms ts token kind k count at) (some : count ≡ 0 → ⊥) where
  pub first-there : k < length token
  first-there = token-there ahead.parts ahead.ahead some

  module _ (low : get_or token k 0 < 16777216) where
    its-atom : AtomFirst n cs ms ts token kind k count ahead.table ahead.parts
    its-atom = atom-first ahead.parts ahead.ahead some low

    atom-space : Fits at (bytes " ")
    atom-space = fits-first its-atom.split ahead.fits

    module _ {before between : List ℕ} {next : ℕ} (space : Wrote before between at (bytes " ") next) where
      pub atom-asks : (n ≤ 16) × (get_or token k 0 / 8 < length ts) × Terms cs ms (16 * (get_or token k 0 / 8)) (get_or ts (get_or token k 0 / 8) 0)
          × Fits next (node_text n (leaf (stored_at cs ms ts (get_or token k 0 / 8) (get_or token k 0 % 8))))
      atom-asks =
          let stored = ahead.ahead.stored in (
            stored.variables,
            slot-inside stored (get_or token k 0 / 8) its-atom.inside,
            slot-terms stored (get_or token k 0 / 8) its-atom.inside,
            fits-first two_runs (fits-second its-atom.split ahead.fits space),
          )

      pub after-atom : {after : List ℕ} {behind : ℕ} → Wrote between after next (node_text n (leaf (stored_at cs ms ts (get_or token k 0 / 8) (get_or token k 0 % 8)))) behind
          → SomeAhead n cs ms ts token kind (k + 1) (count - 1) behind
      after-atom w =
          record {
            table = ahead.table;
            parts = its-atom.others;
            ahead = its-atom.ahead;
            fits = fits-second two_runs (fits-second its-atom.split ahead.fits space) w;
          }

  module _ (high : 16777216 ≤ get_or token k 0) where
    its-join : JoinFirst n cs ms ts token kind k count ahead.table ahead.parts
    its-join = join_first ahead.parts ahead.ahead some high

    pub kind_fits : kind ≤ 3
    kind_fits = its-join.kind_small

    join-space : Fits at (bytes " ")
    join-space = fits-first its-join.split ahead.fits

    module _ {before between : List ℕ} {next : ℕ} (space : Wrote before between at (bytes " ") next) where
      pub fits-join : Fits next (join_text kind)
      fits-join = fits-first two_runs (fits-second its-join.split ahead.fits space)

      module _ {inner : List ℕ} {first : ℕ} (join : Wrote between inner next (join_text kind) first) where
        pub inside-join : SomeAhead n cs ms ts token (3 - kind) (k + 1) (get_or token k 0 - 16777216) first
        inside-join =
            record {
              table = ahead.table;
              parts = its-join.kids;
              ahead = its-join.kids_ahead;
              fits = fits-first two_runs (fits-second two_runs (fits-second its-join.split ahead.fits space) join);
            }

        module _ {outer : List ℕ} {spot : Spot} (put : Puts n cs ms ts token (3 - kind) (k + 1) (get_or token k 0 - 16777216) inner outer first spot) where
          its-kids : PartsPut n ahead.table inner outer first its-join.kids (k + 1) spot
          its-kids = put ahead.table its-join.kids its-join.kids_ahead

          pub further : k + 1 ≤ spot.k
          further = omega (arith, its-kids.behind)

          rest-fits : Fits spot.at (bytes ")" ++ text_of n ahead.table its-join.others)
          rest-fits = fits-second two_runs (fits-second two_runs (fits-second its-join.split ahead.fits space) join) its-kids.wrote

          pub fits-end : Fits spot.at (bytes ")")
          fits-end = fits-first two_runs rest-fits

          pub after-join : {after : List ℕ} {behind : ℕ} → Wrote outer after spot.at (bytes ")") behind → SomeAhead n cs ms ts token kind spot.k (count - 1) behind
          after-join w =
              record {
                table = ahead.table;
                parts = its-join.others;
                ahead = rw its-kids.behind its-join.ahead;
                fits = fits-second two_runs rest-fits w;
              }

  -- Either of them stands behind a space.
  pub any-space : Fits at (bytes " ")
  any-space = by (dec_lt (get_or token k 0) 16777216)
    where
      by : Dec (get_or token k 0 < 16777216) → Fits at (bytes " ")
      by (yes low) = atom-space low
      by (no high) = join-space (omega (arith, high))

-- ---- what is written

module _ (n : ℕ) (cs : List ℤ) (ms ts token : List ℕ) (kind k count : ℕ) where
  pub parts_none : count ≡ 0 → {text : List ℕ} {at : ℕ} → Puts n cs ms ts token kind k count text text at (record { at = at; k = k })
  unfolding children nodes parts_text each_atom
  parts_none z table end h = record { wrote = wrote_nothing; behind = sym (add-zero k) }
  parts_none z table (atom a rest) h = absurd (omega (arith, h.counted, z))
  parts_none z table (and kids rest) h = absurd (omega (arith, h.counted, z))
  parts_none z table (or kids rest) h = absurd (omega (arith, h.counted, z))

  module _ (some : count ≡ 0 → ⊥) {before between : List ℕ} {at next : ℕ} (space : Wrote before between at (bytes " ") next) where
    pub parts-atom : get_or token k 0 < 16777216 → {inner after : List ℕ} {behind : ℕ} {spot : Spot}
        → Wrote between inner next (node_text n (leaf (stored_at cs ms ts (get_or token k 0 / 8) (get_or token k 0 % 8)))) behind
        → Puts n cs ms ts token kind (k + 1) (count - 1) inner after behind spot → Puts n cs ms ts token kind k count before after at spot
    parts-atom low w others table parts h =
        let first = atom-first parts h some low in
        let rest = others table first.others first.ahead in
        record { wrote = wrote-split first.split space (wrote-split two_runs w rest.wrote); behind = omega (arith, rest.behind, first.all) }

    pub parts_join : 16777216 ≤ get_or token k 0 → {inner outer last after : List ℕ} {first behind : ℕ} {spot spot' : Spot}
        → Wrote between inner next (join_text kind) first
        → Puts n cs ms ts token (3 - kind) (k + 1) (get_or token k 0 - 16777216) inner outer first spot
        → Wrote outer last spot.at (bytes ")") behind
        → Puts n cs ms ts token kind spot.k (count - 1) last after behind spot' → Puts n cs ms ts token kind k count before after at spot'
    parts_join high w inside close others table parts h =
        let first = join_first parts h some high in
        let kids = inside table first.kids first.kids_ahead in
        let rest = others table first.others (rw kids.behind first.ahead) in
        record {
          wrote = wrote-split first.split space (wrote-split two_runs w (wrote-split two_runs kids.wrote (wrote-split two_runs close rest.wrote)));
          behind = omega (arith, rest.behind, kids.behind, first.all);
        }
