-- The parts from a token on, by that token: an atom and the others, or an AND or OR, its children and the others.
use mathlib.Core.Path.{◌≡◌, refl, sym}
use mathlib.Core.List.{List, ◌++◌, append_assoc}
use Prim.Native.Nat.{ℕ, ◌+◌, ◌-◌, ◌/◌, ◌%◌, ◌≤◌, ◌<◌}
use native.Mathlib.Nat.{add-zero}
use native.Mathlib.Numerals.{add-one}
use native.Mathlib.Omega.{arith}
use lib.ListN.{length, get_or}
use Rattle.rules.specs.Formula.{Parts, end, atom, and, or, children, nodes}
use Rattle.rules.specs.Block.{NumberedAtom, write_parts}
use Rattle.writer.specs.Written.{atom_bits, join_bits, PartsHeld, Room, Wrote, PartsAhead, PartsWrote}
use Rattle.writer.specs.declared.Spot.{Spot}
use Rattle.writer.proofs.Writing.{Split, wrote_nothing, wrote-both, room-first, room-second, two_runs}

-- An atom and the other parts.
record AtomFirst (token : List ℕ) (kind k count : ℕ) (parts : Parts NumberedAtom) : Type 0 where
  pub others : Parts NumberedAtom
  pub split : Split (write_parts parts) (atom_bits (get_or token k 0)) (write_parts others)
  pub held : PartsHeld token kind (k + 1) others
  pub counted : children others ≡ count - 1
  pub all : nodes parts ≡ 1 + nodes others

-- An AND or OR, its children and the other parts.
record JoinFirst (token : List ℕ) (kind k count : ℕ) (parts : Parts NumberedAtom) : Type 0 where
  pub kids : Parts NumberedAtom
  pub others : Parts NumberedAtom
  pub split : Split (write_parts parts) (join_bits kind (get_or token k 0 - 16777216)) (write_parts kids ++ write_parts others)
  pub kids_held : PartsHeld token (3 - kind) (k + 1) kids
  pub kids_counted : children kids ≡ get_or token k 0 - 16777216
  pub held : PartsHeld token kind (k + 1 + nodes kids) others
  pub counted : children others ≡ count - 1
  pub all : nodes parts ≡ 1 + nodes kids + nodes others
  pub kind_small : kind ≤ 3

module _ (token : List ℕ) (kind k count : ℕ) where
  -- Some part is there, so its token is.
  pub token-there : (parts : Parts NumberedAtom) → PartsHeld token kind k parts → children parts ≡ count → (count ≡ 0 → ⊥) → k < length token
  unfolding PartsHeld children
  token-there end h c some = absurd (some (sym c))
  token-there (atom a rest) h c some = h.0
  token-there (and kids rest) h c some = h.0
  token-there (or kids rest) h c some = h.0

  atom-first : (parts : Parts NumberedAtom) → PartsHeld token kind k parts → children parts ≡ count → (count ≡ 0 → ⊥) → get_or token k 0 < 16777216
      → AtomFirst token kind k count parts
  unfolding PartsHeld children nodes write_parts atom_bits
  atom-first end h c some low = absurd (some (sym c))
  atom-first (atom a rest) h c some low =
      let number : get_or token k 0 / 8 ≡ a.number = omega (arith, h.1, h.2, h.3) in
      let set : get_or token k 0 % 8 ≡ a.set = omega (arith, h.1, h.2, h.3) in
      record {
        others = rest;
        split = record { whole_is = rw (number, set) (simp append_assoc) };
        held = rw add-one h.4;
        counted = omega (arith, c);
        all = refl;
      }
  atom-first (and kids rest) h c some low = absurd (omega (arith, h.1))
  atom-first (or kids rest) h c some low = absurd (omega (arith, h.1))

  join_first : (parts : Parts NumberedAtom) → PartsHeld token kind k parts → children parts ≡ count → (count ≡ 0 → ⊥) → 16777216 ≤ get_or token k 0
      → JoinFirst token kind k count parts
  unfolding PartsHeld children nodes write_parts join_bits
  join_first end h c some high = absurd (some (sym c))
  join_first (atom a rest) h c some high = absurd (omega (arith, h.1, h.2, h.3))
  join_first (and kids rest) h c some high =
      let n : get_or token k 0 - 16777216 ≡ children kids = omega (arith, h.1) in
      let other : 3 - kind ≡ 2 = omega (arith, h.2) in
      record {
        kids = kids;
        others = rest;
        split = record { whole_is = rw (n, h.2) (simp append_assoc) };
        kids_held = rw (other, add-one) h.3;
        kids_counted = sym n;
        held = rw add-one h.4;
        counted = omega (arith, c);
        all = refl;
        kind_small = omega (arith, h.2);
      }
  join_first (or kids rest) h c some high =
      let n : get_or token k 0 - 16777216 ≡ children kids = omega (arith, h.1) in
      let other : 3 - kind ≡ 1 = omega (arith, h.2) in
      record {
        kids = kids;
        others = rest;
        split = record { whole_is = rw (n, h.2) (simp append_assoc) };
        kids_held = rw (other, add-one) h.3;
        kids_counted = sym n;
        held = rw add-one h.4;
        counted = omega (arith, c);
        all = refl;
        kind_small = omega (arith, h.2);
      }

-- What a call of `write_parts` says.
abbrev Written : List ℕ → ℕ → ℕ → ℕ → List ℕ → List ℕ → ℕ → Spot → Type 0
Written token kind k count before after at spot =
    (parts : Parts NumberedAtom) → PartsHeld token kind k parts → children parts ≡ count → PartsWrote before after at parts k spot

-- ---- what is ahead

module _ {token : List ℕ} {kind k count size at : ℕ} (ahead : PartsAhead token kind k count size at) (some : count ≡ 0 → ⊥) where
  pub first-there : k < length token
  first-there = token-there token kind k count ahead.parts ahead.held ahead.counted some

  -- Behind an atom the others are ahead.
  module _ (low : get_or token k 0 < 16777216) where
    its-atom : AtomFirst token kind k count ahead.parts
    its-atom = atom-first token kind k count ahead.parts ahead.held ahead.counted some low

    pub room-atom : Room size at (atom_bits (get_or token k 0))
    room-atom = room-first its-atom.split ahead.room

    pub after-atom : {before after : List ℕ} {next size' : ℕ} → Wrote before after at (atom_bits (get_or token k 0)) next → size' ≡ size
        → PartsAhead token kind (k + 1) (count - 1) size' next
    after-atom a e =
        record { parts = its-atom.others; held = its-atom.held; counted = its-atom.counted; room = room-second its-atom.split ahead.room a e }

  -- Behind an AND or OR its children are ahead, and behind those the others.
  module _ (high : 16777216 ≤ get_or token k 0) where
    its-join : JoinFirst token kind k count ahead.parts
    its-join = join_first token kind k count ahead.parts ahead.held ahead.counted some high

    pub kind_fits : kind ≤ 3
    kind_fits = its-join.kind_small

    pub room-join : Room size at (join_bits kind (get_or token k 0 - 16777216))
    room-join = room-first its-join.split ahead.room

    module _ {before between : List ℕ} {next : ℕ} (a : Wrote before between at (join_bits kind (get_or token k 0 - 16777216)) next) where
      pub inside-join : {size' : ℕ} → size' ≡ size → PartsAhead token (3 - kind) (k + 1) (get_or token k 0 - 16777216) size' next
      inside-join e =
          record {
            parts = its-join.kids;
            held = its-join.kids_held;
            counted = its-join.kids_counted;
            room = room-first (two_runs) (room-second its-join.split ahead.room a e);
          }

      module _ {after : List ℕ} {spot : Spot} (inner : Written token (3 - kind) (k + 1) (get_or token k 0 - 16777216) between after next spot) where
        its-kids : PartsWrote between after next its-join.kids (k + 1) spot
        its-kids = inner its-join.kids its-join.kids_held its-join.kids_counted

        pub further : k + 1 ≤ spot.k
        further = omega (arith, its-kids.behind)

        pub after-join : {size' : ℕ} → size' ≡ size → PartsAhead token kind spot.k (count - 1) size' spot.at
        after-join e =
            record {
              parts = its-join.others;
              held = rw its-kids.behind its-join.held;
              counted = its-join.counted;
              room = room-second (two_runs) (room-second its-join.split ahead.room a e) its-kids.wrote refl;
            }

-- ---- what was written

pub parts_none : (token : List ℕ) (kind k count : ℕ) {out : List ℕ} {at : ℕ} → count ≡ 0 → Written token kind k count out out at (record { at = at; k = k })
unfolding write_parts children nodes
parts_none token kind k count z end h c = record { wrote = wrote_nothing; behind = sym (add-zero k) }
parts_none token kind k count z (atom a rest) h c = absurd (omega (arith, z, c))
parts_none token kind k count z (and kids rest) h c = absurd (omega (arith, z, c))
parts_none token kind k count z (or kids rest) h c = absurd (omega (arith, z, c))

module _ (token : List ℕ) (kind k count : ℕ) {before between after : List ℕ} {at next : ℕ} (some : count ≡ 0 → ⊥) where
  pub parts-atom : {spot : Spot} → get_or token k 0 < 16777216 → Wrote before between at (atom_bits (get_or token k 0)) next
      → Written token kind (k + 1) (count - 1) between after next spot → Written token kind k count before after at spot
  parts-atom low a others parts h c =
      let f = atom-first token kind k count parts h c some low in
      let o = others f.others f.held f.counted in
      record { wrote = wrote-both f.split a o.wrote; behind = omega (arith, o.behind, f.all) }

  pub parts_join : {inside : List ℕ} {inner spot : Spot} → 16777216 ≤ get_or token k 0 → Wrote before between at (join_bits kind (get_or token k 0 - 16777216)) next
      → Written token (3 - kind) (k + 1) (get_or token k 0 - 16777216) between inside next inner → Written token kind inner.k (count - 1) inside after inner.at
      spot
      → Written token kind k count before after at spot
  parts_join high a kids others parts h c =
      let f = join_first token kind k count parts h c some high in
      let i = kids f.kids f.kids_held f.kids_counted in
      let o = others f.others (rw i.behind f.held) f.counted in
      record { wrote = wrote-both f.split a (wrote-both (two_runs) i.wrote o.wrote); behind = omega (arith, i.behind, o.behind, f.all) }
