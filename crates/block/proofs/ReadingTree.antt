-- The book's reading of a node at a place of the input, by the fields that the code reads and the tests that it makes,
-- and the steps that read several nodes.
use mathlib.Core.Path.{◌≡◌, refl, sym, ap, ◌∙◌}
use mathlib.Core.Bool.{not}
use mathlib.Core.List.{List, ◌∷◌, ◌++◌, append-nil}
use Prim.Native.Nat.{ℕ, zero, suc, ◌+◌, ◌-◌, ◌*◌, ◌/◌, ◌%◌, ◌^◌, ◌≤◌, ◌<◌}
use native.Mathlib.Numerals.{one-add}
use native.Mathlib.Omega.{arith}
use lib.Dec.{eqb, ltb}
use lib.ListN.{length, drop, set, length-drop, length-append}
use lib.Seq.{sets, drop-drop}
use borrow.Author.Tests.{lt-ltb, le-ltb, le-leb, lt-leb, eq-eqb, ne_eqb}
use Rattle.std.specs.Prelude.{Result, Ok, Err}
use Rattle.block.specs.Refusals.{number_of}
use Rattle.block.specs.declared.Refusal.{Refusal}
use Rattle.block.specs.declared.Refusal.TheVariants.{EndsInsideField, KindThree, PolynomialNumber, SameKindAbove, NestingAboveSix, NodesDiffer}
use Rattle.rules.specs.Bits.{unpack}
use Rattle.rules.specs.Formula.{Parts, end, Node, leaf, all_of, any_of, before, alone, children}
use Rattle.rules.specs.Block.{NumberedAtom, Stream, Reading, refused, read, require, afterwards, read_atom, read_join, by_kind, read_node_by, read_parts, joined, read_node}
use Rattle.bits.proofs.Fields.{value-take-lt}
use Rattle.bits.proofs.Stores.{sets-append}
use Rattle.pairs.proofs.Reading.{first_part, last-part}
use Rattle.block.specs.Held.{tokens}
use Rattle.block.specs.Steps.{stream_at, Inside, Left, Does, Reads, past_node, AtomOpened, JoinOpened, Opens, Opened, NodeStored, PartsStored}
use Rattle.block.specs.declared.Place.{Place}
use Rattle.block.specs.declared.Opening.{Opening}
use Rattle.block.specs.declared.Opening.TheVariants.{Atom, Join}
use Rattle.block.proofs.Steps.{field_at, refuses, reads, inside-after, same-reading, refuses-first, follows, turned-into, both_read}

-- ---- what a node begins with

-- What the book reads inside an AND or OR: 13, or its children.
abbrev pub within : ℕ → ℕ → ℕ → ℕ → Stream → Reading (Node NumberedAtom)
within zero m kind count s = refused 13
within (suc d) m kind count s = afterwards (read_parts (read_node d m kind) count s) (λ kids s₁. read (joined kind kids) s₁)

pub by-within : (d m parent : ℕ) (s : Stream) → read_node d m parent s ≡ read_node_by (within d m) m parent s
unfolding read_node
by-within zero m parent s = refl
by-within (suc d) m parent s = refl

module _ (bytes : List ℕ) (place : Place) (nesting m parent : ℕ) where
  abbrev opens : Result Opening Refusal → Type 0
  opens = Opened bytes place nesting m parent

  refuses-node : {refusal : Refusal} → read_node nesting m parent (stream_at bytes place) ≡ refused (number_of refusal) → opens (Err refusal)
  unfolding Opens
  refuses-node e = record { opens = e }

  pub none_allowed : place.allowed ≡ 0 → opens (Err NodesDiffer)
  unfolding read_node_by require
  none_allowed z = refuses-node (by-within nesting m parent (stream_at bytes place) ∙ rw z)

  -- `rest` bits are left, as the code counts them, and some node is allowed.
  module _ {rest : ℕ} (r : Left bytes place rest) (some : place.allowed ≡ 0 → ⊥) where
    -- How many bits are left behind the first k of them.
    behind : (k : ℕ) → length (drop (place.at + k) (unpack bytes)) ≡ rest - k
    behind k = rw (← drop-drop k place.at (unpack bytes), length-drop k (drop place.at (unpack bytes)), ← r.counted)

    some_left : 0 < place.allowed
    some_left = omega arith

    pub kind-short : rest < 2 → opens (Err EndsInsideField)
    unfolding read_node_by require
    kind-short h = refuses-node (by-within nesting m parent (stream_at bytes place) ∙ rw (lt-ltb 0 place.allowed some_left, ← r.counted, lt-leb 2 rest h))

    module _ (long : 2 ≤ rest) {kind : ℕ} (k : kind ≡ field_at bytes place.at 2) where
      by-kind : let others = drop (place.at + 2) (unpack bytes) in read_node nesting m parent (stream_at bytes place)
          ≡ require (not (eqb kind 3)) 10
          (by_kind (eqb kind 0) (read_atom m (place.allowed - 1) others) (read_join (within nesting m) parent kind (place.allowed - 1) others))
      unfolding read_node_by require
      by-kind =
          by-within nesting m parent (stream_at bytes place)
          ∙ rw (lt-ltb 0 place.allowed some_left, ← r.counted, le-leb 2 rest long, ← k, drop-drop 2 place.at (unpack bytes))

      pub kind-three : kind ≡ 3 → opens (Err KindThree)
      unfolding require
      kind-three z = refuses-node (by-kind ∙ rw z)

      module _ (z : kind ≡ 0) where
        an_atom : read_node nesting m parent (stream_at bytes place) ≡ read_atom m (place.allowed - 1) (drop (place.at + 2) (unpack bytes))
        unfolding require by_kind
        an_atom = by-kind ∙ rw z

        pub atom-short : rest < 11 → opens (Err EndsInsideField)
        unfolding read_atom require
        atom-short h = let l : rest - 2 < 9 = omega arith in refuses-node (an_atom ∙ rw (behind 2, lt-leb 9 (rest - 2) l))

        module _ (all : 11 ≤ rest) {both : ℕ} (b : both ≡ field_at bytes (place.at + 2) 9) where
          inside_both : place.at + 2 + 9 ≤ 8 * length bytes
          inside_both = omega (arith, r.up_to_end)

          number_is : both / 8 ≡ field_at bytes (place.at + 2) 6
          number_is = first_part bytes (place.at + 2) 6 3 inside_both b

          set_is : both % 8 ≡ field_at bytes (place.at + 8) 3
          set_is = let e : place.at + 2 + 6 ≡ place.at + 8 = omega arith in rw e at (last-part bytes (place.at + 2) 6 3 inside_both b)

          by_number : read_node nesting m parent (stream_at bytes place)
              ≡ require (ltb (both / 8) m) 11 (read (leaf (record { number = both / 8; set = both % 8 })) (stream_at bytes (past_node place 11)))
          unfolding read_atom require
          by_number =
              let u = unpack bytes in
              let l : 9 ≤ rest - 2 = omega arith in
              let e : place.at + 2 + 6 ≡ place.at + 8 = omega arith in
              let f : place.at + 8 + 3 ≡ place.at + 11 = omega arith in
              an_atom ∙ rw (behind 2, le-leb 9 (rest - 2) l, number_is, set_is, drop-drop 6 (place.at + 2) u, e, drop-drop 3 (place.at + 8) u, f)

          pub number-high : m ≤ both / 8 → opens (Err PolynomialNumber)
          unfolding require
          number-high h = refuses-node (by_number ∙ rw (le-ltb (both / 8) m h))

          pub atom-opens : both / 8 < m → length bytes < 2 ^ 16 → opens (Ok (Atom (both / 8) (both % 8)))
          unfolding Opens require
          atom-opens h short = record {
            opens = record {
              reading = by_number ∙ rw (lt-ltb (both / 8) m h);
              inside = record { at_most = omega arith; short = short };
              some_allowed = some_left;
              number_small = rw number_is (value-take-lt 6 (drop (place.at + 2) (unpack bytes)));
              set_small = rw set_is (value-take-lt 3 (drop (place.at + 8) (unpack bytes)));
            };
          }

      module _ (not_three : kind ≡ 3 → ⊥) (no-atom : kind ≡ 0 → ⊥) where
        a-join : read_node nesting m parent (stream_at bytes place) ≡ read_join (within nesting m) parent kind (place.allowed - 1) (drop (place.at + 2)
            (unpack bytes))
        unfolding require by_kind
        a-join = by-kind ∙ rw (ne_eqb kind 3 not_three, ne_eqb kind 0 no-atom)

        pub join-short : rest < 10 → opens (Err EndsInsideField)
        unfolding read_join require
        join-short h = let l : rest - 2 < 8 = omega arith in refuses-node (a-join ∙ rw (behind 2, lt-leb 8 (rest - 2) l))

        module _ (all : 10 ≤ rest) where
          by-parent : read_node nesting m parent (stream_at bytes place)
              ≡ require (not (eqb kind parent)) 12 (within nesting m kind (field_at bytes (place.at + 2) 8) (stream_at bytes (past_node place 10)))
          unfolding read_join require
          by-parent =
              let l : 8 ≤ rest - 2 = omega arith in
              let e : place.at + 2 + 8 ≡ place.at + 10 = omega arith in
              a-join ∙ rw (behind 2, le-leb 8 (rest - 2) l, drop-drop 8 (place.at + 2) (unpack bytes), e)

          pub same_kind : kind ≡ parent → opens (Err SameKindAbove)
          unfolding require
          same_kind e = refuses-node (by-parent ∙ rw (eq-eqb kind parent e))

          module _ (other : kind ≡ parent → ⊥) where
            pub too-deep : nesting ≡ 0 → opens (Err NestingAboveSix)
            unfolding require
            too-deep z = refuses-node (by-parent ∙ rw (ne_eqb kind parent other, z))

            pub join-opens : (nesting ≡ 0 → ⊥) → {count : ℕ} → count ≡ field_at bytes (place.at + 2) 8 → length bytes < 2 ^ 16 → opens (Ok (Join kind count))
            unfolding Opens require
            join-opens deep {count} c short = record {
              opens = record {
                reading = by-parent ∙ rw (ne_eqb kind parent other, ← c) (one-less nesting deep);
                inside = record { at_most = omega arith; short = short };
                some_allowed = some_left;
                some_nesting = omega arith;
                children_small = rw c (value-take-lt 8 (drop (place.at + 2) (unpack bytes)));
              };
            }
              where
                one-less : (d : ℕ) → (d ≡ 0 → ⊥) → within d m kind count (stream_at bytes (past_node place 10))
                    ≡ afterwards (read_parts (read_node (d - 1) m kind) count (stream_at bytes (past_node place 10))) (λ kids s. read (joined kind kids) s)
                one-less zero h = absurd (h refl)
                one-less (suc d) h = let e : suc d - 1 ≡ d = omega arith in rw e

-- ---- the tokens of what was read

-- The tokens of a node before other parts are the node's and then theirs.
tokens-before : (node : Node NumberedAtom) (rest : Parts NumberedAtom) → tokens (before node rest) ≡ tokens (alone node) ++ tokens rest
unfolding tokens before alone
tokens-before (leaf a) rest = refl
tokens-before (all_of kids) rest = rw (append-nil (tokens kids))
tokens-before (any_of kids) rest = rw (append-nil (tokens kids))

-- An AND's or OR's token and then those of its children.
tokens-joined : (kind : ℕ) (kids : Parts NumberedAtom) → tokens (alone (joined kind kids)) ≡ (16777216 + children kids) ∷ tokens kids
unfolding tokens alone before joined
tokens-joined zero kids = rw (append-nil (tokens kids))
tokens-joined (suc zero) kids = rw (append-nil (tokens kids))
tokens-joined (suc (suc kind)) kids = rw (append-nil (tokens kids))

children-before : (node : Node NumberedAtom) (rest : Parts NumberedAtom) → children (before node rest) ≡ suc (children rest)
unfolding children before
children-before (leaf a) rest = one-add (children rest)
children-before (all_of kids) rest = one-add (children rest)
children-before (any_of kids) rest = one-add (children rest)

abbrev rest_of_parts : (Stream → Reading (Node NumberedAtom)) → ℕ → Node NumberedAtom → Stream → Reading (Parts NumberedAtom)
rest_of_parts one count node s = afterwards (read_parts one count s) (λ rest s₁. read (before node rest) s₁)

-- As many nodes are read as were asked for.
children-read : (one : Stream → Reading (Node NumberedAtom)) (count : ℕ) (s : Stream) (kids : Parts NumberedAtom) (s₁ : Stream)
    → read_parts one count s ≡ read kids s₁ → children kids ≡ count
unfolding read_parts children
children-read one zero s kids s₁ h = let e : end ≡ kids = cc h in rw (← e)
children-read one (suc count) s kids s₁ h =
    let first = both_read (one s) (rest_of_parts one count) kids s₁ h in
    let others = both_read (read_parts one count first.1) (λ rest s₂. read (before first.0 rest) s₂) kids s₁ first.3 in
    let e : before first.0 others.0 ≡ kids = cc others.3 in
    ap children (sym e) ∙ children-before first.0 others.0 ∙ ap suc (children-read one count first.1 others.0 others.1 others.2)

-- ---- the steps

-- What an opening says, by its kind.
module _ {bytes : List ℕ} {place : Place} {nesting m parent : ℕ} where
  pub node-refused : {opening : Result Opening Refusal} {refusal : Refusal} → Opened bytes place nesting m parent opening → opening ≡ Err refusal
      → {Stored : Node NumberedAtom → Place → Type 0} → Reads bytes (read_node nesting m parent (stream_at bytes place)) Stored (Err refusal)
  unfolding Opens
  node-refused h e = refuses (rw e at h).opens

  module _ {opening : Opening} (h : Opened bytes place nesting m parent (Ok opening)) where
    pub atom-is : {number set : ℕ} → opening ≡ Atom number set → AtomOpened bytes place nesting m parent number set
    unfolding Opens
    atom-is e = (rw e at h).opens

    pub join_is : {kind children : ℕ} → opening ≡ Join kind children → JoinOpened bytes place nesting m parent kind children
    unfolding Opens
    join_is e = (rw e at h).opens

module _ {bytes : List ℕ} {place : Place} {nesting m parent count : ℕ} {token : List ℕ} where
  -- An atom's step.
  pub atom-step : {number set' : ℕ} → AtomOpened bytes place nesting m parent number set'
      → Reads bytes (read_node nesting m parent (stream_at bytes place)) (NodeStored place count token (set token (count - place.allowed) (number * 8 + set'))) (Ok
      (past_node place 11))
  unfolding tokens before alone
  atom-step {number} {set'} o =
      reads (leaf (record { number = number; set = set' })) o.reading o.inside (record { stored = refl; counted = omega (arith, o.some_allowed) })

  -- The step of an AND or OR, by that of its children.
  pub join_step : {kind count' : ℕ} {token' : List ℕ} {step : Result Place Refusal} → JoinOpened bytes place nesting m parent kind count' → place.allowed ≤ count
      → Reads bytes (read_parts (read_node (nesting - 1) m kind) count' (stream_at bytes (past_node place 10)))
      (PartsStored (past_node place 10) count (set token (count - place.allowed) (16777216 + count')) token') step
      → Reads bytes (read_node nesting m parent (stream_at bytes place)) (NodeStored place count token token') step
  join_step {kind} {count'} {token'} o le kids-step =
      let next : count - (place.allowed - 1) ≡ suc (count - place.allowed) = omega (arith, o.some_allowed) in
      same-reading o.reading (turned-into (joined kind) kids-step (λ kids after r s.
      let n : children kids ≡ count' = children-read (read_node (nesting - 1) m kind) count' (stream_at bytes (past_node place 10)) kids (stream_at bytes after) r in
      record {
        stored =
            s.stored
            ∙ ap (λ (i : ℕ). sets (set token (count - place.allowed) (16777216 + count')) i (tokens kids)) next
            ∙ ap (λ (k : ℕ). sets token (count - place.allowed) ((16777216 + k) ∷ tokens kids)) (sym n)
            ∙ ap (sets token (count - place.allowed)) (sym (tokens-joined kind kids));
        counted = rw (tokens-joined kind kids) (omega (arith, s.counted, o.some_allowed));
      }))

parts_next : (one : Stream → Reading (Node NumberedAtom)) (children : ℕ) (s : Stream) → (children ≡ 0 → ⊥)
    → read_parts one children s ≡ afterwards (one s) (rest_of_parts one (children - 1))
unfolding read_parts
parts_next one zero s h = absurd (h refl)
parts_next one (suc children) s h = let e : suc children - 1 ≡ children = omega arith in rw e

module _ (one : Stream → Reading (Node NumberedAtom)) (children : ℕ) {bytes : List ℕ} {place : Place} {count : ℕ} {token : List ℕ} where
  parts-done : Inside bytes place → children ≡ 0 → Reads bytes (read_parts one children (stream_at bytes place)) (PartsStored place count token token) (Ok place)
  unfolding read_parts tokens
  parts-done inside z = reads end (rw z) inside (record { stored = refl; counted = omega arith })

  module _ {token₁ : List ℕ} {step : Result Place Refusal} (some : children ≡ 0 → ⊥) (first : Reads bytes (one (stream_at bytes place)) (NodeStored place count token token₁) step)
    where
      parts-refused : {refusal : Refusal} → step ≡ Err refusal → {token₂ : List ℕ}
          → Reads bytes (read_parts one children (stream_at bytes place)) (PartsStored place count token token₂) (Err refusal)
      parts-refused e = same-reading (parts_next one children (stream_at bytes place) some) (refuses-first (rest_of_parts one (children - 1)) first e)

      parts-read : {after : Place} {token₂ : List ℕ} {next : Result Place Refusal} → step ≡ Ok after → place.allowed ≤ count
          → Reads bytes (read_parts one (children - 1) (stream_at bytes after)) (PartsStored after count token₁ token₂) next
          → Reads bytes (read_parts one children (stream_at bytes place)) (PartsStored place count token token₂) next
      parts-read {after} e le rest =
          same-reading (parts_next one children (stream_at bytes place) some) (follows (rest_of_parts one (children - 1)) first e (λ node s.
          turned-into (before node) rest (λ kids end r t.
          let own = tokens (alone node) in
          let from : count - after.allowed ≡ count - place.allowed + length own = omega (arith, s.counted) in
          record {
            stored = rw (tokens-before node kids, sets-append token (count - place.allowed) own (tokens kids), ← from, ← s.stored) t.stored;
            counted = rw (tokens-before node kids, length-append own (tokens kids)) (omega (arith, s.counted, t.counted));
          })))

-- The places that a node's step leaves allowed.
allowed-after : {bytes : List ℕ} {place : Place} {count : ℕ} {token token₁ : List ℕ} {reading : Reading (Node NumberedAtom)} {step : Result Place Refusal} {after : Place}
    → Reads bytes reading (NodeStored place count token token₁) step → step ≡ Ok after → after.allowed ≤ place.allowed
unfolding Does
allowed-after h e = omega (arith, (rw e at h).does.3.counted)

-- What is left of an AND's or OR's children after i of them: as those that are left are read, so are all of them.
pub record PartsLeft (one : Stream → Reading (Node NumberedAtom)) (bytes : List ℕ) (count children : ℕ) (start : Place) (token₀ : List ℕ) (i : ℕ) (place : Place)
    (token : List ℕ) : Type 0 where
  pub inside : Inside bytes place
  pub allows : place.allowed ≤ count
  pub whole : {token₂ : List ℕ} {step : Result Place Refusal} → Reads bytes (read_parts one (children - i) (stream_at bytes place)) (PartsStored place count token token₂) step
      → Reads bytes (read_parts one children (stream_at bytes start)) (PartsStored start count token₀ token₂) step

module _ (one : Stream → Reading (Node NumberedAtom)) {bytes : List ℕ} {count children : ℕ} {start : Place} {token₀ : List ℕ} where
  pub parts-begin : Inside bytes start → start.allowed ≤ count → PartsLeft one bytes count children start token₀ 0 start token₀
  parts-begin inside allows =
      let all : children - 0 ≡ children = omega arith in
      record { inside = inside; allows = allows; whole = λ {token₂} {step} rest. rw all at rest }

  module _ {i : ℕ} {place : Place} {token : List ℕ} (l : PartsLeft one bytes count children start token₀ i place token) where
    pub parts-end : children ≤ i → Reads bytes (read_parts one children (stream_at bytes start)) (PartsStored start count token₀ token) (Ok place)
    parts-end h = l.whole (parts-done one (children - i) l.inside (omega arith))

    module _ {token₁ : List ℕ} {step : Result Place Refusal} (more : i < children) (first : Reads bytes (one (stream_at bytes place)) (NodeStored place count token token₁) step) where
      pub parts-stop : {refusal : Refusal} → step ≡ Err refusal → {token₂ : List ℕ}
          → Reads bytes (read_parts one children (stream_at bytes start)) (PartsStored start count token₀ token₂) (Err refusal)
      parts-stop e = l.whole (parts-refused one (children - i) (omega arith) first e)

      pub parts-go-on : {after : Place} → step ≡ Ok after → PartsLeft one bytes count children start token₀ (i + 1) after token₁
      parts-go-on {after} e =
          let fewer : children - (i + 1) ≡ children - i - 1 = omega arith in
          record {
            inside = inside-after first e;
            allows = omega (arith, allowed-after first e, l.allows);
            whole = λ {token₂} {step} rest. l.whole (parts-read one (children - i) (omega arith) first e l.allows (rw fewer at rest));
          }
