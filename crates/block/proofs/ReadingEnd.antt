-- The steps that read the end and the tree with the end, and the kind of a node that was read.
use mathlib.Core.Path.{◌≡◌, refl, sym, ap, ◌∙◌}
use mathlib.Core.Bool.{Bool, true, false}
use mathlib.Core.List.{List, [], ◌∷◌}
use Prim.Native.Nat.{ℕ, zero, suc, ◌+◌, ◌-◌, ◌*◌, ◌^◌, ◌≤◌, ◌<◌}
use native.Mathlib.Nat.{zero-mul, zero-add}
use native.Mathlib.Omega.{arith}
use lib.Dec.{eqb}
use lib.ListN.{length, take, drop}
use lib.Pow.{pow_pos}
use lib.Seq.{take-length}
use borrow.Author.Tests.{lt-ltb, le-ltb, ne_eqb, leb-true, eqb-true, eqb-false, not-true}
use Rattle.std.specs.Prelude.{Result, Ok, Err}
use Rattle.block.specs.declared.Refusal.{Refusal}
use Rattle.block.specs.declared.Refusal.TheVariants.{NodesDiffer, PaddingOrByteLeft}
use Rattle.rules.specs.Signs.{bit}
use Rattle.rules.specs.Bits.{value, unpack}
use Rattle.rules.specs.Polynomial.{Polynomial}
use Rattle.rules.specs.Formula.{Parts, Node, leaf, alone}
use Rattle.rules.specs.Block.{NumberedAtom, Block, Stream, read, require, afterwards, read_atom, read_join, by_kind, read_node_by, read_node, read_parts, joined, all_zero, read_end}
use Rattle.bits.proofs.Fields.{value-take-lt}
use Rattle.block.specs.Held.{kind_of}
use Rattle.block.specs.Tokens.{length-tokens}
use Rattle.block.specs.Steps.{stream_at, Inside, Does, Reads, NodeStored, Ends, RootOf, RootFound}
use Rattle.block.specs.declared.Place.{Place}
use Rattle.block.proofs.Steps.{field_at, length-left, refuses, reads, after_read, both_read, required}
use Rattle.block.proofs.ReadingTree.{within, by-within}

-- ---- the end

-- Bits are all zero exactly if their value is 0.
all-zero : (bits : List Bool) → all_zero bits ≡ eqb (value bits) 0
unfolding all_zero value bit
all-zero [] = refl
all-zero (true ∷ bits) = sym (ne_eqb (1 * 2 ^ length bits + value bits) 0 (λ h. omega (arith, pow_pos (length bits))))
all-zero (false ∷ bits) = rw (zero-mul, zero-add) (all-zero bits)

module _ (bytes : List ℕ) (place : Place) (block : Block) where
  pub nodes-left : (place.allowed ≡ 0 → ⊥) → Reads bytes (read_end block (stream_at bytes place)) (Ends block place) (Err NodesDiffer)
  unfolding read_end require
  nodes-left some = refuses (rw (ne_eqb place.allowed 0 some))

  module _ (none : place.allowed ≡ 0) {rest : ℕ} (r : rest ≡ length (drop place.at (unpack bytes))) where
    pub byte_left : 8 ≤ rest → Reads bytes (read_end block (stream_at bytes place)) (Ends block place) (Err PaddingOrByteLeft)
    unfolding read_end require
    byte_left h = refuses (rw (none, ← r, le-ltb rest 8 h))

    module _ (few : rest < 8) {padding : ℕ} (p : padding ≡ field_at bytes place.at rest) where
      by-padding : read_end block (stream_at bytes place) ≡ require (eqb padding 0) 15 (read block (stream_at bytes place))
      unfolding read_end require
      by-padding =
          let u = drop place.at (unpack bytes) in
          let all : padding ≡ value u = p ∙ ap (λ (k : ℕ). value (take k u)) r ∙ ap value (take-length u) in
          rw (none, all-zero u, ← all, ← r, lt-ltb rest 8 few)

      pub padding-left : (padding ≡ 0 → ⊥) → Reads bytes (read_end block (stream_at bytes place)) (Ends block place) (Err PaddingOrByteLeft)
      unfolding require
      padding-left h = refuses (by-padding ∙ rw (ne_eqb padding 0 h))

      pub all-ended : padding ≡ 0 → Inside bytes place → Reads bytes (read_end block (stream_at bytes place)) (Ends block place) (Ok place)
      unfolding require
      all-ended z inside = reads block (by-padding ∙ rw z) inside (record { same = refl; all_read = none })

-- ---- the kind of a node that was read

kind-joined : (kind : ℕ) (kids : Parts NumberedAtom) → kind < 4 → (kind ≡ 3 → ⊥) → (kind ≡ 0 → ⊥) → kind_of (joined kind kids) ≡ kind
unfolding kind_of joined
kind-joined zero kids l three none = absurd (none refl)
kind-joined (suc zero) kids l three none = refl
kind-joined (suc (suc zero)) kids l three none = refl
kind-joined (suc (suc (suc zero))) kids l three none = absurd (three refl)
kind-joined (suc (suc (suc (suc kind)))) kids l three none = absurd (omega arith)

kind-inside : (d m kind count : ℕ) (s : Stream) (node : Node NumberedAtom) (s₁ : Stream) → kind < 4 → (kind ≡ 3 → ⊥) → (kind ≡ 0 → ⊥)
    → within d m kind count s ≡ read node s₁ → kind_of node ≡ kind
kind-inside zero m kind count s node s₁ l three none h = let never : ◌≡◌ {A = ℕ} 0 1 = cc in absurd (omega arith)
kind-inside (suc d) m kind count s node s₁ l three none h =
    let kids = both_read (read_parts (read_node d m kind) count s) (λ ks s₂. read (joined kind ks) s₂) node s₁ h in
    let e : joined kind kids.0 ≡ node = cc kids.3 in
    ap kind_of (sym e) ∙ kind-joined kind kids.0 l three none

kind-of-atom : (m allowed : ℕ) (bits : List Bool) (node : Node NumberedAtom) (s₁ : Stream) → read_atom m allowed bits ≡ read node s₁ → kind_of node ≡ 0
unfolding read_atom kind_of
kind-of-atom m allowed bits node s₁ h =
    let one = required _ 6 _ node s₁ h in
    let two = required _ 11 _ node s₁ one.1 in
    let e : leaf (record { number = value (take 6 bits); set = value (take 3 (drop 6 bits)) }) ≡ node = cc two.1 in
    ap kind_of (sym e)

kind-of-join : (d m parent kind allowed : ℕ) (bits : List Bool) (node : Node NumberedAtom) (s₁ : Stream) → kind < 4 → (kind ≡ 3 → ⊥) → (kind ≡ 0 → ⊥)
    → read_join (within d m) parent kind allowed bits ≡ read node s₁ → kind_of node ≡ kind
unfolding read_join
kind-of-join d m parent kind allowed bits node s₁ l three none h =
    let one = required _ 6 _ node s₁ h in
    let two = required _ 12 _ node s₁ one.1 in
    kind-inside d m kind _ _ node s₁ l three none two.1

kind-either : (atom? : Bool) (d m parent kind allowed : ℕ) (bits : List Bool) (node : Node NumberedAtom) (s₁ : Stream) → kind < 4 → (kind ≡ 3 → ⊥)
    → eqb kind 0 ≡ atom?
    → by_kind atom? (read_atom m allowed bits) (read_join (within d m) parent kind allowed bits) ≡ read node s₁ → kind_of node ≡ kind
unfolding by_kind
kind-either true d m parent kind allowed bits node s₁ l three e h = kind-of-atom m allowed bits node s₁ h ∙ sym (eqb-true kind 0 e)
kind-either false d m parent kind allowed bits node s₁ l three e h = kind-of-join d m parent kind allowed bits node s₁ l three (eqb-false kind 0 e) h

-- A node that was read begins with two bits, which give its kind.
pub kind-read : (d m parent : ℕ) (s : Stream) (node : Node NumberedAtom) (s₁ : Stream) → read_node d m parent s ≡ read node s₁
    → (2 ≤ length s.bits) × (kind_of node ≡ value (take 2 s.bits))
unfolding read_node_by
kind-read d m parent s node s₁ h =
    let kind = value (take 2 s.bits) in
    let one = required _ 14 _ node s₁ (sym (by-within d m parent s) ∙ h) in
    let two = required _ 6 _ node s₁ one.1 in
    let three = required _ 10 _ node s₁ two.1 in (
      leb-true 2 (length s.bits) two.0,
      kind-either (eqb kind 0) d m parent kind (s.allowed - 1) (drop 2 s.bits) node s₁ (value-take-lt 2 s.bits) (eqb-false kind 3 (not-true _ three.0))
          refl three.1,
    )

-- ---- the tree and the end

module _ (m : ℕ) {bytes : List ℕ} {place : Place} {count : ℕ} {token token₁ : List ℕ} {step : Result Place Refusal}
    (root : Reads bytes (read_node 6 m 0 (stream_at bytes place)) (NodeStored place count token token₁) step) where
  pub tree-refused : {refusal : Refusal} → step ≡ Err refusal → RootFound bytes place count m token token₁ (Err refusal)
  unfolding RootOf Does afterwards
  tree-refused e = record { found = λ n table. rw (rw e at root).does }

  module _ {after : Place} (e : step ≡ Ok after) where
    -- The root's two bits are in the input.
    pub root-inside : place.at + 2 ≤ 8 * length bytes
    unfolding Does
    root-inside =
        let d = (rw e at root).does in
        omega (arith, rw (length-left bytes place.at) at (kind-read 6 m 0 (stream_at bytes place) d.0 (stream_at bytes after) d.1).0)

    module _ {last : Result Place Refusal} (ending : (block : Block) → Reads bytes (read_end block (stream_at bytes after)) (Ends block after) last) where
      pub end_refused : {refusal : Refusal} → last ≡ Err refusal → RootFound bytes place count m token token₁ (Err refusal)
      unfolding RootOf Does afterwards
      end_refused f =
          let d = (rw e at root).does in
          record { found = λ n table. rw d.1 (rw f at (ending (record { variables = n; table = table; tree = d.0 }))).does }

      pub tree-read : {end : Place} {kind : ℕ} → last ≡ Ok end → kind ≡ field_at bytes place.at 2 → RootFound bytes place count m token token₁ (Ok kind)
      unfolding RootOf Does afterwards
      tree-read {end} f k =
          let d = (rw e at root).does in
          let block : ℕ → List Polynomial → Block = λ n table. record { variables = n; table = table; tree = d.0 } in
          let ended : (n : ℕ) (table : List Polynomial) → Does bytes (read_end (block n table) (stream_at bytes after)) (Ends (block n table) after) (Ok end) =
          λ n table. (rw f at (ending (block n table))).does in
          record {
            found = record {
              tree = d.0;
              rest = stream_at bytes end;
              reading = λ n table. after_read (λ tree s. read_end (record { variables = n; table = table; tree = tree }) s) d.1
                  ∙ (ended n table).1 ∙ ap (λ (b : Block). read b (stream_at bytes end)) (ended n table).3.same;
              root = k ∙ sym (kind-read 6 m 0 (stream_at bytes place) d.0 (stream_at bytes after) d.1).1;
              stored = d.3.stored;
              counted = sym (length-tokens (alone d.0)) ∙ omega (arith, d.3.counted, (ended 0 []).3.all_read);
            };
          }
