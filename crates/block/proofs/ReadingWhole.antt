-- The whole block: the arrays that the code's steps fill are those of the block that the book reads.
use mathlib.Core.Path.{◌≡◌, refl, sym, ap, ◌∙◌}
use mathlib.Core.List.{List, map}
use Prim.Native.Nat.{ℕ, ◌-◌, ◌≤◌, ◌<◌}
use native.Mathlib.Omega.{arith}
use lib.IntN.{ℤ, pos}
use lib.ListN.{length, replicate}
use lib.Seq.{sets}
use Rattle.std.specs.Prelude.{None, Some, Result, Ok, Err}
use Rattle.block.specs.Refusals.{number_of}
use Rattle.block.specs.declared.Refusal.{Refusal}
use Rattle.rules.specs.Formula.{alone, nodes}
use Rattle.rules.specs.Block.{Block, edition_of, refused, afterwards, read_table, read_body, read_block}
use Rattle.block.specs.Held.{slots, tokens, kind_of, BlockRoom, RoomFor, held_by, held_over, held_of, HeldBy, HeldFound}
use Rattle.block.specs.Steps.{stream_at, Does, Reads, TableStored, read_tree, RootOf, RootFound, HeadHeld, ContentsOf, ContentsFound, AtMost, HasAtMost, FewOf, FewFound}
use Rattle.block.specs.declared.Place.{Place}
use Rattle.block.specs.declared.Head.{Head}
use Rattle.block.specs.declared.Contents.{Contents}
use Rattle.block.proofs.Steps.{after_read}
use Rattle.block.proofs.ReadingTable.{length-table}

-- A refusal says nothing of the arrays.
pub contents-refused : {bytes : List ℕ} {refusal : Refusal} (cs cs' : List ℤ) (ms ms' ts ts' token token' : List ℕ) → read_block bytes ≡ refused (number_of refusal)
    → ContentsFound bytes cs cs' ms ms' ts ts' token token' (Err refusal)
unfolding ContentsOf
contents-refused cs cs' ms ms' ts ts' token token' e = record { found = e }

-- Where there is room for every block there is room for one that the head gives.
pub room-for-all : {bytes : List ℕ} {numbers : Head} {cs : List ℤ} {ms ts token : List ℕ} → HeadHeld bytes numbers → BlockRoom cs ms ts token
    → RoomFor numbers.polynomials numbers.nodes cs ms ts token
room-for-all head room = record {
  coefficients = omega (arith, head.polynomials, room.coefficients);
  monomials = omega (arith, head.polynomials, room.monomials);
  counts = omega (arith, head.polynomials, room.counts);
  tokens = omega (arith, head.nodes, room.tokens);
}

-- And for a block of few polynomials.
pub room-for-few : {bytes : List ℕ} {numbers : Head} {cs : List ℤ} {ms ts token : List ℕ} → HeadHeld bytes numbers → numbers.polynomials ≤ 16
    → RoomFor 16 255 cs ms ts token → RoomFor numbers.polynomials numbers.nodes cs ms ts token
room-for-few head few room = record {
  coefficients = omega (arith, room.coefficients);
  monomials = omega (arith, room.monomials);
  counts = omega (arith, room.counts);
  tokens = omega (arith, head.nodes, room.tokens);
}

-- How many polynomials are held.
pub none-held : (most : ℕ) (refusal : Refusal) → HasAtMost most (Err refusal)
unfolding AtMost
none-held most refusal = record { has = tt }

pub held-are : (contents : Contents) → HasAtMost contents.polynomials (Ok contents)
unfolding AtMost
held-are contents = record { has = omega arith }

pub held-fewer : {m most : ℕ} {contents : Result Contents Refusal} → m ≤ most → HasAtMost m contents → HasAtMost most contents
unfolding AtMost
held-fewer {contents = Err refusal} fewer h = record { has = tt }
held-fewer {contents = Ok numbers} fewer h = record { has = omega (arith, h.has) }

-- What is found of a block of few polynomials.
module _ {bytes : List ℕ} {cs cs' : List ℤ} {ms ms' ts ts' token token' : List ℕ} where
  pub few-more : {numbers : Head} → HeadHeld bytes numbers → 16 < numbers.polynomials → FewFound bytes cs cs' ms ms' ts ts' token token' None
  unfolding FewOf
  few-more {numbers} held many = record { found = record { head = numbers; held = held; many = many } }

  pub few-read : {contents : Result Contents Refusal} → ContentsFound bytes cs cs' ms ms' ts ts' token token' contents → HasAtMost 16 contents
      → FewFound bytes cs cs' ms ms' ts ts' token token' (Some contents)
  unfolding FewOf
  few-read found few = record { found = (found, few) }

-- Arrays that a block is stored over, each by itself.
held_same : (block : Block) (cs : List ℤ) (ms ts token : List ℕ) {n m kind count : ℕ} {cs' : List ℤ} {ms' ts' token' : List ℕ} → n ≡ block.variables → m ≡ length block.table
    → kind ≡ kind_of block.tree → count ≡ nodes (alone block.tree) → cs' ≡ slots (λ t. t.coefficient) 0 block.table cs
    → ms' ≡ slots (λ t. t.monomial) 0 block.table ms → ts' ≡ sets ts 0 (map length block.table) → token' ≡ sets token 0 (tokens (alone block.tree))
    → held_by n m kind count cs' ms' ts' token' ≡ held_over cs ms ts token block
held_same block cs ms ts token e₁ e₂ e₃ e₄ e₅ e₆ e₇ e₈ = rw (e₁, e₂, e₃, e₄, e₅, e₆, e₇, e₈)

module _ {bytes : List ℕ} {numbers : Head} (head : HeadHeld bytes numbers) {cs cs' : List ℤ} {ms ms' ts ts' : List ℕ} {step : Result Place Refusal}
    (table : Reads bytes (read_table (edition_of numbers.edition) numbers.polynomials numbers.variables (stream_at bytes (record { at = 40; allowed = numbers.nodes })))
    (TableStored (record { at = 40; allowed = numbers.nodes }) 0 cs cs' ms ms' ts ts') step) where
  abbrev start : Place
  start = record { at = 40; allowed = numbers.nodes }

  abbrev n : ℕ
  n = numbers.variables

  abbrev m : ℕ
  m = numbers.polynomials

  by-table : read_block bytes ≡ afterwards (read_table (edition_of numbers.edition) m n (stream_at bytes start)) (λ ps s. read_tree n m ps s)
  unfolding read_body
  by-table = head.reading

  pub table-refuses : {refusal : Refusal} → step ≡ Err refusal → read_block bytes ≡ refused (number_of refusal)
  unfolding Does afterwards
  table-refuses e = rw (by-table, (rw e at table).does)

  module _ {after : Place} (e : step ≡ Ok after) where
    pub allowed-behind : after.allowed ≡ numbers.nodes
    unfolding Does
    allowed-behind = (rw e at table).does.3.allows

    module _ {token token' : List ℕ} {root : Result ℕ Refusal} (tree : RootFound bytes after numbers.nodes m token token' root) where
      pub tree-refuses : {refusal : Refusal} → root ≡ Err refusal → read_block bytes ≡ refused (number_of refusal)
      unfolding Does RootOf afterwards
      tree-refuses f =
          let d = (rw e at table).does in
          rw (by-table, d.1, (rw f at tree).found n d.0)

      pub all-stored : {kind : ℕ} → root ≡ Ok kind
          → ContentsFound bytes cs cs' ms ms' ts ts' token token' (Ok (record { variables = n; polynomials = m; root = kind; tokens = numbers.nodes }))
      unfolding Does RootOf ContentsOf
      all-stored f =
          let d = (rw e at table).does in
          let t = (rw f at tree).found in
          let many : length d.0 ≡ m = length-table (edition_of numbers.edition) m n (stream_at bytes start) d.0 (stream_at bytes after) d.1 in
          let from : numbers.nodes - after.allowed ≡ 0 = omega (arith, d.3.allows) in
          let block : Block = record { variables = n; table = d.0; tree = t.tree } in
          record {
            found =
                record {
                  block = block;
                  rest = t.rest;
                  reading = by-table ∙ after_read (λ ps s. read_tree n m ps s) d.1 ∙ t.reading n d.0;
                  stored = held_same block cs ms ts token refl (sym many) t.root (sym (t.counted ∙ d.3.allows)) d.3.coefficient d.3.monomial d.3.counted
                      (t.stored ∙ ap (λ (i : ℕ). sets token i (tokens (alone t.tree))) from);
                };
          }

-- ---- the outcome of reading into blank arrays

module _ {bytes : List ℕ} {cs : List ℤ} {ms ts token : List ℕ} {contents : Result Contents Refusal}
    (found : ContentsFound bytes (replicate 1024 (pos 0)) cs (replicate 1024 0) ms (replicate 64 0) ts (replicate 255 0) token contents) where
  pub outcome-refused : {refusal : Refusal} → contents ≡ Err refusal → HeldFound bytes (Err refusal)
  unfolding ContentsOf HeldBy
  outcome-refused e = record { found = rw (rw e at found).found refl }

  pub outcome-held : {numbers : Contents} → contents ≡ Ok numbers
      → HeldFound bytes (Ok (held_by numbers.variables numbers.polynomials numbers.root numbers.tokens cs ms ts token))
  unfolding ContentsOf HeldBy held_of
  outcome-held e =
      let stored = (rw e at found).found in
      record { found = rw stored.reading stored.stored }
