-- The whole block: the bytes that the writer's steps leave are those of the block that the arrays hold.
use mathlib.Core.Path.{◌≡◌, refl, sym, ap, ◌∙◌}
use mathlib.Core.Bool.{false}
use mathlib.Core.List.{List, ◌++◌, append_assoc}
use Prim.Native.Nat.{ℕ, zero, suc, ◌+◌, ◌-◌, ◌*◌, ◌/◌, ◌^◌, ◌≤◌, ◌<◌}
use native.Mathlib.Nat.{add-zero, zero-add}
use native.Mathlib.Omega.{arith}
use lib.IntN.{ℤ}
use lib.ListN.{length, get_or, replicate, length-append, length-replicate}
use lib.Seq.{sets}
use Rattle.rules.specs.Bits.{field, unpack, bytes_for, padded, pack}
use Rattle.rules.specs.Formula.{Node, leaf, all_of, any_of, before, alone, children}
use Rattle.rules.specs.Block.{NumberedAtom, Block, Edition, edition_of, write_table, write_parts, write_body, block_length, write_head, write_block}
use Rattle.rules.specs.Limits.{TableWithin, polynomials, BlockWithin}
use Rattle.block_laws.specs.Sizes.{block-below-32768}
use Rattle.bits.proofs.Fields.{length-field}
use Rattle.bits.proofs.Bytes.{length-unpack}
use Rattle.bits.proofs.Stores.{sets-front}
use Rattle.bits.proofs.Packing.{front_bytes, field-nought}
use Rattle.writer.specs.Written.{table_at, TermsInside, head_bits, Room, Wrote, PartsAhead, PartsWrote, Writable}
use Rattle.block.specs.declared.Held.{Held}
use Rattle.writer.specs.declared.Spot.{Spot}
use Rattle.writer.proofs.Writing.{Split, wrote-both, room-first, room-second, two_runs, length-head, length-terms_at}

-- ---- how long a block is

-- A body has few enough bits that every place in it is a small number.
body-short : (edition : Edition) (block : Block) → BlockWithin block → length (write_body edition block) < 300000
unfolding block_length bytes_for
body-short edition block w = omega (arith, block-below-32768 edition block w)

-- ---- the terms stand inside the arrays

counts-small : (n : ℕ) (cs : List ℤ) (ms counts : List ℕ) (i m : ℕ) → TableWithin n (table_at cs ms counts i m) → (j : ℕ) → j < m → get_or counts (i + j) 0 ≤ 16
unfolding table_at
counts-small n cs ms counts i zero w j h = absurd (omega arith)
counts-small n cs ms counts i (suc m) (polynomials a w) zero h = rw add-zero (rw (length-terms_at cs ms (16 * i) (get_or counts i 0)) at a.at-most)
counts-small n cs ms counts i (suc m) (polynomials a w) (suc j) h =
    let e : suc i + j ≡ i + suc j = omega arith in
    rw e at (counts-small n cs ms counts (suc i) m w j (omega arith))

pub one-child : (node : Node NumberedAtom) → children (alone node) ≡ 1
unfolding children alone before
one-child (leaf a) = refl
one-child (all_of kids) = refl
one-child (any_of kids) = refl

-- ---- the steps of a block that the arrays hold

module _ (number : ℕ) (held : Held) (size : ℕ) (block : Block) (w : Writable number held size block) where
  abbrev edition : Edition
  edition = edition_of number

  pub few-variables : held.variables ≤ 16
  few-variables = rw w.holds.variables w.within.variables

  pub few-polynomials : held.polynomials ≤ 64
  few-polynomials = rw w.holds.polynomials w.within.polynomials

  pub terms-inside : 1024 ≤ length held.coefficient → 1024 ≤ length held.monomial → TermsInside held.coefficient held.monomial held.terms
      held.polynomials
  terms-inside c m =
      let table : TableWithin block.variables (table_at held.coefficient held.monomial held.terms 0 held.polynomials) = rw w.holds.table
      w.within.table in
      let few : (i : ℕ) → i < held.polynomials → get_or held.terms i 0 ≤ 16 = λ i h. rw zero-add at (counts-small block.variables held.coefficient
      held.monomial held.terms 0 held.polynomials table i h) in
      record { in_coefficients = λ i h. omega (arith, few i h, few-polynomials); in_monomials = λ i h. omega (arith, few i h, few-polynomials) }

  -- The body: the table, as the code views it, and the tree.
  body-split : Split (write_body edition block) (write_table edition held.variables (table_at held.coefficient held.monomial held.terms 0 (held.polynomials - 0)))
      (write_parts (alone block.tree))
  unfolding write_body
  body-split = let e : held.polynomials - 0 ≡ held.polynomials = omega arith in record { whole_is = rw (e, w.holds.table, w.holds.variables) }

  length-block : 40 + length (write_body edition block) ≤ 8 * block_length edition block
  unfolding block_length bytes_for
  length-block = omega arith

  room-body : Room size 40 (write_body edition block)
  room-body = record { inside = omega (arith, length-block, w.room); short = omega (arith, body-short edition block w.within) }

  pub room-table : Room size 40 (write_table edition held.variables (table_at held.coefficient held.monomial held.terms 0 (held.polynomials - 0)))
  room-table = room-first body-split room-body

  module _ {before between : List ℕ} {middle : ℕ}
      (table : Wrote before between 40 (write_table edition held.variables (table_at held.coefficient held.monomial held.terms 0 (held.polynomials - 0))) middle)
    where
      pub tree-ahead : {size' : ℕ} → size' ≡ size → PartsAhead held.token held.root 0 1 size' middle
      tree-ahead e = record {
        parts = alone block.tree;
        held = w.holds.tree;
        counted = one-child
            block.tree;
        room = room-second body-split room-body table e;
      }

      module _ {after : List ℕ} {spot : Spot} (parts : PartsWrote between after middle (alone block.tree) 0 spot) where
        body-wrote : Wrote before after 40 (write_body edition block) spot.at
        body-wrote = wrote-both body-split table parts.wrote

        -- The length of the block, and what fills its last byte.
        pub length_is : (spot.at + 7) / 8 ≡ block_length edition block
        unfolding block_length bytes_for
        length_is = rw body-wrote.behind

        pub end-small : spot.at < 2 ^ 20
        end-small = omega (arith, body-wrote.behind, body-short edition block w.within)

        pub room-padding : {size' : ℕ} → size' ≡ size → Room size' spot.at (field ((spot.at + 7) / 8 * 8 - spot.at) 0)
        room-padding e =
            let l = length-field ((spot.at + 7) / 8 * 8 - spot.at) 0 in
            record { inside = rw l (omega (arith, length_is, w.room)); short = rw l (omega (arith, end-small)) }

        pub five-bytes : 5 ≤ size
        five-bytes = omega (arith, length_is, w.room, body-wrote.behind)

        -- The padding and then the head complete the block.
        module _ {filled final : List ℕ} {next next' : ℕ} (padding : Wrote after filled spot.at (field ((spot.at + 7) / 8 * 8 - spot.at) 0) next)
            (head : Wrote filled final 0 (head_bits number held.variables held.polynomials held.tokens ((spot.at + 7) / 8)) next') where
          head-is : head_bits number held.variables held.polynomials held.tokens ((spot.at + 7) / 8) ≡ write_head edition block
          unfolding head_bits write_head
          head-is = rw (← w.known, w.holds.variables, w.holds.polynomials, w.holds.tokens, length_is)

          length-all : length (write_head edition block ++ write_body edition block) ≡ spot.at
          length-all =
              length-append (write_head edition block) (write_body edition block)
              ∙ ap (λ (k : ℕ). k + length (write_body edition block))
              (sym (ap length head-is) ∙ length-head number held.variables held.polynomials held.tokens ((spot.at + 7) / 8))
              ∙ sym body-wrote.behind

          padded-is : padded (write_head edition block ++ write_body edition block) ≡ write_head edition block ++ (write_body edition block ++ field ((spot.at + 7) / 8 * 8 - spot.at) 0)
          unfolding padded bytes_for
          padded-is = rw (length-all, field-nought) (append_assoc (write_head edition block) (write_body edition block) (replicate ((spot.at + 7) / 8 * 8 - spot.at) false))

          bits_are : length before ≡ size → unpack final ≡ sets (unpack before) 0 (padded (write_head edition block ++ write_body edition block))
          bits_are e =
              let all = wrote-both two_runs body-wrote padding in
              let rest = write_body edition block ++ field ((spot.at + 7) / 8 * 8 - spot.at) 0 in
              let forty : length (write_head edition block) ≡ 40 = sym (ap length head-is) ∙ length-head number held.variables held.polynomials held.tokens ((spot.at + 7)
              / 8) in
              let fits : length (write_head edition block) + length rest ≤ length (unpack before) =
              rw (length-unpack, forty, length-append, length-field) (omega (arith, length_is, w.room, body-wrote.behind)) in
              head.stored ∙ rw (head-is, all.stored, padded-is, ← forty) (sets-front (unpack before) (write_head edition block) rest fits)

          bytes-are : bytes_for (length (write_head edition block ++ write_body edition block)) ≡ (spot.at + 7) / 8
          unfolding bytes_for
          bytes-are = rw length-all

          whole-bytes : length (padded (write_head edition block ++ write_body edition block)) ≡ 8 * ((spot.at + 7) / 8)
          unfolding padded bytes_for
          whole-bytes = rw (length-append (write_head edition block ++ write_body edition block), length-all, length-replicate) (omega arith)

          pub block_written : ((i : ℕ) → get_or before i 0 < 256) → ((i : ℕ) → get_or final i 0 < 256) → length final ≡ length before → length before ≡ size
              → final ≡ sets before 0 (write_block edition block)
          unfolding write_block pack
          block_written small small' same e =
              rw bytes-are
              (front_bytes before final (padded (write_head edition block ++ write_body edition block)) ((spot.at + 7) / 8) small small' same whole-bytes
              (omega (arith, length_is, w.room)) (bits_are e))
