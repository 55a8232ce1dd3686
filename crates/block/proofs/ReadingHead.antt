-- The step that reads the head: each test of the code is the book's, on the same field.
use mathlib.Core.Path.{◌≡◌, refl, ◌∙◌}
use mathlib.Core.Bool.{true, ◌&&◌, ◌||◌}
use mathlib.Core.List.{List, [], ◌∷◌}
use Prim.Native.Nat.{ℕ, zero, suc, ◌≤◌, ◌<◌}
use native.Mathlib.Omega.{arith}
use lib.Dec.{eqb, leb, ltb}
use lib.ListN.{length, drop}
use borrow.Author.Tests.{lt-ltb, le-leb, lt-leb, eq-eqb, ne_eqb}
use Rattle.std.specs.Prelude.{Result, Ok, Err}
use Rattle.block.specs.Refusals.{number_of}
use Rattle.block.specs.declared.Refusal.{Refusal}
use Rattle.block.specs.declared.Refusal.TheVariants.{InputUnderFiveBytes, UnknownEdition, LengthDiffers, CountNotAllowed}
use Rattle.rules.specs.Bits.{value, unpack}
use Rattle.rules.specs.Block.{edition1, edition2, edition_number, edition_of, refused, require, read_body, head_field, head_edition, read_block}
use Rattle.bits.proofs.Fields.{value-take-lt}
use Rattle.block.specs.Steps.{stream_at, HeadHeld, HeadOf, HeadFound}
use Rattle.block.specs.declared.Head.{Head}
use Rattle.block.proofs.Steps.{field_at}

-- ---- the edition by itself

-- Below 2 it is edition 1, and from there on edition 2.
pub in-edition1 : (number : ℕ) → number < 2 → edition_of number ≡ edition1
unfolding edition_of
in-edition1 zero small = refl
in-edition1 (suc zero) small = refl
in-edition1 (suc (suc number)) small = absurd (omega arith)

pub in-edition2 : (number : ℕ) → 2 ≤ number → edition_of number ≡ edition2
unfolding edition_of
in-edition2 zero large = absurd (omega arith)
in-edition2 (suc zero) large = absurd (omega arith)
in-edition2 (suc (suc number)) large = refl

empty : (bytes : List ℕ) → length bytes ≡ 0 → bytes ≡ []
empty [] none = refl
empty (byte ∷ bytes) none = absurd (omega arith)

module _ (bytes : List ℕ) where
  pub no-first-byte : length bytes ≡ 0 → 1 ≡ edition_number (head_edition bytes)
  unfolding head_edition head_field unpack value edition_of edition_number
  no-first-byte none = rw (empty bytes none)

  pub first-edition : {number : ℕ} → number ≡ field_at bytes 0 4 → number < 2 → 1 ≡ edition_number (head_edition bytes)
  unfolding head_edition head_field edition_number
  first-edition {number} is small = rw (← is, in-edition1 number small)

  pub second-edition : {number : ℕ} → number ≡ field_at bytes 0 4 → 2 ≤ number → 2 ≡ edition_number (head_edition bytes)
  unfolding head_edition head_field edition_number
  second-edition {number} is large = rw (← is, in-edition2 number large)

-- ---- the head

-- A number that is neither 0 nor above 2.
edition-known : (edition : ℕ) → (edition ≡ 0 → ⊥) → edition ≤ 2 → (eqb edition 1 || eqb edition 2) ≡ true
edition-known zero some known = absurd (some refl)
edition-known (suc zero) some known = refl
edition-known (suc (suc zero)) some known = refl
edition-known (suc (suc (suc edition))) some known = absurd (omega arith)

module _ (bytes : List ℕ) where
  refuses-head : {refusal : Refusal} → read_block bytes ≡ refused (number_of refusal) → HeadFound bytes (Err refusal)
  unfolding HeadOf
  refuses-head e = record { found = e }

  pub block-short : length bytes < 5 → HeadFound bytes (Err InputUnderFiveBytes)
  unfolding read_block require
  block-short h = refuses-head (rw (lt-leb 5 (length bytes) h))

  module _ (long : 5 ≤ length bytes) {edition : ℕ} (e : edition ≡ field_at bytes 0 4) where
    pub no-edition : edition ≡ 0 → HeadFound bytes (Err UnknownEdition)
    unfolding read_block require head_field
    no-edition h = refuses-head (rw (le-leb 5 (length bytes) long, ← e, h))

    module _ (some-edition : edition ≡ 0 → ⊥) where
      pub other-edition : 2 < edition → HeadFound bytes (Err UnknownEdition)
      unfolding read_block require head_field
      other-edition h =
          let not-one : edition ≡ 1 → ⊥ = λ one. omega (arith, one) in
          let not-two : edition ≡ 2 → ⊥ = λ two. omega (arith, two) in
          refuses-head (rw (le-leb 5 (length bytes) long, ← e, ne_eqb edition 1 not-one, ne_eqb edition 2 not-two))

    module _ (some-edition : edition ≡ 0 → ⊥) (known : edition ≤ 2) {size : ℕ} (z : size ≡ field_at bytes 24 16) where
      one_of_two : (eqb edition 1 || eqb edition 2) ≡ true
      one_of_two = edition-known edition some-edition known

      pub other_length : (size ≡ length bytes → ⊥) → HeadFound bytes (Err LengthDiffers)
      unfolding read_block require head_field
      other_length h = refuses-head (rw (le-leb 5 (length bytes) long, ← e, one_of_two, ← z, ne_eqb size (length bytes) h))

      module _ (same : size ≡ length bytes) {n : ℕ} (v : n ≡ field_at bytes 4 5) where
        abbrev m : ℕ
        m = field_at bytes 9 7

        abbrev count : ℕ
        count = field_at bytes 16 8

        by-numbers : read_block bytes ≡ require (ltb 0 n && leb n 16 && leb m 64 && ltb 0 count) 5 (read_body (edition_of edition) n m
            (stream_at bytes (record { at = 40; allowed = count })))
        unfolding read_block require head_field head_edition
        by-numbers = rw (le-leb 5 (length bytes) long, ← e, one_of_two, ← z, eq-eqb size (length bytes) same, ← v)

        pub no-variables : n ≡ 0 → HeadFound bytes (Err CountNotAllowed)
        unfolding require
        no-variables h = refuses-head (by-numbers ∙ rw h)

        module _ (some : n ≡ 0 → ⊥) where
          first : ltb 0 n ≡ true
          first = lt-ltb 0 n (omega arith)

          pub many-variables : 16 < n → HeadFound bytes (Err CountNotAllowed)
          unfolding require
          many-variables h = refuses-head (by-numbers ∙ rw (first, lt-leb n 16 h))

          module _ (few : n ≤ 16) {polynomials : ℕ} (w : polynomials ≡ m) where
            pub many-polynomials : 64 < polynomials → HeadFound bytes (Err CountNotAllowed)
            unfolding require
            many-polynomials h = refuses-head (by-numbers ∙ rw (first, le-leb n 16 few, ← w, lt-leb polynomials 64 h))

            module _ (table : polynomials ≤ 64) {nodes : ℕ} (x : nodes ≡ count) where
              pub no-nodes : nodes ≡ 0 → HeadFound bytes (Err CountNotAllowed)
              unfolding require
              no-nodes h = refuses-head (by-numbers ∙ rw (first, le-leb n 16 few, ← w, le-leb polynomials 64 table, ← x, h))

              pub head_read : (nodes ≡ 0 → ⊥) → HeadFound bytes (Ok (record { edition = edition; variables = n; polynomials = polynomials; nodes = nodes }))
              unfolding HeadOf require
              head_read h =
                  let some_nodes : 0 < nodes = omega arith in
                  record {
                    found = record {
                      reading = by-numbers ∙ rw (first, le-leb n 16 few, ← w, le-leb polynomials 64 table, ← x, lt-ltb 0 nodes some_nodes);
                      inside = record { at_most = omega arith; short = rw (← same, z) (value-take-lt 16 (drop 24 (unpack bytes))) };
                      variables = few;
                      polynomials = table;
                      nodes = rw x (omega (arith, value-take-lt 8 (drop 16 (unpack bytes))));
                    };
                  }

-- What a head says, by its kind.
module _ {bytes : List ℕ} {head : Result Head Refusal} (h : HeadFound bytes head) where
  pub head-refused : {refusal : Refusal} → head ≡ Err refusal → read_block bytes ≡ refused (number_of refusal)
  unfolding HeadOf
  head-refused e = (rw e at h).found

  pub head-held : {numbers : Head} → head ≡ Ok numbers → HeadHeld bytes numbers
  unfolding HeadOf
  head-held e = (rw e at h).found
