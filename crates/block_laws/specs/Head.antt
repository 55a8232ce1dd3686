-- The head of a block: when it is allowed, its fields in the bits of a block, and that they stand in the first five bytes;
-- the two refusals by length, and the one by edition.
use Rattle.std.specs.Prelude.{Bool, true, ◌||◌, List, ◌++◌, ◌≡◌, refl, ℕ, zero, suc, ◌+◌, ◌*◌, ◌^◌, ◌≤◌, ◌<◌, eqb, length, take, drop}
use Rattle.std.proofs.lemmas.Bool.{false≢true}
use Rattle.std.proofs.Math.Bool.{and-eq-true_iff}
use Rattle.std.proofs.Common.{sym, ap, ◌∙◌, subst, arith, length-drop, take-append-drop, drop-drop, length-take-le}
use Rattle.std.proofs.lemmas.List.{take-append-le, drop-append-le}
use borrow.Author.Tests.{lt-ltb, le-leb, lt-leb, eq-eqb, ne_eqb, ltb-true, leb-true, eqb-true}
use Rattle.rules.specs.Bits.{field, value, unpack}
use Rattle.rules.specs.Block.{Block, Edition, edition1, edition2, edition_number, edition_of, Stream, Reading, refused, read, require, read_body}
use Rattle.rules.specs.Block.{head_field, head_edition, read_block}
use Rattle.block_laws.specs.Bits.{drop-field, written-field, read-field, read_below, length-unpack, unpack-append}
use Rattle.block_laws.specs.Accepted.{require-read, stream}

-- ---- The edition.

-- An edition's number is 1 or 2,
pub edition-known : (edition : Edition) → eqb (edition_number edition) 1 || eqb (edition_number edition) 2 ≡ true
unfolding edition_number
edition-known edition1 = refl
edition-known edition2 = refl

-- it tells the edition,
pub edition-back : (edition : Edition) → edition_of (edition_number edition) ≡ edition
unfolding edition_number edition_of
edition-back edition1 = refl
edition-back edition2 = refl

-- and no other number is one.
pub known-edition : (number : ℕ) → eqb number 1 || eqb number 2 ≡ true → number ≡ edition_number (edition_of number)
unfolding edition_number edition_of
known-edition zero known = absurd (false≢true known)
known-edition (suc zero) known = refl
known-edition (suc (suc zero)) known = refl
known-edition (suc (suc (suc k))) known =
    absurd (false≢true (rw (ne_eqb (suc (suc (suc k))) 1 (λ e. omega arith), ne_eqb (suc (suc (suc k))) 2 (λ e. omega arith)) at known))

-- It fits its four bits.
pub edition-fits : (edition : Edition) → edition_number edition < 2 ^ 4
unfolding edition_number
edition-fits edition1 = omega arith
edition-fits edition2 = omega arith

-- ---- When a head is allowed.

-- The fields of a head that is not refused.
pub record HeadAllowed (bytes : List ℕ) : Type 0 where
  pub five : 5 ≤ length bytes
  pub edition : head_field bytes 0 4 ≡ edition_number (head_edition bytes)
  pub whole : head_field bytes 24 16 ≡ length bytes
  pub some_variables : 0 < head_field bytes 4 5
  pub variables : head_field bytes 4 5 ≤ 16
  pub polynomials : head_field bytes 9 7 ≤ 64
  pub some_nodes : 0 < head_field bytes 16 8

-- The reading of what follows the head, as the head asks.
abbrev pub after_head : List ℕ → Reading Block
after_head bytes = read_body (head_edition bytes) (head_field bytes 4 5) (head_field bytes 9 7) (stream (head_field bytes 16 8) (drop 40 (unpack bytes)))

edition-allowed : (bytes : List ℕ) → head_field bytes 0 4 ≡ edition_number (head_edition bytes)
    → eqb (head_field bytes 0 4) 1 || eqb (head_field bytes 0 4) 2 ≡ true
edition-allowed bytes is = subst (λ (k : ℕ). eqb k 1 || eqb k 2 ≡ true) (sym is) (edition-known (head_edition bytes))

-- With such a head, the block is read as what follows.
pub head_read : (bytes : List ℕ) → HeadAllowed bytes → read_block bytes ≡ after_head bytes
unfolding read_block require
head_read bytes head =
    rw (
      le-leb _ _ head.five,
      edition-allowed bytes head.edition,
      eq-eqb _ _ head.whole,
      lt-ltb _ _ head.some_variables,
      le-leb _ _ head.variables,
      le-leb _ _ head.polynomials,
      lt-ltb _ _ head.some_nodes,
    )

-- An accepted block has such a head, and what follows was accepted.
pub head-accepted : (bytes : List ℕ) {block : Block} {s : Stream} → read_block bytes ≡ read block s → HeadAllowed bytes × (after_head bytes ≡ read block s)
unfolding read_block
head-accepted bytes accepted =
    let five = require-read 2 accepted in
    let edition = require-read 3 five.1 in
    let whole = require-read 4 edition.1 in
    let counts = require-read 5 whole.1 in
    let nodes = (and-eq-true_iff _ _).0 counts.0 in
    let polynomials = (and-eq-true_iff _ _).0 nodes.0 in
    let variables = (and-eq-true_iff _ _).0 polynomials.0 in (
      record {
        five = leb-true _ _ five.0;
        edition = unfold head_edition in known-edition (head_field bytes 0 4) edition.0;
        whole = eqb-true _ _ whole.0;
        some_variables = ltb-true _ _ variables.0;
        variables = leb-true _ _ variables.1;
        polynomials = leb-true _ _ polynomials.1;
        some_nodes = ltb-true _ _ nodes.1;
      },
      counts.1,
    )

-- ---- The fields one after the other.

-- Behind a field that stands in the bits, the rest stands.
next_field : (from k v : ℕ) (bs rest : List Bool) → drop from bs ≡ field k v ++ rest → drop (from + k) bs ≡ rest
next_field from k v bs rest stands = sym (drop-drop k from bs) ∙ ap (drop k) stands ∙ drop-field k v rest

-- What stands where a field was read.
field-stands : (from k : ℕ) (bs : List Bool) → from + k ≤ length bs → field k (value (take k (drop from bs))) ++ drop (from + k) bs ≡ drop from bs
field-stands from k bs long =
    let room : k ≤ length (drop from bs) = rw length-drop (omega arith) in
    rw (← drop-drop k from bs) (read-field k (drop from bs) room)

-- The bits of a head, and what follows it.
abbrev pub head_bits : ℕ → ℕ → ℕ → ℕ → ℕ → List Bool → List Bool
head_bits edition n m count whole rest = field 4 edition ++ (field 5 n ++ (field 7 m ++ (field 8 count ++ (field 16 whole ++ rest))))

-- What the fields of a head read, and what follows it.
pub record HeadReads (bytes : List ℕ) (edition n m count whole : ℕ) (rest : List Bool) : Type 0 where
  pub edition_is : head_field bytes 0 4 ≡ edition
  pub variables_are : head_field bytes 4 5 ≡ n
  pub polynomials_are : head_field bytes 9 7 ≡ m
  pub nodes_are : head_field bytes 16 8 ≡ count
  pub length_is : head_field bytes 24 16 ≡ whole
  pub rest_is : drop 40 (unpack bytes) ≡ rest

-- A head whose fields are small enough for their bits reads back.
pub head-reads-back : (bytes : List ℕ) (edition n m count whole : ℕ) (rest : List Bool) → unpack bytes ≡ head_bits edition n m count whole rest
    → edition < 2 ^ 4 → n < 2 ^ 5 → m < 2 ^ 7 → count < 2 ^ 8 → whole < 2 ^ 16 → HeadReads bytes edition n m count whole rest
unfolding head_field
head-reads-back bytes edition n m count whole rest from-edition edition-fits n-fits m-fits count_fits whole-fits =
    let from-variables = next_field 0 4 edition (unpack bytes) _ from-edition in
    let from-polynomials = next_field 4 5 n (unpack bytes) _ from-variables in
    let from-nodes = next_field 9 7 m (unpack bytes) _ from-polynomials in
    let from-length = next_field 16 8 count (unpack bytes) _ from-nodes in
    record {
      edition_is = rw from-edition (written-field 4 edition _ edition-fits);
      variables_are = rw from-variables (written-field 5 n _ n-fits);
      polynomials_are = rw from-polynomials (written-field 7 m _ m-fits);
      nodes_are = rw from-nodes (written-field 8 count _ count_fits);
      length_is = rw from-length (written-field 16 whole rest whole-fits);
      rest_is = next_field 24 16 whole (unpack bytes) rest from-length;
    }

-- A field of the head is below its power of two.
pub head-field-below : (bytes : List ℕ) (from k : ℕ) → head_field bytes from k < 2 ^ k
unfolding head_field
head-field-below bytes from k = read_below k (drop from (unpack bytes))

-- Five bytes or more begin with the head that is read from them.
pub begins : (bytes : List ℕ) → 5 ≤ length bytes
    → unpack bytes ≡ head_bits (head_field bytes 0 4) (head_field bytes 4 5) (head_field bytes 9 7) (head_field bytes 16 8) (head_field bytes 24 16) (drop 40 (unpack bytes))
unfolding head_field
begins bytes five =
    let bits = unpack bytes in
    let long : 40 ≤ length (unpack bytes) = rw length-unpack (omega arith) in
    sym (rw (
      field-stands 24 16 bits (omega arith),
      field-stands 16 8 bits (omega arith),
      field-stands 9 7 bits (omega arith),
      field-stands 4 5 bits (omega arith),
      field-stands 0 4 bits (omega arith),
    ))

-- ---- The first five bytes.

-- A field that ends within the first bytes is read from them alone.
pub field-of-front : (front more : List ℕ) (from k : ℕ) → from + k ≤ 8 * length front → head_field (front ++ more) from k ≡ head_field front from k
unfolding head_field
field-of-front front more from k inside =
    let all : length (unpack front) ≡ 8 * length front = length-unpack front in
    let room : k ≤ length (drop from (unpack front)) = rw length-drop (omega arith) in
    rw (unpack-append front more, drop-append-le from (unpack front) (unpack more) (omega arith), take-append-le k (drop from (unpack front)) (unpack more) room)

field-of-five : (bytes : List ℕ) (from k : ℕ) → 5 ≤ length bytes → from + k ≤ 40 → head_field bytes from k ≡ head_field (take 5 bytes) from k
field-of-five bytes from k five inside =
    let all : length (take 5 bytes) ≡ 5 = length-take-le 5 bytes five in
    ap (λ (x : List ℕ). head_field x from k) (sym (take-append-drop 5 bytes)) ∙ field-of-front (take 5 bytes) (drop 5 bytes) from k (omega arith)

-- Blocks with the same first five bytes have the same head.
pub same_head : (bytes other : List ℕ) (from k : ℕ) → 5 ≤ length bytes → 5 ≤ length other → take 5 other ≡ take 5 bytes → from + k ≤ 40
    → head_field other from k ≡ head_field bytes from k
same_head bytes other from k five five-other same inside =
    field-of-five other from k five-other inside ∙ ap (λ (x : List ℕ). head_field x from k) same ∙ sym (field-of-five bytes from k five inside)

-- ---- Refused by the length or the edition.

-- Fewer than five bytes are refused by 2.
pub short-refused : (bytes : List ℕ) → length bytes < 5 → read_block bytes ≡ refused 2
unfolding read_block require
short-refused bytes short = rw (lt-leb 5 (length bytes) short)

-- 02, #109: "3 now means neither 1 nor 2".
pub edition-refused : (bytes : List ℕ) → 5 ≤ length bytes → (head_field bytes 0 4 ≡ 1 → ⊥) → (head_field bytes 0 4 ≡ 2 → ⊥)
    → read_block bytes ≡ refused 3
unfolding read_block require
edition-refused bytes five not-one not-two = rw (le-leb _ _ five, ne_eqb _ _ not-one, ne_eqb _ _ not-two)

-- A length field that is not the length is refused by 4.
pub length-refused : (bytes : List ℕ) → 5 ≤ length bytes → head_field bytes 0 4 ≡ edition_number (head_edition bytes)
    → (head_field bytes 24 16 ≡ length bytes → ⊥) → read_block bytes ≡ refused 4
unfolding read_block require
length-refused bytes five edition differs = rw (le-leb _ _ five, edition-allowed bytes edition, ne_eqb _ _ differs)
