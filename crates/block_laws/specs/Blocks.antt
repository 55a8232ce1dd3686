-- The theorems of the block format. What is within the limits, written, reads back; what is accepted is within the limits and is the one
-- block of what it holds; no block begins another.
use Rattle.std.specs.Prelude.{Bool, false, cond, List, ◌++◌, ◌≡◌, ℕ, ◌+◌, ◌-◌, ◌*◌, ◌≤◌, ◌<◌, ltb, length, take, drop, replicate}
use Rattle.std.proofs.Common.{append_assoc, sym, ap, ◌∙◌, add-zero, arith, length-append, length-drop, lt-ltb, le-ltb}
use Rattle.std.proofs.Math.Decide.{dec_lt}
use Rattle.std.proofs.lemmas.List.{take-append-le}
use Rattle.rules.specs.Formula.{Node, leaf, all_of, any_of, before, alone, nodes}
use Rattle.rules.specs.Bits.{unpack, bytes_for}
use Rattle.rules.specs.Block.{NumberedAtom, Block, Edition, edition_number, edition_of, Stream, refused, read, head_field, head_edition, read_block}
use Rattle.rules.specs.Block.{write_body, block_length, write_head, write_block}
use Rattle.rules.specs.Limits.{BlockWithin}
use Rattle.block_laws.specs.Bits.{AllBytes, length-unpack, bytes_for-filled, few-added, pack-bytes, unpack-pack, pack-unpacked}
use Rattle.block_laws.specs.Accepted.{stream}
use Rattle.block_laws.specs.Body.{body-reads-back, BodyAccepted, body-accepted}
use Rattle.block_laws.specs.Head.{HeadAllowed, head_read, head-accepted, head_bits, HeadReads, head-reads-back, head-field-below, begins, same_head}
use Rattle.block_laws.specs.Head.{edition-back, edition-fits, short-refused, length-refused}
use Rattle.block_laws.specs.Sizes.{length-block, block-below-32768}

-- ---- What is written reads back.

-- A block's head, and what follows it.
abbrev head_of : Edition → Block → List Bool → List Bool
head_of edition block rest =
    head_bits (edition_number edition) block.variables (length block.table) (nodes (alone block.tree)) (block_length edition block) rest

-- How many zero bits end a block.
abbrev padding : Edition → Block → ℕ
padding edition block =
    bytes_for (length (write_head edition block ++ write_body edition block)) * 8 - length (write_head edition block ++ write_body edition block)

written-bits : (edition : Edition) (block : Block)
    → unpack (write_block edition block) ≡ head_of edition block (write_body edition block ++ replicate (padding edition block) false)
unfolding write_block write_head
written-bits edition block = unpack-pack (write_head edition block ++ write_body edition block) ∙ simp append_assoc

-- What is written is bytes.
pub written-bytes : (edition : Edition) (block : Block) → AllBytes (write_block edition block)
unfolding write_block
written-bytes edition block = pack-bytes (write_head edition block ++ write_body edition block)

five-bytes : (edition : Edition) (block : Block) → 5 ≤ block_length edition block
unfolding block_length bytes_for
five-bytes edition block = omega arith

some-node : (tree : Node NumberedAtom) → 0 < nodes (alone tree)
unfolding nodes alone before
some-node (leaf a) = omega arith
some-node (all_of kids) = omega arith
some-node (any_of kids) = omega arith

edition-read : (edition : Edition) (block : Block) {n m count whole : ℕ} {rest : List Bool}
    → HeadReads (write_block edition block) (edition_number edition) n m count whole rest
    → head_edition (write_block edition block) ≡ edition
unfolding head_edition
edition-read edition block head = ap edition_of head.edition_is ∙ edition-back edition

head-allowed : (edition : Edition) (block : Block) (rest : List Bool) → BlockWithin block
    → HeadReads (write_block edition block) (edition_number edition) block.variables (length block.table) (nodes (alone block.tree))
    (block_length edition block) rest → HeadAllowed (write_block edition block)
head-allowed edition block rest within head = record {
  five = rw (length-block edition block) (five-bytes edition block);
  edition = head.edition_is ∙ ap edition_number (sym (edition-read edition block head));
  whole = head.length_is ∙ sym (length-block edition block);
  some_variables = rw head.variables_are within.some_variables;
  variables = rw head.variables_are within.variables;
  polynomials = rw head.polynomials_are within.polynomials;
  some_nodes = rw head.nodes_are (some-node block.tree);
}

head-written : (edition : Edition) (block : Block) → BlockWithin block
    → HeadReads (write_block edition block) (edition_number edition) block.variables (length block.table) (nodes (alone block.tree))
    (block_length edition block)
    (write_body edition block ++ replicate (padding edition block) false)
head-written edition block within =
    head-reads-back (write_block edition block) (edition_number edition) block.variables (length block.table) (nodes (alone block.tree))
    (block_length edition block) _ (written-bits edition block)
    (edition-fits edition) (omega (arith, within.variables)) (omega (arith, within.polynomials)) (omega (arith, within.nodes))
    (omega (arith, block-below-32768 edition block within))

-- What is written says its edition.
pub written-edition : (edition : Edition) (block : Block) → BlockWithin block → head_edition (write_block edition block) ≡ edition
written-edition edition block within = edition-read edition block (head-written edition block within)

-- Every block within the limits, written in either edition, is accepted and gives back that block.
pub reads-back : (edition : Edition) (block : Block) → BlockWithin block → (s : Stream) × (read_block (write_block edition block) ≡ read block s)
reads-back edition block within =
    let head = head-written edition block within in (
      stream 0 (replicate (padding edition block) false),
      head_read (write_block edition block) (head-allowed edition block _ within head)
          ∙ rw (edition-read edition block head, head.variables_are, head.polynomials_are, head.nodes_are, head.rest_is)
          (body-reads-back edition block (padding edition block) within (few-added _)),
    )

-- ---- What is accepted.

-- What an accepted block tells: it is within the limits, its bits are those that are written, it is as long as its counts ask, and behind
-- the tree no node and fewer than eight zero bits are left.
pub record BlockAccepted (bytes : List ℕ) (block : Block) (s : Stream) : Type 0 where
  pub within : BlockWithin block
  pub holds : unpack bytes ≡ write_head (head_edition bytes) block ++ write_body (head_edition bytes) block ++ s.bits
  pub long : length bytes ≡ block_length (head_edition bytes) block
  pub no_nodes_left : s.allowed ≡ 0
  pub few_bits_left : length s.bits < 8
  pub zero_bits_left : s.bits ≡ replicate (length s.bits) false

accepted-length : (bytes : List ℕ) {edition : Edition} {block : Block} {n m count : ℕ} {s : Stream} → 5 ≤ length bytes
    → BodyAccepted edition n m (stream count (drop 40 (unpack bytes))) block s
    → length bytes ≡ block_length edition block
unfolding block_length
accepted-length bytes {edition} {block} {s = s} five body =
    let all : length (drop 40 (unpack bytes)) ≡ 8 * length bytes - 40 = rw (length-drop, length-unpack) in
    let parts : length (drop 40 (unpack bytes)) ≡ length (write_body edition block) + length s.bits =
    ap length body.passed.over ∙ length-append (write_body edition block) s.bits in
    sym (bytes_for-filled (40 + length (write_body edition block)) (length s.bits) (length bytes) (omega arith) body.few_bits_left)

-- All that follows from an acceptance.
pub block-accepted : (bytes : List ℕ) {block : Block} {s : Stream} → read_block bytes ≡ read block s → BlockAccepted bytes block s
unfolding write_head
block-accepted bytes {block} {s} accepted =
    let both = head-accepted bytes accepted in
    let head = both.0 in
    let body = body-accepted _ _ _ _ both.1 in
    let long = accepted-length bytes head.five body in
    let counted : head_field bytes 16 8 ≡ nodes (alone block.tree) = body.passed.counted ∙ rw body.no_nodes_left (add-zero _) in
    let bits : unpack bytes ≡ head_of (head_edition bytes) block (write_body (head_edition bytes) block ++ s.bits) =
    begins bytes head.five ∙ rw (head.edition, ← body.variables, ← body.polynomials, counted, head.whole, long, body.passed.over) in
    record {
      within = record {
        some_variables = rw body.variables head.some_variables;
        variables = rw body.variables head.variables;
        polynomials = rw body.polynomials head.polynomials;
        nodes = omega (arith, counted, head-field-below bytes 16 8);
        table = rw body.variables body.table;
        tree = rw body.polynomials body.tree;
      };
      holds = bits ∙ simp append_assoc;
      long = long;
      no_nodes_left = body.no_nodes_left;
      few_bits_left = body.few_bits_left;
      zero_bits_left = body.zero_bits_left;
    }

-- An accepted block is within the limits.
pub accepted-within : (bytes : List ℕ) {block : Block} {s : Stream} → read_block bytes ≡ read block s → BlockWithin block
accepted-within bytes accepted = (block-accepted bytes accepted).within

-- 01, "The program": "no accepted block is as long" as 32,768 bytes.
pub accepted-below-32768 : (bytes : List ℕ) {block : Block} {s : Stream} → read_block bytes ≡ read block s → length bytes < 32768
accepted-below-32768 bytes {block} accepted =
    let told = block-accepted bytes accepted in rw told.long (block-below-32768 (head_edition bytes) block told.within)

-- An accepted block is the one that is written, in its edition, for what it holds.
pub one_block : (bytes : List ℕ) {block : Block} {s : Stream} → read_block bytes ≡ read block s → AllBytes bytes
    → write_block (head_edition bytes) block ≡ bytes
unfolding write_block
one_block bytes {block} {s} accepted are-bytes =
    let told = block-accepted bytes accepted in
    pack-unpacked bytes (write_head (head_edition bytes) block ++ write_body (head_edition bytes) block) (length s.bits) are-bytes
    (rw (← told.zero_bits_left) told.holds) told.few_bits_left

-- No two blocks of an edition hold the same variable count, table and tree.
pub no-two-blocks : (bytes other : List ℕ) {block : Block} {s t : Stream} → read_block bytes ≡ read block s → read_block other ≡ read block t
    → head_edition bytes ≡ head_edition other → AllBytes bytes → AllBytes other → bytes ≡ other
no-two-blocks bytes other {block} accepted accepted-other same are-bytes are-bytes-other =
    sym (one_block bytes accepted are-bytes) ∙ ap (λ (edition : Edition). write_block edition block) same
    ∙ one_block other accepted-other are-bytes-other

-- ---- No block begins another.

-- With the first five bytes of an accepted block, bytes of another length are refused by 4.
pub one-length : (bytes other : List ℕ) {block : Block} {s : Stream} → read_block bytes ≡ read block s → 5 ≤ length other → take 5 other ≡ take 5 bytes
    → (length other ≡ length bytes → ⊥) → read_block other ≡ refused 4
unfolding head_edition
one-length bytes other accepted five same differs =
    let head = (head-accepted bytes accepted).0 in
    let first = same_head bytes other 0 4 head.five five same (omega arith) in
    let edition : head_field other 0 4 ≡ edition_number (head_edition other) = first ∙ head.edition ∙ ap edition_number (sym (ap edition_of first)) in
    let whole = same_head bytes other 24 16 head.five five same (omega arith) ∙ head.whole in
    length-refused other five edition (λ e. differs (sym e ∙ whole))

-- An accepted block with more behind it is refused by 4.
pub no-extension : (bytes more : List ℕ) {block : Block} {s : Stream} → read_block bytes ≡ read block s → 0 < length more → read_block (bytes ++ more) ≡ refused 4
no-extension bytes more accepted some =
    let five = (head-accepted bytes accepted).0.five in
    let longer = length-append bytes more in
    one-length bytes (bytes ++ more) accepted (omega arith) (take-append-le 5 bytes more five) (λ e. omega arith)

-- A proper prefix of an accepted block that still has the head is refused by 4.
pub cut-behind-head : (front more : List ℕ) {block : Block} {s : Stream} → read_block (front ++ more) ≡ read block s → 0 < length more → 5 ≤ length front
    → read_block front ≡ refused 4
cut-behind-head front more accepted some five =
    let longer = length-append front more in
    one-length (front ++ more) front accepted five (sym (take-append-le 5 front more five)) (λ e. omega arith)

-- A proper prefix of an accepted block is refused: by 2 if it is shorter than the head, else by 4.
pub no-proper-prefix : (front more : List ℕ) {block : Block} {s : Stream} → read_block (front ++ more) ≡ read block s → 0 < length more
    → read_block front ≡ refused (cond (ltb (length front) 5) 2 4)
no-proper-prefix front more accepted some = by_length (dec_lt (length front) 5)
  where
    by_length : Dec (length front < 5) → read_block front ≡ refused (cond (ltb (length front) 5) 2 4)
    by_length (yes short) = rw (lt-ltb (length front) 5 short) (short-refused front short)
    by_length (no long) = let five : 5 ≤ length front = omega arith in rw (le-ltb (length front) 5 five) (cut-behind-head front more accepted some five)
