-- 01, "The block" and "Refusal numbers", 02, #109: what a block holds, its reader, which tries the refusals in that order, and its writer.
-- The two editions differ in a term's exponents and in the head's first field, in nothing else.
use Rattle.std.specs.Prelude.{Bool, true, false, not, ◌&&◌, ◌||◌, List, [], ◌∷◌, ◌++◌, ℕ, zero, suc, ◌+◌, ◌-◌, ◌*◌, ◌^◌, eqb, leb, ltb, ℤ, pos, negsuc, neg_ℤ, nat_abs, length, take, drop}
use Rattle.rules.specs.Signs.{SignSet}
use Rattle.rules.specs.Polynomial.{Term, Polynomial}
use Rattle.rules.specs.Formula.{Parts, end, atom, and, or, Node, leaf, all_of, any_of, before, alone, children, nodes}
use Rattle.rules.specs.Bits.{field, value, unpack, bytes_for, pack}
use Rattle.rules.specs.Pairs.{pairs_of, write_pairs, read_pairs, rising, above_zero, monomial_of}

-- The edition, the first field of the head: 1, or 2 since request #109.
pub data Edition : Type 0 where
  edition1 edition2 : Edition

unfoldable pub edition_number : Edition → ℕ
edition_number edition1 = 1
edition_number edition2 = 2

-- The edition of a number that is one. ("3 now means neither 1 nor 2": no other number comes here.)
unfoldable pub edition_of : ℕ → Edition
edition_of zero = edition1
edition_of (suc zero) = edition1
edition_of (suc (suc k)) = edition2

-- An atom of a block names its polynomial by its number in the table.
pub record NumberedAtom : Type 0 where
  pub number : ℕ
  pub set : SignSet

-- What a block holds: the variable count, the table of polynomials, the tree.
pub record Block : Type 0 where
  pub variables : ℕ
  pub table : List Polynomial
  pub tree : Node NumberedAtom

-- ---- Reading. The bits that are left, and how many nodes the head still allows.
pub record Stream : Type 0 where
  pub allowed : ℕ
  pub bits : List Bool

-- A refusal's number, or what was read and the stream behind it.
pub data Reading (A : Type 0) : Type 0 where
  refused : ℕ → Reading A
  read : A → Stream → Reading A

-- "refused by a number": the number that is given unless the test passes.
unfoldable pub require : {A : Type 0} → Bool → ℕ → Reading A → Reading A
require true number reading = reading
require false number reading = refused number

unfoldable pub afterwards : {A B : Type 0} → Reading A → (A → Stream → Reading B) → Reading B
afterwards (refused number) more = refused number
afterwards (read a stream) more = more a stream

-- "a minus bit, a 31-bit magnitude"
unfoldable pub signed : ℕ → ℕ → ℤ
signed zero magnitude = pos magnitude
signed (suc minus) magnitude = neg_ℤ (pos magnitude)

-- How many bits a term has behind its magnitude before its fields tell more. In edition 1 that is all: "n exponents of 4 bits". In edition 2 it is
-- "a 5-bit count of variables with exponent above 0".
unfoldable pub first_bits : Edition → ℕ → ℕ
first_bits edition1 n = 4 * n
first_bits edition2 n = 5

-- The exponents as one number. In edition 1 "n exponents of 4 bits". In edition 2 pairs: "21 pair count above n, 22 variable numbers not rising or
-- not below n, 23 exponent 0"; "21, 6 for the pairs, 22, 23".
unfoldable pub read_exponents : Edition → ℕ → Stream → Reading ℕ
read_exponents edition1 n s = read (value (take (4 * n) s.bits)) (record { allowed = s.allowed; bits = drop (4 * n) s.bits })
read_exponents edition2 n s =
    let count = value (take 5 s.bits) in
    let pairs = read_pairs count (drop 5 s.bits) in
    require (leb count n) 21
    (require (leb (8 * count) (length (drop 5 s.bits))) 6
    (require (rising n 0 pairs) 22
    (require (above_zero pairs) 23
    (read (monomial_of n pairs) (record { allowed = s.allowed; bits = drop (8 * count) (drop 5 s.bits) })))))

-- "each term a minus bit, a 31-bit magnitude (1 to 2,147,483,647)" and the exponents. "Exponent lists fall strictly from term to term": as one number
-- they are below those of the term before. "In a term: 6 for the term as a whole, then 8, 9"; in edition 2 "6 as far as the pair count, 8, 21, 6 for
-- the pairs, 22, 23, 9".
unfoldable pub read_term : Edition → ℕ → ℕ → Stream → Reading Term
read_term edition n above s =
    let minus = value (take 1 s.bits) in
    let magnitude = value (take 31 (drop 1 s.bits)) in
    require (leb (32 + first_bits edition n) (length s.bits)) 6
    (require (ltb 0 magnitude) 8
    (afterwards (read_exponents edition n (record { allowed = s.allowed; bits = drop 31 (drop 1 s.bits) })) (λ exponents s₁.
    require (ltb exponents above) 9
    (read (record { coefficient = signed minus magnitude; monomial = exponents }) s₁))))

unfoldable pub read_terms : Edition → ℕ → ℕ → ℕ → Stream → Reading Polynomial
read_terms edition zero n above s = read [] s
read_terms edition (suc count) n above s =
    afterwards (read_term edition n above s) (λ t s₁. afterwards (read_terms edition count n t.monomial s₁) (λ ts s₂. read (t ∷ ts) s₂))

-- "term count (5 bits, 1 to 16)". 6, then 7. The first term's exponents have none above them: they stand below 16 to the power n.
unfoldable pub read_polynomial : Edition → ℕ → Stream → Reading Polynomial
read_polynomial edition n s =
    let count = value (take 5 s.bits) in
    require (leb 5 (length s.bits)) 6
    (require (ltb 0 count && leb count 16) 7
    (read_terms edition count n (2 ^ (4 * n)) (record { allowed = s.allowed; bits = drop 5 s.bits })))

-- "Then m polynomials"
unfoldable pub read_table : Edition → ℕ → ℕ → Stream → Reading (List Polynomial)
read_table edition zero n s = read [] s
read_table edition (suc m) n s =
    afterwards (read_polynomial edition n s) (λ p s₁. afterwards (read_table edition m n s₁) (λ ps s₂. read (p ∷ ps) s₂))

-- "0 is an atom: polynomial number (6 bits), sign set (3 bits)." 6, then 11.
unfoldable pub read_atom : ℕ → ℕ → List Bool → Reading (Node NumberedAtom)
read_atom m allowed bits =
    let number = value (take 6 bits) in
    let set = value (take 3 (drop 6 bits)) in
    require (leb 9 (length bits)) 6
    (require (ltb number m) 11
    (read (leaf (record { number = number; set = set })) (record { allowed = allowed; bits = drop 3 (drop 6 bits) })))

-- "1 is AND and 2 is OR: child count (8 bits), then the children." 6, then 12, then what inside gives: 13 or the children.
unfoldable pub read_join : (ℕ → ℕ → Stream → Reading (Node NumberedAtom)) → ℕ → ℕ → ℕ → List Bool → Reading (Node NumberedAtom)
read_join inside parent kind allowed bits =
    require (leb 8 (length bits)) 6
    (require (not (eqb kind parent)) 12
    (inside kind (value (take 8 bits)) (record { allowed = allowed; bits = drop 8 bits })))

unfoldable pub by_kind : {A : Type 0} → Bool → A → A → A
by_kind true of_atom of_join = of_atom
by_kind false of_atom of_join = of_join

-- "Before a node: 14 if the head's number is already read; then 6 for the kind, 10, 6 for the rest that this kind has, and 11 for an atom, 12, 13 for
-- AND or OR." The parent's kind is 0 at the root.
unfoldable pub read_node_by : (ℕ → ℕ → Stream → Reading (Node NumberedAtom)) → ℕ → ℕ → Stream → Reading (Node NumberedAtom)
read_node_by inside m parent s =
    let kind = value (take 2 s.bits) in
    require (ltb 0 s.allowed) 14
    (require (leb 2 (length s.bits)) 6
    (require (not (eqb kind 3)) 10
    (by_kind (eqb kind 0) (read_atom m (s.allowed - 1) (drop 2 s.bits)) (read_join inside parent kind (s.allowed - 1) (drop 2 s.bits)))))

-- So many nodes, one after the other.
unfoldable pub read_parts : (Stream → Reading (Node NumberedAtom)) → ℕ → Stream → Reading (Parts NumberedAtom)
read_parts read_one zero s = read end s
read_parts read_one (suc count) s =
    afterwards (read_one s) (λ node s₁. afterwards (read_parts read_one count s₁) (λ rest s₂. read (before node rest) s₂))

unfoldable pub joined : ℕ → Parts NumberedAtom → Node NumberedAtom
joined zero kids = any_of kids
joined (suc zero) kids = all_of kids
joined (suc (suc k)) kids = any_of kids

-- A node below which d nestings are still allowed, itself counted: "AND/OR nesting is at most 6, the root counting 1."
unfoldable pub read_node : ℕ → ℕ → ℕ → Stream → Reading (Node NumberedAtom)
read_node zero m = read_node_by (λ kind count s. refused 13) m
read_node (suc d) m = read_node_by (λ kind count s. afterwards (read_parts (read_node d m kind) count s) (λ kids s₁. read (joined kind kids) s₁)) m

unfoldable pub all_zero : List Bool → Bool
all_zero [] = true
all_zero (b ∷ bs) = not b && all_zero bs

-- "At the end 14, then 15."
unfoldable pub read_end : Block → Stream → Reading Block
read_end block s =
    require (eqb s.allowed 0) 14
    (require (ltb (length s.bits) 8 && all_zero s.bits) 15
    (read block s))

unfoldable pub read_body : Edition → ℕ → ℕ → Stream → Reading Block
read_body edition n m s =
    afterwards (read_table edition m n s) (λ table s₁.
    afterwards (read_node 6 m 0 s₁) (λ tree s₂.
    read_end (record { variables = n; table = table; tree = tree }) s₂))

-- A field of the head: k bits from the bit `from` on.
unfoldable pub head_field : List ℕ → ℕ → ℕ → ℕ
head_field bytes from k = value (take k (drop from (unpack bytes)))

-- The edition of a block, by its head.
unfoldable pub head_edition : List ℕ → Edition
head_edition bytes = edition_of (head_field bytes 0 4)

-- The whole block: 2, 3, 4, 5 "are tried in that order; 5 in field order. The rest is met in reading order." "3 now means neither 1 nor 2".
unfoldable pub read_block : List ℕ → Reading Block
read_block bytes =
    let n = head_field bytes 4 5 in
    let m = head_field bytes 9 7 in
    let count = head_field bytes 16 8 in
    require (leb 5 (length bytes)) 2
    (require (eqb (head_field bytes 0 4) 1 || eqb (head_field bytes 0 4) 2) 3
    (require (eqb (head_field bytes 24 16) (length bytes)) 4
    (require (ltb 0 n && leb n 16 && leb m 64 && ltb 0 count) 5
    (read_body (head_edition bytes) n m (record { allowed = count; bits = drop 40 (unpack bytes) })))))

-- ---- Writing, field by field.
unfoldable pub minus_bit : ℤ → ℕ
minus_bit (pos a) = 0
minus_bit (negsuc a) = 1

unfoldable pub write_exponents : Edition → ℕ → ℕ → List Bool
write_exponents edition1 n m = field (4 * n) m
write_exponents edition2 n m = field 5 (length (pairs_of n m)) ++ write_pairs (pairs_of n m)

unfoldable pub write_term : Edition → ℕ → Term → List Bool
write_term edition n t =
    field 1 (minus_bit t.coefficient) ++ (field 31 (nat_abs t.coefficient) ++ write_exponents edition n t.monomial)

unfoldable pub write_terms : Edition → ℕ → Polynomial → List Bool
write_terms edition n [] = []
write_terms edition n (t ∷ ts) = write_term edition n t ++ write_terms edition n ts

unfoldable pub write_polynomial : Edition → ℕ → Polynomial → List Bool
write_polynomial edition n p = field 5 (length p) ++ write_terms edition n p

unfoldable pub write_table : Edition → ℕ → List Polynomial → List Bool
write_table edition n [] = []
write_table edition n (p ∷ ps) = write_polynomial edition n p ++ write_table edition n ps

-- "Then the tree, parent before children: kind (2 bits)."
unfoldable pub write_parts : Parts NumberedAtom → List Bool
write_parts end = []
write_parts (atom a rest) = field 2 0 ++ (field 6 a.number ++ (field 3 a.set ++ write_parts rest))
write_parts (and kids rest) = field 2 1 ++ (field 8 (children kids) ++ (write_parts kids ++ write_parts rest))
write_parts (or kids rest) = field 2 2 ++ (field 8 (children kids) ++ (write_parts kids ++ write_parts rest))

unfoldable pub write_body : Edition → Block → List Bool
write_body edition block = write_table edition block.variables block.table ++ write_parts (alone block.tree)

unfoldable pub block_length : Edition → Block → ℕ
block_length edition block = bytes_for (40 + length (write_body edition block))

-- edition, variables n, polynomials m, tree nodes, block length in bytes
unfoldable pub write_head : Edition → Block → List Bool
write_head edition block =
    field 4 (edition_number edition) ++ (field 5 block.variables ++ (field 7 (length block.table) ++
    (field 8 (nodes (alone block.tree)) ++ field 16 (block_length edition block))))

unfoldable pub write_block : Edition → Block → List ℕ
write_block edition block = pack (write_head edition block ++ write_body edition block)

-- To unfold this is to unfold every definition of this file.
unfoldable pub open_block : Unit {0}
unfolding edition_number edition_of require afterwards signed first_bits read_exponents read_term read_terms read_polynomial read_table read_atom read_join by_kind read_node_by read_parts joined read_node all_zero read_end read_body head_field head_edition read_block minus_bit write_exponents write_term write_terms write_polynomial write_table write_parts write_body block_length write_head write_block
open_block = tt
